-- The lines of a schedule have no line feed, and are no longer than a line may be.
use Rattle.std.proofs.Common.{◌≡◌, ℕ, zero, suc, ◌+◌, ◌*◌, ◌^◌, ◌<◌, ◌≤◌, Bool, true, false, List, [], ◌∷◌, ◌++◌, length, map, All, refl, arith, codes, decimal}
use Rattle.std.specs.Prelude.{nat_le, ◌==◌, ◌&&◌, ◌||◌}
use Rattle.std.specs.List.{list_all, flat_map, AllByRecursion}
use Rattle.std.proofs.lemmas.Bool.{eqb-true}
use Rattle.std.proofs.lemmas.Bool.Decides.{nat_tests}
use Rattle.std.proofs.lemmas.Fmt.{length-decimal-le}
use Rattle.std.proofs.lemmas.List.{length-append}
use Rattle.tcs_terms.specs.declared.ids.TxId.{TxId}
use Rattle.tcs_terms.specs.declared.inputs.Input.{Input}
use Rattle.tcs_terms.specs.declared.inputs.Input.TheVariants as inputs
use Rattle.tcs_terms.specs.declared.inputs.Event.{Event}
use Rattle.tcs_terms.specs.declared.inputs.Event.TheVariants as events
use Rattle.tcs_terms.specs.declared.payloads.ReadPart.{ReadPart}
use Rattle.tcs_terms.specs.declared.payloads.RangePart.{RangePart}
use Rattle.tcs_terms.specs.declared.payloads.WritePart.{WritePart}
use Rattle.tcs_terms.specs.declared.setups.Rule.{Rule}
use Rattle.tcs_terms.specs.declared.setups.Rule.TheVariants as rules
use Rattle.tcs_terms.specs.Events.{input_fits, event_fits}
use Rattle.tcs_terms.specs.Objects.{IsName, IsValue}
use Rattle.tcs_terms.specs.Payloads.{Accesses, IsReadPart, IsRangePart, IsWritePart, IsPayload}
use Rattle.text_words.specs.PayloadText.{value_text, read_text, range_text, write_text, payload_text}
use Rattle.text_words.specs.HexWords.{is_lower_digit}
use Rattle.tcs_terms.specs.Places.{Membership, IsMembership, is_node, is_among}
use Rattle.tcs_terms.specs.Setups.{Deployment, has_node}
use Rattle.tcs_terms.proofs.BoolLaws.{left_of, right_of}
use Rattle.text_words.proofs.HexLaws.{bytes_everywhere, encoded_is_lower}
use Rattle.hex.specs.Hex.{encode_lower, lower_digits}
use Rattle.hex.proofs.HexLemmas.{length-encode_with}
use Rattle.schedule_text.specs.declared.limits.TheConstants.{LINE_LIMIT}
use Rattle.schedule_text.specs.Lines.{has_feed, IsLine}
use Rattle.text_words.specs.Texts.{txn_text}
use Rattle.schedule_text.specs.Text.{spaced_number, numbers_text, version_line, certifier_line, shards_line, node_line, node_lines, config_line, first_lines, setup_lines, call_line, event_line, schedule_lines}
use Rattle.schedule_text.specs.Whole.{IsSchedule}
use Rattle.tcs_terms.specs.Runs.{MayStand}
use Rattle.schedule_text.proofs.EventSpellings.{Small, spellable, move_fits}
use Rattle.schedule_text.proofs.LineWords.{IsSpellable, IsSpellableEvent}
use Rattle.schedule_text.proofs.ScheduleReadings.{small_setup}
use Rattle.schedule_text.proofs.Spaces.{is_free, Free, weaker, free_decimal, free_name, free_append}

-- at most so many bytes, without a line feed
record Fits (most : ℕ) (text : List ℕ) : Type 0 where
  free : Free 10 text
  short : length text ≤ most

fits_more : (least most : ℕ) (text : List ℕ) → least ≤ most → Fits least text → Fits most text
fits_more least most text le f = let s = f.short in record { free = f.free; short = omega arith }

fits_join : (m n : ℕ) (v w : List ℕ) → Fits m v → Fits n w → Fits (m + n) (v ++ w)
fits_join m n v w p q =
    let s = p.short in
    let t = q.short in
    record { free = free_append 10 v w p.free q.free; short = omega (arith, length-append v w) }

-- a byte before a text
fits_after : (n b : ℕ) (w : List ℕ) → is_free 10 b ≡ true → Fits n w → Fits (n + 1) (b ∷ w)
fits_after n b w h q = let t = q.short in record { free = rw h q.free; short = omega arith }

fits_decimal : (n : ℕ) → n < 2 ^ 64 → Fits 20 (decimal n)
fits_decimal n small = record { free = free_decimal 10 n (omega arith) small; short = length-decimal-le 20 n (omega arith) (omega arith) small }

fits_spaced : (n : ℕ) → n < 2 ^ 64 → Fits 21 (spaced_number n)
fits_spaced n small = fits_after 20 32 (decimal n) refl (fits_decimal n small)

fits_name : (w : List ℕ) → IsName w → Fits 32 w
fits_name w h = record { free = free_name 10 w (omega arith) h; short = h.short }

lower_digit_is_free : (b : ℕ) → is_lower_digit b ≡ true → is_free 10 b ≡ true
lower_digit_is_free b h = grind (arith, nat_tests)

fits_value : (v : List ℕ) → IsValue v → Fits 128 (value_text v)
fits_value [] h = record { free = refl; short = omega arith }
fits_value (b ∷ bs) h =
    let twice = length-encode_with lower_digits (b ∷ bs) in
    let few = h.short in
    record {
      free = weaker is_lower_digit (is_free 10) lower_digit_is_free (encode_lower (b ∷ bs)) (encoded_is_lower (b ∷ bs) (bytes_everywhere (b ∷ bs) h.are_bytes));
      short = omega arith;
    }

-- ---- lists of parts

fits_each : {X : Type 0} (f : X → List ℕ) (most : ℕ) (xs : List X) → All (λ x. Fits most (f x)) xs → Fits (length xs * most) (flat_map f xs)
fits_each f most [] h = record { free = refl; short = omega arith }
fits_each f most (x ∷ xs) h =
    let first = h 0 x (omega arith) in
    let rest = fits_each f most xs (λ k d lt. h (suc k) d (omega arith)) in
    fits_more (most + length xs * most) (length (x ∷ xs) * most) (f x ++ flat_map f xs) (omega arith) (fits_join most (length xs * most) (f x) (flat_map f xs) first rest)

fits_numbers : (ns : List ℕ) (most : ℕ) → length ns ≤ most → All (λ n. n < 2 ^ 64) ns → Fits (most * 21) (numbers_text ns)
fits_numbers ns most few small =
    fits_more (length ns * 21) (most * 21) (numbers_text ns) (omega arith) (fits_each spaced_number 21 ns (λ k d lt. fits_spaced _ (small k d lt)))

-- ---- payloads

fits_read : (r : ReadPart) → IsReadPart r → Fits 56 (read_text r)
fits_read r h =
    fits_join 36 20 (codes " r " ++ r.name ++ codes " ") (decimal r.version)
    (fits_join 35 1 (codes " r " ++ r.name) (codes " ") (fits_join 3 32 (codes " r ") r.name (record { free = refl; short = omega arith }) (fits_name r.name h.name)) (record { free = refl; short = omega arith }))
    (fits_decimal r.version h.version)

fits_range : (q : RangePart) → IsRangePart q → Fits 89 (range_text q)
fits_range q h =
    fits_join 69 20 (codes " q " ++ q.from ++ codes " " ++ q.upto ++ codes " ") (decimal q.version)
    (fits_join 68 1 (codes " q " ++ q.from ++ codes " " ++ q.upto) (codes " ")
    (fits_join 36 32 (codes " q " ++ q.from ++ codes " ") q.upto
    (fits_join 35 1 (codes " q " ++ q.from) (codes " ") (fits_join 3 32 (codes " q ") q.from (record { free = refl; short = omega arith }) (fits_name q.from h.from)) (record { free = refl; short = omega arith }))
    (fits_name q.upto h.upto))
    (record { free = refl; short = omega arith }))
    (fits_decimal q.version h.version)

fits_write : (w : WritePart) → IsWritePart w → Fits 164 (write_text w)
fits_write w h =
    fits_join 36 128 (codes " w " ++ w.name ++ codes " ") (value_text w.value)
    (fits_join 35 1 (codes " w " ++ w.name) (codes " ") (fits_join 3 32 (codes " w ") w.name (record { free = refl; short = omega arith }) (fits_name w.name h.name)) (record { free = refl; short = omega arith }))
    (fits_value w.value h.value)

fits_parts : {X : Type 0} (f : X → List ℕ) (most many whole : ℕ) (P : X → Type 0) → ((x : X) → P x → Fits most (f x)) → many * most ≤ whole → (xs : List X) → length xs * most ≤ many * most → All P xs → Fits whole (flat_map f xs)
fits_parts f most many whole P step enough xs few h = fits_more (length xs * most) whole (flat_map f xs) (omega arith) (fits_each f most xs (λ k d lt. step _ (h k d lt)))

fits_payload : (p : Accesses) → IsPayload p → Fits 3809 (payload_text p)
unfolding payload_text
fits_payload p h =
    let few_reads = h.few_reads in
    let few_ranges = h.few_ranges in
    let few_writes = h.few_writes in
    let reads = fits_parts read_text 56 16 896 IsReadPart fits_read (omega arith) p.reads (omega arith) h.read_parts in
    let ranges = fits_parts range_text 89 3 267 IsRangePart fits_range (omega arith) p.ranges (omega arith) h.range_parts in
    let writes = fits_parts write_text 164 16 2624 IsWritePart fits_write (omega arith) p.writes (omega arith) h.write_parts in
    fits_join 1185 2624 (codes "v " ++ decimal p.version ++ flat_map read_text p.reads ++ flat_map range_text p.ranges) (flat_map write_text p.writes)
    (fits_join 918 267 (codes "v " ++ decimal p.version ++ flat_map read_text p.reads) (flat_map range_text p.ranges)
    (fits_join 22 896 (codes "v " ++ decimal p.version) (flat_map read_text p.reads)
    (fits_join 2 20 (codes "v ") (decimal p.version) (record { free = refl; short = omega arith }) (fits_decimal p.version h.version_fits)) reads) ranges) writes

-- ---- lines of events

-- a word, and what follows it
fits_word : (m n : ℕ) (word rest : List ℕ) → Free 10 word → length word ≤ m → Fits n rest → Fits (m + n) (word ++ rest)
fits_word m n word rest free short f = fits_join m n word rest (record { free = free; short = short }) f

fits_txn : (t : TxId) → (t.home < 2 ^ 64) × (t.seq < 2 ^ 64) → Fits 41 (txn_text t)
fits_txn t h = fits_join 20 21 (decimal t.home) (46 ∷ decimal t.seq) (fits_decimal t.home h.0) (fits_after 20 46 (decimal t.seq) refl (fits_decimal t.seq h.1))

fits_call : (d : Deployment) (node : ℕ) (i : Input) → node < 2 ^ 64 → IsSpellable i → input_fits d i ≡ true → Fits LINE_LIMIT (call_line node i)
unfolding call_line
fits_call d node (inputs.Certify p) small h fits =
    fits_more 3838 LINE_LIMIT _ (omega arith) (fits_word 7 3831 (codes "certify") _ refl (omega arith) (fits_join 21 3810 (spaced_number node) _ (fits_spaced node small) (fits_after 3809 32 (payload_text p) refl (fits_payload p h))))
fits_call d node (inputs.Take txn) small h fits =
    fits_more 67 LINE_LIMIT _ (omega arith) (fits_word 4 63 (codes "take") _ refl (omega arith) (fits_join 21 42 (spaced_number node) _ (fits_spaced node small) (fits_after 41 32 (txn_text txn) refl (fits_txn txn h))))
fits_call d node inputs.Nudge small h fits = fits_more 26 LINE_LIMIT _ (omega arith) (fits_word 5 21 (codes "nudge") _ refl (omega arith) (fits_spaced node small))
fits_call d node (inputs.Move shard want) small h fits =
    let m = move_fits d shard want fits in
    let few = m.few in
    let room : length want ≤ 6 = grind (arith, nat_tests) in
    fits_more 172 LINE_LIMIT _ (omega arith) (fits_word 4 168 (codes "move") _ refl (omega arith) (fits_join 21 147 (spaced_number node) _ (fits_spaced node small)
    (fits_join 21 126 (spaced_number shard) _ (fits_spaced shard h.0) (fits_numbers want 6 room h.1))))
fits_call d node inputs.Lower small h fits = fits_more 26 LINE_LIMIT _ (omega arith) (fits_word 5 21 (codes "lower") _ refl (omega arith) (fits_spaced node small))
fits_call d node (inputs.ReadName name) small h fits =
    fits_more 58 LINE_LIMIT _ (omega arith) (fits_word 4 54 (codes "read") _ refl (omega arith) (fits_join 21 33 (spaced_number node) _ (fits_spaced node small) (fits_after 32 32 name refl (fits_name name h))))
fits_call d node (inputs.Ask shard) small h fits =
    fits_more 45 LINE_LIMIT _ (omega arith) (fits_word 3 42 (codes "ask") _ refl (omega arith) (fits_join 21 21 (spaced_number node) _ (fits_spaced node small) (fits_spaced shard h)))
fits_call d node (inputs.Deliver from message) small h fits = record { free = refl; short = omega arith }

fits_event : (d : Deployment) (e : Event) → IsSpellableEvent e → event_fits d e ≡ true → Fits LINE_LIMIT (event_line e)
fits_event d (events.Call node i) h fits = fits_call d node i h.0 h.1 (right_of (has_node d.nodes node) (input_fits d i) fits)
fits_event d (events.DeliverNumber m) h fits = fits_more 28 LINE_LIMIT _ (omega arith) (fits_word 7 21 (codes "deliver") _ refl (omega arith) (fits_spaced m h))
fits_event d (events.Stop node) h fits = fits_more 25 LINE_LIMIT _ (omega arith) (fits_word 4 21 (codes "stop") _ refl (omega arith) (fits_spaced node h))

-- ---- lines of the header

small_members : (ns : List ℕ) → list_all is_node ns ≡ true → All (λ n. n < 2 ^ 64) ns
small_members [] h k d lt = absurd (omega arith)
small_members (n ∷ ns) h zero d lt = let first = left_of (is_node n) (list_all is_node ns) h in grind (arith, nat_tests)
small_members (n ∷ ns) h (suc k) d lt = small_members ns (right_of (is_node n) (list_all is_node ns) h) k d (omega arith)

small_among : (ns : List ℕ) (n : ℕ) → list_all is_node ns ≡ true → is_among ns n ≡ true → n < 2 ^ 64
small_among [] n each h = absurd cc
small_among (m ∷ ms) n each h = go (m == n) refl h (λ k. small_among ms n (right_of (is_node m) (list_all is_node ms) each) k) where
  go : (b : Bool) → (m == n) ≡ b → (b || is_among ms n) ≡ true → (is_among ms n ≡ true → n < 2 ^ 64) → n < 2 ^ 64
  go true e k others = let first = left_of (is_node m) (list_all is_node ms) each in let same = eqb-true m n e in grind (arith, nat_tests)
  go false e k others = others k

fits_certifier : (r : Rule) → Fits LINE_LIMIT (certifier_line r)
fits_certifier rules.Serial = record { free = refl; short = omega arith }
fits_certifier rules.Snapshot = record { free = refl; short = omega arith }
fits_certifier rules.Commute = record { free = refl; short = omega arith }

fits_node : (n s : ℕ) → n < 2 ^ 64 → s < 2 ^ 64 → Fits LINE_LIMIT (node_line n s)
fits_node n s small less =
    fits_more 46 LINE_LIMIT _ (omega arith) (fits_word 4 42 (codes "node") _ refl (omega arith) (fits_join 21 21 (spaced_number n) (spaced_number s) (fits_spaced n small) (fits_spaced s less)))

fits_config : (c : Membership) → IsMembership c → Fits LINE_LIMIT (config_line c)
fits_config c is =
    let shard : c.shard < 2 ^ 64 = let h = is.shard in grind (arith, nat_tests) in
    let members = small_members c.members is.each in
    let leader = small_among c.members c.leader is.each is.leads in
    fits_more 195 LINE_LIMIT _ (omega arith) (fits_word 6 189 (codes "config") _ refl (omega arith) (fits_join 21 168 (spaced_number c.shard) _ (fits_spaced c.shard shard)
    (fits_join 21 147 (spaced_number c.leader) _ (fits_spaced c.leader leader) (fits_numbers c.members 7 is.few members))))

-- ---- all lines

without_feed : (w : List ℕ) → Free 10 w → has_feed w ≡ false
without_feed [] h = refl
without_feed (b ∷ bs) h =
    let rest = without_feed bs (right_of (is_free 10 b) (list_all (is_free 10) bs) h) in
    let first : (b == 10) ≡ false = let f = left_of (is_free 10 b) (list_all (is_free 10) bs) h in grind (arith, nat_tests) in
    rw (first, rest) refl

is_line : (text : List ℕ) → Fits LINE_LIMIT text → IsLine text
is_line text f = record { no_feed = without_feed text f.free; short = f.short }

all_append : {X : Type 0} (P : X → Type 0) (xs ys : List X) → AllByRecursion P xs → AllByRecursion P ys → AllByRecursion P (xs ++ ys)
all_append P [] ys p q = q
all_append P (x ∷ xs) ys p q = (p.0, all_append P xs ys p.1 q)

node_lines_fit : (ss : List ℕ) (n shards : ℕ) → n + length ss < 2 ^ 64 → shards < 2 ^ 64 → list_all (λ s. nat_le 1 s && nat_le s shards) ss ≡ true → AllByRecursion IsLine (node_lines n ss)
node_lines_fit [] n shards few small each = tt
node_lines_fit (s ∷ ss) n shards few small each =
    let first = left_of (nat_le 1 s && nat_le s shards) (list_all (λ s. nat_le 1 s && nat_le s shards) ss) each in
    let less : s < 2 ^ 64 = grind (arith, nat_tests) in
    (is_line _ (fits_node n s (omega arith) less), node_lines_fit ss (n + 1) shards (omega arith) small (right_of (nat_le 1 s && nat_le s shards) (list_all (λ s. nat_le 1 s && nat_le s shards) ss) each))

config_lines_fit : (cs : List Membership) → All IsMembership cs → AllByRecursion IsLine (map config_line cs)
config_lines_fit [] h = tt
config_lines_fit (c ∷ cs) h = (is_line _ (fits_config c (h 0 c (omega arith))), config_lines_fit cs (λ k d lt. h (suc k) d (omega arith)))

event_lines_fit : (d : Deployment) (es : List Event) → Small d → AllByRecursion (MayStand d) es → AllByRecursion IsLine (map event_line es)
event_lines_fit d [] small h = tt
event_lines_fit d (e ∷ es) small h = (is_line _ (fits_event d e (spellable d e small h.0.event h.0.fits) h.0.fits), event_lines_fit d es small h.1)

pub lines_fit : (d : Deployment) (es : List Event) → IsSchedule d es → AllByRecursion IsLine (schedule_lines d es)
unfolding setup_lines
lines_fit d es h =
    let small = small_setup d h.setup in
    let few = h.setup.few_nodes in
    let known : d.version < 2 ^ 64 = let v = h.setup.version in grind (arith, nat_tests) in
    let fixed : (w : List ℕ) → Free 10 w → length w ≤ LINE_LIMIT → IsLine w = λ w free short. is_line w (record { free = free; short = short }) in
    let version = is_line (version_line d.version) (fits_more 24 LINE_LIMIT _ (omega arith) (fits_word 3 21 (codes "tcs") _ refl (omega arith) (fits_spaced d.version known))) in
    let shards = is_line (shards_line d.shards) (fits_more 27 LINE_LIMIT _ (omega arith) (fits_word 6 21 (codes "shards") _ refl (omega arith) (fits_spaced d.shards small.shards))) in
    let nodes = node_lines_fit d.nodes 1 d.shards (omega arith) small.shards h.setup.nodes in
    let configs = config_lines_fit d.configs h.setup.configs in
    let last = fixed (codes "events") refl (omega arith) in
    let end = fixed (codes "end") refl (omega arith) in
    let setup = all_append IsLine (first_lines d) (node_lines 1 d.nodes ++ (map config_line d.configs ++ codes "events" ∷ [])) (version, (is_line _ (fits_certifier d.rule), (shards, tt)))
    (all_append IsLine (node_lines 1 d.nodes) (map config_line d.configs ++ codes "events" ∷ []) nodes (all_append IsLine (map config_line d.configs) (codes "events" ∷ []) configs (last, tt))) in
    all_append IsLine (setup_lines d) (map event_line es ++ codes "end" ∷ []) setup (all_append IsLine (map event_line es) (codes "end" ∷ []) (event_lines_fit d es small h.events) (end, tt))
