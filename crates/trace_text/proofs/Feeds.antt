-- No line of a trace has a line feed in it.
use Rattle.std.proofs.Common.{◌≡◌, ℕ, suc, ◌^◌, ◌<◌, true, false, not, List, [], ◌∷◌, ◌++◌, All, refl, ◌∙◌, arith}
use Rattle.std.specs.Prelude.{◌==◌, slice_index, codes, decimal}
use Rattle.std.specs.List.{list_all, list_any, flat_map}
use Rattle.std.proofs.lemmas.Bool.Decides.{nat_tests}
use Rattle.std.proofs.lemmas.List.Folds.{list_all-append}
use Rattle.hex.specs.Hex.{IsBytes, encode_lower}
use Rattle.tcs_terms.specs.declared.limits.TheConstants.{MAX_SHARDS}
use Rattle.tcs_terms.specs.declared.ids.TxId.{TxId}
use Rattle.tcs_terms.specs.declared.inputs.Handled.TheVariants as handled
use Rattle.tcs_terms.specs.declared.inputs.Result1.{Result1}
use Rattle.tcs_terms.specs.declared.inputs.Result1.TheVariants as results
use Rattle.tcs_terms.specs.declared.inputs.Note.{Note}
use Rattle.tcs_terms.specs.declared.inputs.Note.TheVariants as notes
use Rattle.tcs_terms.specs.declared.payloads.ReadPart.{ReadPart}
use Rattle.tcs_terms.specs.declared.payloads.RangePart.{RangePart}
use Rattle.tcs_terms.specs.declared.payloads.WritePart.{WritePart}
use Rattle.tcs_terms.specs.declared.votes.Cause.{Cause}
use Rattle.tcs_terms.specs.declared.votes.Cause.TheVariants as causes
use Rattle.tcs_terms.specs.declared.votes.Decision.{Decision}
use Rattle.tcs_terms.specs.declared.votes.Decision.TheVariants as decisions
use Rattle.tcs_terms.specs.Messages.{is_txn}
use Rattle.tcs_terms.specs.Objects.{IsValue}
use Rattle.tcs_terms.specs.Payloads.{Accesses, IsReadPart, IsRangePart, IsWritePart, IsPayload}
use Rattle.text_words.specs.PayloadText.{value_text, read_text, range_text, write_text, payload_text}
use Rattle.text_words.specs.HexWords.{is_lower_digit}
use Rattle.tcs_terms.proofs.BoolLaws.{both, left_of, right_of, not_false}
use Rattle.text_words.proofs.HexLaws.{bytes_everywhere, encoded_is_lower}
use Rattle.text_words.specs.Texts.{txn_text}
use Rattle.tcs_terms.specs.Rules.{rule_text}
use Rattle.trace_text.specs.Texts.{result_text, cause_text, decision_text, note_text, kind_text, order_text}
use Rattle.trace_text.specs.Lines.{Line, HeadLine, EventLine, NoteLine, MessageLine, OrderLine, EndLine, line_text, Standing, IsStanding, MayStand, IsResult, IsCause, IsDecision, IsNote}
use Rattle.trace_text.proofs.Cuts.{lacks}
use Rattle.trace_text.proofs.PlainWords.{weaker, decimal_lacks, name_lacks, rule_lacks, small_within, txn_lacks}
use Rattle.trace_text.proofs.FrameWords.{kind_lacks}

-- ---- texts one behind the other

joined : (a b : List ℕ) → lacks 10 a ≡ true → lacks 10 b ≡ true → lacks 10 (a ++ b) ≡ true
joined a b p q = list_all-append (λ c. not (c == 10)) a b ∙ both (lacks 10 a) (lacks 10 b) p q

hex_lacks : (bytes : List ℕ) → IsBytes bytes → lacks 10 (encode_lower bytes) ≡ true
hex_lacks bytes h = weaker is_lower_digit (λ b. not (b == 10)) (λ b l. grind (arith, nat_tests)) (encode_lower bytes) (encoded_is_lower bytes h)

value_lacks : (v : List ℕ) → IsValue v → lacks 10 (value_text v) ≡ true
value_lacks [] h = refl
value_lacks (b ∷ bs) h = hex_lacks (b ∷ bs) (bytes_everywhere (b ∷ bs) h.are_bytes)

-- ---- payloads

reads_lack : (rs : List ReadPart) → All IsReadPart rs → lacks 10 (flat_map read_text rs) ≡ true
reads_lack [] h = refl
reads_lack (r ∷ rs) h =
    let first = h 0 r (omega arith) in
    joined (read_text r) (flat_map read_text rs) (joined (codes " r " ++ r.name ++ codes " ") (decimal r.version) (joined (codes " r " ++ r.name) (codes " ") (joined (codes " r ") r.name refl (name_lacks 10 r.name (omega arith) first.name)) refl)
    (decimal_lacks 10 r.version (omega arith) first.version)) (reads_lack rs (λ k d lt. h (suc k) d (omega arith)))

ranges_lack : (qs : List RangePart) → All IsRangePart qs → lacks 10 (flat_map range_text qs) ≡ true
ranges_lack [] h = refl
ranges_lack (q ∷ qs) h =
    let first = h 0 q (omega arith) in
    let from = joined (codes " q " ++ q.from) (codes " ") (joined (codes " q ") q.from refl (name_lacks 10 q.from (omega arith) first.from)) refl in
    let upto = joined (codes " q " ++ q.from ++ codes " " ++ q.upto) (codes " ") (joined (codes " q " ++ q.from ++ codes " ") q.upto from (name_lacks 10 q.upto (omega arith) first.upto)) refl in
    joined (range_text q) (flat_map range_text qs) (joined (codes " q " ++ q.from ++ codes " " ++ q.upto ++ codes " ") (decimal q.version) upto (decimal_lacks 10 q.version (omega arith) first.version))
    (ranges_lack qs (λ k d lt. h (suc k) d (omega arith)))

writes_lack : (ws : List WritePart) → All IsWritePart ws → lacks 10 (flat_map write_text ws) ≡ true
writes_lack [] h = refl
writes_lack (w ∷ ws) h =
    let first = h 0 w (omega arith) in
    joined (write_text w) (flat_map write_text ws) (joined (codes " w " ++ w.name ++ codes " ") (value_text w.value) (joined (codes " w " ++ w.name) (codes " ") (joined (codes " w ") w.name refl (name_lacks 10 w.name (omega arith) first.name)) refl)
    (value_lacks w.value first.value)) (writes_lack ws (λ k d lt. h (suc k) d (omega arith)))

payload_lacks : (p : Accesses) → IsPayload p → lacks 10 (payload_text p) ≡ true
unfolding payload_text
payload_lacks p h =
    let version = joined (codes "v ") (decimal p.version) refl (decimal_lacks 10 p.version (omega arith) h.version_fits) in
    let reads = joined (codes "v " ++ decimal p.version) (flat_map read_text p.reads) version (reads_lack p.reads h.read_parts) in
    let ranges = joined (codes "v " ++ decimal p.version ++ flat_map read_text p.reads) (flat_map range_text p.ranges) reads (ranges_lack p.ranges h.range_parts) in
    joined (codes "v " ++ decimal p.version ++ flat_map read_text p.reads ++ flat_map range_text p.ranges) (flat_map write_text p.writes) ranges (writes_lack p.writes h.write_parts)

-- ---- notes

cause_lacks : (c : Cause) → IsCause c → lacks 10 (cause_text c) ≡ true
cause_lacks (causes.Clash txn) h = joined (codes "clash ") (txn_text txn) refl (txn_lacks 10 txn (omega arith) h)
cause_lacks causes.Lost h = refl

decision_lacks : (shards : ℕ) (d : Decision) → shards < 2 ^ 64 → IsDecision shards d → lacks 10 (decision_text d) ≡ true
decision_lacks shards decisions.Commit few h = refl
decision_lacks shards (decisions.Abort shard cause) few h =
    joined (codes "abort " ++ decimal shard ++ codes " ") (cause_text cause)
    (joined (codes "abort " ++ decimal shard) (codes " ") (joined (codes "abort ") (decimal shard) refl (decimal_lacks 10 shard (omega arith) (small_within 1 shards shard h.0 few))) refl) (cause_lacks cause h.1)

-- a fixed text, a transaction and a space
txn_part : (text : List ℕ) (txn : TxId) → lacks 10 text ≡ true → is_txn txn ≡ true → lacks 10 (text ++ txn_text txn ++ codes " ") ≡ true
txn_part text txn t h = joined (text ++ txn_text txn) (codes " ") (joined text (txn_text txn) t (txn_lacks 10 txn (omega arith) h)) refl

note_lacks : (version shards : ℕ) (n : Note) → shards < 2 ^ 64 → IsNote version shards n → lacks 10 (note_text n) ≡ true
note_lacks version shards (notes.Begin txn p) few h = joined (codes "begin " ++ txn_text txn ++ codes " ") (payload_text p) (txn_part (codes "begin ") txn refl h.0) (payload_lacks p h.1)
note_lacks version shards (notes.Take txn) few h = joined (codes "take ") (txn_text txn) refl (txn_lacks 10 txn (omega arith) h)
note_lacks version shards (notes.ReadValue name seen value) few h =
    let named = joined (codes "read " ++ name) (codes " ") (joined (codes "read ") name refl (name_lacks 10 name (omega arith) h.0)) refl in
    let seen_part = joined (codes "read " ++ name ++ codes " " ++ decimal seen) (codes " ") (joined (codes "read " ++ name ++ codes " ") (decimal seen) named (decimal_lacks 10 seen (omega arith) h.1)) refl in
    joined (codes "read " ++ name ++ codes " " ++ decimal seen ++ codes " ") (value_text value) seen_part (value_lacks value h.2)
note_lacks version shards (notes.Decide txn d) few h = joined (codes "decide " ++ txn_text txn ++ codes " ") (decision_text d) (txn_part (codes "decide ") txn refl h.0) (decision_lacks shards d few h.1)

-- ---- lines

result_lacks : (r : Result1) → IsResult r → lacks 10 (result_text r) ≡ true
result_lacks (results.Node handled.Acted) h = refl
result_lacks (results.Node (handled.Stale mark)) h = joined (codes "stale ") (decimal mark) refl (decimal_lacks 10 mark (omega arith) (omega arith))
result_lacks (results.Node (handled.Held mark)) h = joined (codes "held ") (decimal mark) refl (decimal_lacks 10 mark (omega arith) (omega arith))
result_lacks (results.Node handled.Full) h = refl
result_lacks results.Gone h = refl
result_lacks results.Unsent h = refl

more_lack : (ts : List TxId) → list_all is_txn ts ≡ true → lacks 10 (flat_map (λ txn. codes " " ++ txn_text txn) ts) ≡ true
more_lack [] h = refl
more_lack (t ∷ ts) h =
    joined (codes " " ++ txn_text t) (flat_map (λ txn. codes " " ++ txn_text txn) ts) (joined (codes " ") (txn_text t) refl (txn_lacks 10 t (omega arith) (left_of (is_txn t) (list_all is_txn ts) h)))
    (more_lack ts (right_of (is_txn t) (list_all is_txn ts) h))

order_lacks : (order : List TxId) → list_all is_txn order ≡ true → lacks 10 (order_text order) ≡ true
order_lacks [] h = refl
order_lacks (t ∷ ts) h = joined (txn_text t) (flat_map (λ txn. codes " " ++ txn_text txn) ts) (txn_lacks 10 t (omega arith) (left_of (is_txn t) (list_all is_txn ts) h)) (more_lack ts (right_of (is_txn t) (list_all is_txn ts) h))

-- a text, a number and a space
number_part : (text : List ℕ) (n : ℕ) → lacks 10 text ≡ true → n < 2 ^ 64 → lacks 10 (text ++ decimal n ++ codes " ") ≡ true
number_part text n t small = joined (text ++ decimal n) (codes " ") (joined text (decimal n) t (decimal_lacks 10 n (omega arith) small)) refl

line_lacks : (s : Standing) (line : Line) → IsStanding s → MayStand s line → lacks 10 (line_text line) ≡ true
line_lacks s (HeadLine version rule shards) i h =
    let v = number_part (codes "trace ") version refl (small_within 1 2 version h.1 (omega arith)) in
    let r = joined (codes "trace " ++ decimal version ++ codes " " ++ rule_text rule) (codes " ") (joined (codes "trace " ++ decimal version ++ codes " ") (rule_text rule) v (rule_lacks 10 rule (omega arith))) refl in
    joined (codes "trace " ++ decimal version ++ codes " " ++ rule_text rule ++ codes " ") (decimal shards) r (decimal_lacks 10 shards (omega arith) (small_within 1 MAX_SHARDS shards h.2 (omega arith)))
line_lacks s (EventLine k r) i h = joined (codes "e " ++ decimal k ++ codes " ") (result_text r) (number_part (codes "e ") k refl h.2) (result_lacks r h.3)
line_lacks s (NoteLine note) i h = let few = i.shards in note_lacks s.version s.shards note (omega arith) h.1
line_lacks s (MessageLine number from to frame) i h =
    let from_fits = h.3 in
    let to_fits = h.4 in
    let a = number_part (codes "m ") number refl h.2 in
    let b = number_part (codes "m " ++ decimal number ++ codes " ") from a (omega arith) in
    let c = number_part (codes "m " ++ decimal number ++ codes " " ++ decimal from ++ codes " ") to b (omega arith) in
    let front = codes "m " ++ decimal number ++ codes " " ++ decimal from ++ codes " " ++ decimal to ++ codes " " in
    let k = joined (front ++ kind_text (slice_index frame 0)) (codes " ") (joined front (kind_text (slice_index frame 0)) c (kind_lacks 10 (slice_index frame 0) (omega arith))) refl in
    joined (front ++ kind_text (slice_index frame 0) ++ codes " ") (encode_lower frame) k (hex_lacks frame h.5.are_bytes)
line_lacks s (OrderLine order) i h = joined (codes "order ") (order_text order) refl (order_lacks order h.1)
line_lacks s (EndLine events messages) i h =
    joined (codes "end " ++ decimal events ++ codes " ") (decimal messages) (number_part (codes "end ") events refl (rw h.1 i.events)) (decimal_lacks 10 messages (omega arith) (rw h.2 i.messages))

none_of : (text : List ℕ) → lacks 10 text ≡ true → list_any (λ b. b == 10) text ≡ false
none_of [] h = refl
none_of (b ∷ bs) h =
    let first = not_false (b == 10) (left_of (not (b == 10)) (lacks 10 bs) h) in
    rw (first, none_of bs (right_of (not (b == 10)) (lacks 10 bs) h)) refl

pub line_has_no_feed : (s : Standing) (line : Line) → IsStanding s → MayStand s line → list_any (λ b. b == 10) (line_text line) ≡ false
line_has_no_feed s line i h = none_of (line_text line) (line_lacks s line i h)
