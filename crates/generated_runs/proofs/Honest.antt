-- Reads are honest in every generated run.
use Rattle.std.proofs.Common.{◌≡◌, ℕ, zero, suc, ◌+◌, Bool, true, false, nat_lt, ◌==◌, List, [], ◌∷◌, ◌++◌, length, eq-eqb, ◌⊎◌, inl, inr, refl, sym, ◌∙◌, subst, append-nil, append_assoc}
use Rattle.std.specs.List.{list_all, list_any}
use Rattle.std.proofs.lemmas.Bool.{and_from, or_left, or_right}
use Rattle.std.proofs.lemmas.List.Folds.{list_any-append}
use Rattle.tcs_terms.proofs.BoolLaws.{left_of, right_of}
use Rattle.cert_serial.specs.Serial.{serial}
use Rattle.tcs_terms.specs.declared.inputs.Event.{Event}
use Rattle.tcs_terms.specs.declared.inputs.Event.TheVariants.{Call}
use Rattle.tcs_terms.specs.declared.inputs.Input.TheVariants as inputs
use Rattle.tcs_terms.specs.declared.inputs.Note.{Note}
use Rattle.tcs_terms.specs.declared.inputs.Note.TheVariants as notes
use Rattle.tcs_terms.specs.Payloads.{Accesses, same_name}
use Rattle.protocol.specs.Limit.{Progress, Step, frame_bytes, frame_limit}
use Rattle.protocol.specs.Limit.Progress.{Live, Ended}
use Rattle.protocol.specs.OneCopy.{is_honest, honest_after, tells_version}
use Rattle.protocol.specs.Past.{after_past}
use Rattle.protocol.specs.World.{World, first_world, world_step}
use Rattle.protocol.specs.Limit.{limited_step}
use Rattle.protocol_laws.specs.Promises.{world_of}
use Rattle.protocol_laws.proofs.Guards.{by_guard}
use Rattle.protocol_laws.proofs.NamesOnce.{same_name-self}
use Rattle.protocol_laws.proofs.RunsOn.{event-adds}
use Rattle.generator.specs.declared.accounts.Reading.{Reading}
use Rattle.generator.specs.declared.transfers.Transfer.{Transfer}
use Rattle.generator.specs.declared.transfers.Transfer.TheVariants.{Idle, Begun, Half, Whole}
use Rattle.generator.specs.declared.doings.Doing.{Doing}
use Rattle.generator.specs.declared.doings.Doing.TheVariants as doings
use Rattle.generator.specs.Accounts.{account_name}
use Rattle.generator.specs.Courses.{CourseState, with_note, with_notes, with_reading, reading}
use Rattle.generated_runs.specs.Sights.{event_of, waits_in, reader_in}
use Rattle.generated_runs.specs.Runs.{State, next, next_event, serial_step, is_read, heard, with_answer, after, generated}
use Rattle.generated_runs.proofs.Doings.{hands_in}
use Rattle.generated_runs.proofs.Noting.{NotedAt, OneAt, event_notes}
use Rattle.generated_runs.proofs.Choosing.{WasRead, Seen, IsHonest, IsFair, Asks, chosen_stands}

-- ---- one note more

all_more : {X : Type 0} (p : (List X × X) → Bool) (past xs : List X) (y : X) → list_all p (after_past past xs) ≡ true → p (past ++ xs, y) ≡ true
    → list_all p (after_past past (xs ++ y ∷ [])) ≡ true
all_more p past [] y a h = and_from (p (past, y)) true (subst (λ zs. p (zs, y) ≡ true) (append-nil past) h) refl
all_more p past (x ∷ xs) y a h =
    and_from (p (past, x)) (list_all p (after_past (past ++ x ∷ []) (xs ++ y ∷ []))) (left_of (p (past, x)) (list_all p (after_past (past ++ x ∷ []) xs)) a)
    (all_more p (past ++ x ∷ []) xs y (right_of (p (past, x)) (list_all p (after_past (past ++ x ∷ []) xs)) a)
    (subst (λ zs. p (zs, y) ≡ true) (sym (append_assoc past (x ∷ []) xs)) h))

honest_on : (h : List Note) (n : Note) → is_honest h ≡ true → honest_after h n ≡ true → is_honest (h ++ n ∷ []) ≡ true
honest_on h n a b = all_more {X = Note} (λ e. honest_after e.0 e.1) [] h n a b

was_read-on : (h more : List Note) (r : Reading) → WasRead h r → WasRead (h ++ more) r
was_read-on h more r a =
    let p = tells_version (account_name r.account) r.version in
    list_any-append p h more ∙ or_left (list_any p h) (list_any p more) a

seen_on : (h more : List Note) (t : Transfer) → Seen h t → Seen (h ++ more) t
seen_on h more Idle s = tt
seen_on h more (Begun from to) s = tt
seen_on h more (Half from to) s = was_read-on h more from s
seen_on h more (Whole from to) s = (was_read-on h more from s.0, was_read-on h more to s.1)

-- what a reading notes was read
read_now : (h : List Note) (account : ℕ) (name : List ℕ) (version : ℕ) (value : List ℕ) → name ≡ account_name account
    → WasRead (h ++ notes.ReadValue name version value ∷ []) (reading account version value)
read_now h account name version value e =
    let p = tells_version (account_name account) version in
    let n = notes.ReadValue name version value in
    let told : p n ≡ true = and_from (same_name name (account_name account)) (version == version) (subst (λ x. same_name x (account_name account) ≡ true) (sym e) (same_name-self (account_name account))) (eq-eqb version version refl) in
    list_any-append p h (n ∷ []) ∙ or_right (list_any p h) (list_any p (n ∷ [])) (or_left (p n) false told)

-- ---- what was done is told by the event

-- an event that hands in a payload does what was to be done
begun_fairly : (h : List Note) (w : World) (doing : Doing) (t : Transfer) (node : ℕ) (p : Accesses) → IsFair h doing t → event_of w doing ≡ Call node (inputs.Certify p) → IsHonest h p
begun_fairly h w doing t node p f e = subst (λ (d : Doing). IsFair h d t) (hands_in w doing node p e) f

fair_note : (h : List Note) (w : World) (doing : Doing) (t : Transfer) (event : Event) (n : Note) → event ≡ event_of w doing → IsFair h doing t → NotedAt event n → honest_after h n ≡ true
fair_note h w doing t event (notes.Begin txn payload) e f at = begun_fairly h w doing t at.0 payload f (sym e ∙ at.1)
fair_note h w doing t event (notes.Take txn) e f at = refl
fair_note h w doing t event (notes.ReadValue name version value) e f at = refl
fair_note h w doing t event (notes.Decide txn decision) e f at = refl

still_honest : (h ns : List Note) (w : World) (doing : Doing) (t : Transfer) (event : Event) → event ≡ event_of w doing → is_honest h ≡ true → IsFair h doing t → (ns ≡ []) ⊎ OneAt event ns
    → is_honest (h ++ ns) ≡ true
still_honest h ns w doing t event e a f (inl none) = subst (λ (x : List Note). is_honest (h ++ x) ≡ true) (sym none) (subst (λ (x : List Note). is_honest x ≡ true) (sym (append-nil h)) a)
still_honest h ns w doing t event e a f (inr one) =
    subst (λ (x : List Note). is_honest (h ++ x) ≡ true) (sym one.is) (honest_on h one.note a (fair_note h w doing t event one.note e f one.fits))

-- ---- what a transfer hears was read

of_reading : (h : List Note) (t : Transfer) (name : List ℕ) (version : ℕ) (value : List ℕ) → Seen h t → Asks name t → Seen (h ++ notes.ReadValue name version value ∷ []) (with_reading t version value)
of_reading h Idle name version value s a = tt
of_reading h (Begun from to) name version value s a = read_now h from name version value a
of_reading h (Half from to) name version value s a = (was_read-on h (notes.ReadValue name version value ∷ []) from s, read_now h to name version value a)
of_reading h (Whole from to) name version value s a = tt

of_note : (h : List Note) (t : Transfer) (asked : List ℕ) (reader : ℕ) (event : Event) (n : Note) → event ≡ Call reader (inputs.ReadName asked) → Seen h t → Asks asked t → NotedAt event n
    → Seen (h ++ n ∷ []) (with_note t n)
of_note h t asked reader event (notes.Begin txn payload) e s a at = tt
of_note h t asked reader event (notes.Take txn) e s a at = tt
of_note h t asked reader event (notes.ReadValue name version value) e s a at =
    let both = sym e ∙ at.1 in
    let is : asked ≡ name = cc both in
    of_reading h t name version value s (subst (λ (x : List ℕ). Asks x t) is a)
of_note h t asked reader event (notes.Decide txn decision) e s a at = tt

heard_seen : (h ns : List Note) (t : Transfer) (asked : List ℕ) (reader : ℕ) (event : Event) → event ≡ Call reader (inputs.ReadName asked) → Seen h t → Asks asked t → (ns ≡ []) ⊎ OneAt event ns
    → Seen (h ++ ns) (with_notes t ns)
heard_seen h ns t asked reader event e s a (inl none) = subst (λ (x : List Note). Seen (h ++ x) (with_notes t x)) (sym none) tt
heard_seen h ns t asked reader event e s a (inr one) =
    subst (λ (x : List Note). Seen (h ++ x) (with_notes t x)) (sym one.is) (of_note h t asked reader event one.note e s a one.fits)

still_seen : (h ns : List Note) (w : World) (doing : Doing) (t : Transfer) (event : Event) → event ≡ event_of w doing → Seen h t → IsFair h doing t → (ns ≡ []) ⊎ OneAt event ns
    → Seen (h ++ ns) (heard (is_read doing) ns t)
still_seen h ns w doings.Stop t event e s f one = seen_on h ns t s
still_seen h ns w doings.FirstMove t event e s f one = seen_on h ns t s
still_seen h ns w doings.TakeOver t event e s f one = seen_on h ns t s
still_seen h ns w doings.SecondMove t event e s f one = seen_on h ns t s
still_seen h ns w doings.Nudge t event e s f one = seen_on h ns t s
still_seen h ns w (doings.Deliver number) t event e s f one = seen_on h ns t s
still_seen h ns w (doings.Read name) t event e s f one = heard_seen h ns t name (reader_in w name) event e s f one
still_seen h ns w (doings.Certify payload) t event e s f one = seen_on h ns t s

-- ---- one event more

pub record Holds (s : State) : Type 0 where
  pub honest : is_honest (world_of s.progress).history ≡ true
  pub seen : Seen (world_of s.progress).history s.course.transfer

-- the state after an event
abbrev pub stepped : ℕ → Progress → Event → Doing → CourseState → State
stepped before p event doing c = record { course = with_answer before (is_read doing) (serial_step p event).answer c; progress = (serial_step p event).after }

holds_stepped : (before : ℕ) (p : Progress) (event : Event) (doing : Doing) (c : CourseState) → event ≡ event_of (world_of p) doing → is_honest (world_of p).history ≡ true
    → Seen (world_of p).history c.transfer → IsFair (world_of p).history doing c.transfer → Holds (stepped before p event doing c)
unfolding serial_step limited_step
holds_stepped before (Live w count bytes) event doing c e honest seen fair =
    let h = world_step serial 1 w event in
    let adds = event-adds serial 1 w event in
    let one = event_notes serial 1 w event in
    by_guard {A = Step} (λ s. Holds (record { course = with_answer before (is_read doing) s.answer c; progress = s.after })) (nat_lt frame_limit (bytes + frame_bytes h.sent))
    (λ full. record { honest = honest; seen = seen })
    (λ goes. record {
      honest = subst (λ (x : List Note). is_honest x ≡ true) (sym adds.history) (still_honest w.history h.notes w doing c.transfer event e honest fair one);
      seen = subst (λ (x : List Note). Seen x (heard (is_read doing) h.notes c.transfer)) (sym adds.history) (still_seen w.history h.notes w doing c.transfer event e seen fair one);
    })
holds_stepped before (Ended w count bytes) event doing c e honest seen fair = record { honest = honest; seen = seen }

holds_after : (count place : ℕ) (s : State) → Holds s → Holds (after count place s)
holds_after count place s holds =
    let w = world_of s.progress in
    let x = next count place s in
    let stands = chosen_stands w.history count place (waits_in w) (length w.messages) s.course holds.seen in
    holds_stepped (length w.messages) s.progress (next_event count place s) x.doing x.course refl holds.honest stands.seen stands.fair

pub always_honest : (seed count place : ℕ) → Holds (generated seed count place)
unfolding generated first_world
always_honest seed count zero = record { honest = refl; seen = tt }
always_honest seed count (suc place) = holds_after count (suc place) (generated seed count place) (always_honest seed count place)
