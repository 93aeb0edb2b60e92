-- The run puts one object back after the other.
use Rattle.std.proofs.Common.{◌≡◌, ◌⊎◌, ℕ, suc, ◌+◌, ◌*◌, ◌<◌, ◌≤◌, false, nat_le, List, [], ◌∷◌, ◌++◌, length, map, fold, None, inl, inr, sym, ap, subst, refl, ◌∙◌, arith, append-nil}
use Rattle.std.proofs.lemmas.Bool.{ne_eqb, lt-leb}
use Rattle.tcs_terms.specs.declared.inputs.Event.{Event}
use Rattle.tcs_terms.specs.declared.inputs.Note.{Note}
use Rattle.tcs_terms.specs.declared.inputs.Result1.{Result1}
use Rattle.tcs_terms.specs.declared.logs.Row.{Row}
use Rattle.tcs_terms.specs.declared.votes.Vote.TheVariants as votes
use Rattle.tcs_terms.specs.declared.votes.Decision.TheVariants as decisions
use Rattle.tcs_terms.specs.Logs.{same_txn}
use Rattle.tcs_terms.specs.Payloads.{Accesses}
use Rattle.tcs_laws.specs.Votes.{clashes, vote_by, vote_on}
use Rattle.cert_serial.specs.Serial.{serial}
use Rattle.protocol.proofs.Lists.{StandsIn-append}
use Rattle.protocol.specs.Invariant.Time.{StandsIn}
use Rattle.protocol.specs.Log.{is_full, last_slot, slot_or_zero, undecided}
use Rattle.protocol.specs.Run.{Ran, ran_on}
use Rattle.protocol.specs.World.{World, Sent, Happening, world_step}
use Rattle.protocol.specs.Worked.Words.{txn, deliver, begin, decide, acted}
use Rattle.backup_machine.specs.declared.objects.Kept.{Kept}
use Rattle.restore_laws.specs.Schedules.{payload_of, events_of, events_from}
use Rattle.restore_laws.proofs.Finding.{none-found, last-added, numbered}
use Rattle.restore_laws.proofs.Histories.{notes_from}
use Rattle.restore_laws.proofs.Names.{Ascend, rest_ascends, first_differs, no_clash}
use Rattle.restore_laws.proofs.Steps.{certifies, prepares, decides}
use Rattle.restore_laws.proofs.Worlds.{world_with, asked_case, entry_of, prepare_of, answer_of, decision_of, outcome_of}

-- the run goes on by one event
abbrev pub goes_on : Ran → Event → Ran
goes_on r e = ran_on r (world_step serial 2 r.world e)

-- What holds once `before` objects were put back and others are still to be: the log ends with their slot, holds no later
-- transaction, and nothing that stands in the way of those others; each object took four messages.
pub record IsBetween (before : ℕ) (rows : List Row) (messages : List Sent) (others : List Kept) : Type 0 where
  pub last : last_slot rows ≡ before
  pub earlier : (m : ℕ) (r : Row) → before < m → StandsIn r rows → same_txn r.entry.txn (txn 1 m) ≡ false
  pub clear : (r : Row) (k : Kept) → StandsIn r rows → StandsIn k others → clashes serial r (payload_of k) ≡ false
  pub counted : length messages ≡ 4 * before
  pub few : before + length others ≤ 4096
  pub ascend : Ascend others

-- the row of an object
abbrev pub row_for : ℕ → Kept → Row
row_for before k = undecided (entry_of (before + 1) (payload_of k))

-- the messages and the notes with those of one object more
abbrev pub messages_with : List Sent → ℕ → Kept → List Sent
messages_with ms before k =
    ((ms ++ prepare_of (before + 1) (payload_of k) ∷ []) ++ answer_of (before + 1) (payload_of k) ∷ []) ++ decision_of (before + 1) ∷ outcome_of (before + 1) ∷ []

abbrev pub notes_with : List Note → ℕ → Kept → List Note
notes_with ns before k = ((ns ++ begin (txn 1 (before + 1)) (payload_of k) ∷ []) ++ []) ++ decide (txn 1 (before + 1)) decisions.Commit ∷ []

four_more : (ms : List Sent) (a b c d : Sent) → length (((ms ++ a ∷ []) ++ b ∷ []) ++ c ∷ d ∷ []) ≡ length ms + 4
four_more [] a b c d = refl
four_more (m ∷ ms) a b c d = let more : length (((ms ++ a ∷ []) ++ b ∷ []) ++ c ∷ d ∷ []) ≡ length ms + 4 = four_more ms a b c d in omega (arith, more)

one_more : (ms : List Sent) (a : Sent) → length (ms ++ a ∷ []) ≡ length ms + 1
one_more [] a = refl
one_more (m ∷ ms) a = let more : length (ms ++ a ∷ []) ≡ length ms + 1 = one_more ms a in omega (arith, more)

stays_between : (before : ℕ) (rows : List Row) (messages : List Sent) (k : Kept) (ks : List Kept) → IsBetween before rows messages (k ∷ ks) → IsBetween (before + 1) (rows ++ row_for before k ∷ []) (messages_with messages before k) ks
stays_between before rows messages k ks i = record {
  last = ap slot_or_zero (last-added None rows (row_for before k));
  earlier = λ m r less s. earlier_now m r less (StandsIn-append rows (row_for before k ∷ []) r s);
  clear = λ r y s there. clear_now r y (StandsIn-append rows (row_for before k ∷ []) r s) there;
  counted =
      let four : length (messages_with messages before k) ≡ length messages + 4 = four_more messages (prepare_of (before + 1) (payload_of k)) (answer_of (before + 1) (payload_of k)) (decision_of (before + 1)) (outcome_of (before + 1)) in
      let were : length messages ≡ 4 * before = i.counted in
      omega (arith, four, were);
  few = let bound : before + suc (length ks) ≤ 4096 = i.few in omega (arith, bound);
  ascend = rest_ascends k ks i.ascend;
}
  where
    earlier_now : (m : ℕ) (r : Row) → before + 1 < m → StandsIn r rows ⊎ StandsIn r (row_for before k ∷ []) → same_txn r.entry.txn (txn 1 m) ≡ false
    earlier_now m r less (inl s) = i.earlier m r (omega (arith, less)) s
    earlier_now m r less (inr (inl e)) = subst (λ (x : Row). same_txn x.entry.txn (txn 1 m) ≡ false) (sym e) (ne_eqb (before + 1) m (λ q. omega (arith, q, less)))
    earlier_now m r less (inr (inr e)) = absurd e

    clear_now : (r : Row) (y : Kept) → StandsIn r rows ⊎ StandsIn r (row_for before k ∷ []) → StandsIn y ks → clashes serial r (payload_of y) ≡ false
    clear_now r y (inl s) there = i.clear r y s (inr there)
    clear_now r y (inr (inl e)) there = subst (λ (x : Row). clashes serial x (payload_of y) ≡ false) (sym e) (no_clash (before + 1) k y (first_differs k ks y i.ascend there))
    clear_now r y (inr (inr e)) there = absurd e

commits : (before : ℕ) (rows : List Row) (messages : List Sent) (k : Kept) (ks : List Kept) → IsBetween before rows messages (k ∷ ks) → vote_on serial rows (payload_of k) ≡ votes.Commit
unfolding vote_on
commits before rows messages k ks i = ap vote_by (none-found (λ (r : Row). clashes serial r (payload_of k)) rows (λ r s. i.clear r k s (inl refl)))

-- the three events of an object
puts_back : (before : ℕ) (rows : List Row) (messages : List Sent) (history : List Note) (results : List Result1) (k : Kept) (ks : List Kept) (events : List Event) → IsBetween before rows messages (k ∷ ks)
    → fold goes_on (record { results = results; world = world_with (before + 1) rows [] messages history }) (events_of before k ++ events)
    ≡ fold goes_on (record {
      results = ((results ++ acted ∷ []) ++ acted ∷ []) ++ acted ∷ [];
      world = world_with (before + 1 + 1) (rows ++ row_for before k ∷ []) [] (messages_with messages before k) (notes_with history before k);
    }) events
puts_back before rows messages history results k ks events i =
    let p : Accesses = payload_of k in
    let n : ℕ = before + 1 in
    let w : World = world_with n rows [] messages history in
    let asked_messages : List Sent = messages ++ prepare_of n p ∷ [] in
    let asked_history : List Note = history ++ begin (txn 1 n) p ∷ [] in
    let asked : World = world_with (n + 1) rows ((txn 1 n, asked_case p) ∷ []) asked_messages asked_history in
    let voted_messages : List Sent = asked_messages ++ answer_of n p ∷ [] in
    let voted : World = world_with (n + 1) (rows ++ row_for before k ∷ []) ((txn 1 n, asked_case p) ∷ []) voted_messages (asked_history ++ []) in
    let bound : before + suc (length ks) ≤ 4096 = i.few in
    let were : length messages ≡ 4 * before = i.counted in
    let one : length asked_messages ≡ length messages + 1 = one_more messages (prepare_of n p) in
    let full : is_full rows ≡ false = ap (λ (s : ℕ). nat_le 4096 s) i.last ∙ lt-leb 4096 before (omega (arith, bound)) in
    ap (λ (h : Happening). fold goes_on (ran_on (record { results = results; world = w }) h) (deliver (4 * before + 1) ∷ deliver (4 * before + 2) ∷ events))
    (certifies n rows messages history k (omega (arith, bound)))
    ∙ ap (λ (h : Happening). fold goes_on (ran_on (record { results = results ++ acted ∷ []; world = asked }) h) (deliver (4 * before + 2) ∷ events))
    (prepares (n + 1) n (4 * before + 1) rows ((txn 1 n, asked_case p) ∷ []) asked_messages asked_history p
    (numbered messages (prepare_of n p) (4 * before + 1) (omega (arith, were)))
    (none-found (λ (r : Row). same_txn r.entry.txn (txn 1 n)) rows (λ r s. i.earlier n r (omega arith) s))
    full
    (ap (λ (s : ℕ). s + 1) i.last)
    (commits before rows messages k ks i))
    ∙ ap (λ (h : Happening). fold goes_on (ran_on (record { results = (results ++ acted ∷ []) ++ acted ∷ []; world = voted }) h) events)
    (decides (n + 1) n (4 * before + 2) (rows ++ row_for before k ∷ []) voted_messages (asked_history ++ []) p
    (numbered asked_messages (answer_of n p) (4 * before + 2) (omega (arith, were, one))))

-- what a run came to
pub record CameTo (r : Ran) (results : List Result1) (history : List Note) : Type 0 where
  pub results_are : r.results ≡ results
  pub history_is : r.world.history ≡ history

three_before : (xs : List Result1) (a b c : Result1) (ys : List Result1) → (((xs ++ a ∷ []) ++ b ∷ []) ++ c ∷ []) ++ ys ≡ xs ++ (a ∷ b ∷ c ∷ ys)
three_before [] a b c ys = refl
three_before (x ∷ xs) a b c ys = ap (λ (zs : List Result1). x ∷ zs) (three_before xs a b c ys)

two_before : (xs : List Note) (a b : Note) (ys : List Note) → (((xs ++ a ∷ []) ++ []) ++ b ∷ []) ++ ys ≡ xs ++ (a ∷ b ∷ ys)
two_before [] a b ys = refl
two_before (x ∷ xs) a b ys = ap (λ (zs : List Note). x ∷ zs) (two_before xs a b ys)

pub all_back : (before : ℕ) (rows : List Row) (messages : List Sent) (history : List Note) (results : List Result1) (ks : List Kept) → IsBetween before rows messages ks
    → CameTo (fold goes_on (record { results = results; world = world_with (before + 1) rows [] messages history }) (events_from before ks))
    (results ++ map (λ (e : Event). acted) (events_from before ks)) (history ++ notes_from before ks)
all_back before rows messages history results [] i = record { results_are = sym (append-nil results); history_is = sym (append-nil history) }
all_back before rows messages history results (k ∷ ks) i =
    let later : CameTo (fold goes_on (record {
      results = ((results ++ acted ∷ []) ++ acted ∷ []) ++ acted ∷ [];
      world = world_with (before + 1 + 1) (rows ++ row_for before k ∷ []) [] (messages_with messages before k) (notes_with history before k);
    }) (events_from (before + 1) ks))
    ((((results ++ acted ∷ []) ++ acted ∷ []) ++ acted ∷ []) ++ map (λ (e : Event). acted) (events_from (before + 1) ks))
    (notes_with history before k ++ notes_from (before + 1) ks)
    = all_back (before + 1) (rows ++ row_for before k ∷ []) (messages_with messages before k) (notes_with history before k) (((results ++ acted ∷ []) ++ acted ∷ []) ++ acted ∷ []) ks (stays_between before rows messages k ks i) in
    let same = puts_back before rows messages history results k ks (events_from (before + 1) ks) i in
    record {
      results_are = ap (λ (r : Ran). r.results) same ∙ later.results_are ∙ three_before results acted acted acted (map (λ (e : Event). acted) (events_from (before + 1) ks));
      history_is = ap (λ (r : Ran). r.world.history) same ∙ later.history_is ∙ two_before history (begin (txn 1 (before + 1)) (payload_of k)) (decide (txn 1 (before + 1)) decisions.Commit) (notes_from (before + 1) ks);
    }
