-- The totals of a history with one note more.
use Rattle.std.proofs.Common.{◌≡◌, ◌+◌, ◌≤◌, Bool, true, false, not, ◌&&◌, cond, List, [], ◌∷◌, ◌++◌, length, refl, sym, ap, ◌∙◌, subst, inl, inr, arith}
use Rattle.std.specs.Prelude.{Option, Some, None, is_some, filter_map}
use Rattle.std.specs.List.{list_all, list_any, cons_option}
use Rattle.std.specs.Map.{lookup}
use Rattle.std.proofs.lemmas.Bool.{cond-true, cond-false, cases_Bool, and_parts, and_from}
use Rattle.std.proofs.lemmas.List.Elements.{filter_map-append}
use Rattle.std.proofs.lemmas.List.Folds.{list_all-append}
use Rattle.tcs_terms.specs.declared.ids.TxId.{TxId}
use Rattle.tcs_terms.specs.declared.inputs.Note.{Note}
use Rattle.tcs_terms.specs.declared.inputs.Note.TheVariants.{Begin, Decide}
use Rattle.tcs_terms.specs.declared.votes.Decision.TheVariants.{Commit}
use Rattle.tcs_terms.specs.Logs.{same_txn}
use Rattle.tcs_terms.specs.Payloads.{Accesses}
use Rattle.tcs_terms.proofs.OrderLaws.{kept_few}
use Rattle.protocol.specs.History.{begins_with, commit_in, first_of_each, first_some, has_begun, order_of, payload_in, payloads_of}
use Rattle.protocol_laws.specs.Growth.{with_commit}
use Rattle.protocol_laws.proofs.Fronts.{payload_in-append, payload_in-decide}
use Rattle.protocol_laws.proofs.OrderOn.{order-on}
use Rattle.protocol_laws.proofs.SameTxn.{same_txn-eq, same_txn-self}
use Rattle.counters.specs.declared.totals.Totals.{Totals}
use Rattle.counters.specs.Histories.{AreTotals, KeepsFirst}
use Rattle.counters.specs.Sums.{Sums, AreSums}

first_or_none : {X : Type 0} (o : Option X) → first_some o None ≡ o
first_or_none None = refl
first_or_none (Some x) = refl

-- ---- look-ups

same_turned : (t u : TxId) → same_txn t u ≡ same_txn u t
same_turned t u = elim (cases_Bool (same_txn t u)) [
  | inl same ↦ same ∙ sym (subst (λ x. same_txn x t ≡ true) (same_txn-eq t u same) (same_txn-self t))
  | inr apart ↦ elim (cases_Bool (same_txn u t)) [
    | inl same ↦ absurd (let no : same_txn t u ≡ true = subst (λ x. same_txn x u ≡ true) (same_txn-eq u t same) (same_txn-self u) in cc (apart, no))
    | inr also ↦ apart ∙ sym also
  ]
]

lookup_last : {V : Type 0} (test : TxId → Bool) (kept : List (TxId × V)) (txn : TxId) (value : V)
    → lookup test (kept ++ (txn, value) ∷ []) ≡ first_some (lookup test kept) (cond (test txn) (Some value) None)
lookup_last test [] txn value = refl
lookup_last test (e ∷ es) txn value = elim (cases_Bool (test e.0)) [
  | inl here ↦ rw (here) refl
  | inr past ↦ rw (past) (lookup_last test es txn value)
]

-- the first payload of a transaction is kept
pub first_kept : (before after : List (TxId × Accesses)) (txn : TxId) (payload : Accesses) → after ≡ before ++ (txn, payload) ∷ [] → KeepsFirst before after txn payload
first_kept before after txn payload is t =
    ap (lookup (same_txn t)) is ∙ lookup_last (same_txn t) before txn payload
    ∙ ap (λ b. first_some (lookup (same_txn t) before) (cond b (Some payload) None)) (same_turned t txn)

stays_first : {X : Type 0} (o later : Option X) → is_some o ≡ true → first_some o later ≡ o
stays_first None later there = absurd (let no : false ≡ true = there in cc)
stays_first (Some x) later there = refl

-- a later one is not
pub later_left : (before : List (TxId × Accesses)) (txn : TxId) (payload : Accesses) → is_some (lookup (same_txn txn) before) ≡ true → KeepsFirst before before txn payload
later_left before txn payload there t = elim (cases_Bool (same_txn txn t)) [
  | inl same ↦ sym (stays_first (lookup (same_txn t) before) (cond (same_txn txn t) (Some payload) None)
      (subst (λ u. is_some (lookup (same_txn u) before) ≡ true) (same_txn-eq txn t same) there))
  | inr apart ↦ sym (ap (λ b. first_some (lookup (same_txn t) before) (cond b (Some payload) None)) apart ∙ first_or_none (lookup (same_txn t) before))
]

-- ---- what has begun stays so

payload_with : (h : List Note) (n : Note) (t : TxId) → payload_in (h ++ n ∷ []) t ≡ first_some (payload_in h t) (begins_with t n)
payload_with h n t = payload_in-append h (n ∷ []) t ∙ ap (first_some (payload_in h t)) (first_or_none (begins_with t n))

payload_stays : (h : List Note) (n : Note) (t : TxId) → has_begun h t ≡ true → payload_in (h ++ n ∷ []) t ≡ payload_in h t
payload_stays h n t begun = payload_with h n t ∙ stays_first (payload_in h t) (begins_with t n) begun

payloads_stay : (h : List Note) (n : Note) (ts : List TxId) → list_all (has_begun h) ts ≡ true → payloads_of (h ++ n ∷ []) ts ≡ payloads_of h ts
payloads_stay h n [] begun = refl
payloads_stay h n (t ∷ ts) begun =
    let parts = and_parts (has_begun h t) (list_all (has_begun h) ts) begun in
    ap (λ o. cons_option o (payloads_of (h ++ n ∷ []) ts)) (payload_stays h n t parts.0)
    ∙ ap (cons_option (payload_in h t)) (payloads_stay h n ts parts.1)

begun_stay : (h : List Note) (n : Note) (ts : List TxId) → list_all (has_begun h) ts ≡ true → list_all (has_begun (h ++ n ∷ [])) ts ≡ true
begun_stay h n [] begun = refl
begun_stay h n (t ∷ ts) begun =
    let parts = and_parts (has_begun h t) (list_all (has_begun h) ts) begun in
    and_from (has_begun (h ++ n ∷ []) t) (list_all (has_begun (h ++ n ∷ [])) ts)
    (ap is_some (payload_stays h n t parts.0) ∙ parts.0) (begun_stay h n ts parts.1)

-- ---- one note more

-- no notes
pub totals_none : (totals : Totals) → totals.begun.entries ≡ [] → totals.committed.keys ≡ [] → totals.sums.entries ≡ [] → AreTotals totals []
totals_none totals begun committed sums = record {
  begun = λ t. ap (lookup (same_txn t)) begun;
  committed = committed;
  after = refl;
  sums = λ name. ap (lookup _) sums;
}

-- a note after which the order is as before
pub totals_same : (old new : Totals) (h : List Note) (n : Note) → with_commit (order_of h) (commit_in n) ≡ order_of h
    → ((t : TxId) → lookup (same_txn t) new.begun.entries ≡ first_some (lookup (same_txn t) old.begun.entries) (begins_with t n))
    → new.committed.keys ≡ old.committed.keys → new.sums ≡ old.sums → AreTotals old h → AreTotals new (h ++ n ∷ [])
totals_same old new h n same begun committed sums are = record {
  begun = λ t. begun t ∙ ap (λ o. first_some o (begins_with t n)) (are.begun t) ∙ sym (payload_with h n t);
  committed = committed ∙ are.committed ∙ sym order;
  after = ap (list_all (has_begun (h ++ n ∷ []))) order ∙ begun_stay h n (order_of h) are.after;
  sums = subst (λ (ps : List Accesses). AreSums new.sums ps) (sym (ap (payloads_of (h ++ n ∷ [])) order ∙ payloads_stay h n (order_of h) are.after))
      (subst (λ (s : Sums). AreSums s (payloads_of h (order_of h))) (sym sums) are.sums);
}
  where
    order : order_of (h ++ n ∷ []) ≡ order_of h
    order = order-on h n ∙ same

-- a note that changes nothing that is kept
pub totals_still : (totals : Totals) (h : List Note) (n : Note) → with_commit (order_of h) (commit_in n) ≡ order_of h → ((t : TxId) → begins_with t n ≡ None)
    → AreTotals totals h → AreTotals totals (h ++ n ∷ [])
totals_still totals h n same none are = totals_same totals totals h n same
    (λ t. sym (ap (first_some (lookup (same_txn t) totals.begun.entries)) (none t) ∙ first_or_none (lookup (same_txn t) totals.begun.entries)))
    refl refl are

-- a beginning
pub totals_begin : (old new : Totals) (h : List Note) (txn : TxId) (payload kept : Accesses) → kept ≡ payload → KeepsFirst old.begun.entries new.begun.entries txn kept
    → new.committed.keys ≡ old.committed.keys → new.sums ≡ old.sums → AreTotals old h → AreTotals new (h ++ Begin txn payload ∷ [])
totals_begin old new h txn payload kept same keeps committed sums are =
    totals_same old new h (Begin txn payload) refl
    (subst (λ (p : Accesses). KeepsFirst old.begun.entries new.begun.entries txn p) same keeps) committed sums are

-- one more decision to commit a transaction
pub totals_again : (old new : Totals) (h : List Note) (txn : TxId) → list_any (same_txn txn) old.committed.keys ≡ true → new.begun.entries ≡ old.begun.entries
    → new.committed.keys ≡ with_commit old.committed.keys (Some txn) → new.sums ≡ old.sums → AreTotals old h → AreTotals new (h ++ Decide txn Commit ∷ [])
totals_again old new h txn there begun committed sums are =
    totals_same old new h (Decide txn Commit)
    (cond-true (list_any (same_txn txn) (order_of h)) (order_of h) (order_of h ++ txn ∷ []) (ap (list_any (same_txn txn)) (sym are.committed) ∙ there))
    (λ t. ap (lookup (same_txn t)) begun ∙ sym (first_or_none (lookup (same_txn t) old.begun.entries)))
    (committed ∙ cond-true (list_any (same_txn txn) old.committed.keys) old.committed.keys (old.committed.keys ++ txn ∷ []) there)
    sums are

-- ---- there are no more payloads than notes

few_with : {X : Type 0} (o : Option X) (xs : List X) → length (cons_option o xs) ≤ length xs + 1
few_with None xs = omega arith
few_with (Some x) xs = omega arith

few_picked : {X Y : Type 0} (pick : X → Option Y) (xs : List X) → length (filter_map pick xs) ≤ length xs
few_picked pick [] = omega arith
few_picked pick (x ∷ xs) =
    let rest = few_picked pick xs in
    let more = few_with (pick x) (filter_map pick xs) in
    omega arith

few_firsts : (ts : List TxId) → length (first_of_each ts) ≤ length ts
few_firsts [] = omega arith
few_firsts (t ∷ ts) =
    let rest = few_firsts ts in
    let fewer = kept_few (λ u. not (same_txn t u)) (first_of_each ts) in
    omega arith

pub payloads_few : (h : List Note) → length (payloads_of h (order_of h)) ≤ length h
payloads_few h =
    let all = few_picked (λ t. payload_in h t) (order_of h) in
    let firsts = few_firsts (filter_map commit_in h) in
    let commits = few_picked commit_in h in
    omega arith

-- the first decision to commit a transaction
pub totals_commit : (old new : Totals) (h : List Note) (txn : TxId) (p : Accesses) → list_any (same_txn txn) old.committed.keys ≡ false
    → payload_in h txn ≡ Some p → new.begun.entries ≡ old.begun.entries → new.committed.keys ≡ with_commit old.committed.keys (Some txn)
    → AreSums new.sums (payloads_of h (order_of h) ++ p ∷ []) → AreTotals old h → AreTotals new (h ++ Decide txn Commit ∷ [])
totals_commit old new h txn p fresh payload begun committed sums are = record {
  begun = λ t. ap (lookup (same_txn t)) begun ∙ are.begun t ∙ sym (payload_in-decide h t txn Commit);
  committed = committed ∙ ap (λ ts. with_commit ts (Some txn)) are.committed ∙ sym (order-on h (Decide txn Commit));
  after = ap (list_all (has_begun (h ++ Decide txn Commit ∷ []))) order
      ∙ begun_stay h (Decide txn Commit) (order_of h ++ txn ∷ []) all_begun;
  sums = subst (λ (ps : List Accesses). AreSums new.sums ps) (sym payloads) sums;
}
  where
    apart : list_any (same_txn txn) (order_of h) ≡ false
    apart = ap (list_any (same_txn txn)) (sym are.committed) ∙ fresh

    order : order_of (h ++ Decide txn Commit ∷ []) ≡ order_of h ++ txn ∷ []
    order = order-on h (Decide txn Commit) ∙ cond-false (list_any (same_txn txn) (order_of h)) (order_of h) (order_of h ++ txn ∷ []) apart

    all_begun : list_all (has_begun h) (order_of h ++ txn ∷ []) ≡ true
    all_begun = list_all-append (has_begun h) (order_of h) (txn ∷ [])
        ∙ and_from (list_all (has_begun h) (order_of h)) (has_begun h txn && true) are.after (and_from (has_begun h txn) true (ap is_some payload) refl)

    payloads : payloads_of (h ++ Decide txn Commit ∷ []) (order_of (h ++ Decide txn Commit ∷ [])) ≡ payloads_of h (order_of h) ++ p ∷ []
    payloads = ap (payloads_of (h ++ Decide txn Commit ∷ [])) order
        ∙ payloads_stay h (Decide txn Commit) (order_of h ++ txn ∷ []) all_begun
        ∙ filter_map-append (λ t. payload_in h t) (order_of h) (txn ∷ [])
        ∙ ap (λ o. payloads_of h (order_of h) ++ cons_option o []) payload
