-- The verdict is that a history is correct exactly where each clause holds.
use Rattle.std.proofs.Common.{◌≡◌, ◌↔◌, ℕ, Bool, true, false, not, List, [], ◌∷◌, refl, sym, ap, ◌∙◌, subst, inl, inr}
use Rattle.std.specs.Prelude.{Option, Some, None, find}
use Rattle.std.specs.List.{list_all}
use Rattle.std.proofs.lemmas.Bool.{cond-true, cond-false, and_parts, and_from, cases_Bool}
use Rattle.tcs_terms.specs.declared.ids.TxId.{TxId}
use Rattle.tcs_terms.specs.declared.inputs.Note.{Note}
use Rattle.tcs_terms.specs.declared.inputs.Note.TheVariants.{Begin, Take, ReadValue, Decide}
use Rattle.tcs_laws.specs.Certification.{Tests}
use Rattle.protocol.specs.Past.{with_past}
use Rattle.protocol.specs.History.{has_begun, order_of, payload_in, payloads_of}
use Rattle.protocol.specs.CorrectHistory.{agrees_after, agrees_with, agrees, passes_after, is_legal, clash_after, lost_after, IsCorrect}
use Rattle.protocol_laws.proofs.BegunFirst.{BegunFirst}
use Rattle.protocol_laws.proofs.KeepsTime.{keeps_time-of}
use Rattle.protocol_laws.proofs.WithPast.{with_past-each}
use Rattle.judge.specs.declared.verdicts.Verdict.{Verdict}
use Rattle.judge.specs.declared.verdicts.Clause.TheVariants.{Agreement, Legality, Clash, Lost}
use Rattle.judge.specs.Verdicts.{first_failing, first_decision, first_illegal, decided_in, decision_found, place_found, unless_fails, counted, verdict_on, SaysCorrect}

-- a search for what fails finds nothing exactly where all pass
none_fails : {X : Type 0} (p : X → Bool) (xs : List X) → find (λ x. not (p x)) xs ≡ None → list_all p xs ≡ true
none_fails p [] none = refl
none_fails p (x ∷ xs) none = elim (cases_Bool (p x)) [
  | inl passes ↦ and_from (p x) (list_all p xs) passes
      (none_fails p xs (sym (cond-false (not (p x)) (Some x) (find (λ y. not (p y)) xs) (ap not passes)) ∙ none))
  | inr fails ↦ absurd (let no = sym (cond-true (not (p x)) (Some x) (find (λ y. not (p y)) xs) (ap not fails)) ∙ none in cc)
]

all_pass : {X : Type 0} (p : X → Bool) (xs : List X) → list_all p xs ≡ true → find (λ x. not (p x)) xs ≡ None
all_pass p [] each = refl
all_pass p (x ∷ xs) each =
    let parts = and_parts (p x) (list_all p xs) each in
    cond-false (not (p x)) (Some x) (find (λ y. not (p y)) xs) (ap not parts.0) ∙ all_pass p xs parts.1

-- what is found fails
found_fails : {X : Type 0} (p : X → Bool) (xs : List X) (x : X) → find (λ y. not (p y)) xs ≡ Some x → p x ≡ false
found_fails p [] x found = absurd cc
found_fails p (y ∷ ys) x found = elim (cases_Bool (p y)) [
  | inl passes ↦ found_fails p ys x (sym (cond-false (not (p y)) (Some y) (find (λ z. not (p z)) ys) (ap not passes)) ∙ found)
  | inr fails ↦ (let one : Some y ≡ Some x = sym (cond-true (not (p y)) (Some y) (find (λ z. not (p z)) ys) (ap not fails)) ∙ found in
      let same : y ≡ x = cc in subst (λ z. p z ≡ false) same fails)
]

-- a test that only decisions can fail
module _ (test : List Note → Note → Bool) (others : (past : List Note) (n : Note) → decided_in n ≡ None → test past n ≡ true) where
  no_decision : (h : List Note) → first_decision test h ≡ None → list_all (λ e. test e.0 e.1) (with_past h) ≡ true
  no_decision h none = go (first_failing test h) refl none
    where
      go : (o : Option (List Note × Note)) → first_failing test h ≡ o → decision_found o ≡ None → list_all (λ e. test e.0 e.1) (with_past h) ≡ true
      go None e k = none_fails (λ (e : List Note × Note). test e.0 e.1) (with_past h) e
      go (Some x) e k =
          let fails : test x.0 x.1 ≡ false = found_fails (λ (e : List Note × Note). test e.0 e.1) (with_past h) x e in
          let passes : test x.0 x.1 ≡ true = others x.0 x.1 k in
          absurd (cc (fails, passes))

  each_decision : (h : List Note) → list_all (λ e. test e.0 e.1) (with_past h) ≡ true → first_decision test h ≡ None
  each_decision h each = ap decision_found (all_pass (λ (e : List Note × Note). test e.0 e.1) (with_past h) each)

agrees_others : (past : List Note) (n : Note) → decided_in n ≡ None → agrees_after past n ≡ true
agrees_others past (Begin txn payload) e = refl
agrees_others past (Take txn) e = refl
agrees_others past (ReadValue name version value) e = refl
agrees_others past (Decide txn decision) e = absurd cc

clash_others : (tests : Tests) (n : ℕ) (past : List Note) (note : Note) → decided_in note ≡ None → clash_after tests n past note ≡ true
clash_others tests n past (Begin txn payload) e = refl
clash_others tests n past (Take txn) e = refl
clash_others tests n past (ReadValue name version value) e = refl
clash_others tests n past (Decide txn decision) e = absurd cc

lost_others : (past : List Note) (n : Note) → decided_in n ≡ None → lost_after past n ≡ true
lost_others past (Begin txn payload) e = refl
lost_others past (Take txn) e = refl
lost_others past (ReadValue name version value) e = refl
lost_others past (Decide txn decision) e = absurd cc

no_illegal : (tests : Tests) (h : List Note) → first_illegal tests h ≡ None → is_legal tests h ≡ true
no_illegal tests h none = go (first_failing test (order_of h)) refl none
  where
    test : List TxId → TxId → Bool
    test before txn = passes_after tests (payloads_of h before) (payload_in h txn)

    go : (o : Option (List TxId × TxId)) → first_failing test (order_of h) ≡ o → place_found o ≡ None → is_legal tests h ≡ true
    go None e k = none_fails (λ (e : List TxId × TxId). test e.0 e.1) (with_past (order_of h)) e
    go (Some x) e k = absurd cc

each_legal : (tests : Tests) (h : List Note) → is_legal tests h ≡ true → first_illegal tests h ≡ None
each_legal tests h each =
    ap place_found (all_pass (λ (e : List TxId × TxId). passes_after tests (payloads_of h e.0) (payload_in h e.1)) (with_past (order_of h)) each)

-- each decision stands after a beginning
begun_first-of : (h : List Note) → agrees h ≡ true → BegunFirst h
begun_first-of h each = record {
  each = λ before txn decision after e.
      (and_parts (has_begun before txn) (list_all (agrees_with txn decision) before)
      (with_past-each (λ x. agrees_after x.0 x.1) h before (Decide txn decision) after each e)).0;
}

record NoneFails (a b c d : Option TxId) : Type 0 where
  agreement : a ≡ None
  legality : b ≡ None
  clash : c ≡ None
  lost : d ≡ None

none_of : (a b c d : Option TxId) (v : Verdict) → SaysCorrect (unless_fails Agreement a (unless_fails Legality b (unless_fails Clash c (unless_fails Lost d v)))) → NoneFails a b c d
none_of (Some t) b c d v says = absurd says
none_of None (Some t) c d v says = absurd says
none_of None None (Some t) d v says = absurd says
none_of None None None (Some t) v says = absurd says
none_of None None None None v says = record { agreement = refl; legality = refl; clash = refl; lost = refl }

pub exact : (tests : Tests) (n : ℕ) (h : List Note) (v : Verdict) → v ≡ verdict_on tests n h → SaysCorrect v ↔ IsCorrect tests n h
exact tests n h v is = (λ says. correct (subst SaysCorrect is says), λ holds. subst SaysCorrect (sym is) (said holds))
  where
    correct : SaysCorrect (verdict_on tests n h) → IsCorrect tests n h
    correct says =
        let none : NoneFails (first_decision agrees_after h) (first_illegal tests h) (first_decision (clash_after tests n) h) (first_decision lost_after h) = none_of _ _ _ _ (counted h) says in
        let agreement : agrees h ≡ true = no_decision agrees_after agrees_others h none.agreement in
        record {
          agreement = agreement;
          legality = no_illegal tests h none.legality;
          real_time = keeps_time-of h (begun_first-of h agreement);
          clash_cause = no_decision (clash_after tests n) (clash_others tests n) h none.clash;
          lost_cause = no_decision lost_after lost_others h none.lost;
        }

    said : IsCorrect tests n h → SaysCorrect (verdict_on tests n h)
    said holds =
        let a : first_decision agrees_after h ≡ None = each_decision agrees_after agrees_others h holds.agreement in
        let b : first_illegal tests h ≡ None = each_legal tests h holds.legality in
        let c : first_decision (clash_after tests n) h ≡ None = each_decision (clash_after tests n) (clash_others tests n) h holds.clash_cause in
        let d : first_decision lost_after h ≡ None = each_decision lost_after lost_others h holds.lost_cause in
        subst (λ o. SaysCorrect (unless_fails Agreement o (unless_fails Legality (first_illegal tests h) (unless_fails Clash (first_decision (clash_after tests n) h) (unless_fails Lost (first_decision lost_after h) (counted h)))))) (sym a)
        (subst (λ o. SaysCorrect (unless_fails Legality o (unless_fails Clash (first_decision (clash_after tests n) h) (unless_fails Lost (first_decision lost_after h) (counted h))))) (sym b)
        (subst (λ o. SaysCorrect (unless_fails Clash o (unless_fails Lost (first_decision lost_after h) (counted h)))) (sym c)
        (subst (λ o. SaysCorrect (unless_fails Lost o (counted h))) (sym d) tt)))
