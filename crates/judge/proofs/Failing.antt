-- The first place at which a test fails, as a list is gone through.
use Rattle.std.proofs.Common.{◌≡◌, ℕ, ◌+◌, ◌<◌, ◌≤◌, Bool, true, false, not, List, [], ◌∷◌, ◌++◌, length, get_or, take, drop, sym, ap, ◌∙◌}
use Rattle.std.specs.Prelude.{Option, Some, None, find}
use Rattle.std.proofs.lemmas.List.{drop_more, drop_all, take_more}
use Rattle.std.proofs.lemmas.Bool.{cond-true, cond-false}
use Rattle.tcs_terms.specs.declared.ids.TxId.{TxId}
use Rattle.tcs_terms.specs.declared.inputs.Note.{Note}
use Rattle.protocol.specs.Past.{after_past}
use Rattle.judge.specs.Verdicts.{first_failing, first_decision, decided_in, decision_found, place_found}

-- the first element of the rest of a list that fails a test, with those before it
abbrev pub failing_from : {X : Type 0} → (List X → X → Bool) → List X → List X → Option (List X × X)
failing_from test past rest = find (λ e. not (test e.0 e.1)) (after_past past rest)

-- the rest of a list, and its front with one element more
pub rest_at : {X : Type 0} (xs : List X) (i : ℕ) (x : X) → i < length xs → x ≡ get_or xs i x → drop i xs ≡ x ∷ drop (i + 1) xs
rest_at xs i x within is = drop_more xs i x within ∙ ap (λ y. y ∷ drop (i + 1) xs) (sym is)

pub front_at : {X : Type 0} (xs : List X) (i : ℕ) (x : X) → i < length xs → x ≡ get_or xs i x → take (i + 1) xs ≡ take i xs ++ x ∷ []
front_at xs i x within is = take_more xs i x within ∙ ap (λ y. take i xs ++ y ∷ []) (sym is)

-- where an element passes, the search goes on behind it
pub failing_next : {X : Type 0} (test : List X → X → Bool) (xs : List X) (i : ℕ) (x : X) → i < length xs → x ≡ get_or xs i x
    → test (take i xs) x ≡ true → failing_from test (take i xs) (drop i xs) ≡ failing_from test (take (i + 1) xs) (drop (i + 1) xs)
failing_next test xs i x within is passes =
    ap (λ ys. failing_from test (take i xs) ys) (rest_at xs i x within is)
    ∙ cond-false (not (test (take i xs) x)) (Some (take i xs, x)) (failing_from test (take i xs ++ x ∷ []) (drop (i + 1) xs)) (ap not passes)
    ∙ ap (λ ys. failing_from test ys (drop (i + 1) xs)) (sym (front_at xs i x within is))

-- where it fails, it is found
pub failing_here : {X : Type 0} (test : List X → X → Bool) (xs : List X) (i : ℕ) (x : X) → i < length xs → x ≡ get_or xs i x
    → test (take i xs) x ≡ false → failing_from test (take i xs) (drop i xs) ≡ Some (take i xs, x)
failing_here test xs i x within is fails =
    ap (λ ys. failing_from test (take i xs) ys) (rest_at xs i x within is)
    ∙ cond-true (not (test (take i xs) x)) (Some (take i xs, x)) (failing_from test (take i xs ++ x ∷ []) (drop (i + 1) xs)) (ap not fails)

-- at the end none is left
pub failing_end : {X : Type 0} (test : List X → X → Bool) (xs : List X) (i : ℕ) → length xs ≤ i → failing_from test (take i xs) (drop i xs) ≡ None
failing_end test xs i end = ap (λ ys. failing_from test (take i xs) ys) (drop_all i xs end)

-- the search from the first element on has come so far
abbrev pub ComesTo : {X : Type 0} → (List X → X → Bool) → List X → ℕ → Type 0
ComesTo test xs i = first_failing test xs ≡ failing_from test (take i xs) (drop i xs)

pub decision_here : (test : List Note → Note → Bool) (h : List Note) (i : ℕ) (n : Note) → i < length h → n ≡ get_or h i n → ComesTo test h i
    → test (take i h) n ≡ false → decided_in n ≡ first_decision test h
decision_here test h i n within is comes fails = sym (ap decision_found (comes ∙ failing_here test h i n within is fails))

pub decision_none : (test : List Note → Note → Bool) (h : List Note) (i : ℕ) → length h ≤ i → ComesTo test h i → None ≡ first_decision test h
decision_none test h i end comes = sym (ap decision_found (comes ∙ failing_end test h i end))

pub place_here : (test : List TxId → TxId → Bool) (order : List TxId) (i : ℕ) (t : TxId) → i < length order → t ≡ get_or order i t
    → ComesTo test order i → test (take i order) t ≡ false → Some t ≡ place_found (first_failing test order)
place_here test order i t within is comes fails = sym (ap place_found (comes ∙ failing_here test order i t within is fails))

pub place_none : (test : List TxId → TxId → Bool) (order : List TxId) (i : ℕ) → length order ≤ i → ComesTo test order i
    → None ≡ place_found (first_failing test order)
place_none test order i end comes = sym (ap place_found (comes ∙ failing_end test order i end))
