-- Tests of each element of a list with those before it, and an element between others.
use Rattle.std.proofs.Common.{◌≡◌, Bool, true, List, [], ◌∷◌, ◌++◌, inl, inr, sym, ap, subst, refl, append_assoc, append-nil}
use Rattle.std.specs.List.{list_all, list_any}
use Rattle.std.proofs.lemmas.Bool.{and_from, or_left, or_right}
use Rattle.protocol.specs.Past.{after_past, with_past}
use Rattle.protocol.specs.Invariant.Time.{StandsIn}
use Rattle.tcs_terms.proofs.BoolLaws.{left_of, right_of}

-- a test of all pairs, from one of each place
all-after_past : {X : Type 0} (p : (List X × X) → Bool) (past xs : List X) → ((before : List X) (x : X) (after : List X) → xs ≡ before ++ (x ∷ after) → p (past ++ before, x) ≡ true) → list_all p (after_past past xs) ≡ true
all-after_past p past [] h = refl
all-after_past {X} p past (y ∷ ys) h =
    and_from (p (past, y)) (list_all p (after_past (past ++ y ∷ []) ys))
    (subst (λ zs. p (zs, y) ≡ true) (append-nil past) (h [] y ys refl))
    (all-after_past p (past ++ y ∷ []) ys (λ before x after e. subst (λ zs. p (zs, x) ≡ true) (sym (append_assoc past (y ∷ []) before)) (h (y ∷ before) x after (ap (λ zs. y ∷ zs) e))))

pub all-with_past : {X : Type 0} (p : (List X × X) → Bool) (xs : List X) → ((before : List X) (x : X) (after : List X) → xs ≡ before ++ (x ∷ after) → p (before, x) ≡ true) → list_all p (with_past xs) ≡ true
all-with_past p xs h = all-after_past p [] xs h

-- a place that passes is among the pairs
any-after_past : {X : Type 0} (p : (List X × X) → Bool) (past before : List X) (x : X) (after : List X) → p (past ++ before, x) ≡ true → list_any p (after_past past (before ++ (x ∷ after))) ≡ true
any-after_past p past [] x after h = or_left (p (past, x)) (list_any p (after_past (past ++ x ∷ []) after)) (subst (λ zs. p (zs, x) ≡ true) (append-nil past) h)
any-after_past p past (y ∷ before) x after h =
    or_right (p (past, y)) (list_any p (after_past (past ++ y ∷ []) (before ++ (x ∷ after))))
    (any-after_past p (past ++ y ∷ []) before x after (subst (λ zs. p (zs, x) ≡ true) (sym (append_assoc past (y ∷ []) before)) h))

pub any-with_past : {X : Type 0} (p : (List X × X) → Bool) (before : List X) (x : X) (after : List X) → p (before, x) ≡ true → list_any p (with_past (before ++ (x ∷ after))) ≡ true
any-with_past p before x after h = any-after_past p [] before x after h

-- an element that stands in a list stands between others
pub record StandsBetween {X : Type 0} (x : X) (xs : List X) : Type 0 where
  pub before : List X
  pub after : List X
  pub is : xs ≡ before ++ (x ∷ after)

pub stands_between : {X : Type 0} (xs : List X) (x : X) → StandsIn x xs → StandsBetween x xs
stands_between [] x s = absurd s
stands_between (y ∷ ys) x (inl e) = record { before = []; after = ys; is = ap (λ z. z ∷ ys) (sym e) }
stands_between (y ∷ ys) x (inr s) = let b : StandsBetween x ys = stands_between ys x s in record { before = y ∷ b.before; after = b.after; is = ap (λ zs. y ∷ zs) b.is }

after_past-each : {X : Type 0} (p : (List X × X) → Bool) (past before : List X) (x : X) (after : List X) → list_all p (after_past past (before ++ (x ∷ after))) ≡ true → p (past ++ before, x) ≡ true
after_past-each p past [] x after h =
    subst (λ ys. p (ys, x) ≡ true) (sym (append-nil past)) (left_of (p (past, x)) (list_all p (after_past (past ++ x ∷ []) after)) h)
after_past-each p past (y ∷ ys) x after h =
    subst (λ zs. p (zs, x) ≡ true) (append_assoc past (y ∷ []) ys)
    (after_past-each p (past ++ y ∷ []) ys x after (right_of (p (past, y)) (list_all p (after_past (past ++ y ∷ []) (ys ++ (x ∷ after)))) h))

-- a test of each element with those before it, at one place
pub with_past-each : {X : Type 0} (p : (List X × X) → Bool) (xs before : List X) (x : X) (after : List X) → list_all p (with_past xs) ≡ true → xs ≡ before ++ (x ∷ after) → p (before, x) ≡ true
with_past-each p xs before x after h e = after_past-each p [] before x after (subst (λ ys. list_all p (after_past [] ys) ≡ true) e h)
