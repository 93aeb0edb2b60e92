-- What is left of a list for one receiver where the first alien for a receiver is taken.
use Rattle.std.proofs.Common.{◌≡◌, ℕ, zero, suc, ◌<◌, ◌≤◌, Bool, true, false, cond, ◌==◌, List, [], ◌∷◌, length, get_or, drop, refl, ap, ◌∙◌, arith}
use Rattle.std.specs.Prelude.{Some, None, map, filter, nat_lt, if◌then◌else◌}
use Rattle.std.specs.List.{remove, position, position_or_len, slice_get}
use Rattle.std.proofs.lemmas.List.Quantifiers.{position-Some}
use Rattle.std.proofs.lemmas.Bool.Decides.{nat_tests}
use Rattle.tcs_link.specs.declared.mail.Alien.{Alien}
use Rattle.tcs_link.specs.Network.{arrives, aliens_for}

-- the first that passes stands first among those that pass
filter_first : {X : Type 0} (p : X → Bool) (xs : List X) (i : ℕ) (d : X) → i < length xs → p (get_or xs i d) ≡ true → ((k : ℕ) → k < i → p (get_or xs k d) ≡ false)
    → filter p xs ≡ get_or xs i d ∷ filter p (remove xs i)
filter_first p [] i d within passes before = absurd (omega arith)
filter_first p (x ∷ xs) zero d within passes before = rw passes refl
filter_first p (x ∷ xs) (suc i) d within passes before =
    rw (before 0 (omega arith)) (filter_first p xs i d (omega arith) passes (λ k below. before (suc k) (omega arith)))

-- one that does not pass is taken from among those that pass without a trace
filter_other : {X : Type 0} (p : X → Bool) (xs : List X) (i : ℕ) (d : X) → i < length xs → p (get_or xs i d) ≡ false → filter p (remove xs i) ≡ filter p xs
filter_other p [] i d within fails = absurd (omega arith)
filter_other p (x ∷ xs) zero d within fails = rw fails refl
filter_other p (x ∷ xs) (suc i) d within fails = rw (filter_other p xs i d (omega arith) fails) refl

filter_none : {X : Type 0} (p : X → Bool) (xs : List X) → length xs ≤ position_or_len p xs → filter p xs ≡ []
filter_none p [] past = refl
filter_none p (x ∷ xs) past = go (p x) refl (filter_none p xs)
  where
    go : (b : Bool) → p x ≡ b → (length xs ≤ position_or_len p xs → filter p xs ≡ []) → cond (p x) (x ∷ filter p xs) (filter p xs) ≡ []
    go true is rest = absurd (let h = rw is at past in omega arith)
    go false is rest = let h = rw is at past in rw is (rest (omega arith))

pub none_for : (aliens : List Alien) (node : ℕ) → position (λ (alien : Alien). alien.to == node) aliens ≡ None → aliens_for node aliens ≡ []
none_for aliens node none = rw (filter_none (λ (alien : Alien). alien.to == node) aliens (past (nat_lt (position_or_len (λ (alien : Alien). alien.to == node) aliens) (length aliens)) refl none)) refl
  where
    past : (b : Bool) → nat_lt (position_or_len (λ (alien : Alien). alien.to == node) aliens) (length aliens) ≡ b
        → cond (nat_lt (position_or_len (λ (alien : Alien). alien.to == node) aliens) (length aliens)) (Some (position_or_len (λ (alien : Alien). alien.to == node) aliens)) None ≡ None
        → length aliens ≤ position_or_len (λ (alien : Alien). alien.to == node) aliens
    past true is none = let h = rw is at none in cc
    past false is none = grind (arith, nat_tests)

pub first_for : (aliens : List Alien) (node i : ℕ) (d : Alien) → position (λ (alien : Alien). alien.to == node) aliens ≡ Some i → Some (arrives (get_or aliens i d)) ≡ slice_get (aliens_for node aliens) 0
first_for aliens node i d is =
    let h = position-Some (λ (alien : Alien). alien.to == node) aliens i d is in
    rw (filter_first (λ (alien : Alien). alien.to == node) aliens i d h.0 h.1 h.2) refl

pub rest_for : (aliens : List Alien) (node i : ℕ) (d : Alien) → position (λ (alien : Alien). alien.to == node) aliens ≡ Some i
    → (n : ℕ) → aliens_for n (remove aliens i) ≡ (if n == node then drop 1 (aliens_for n aliens) else aliens_for n aliens)
rest_for aliens node i d is n = go (n == node) refl (position-Some (λ (alien : Alien). alien.to == node) aliens i d is)
  where
    go : (b : Bool) → (n == node) ≡ b → ((i < length aliens) × ((get_or aliens i d).to == node) ≡ true × ((k : ℕ) → k < i → ((get_or aliens k d).to == node) ≡ false))
        → aliens_for n (remove aliens i) ≡ cond (n == node) (drop 1 (aliens_for n aliens)) (aliens_for n aliens)
    go true same h =
        let e : n ≡ node = grind (arith, nat_tests) in
        rw (same, e, filter_first (λ (alien : Alien). alien.to == node) aliens i d h.0 h.1 h.2) refl
    go false other h = rw other (ap (map arrives) (filter_other (λ (alien : Alien). alien.to == n) aliens i d h.0 (apart h.1)))
      where
        apart : ((get_or aliens i d).to == node) ≡ true → ((get_or aliens i d).to == n) ≡ false
        apart at = grind (arith, nat_tests)

-- nothing is taken from a receiver where there is no alien for it
pub rest_none : (aliens : List Alien) (node : ℕ) → position (λ (alien : Alien). alien.to == node) aliens ≡ None
    → (n : ℕ) → aliens_for n aliens ≡ (if n == node then drop 1 (aliens_for n aliens) else aliens_for n aliens)
rest_none aliens node none n = go (n == node) refl
  where
    go : (b : Bool) → (n == node) ≡ b → aliens_for n aliens ≡ cond (n == node) (drop 1 (aliens_for n aliens)) (aliens_for n aliens)
    go true same =
        let e : n ≡ node = grind (arith, nat_tests) in
        let z : aliens_for n aliens ≡ [] = ap (λ m. aliens_for m aliens) e ∙ none_for aliens node none in
        rw (same, z) refl
    go false other = rw other refl
