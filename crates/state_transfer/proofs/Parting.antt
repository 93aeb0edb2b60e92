-- Pieces in order of their numbers, parted at a number.
use Rattle.std.proofs.Common.{◌≡◌, ℕ, Bool, true, false, ltb, eqb, cond, List, [], ◌∷◌, ◌++◌, filter, inl, inr, refl, ap, arith}
use Rattle.std.proofs.lemmas.Bool.{ltb-true}
use Rattle.std.proofs.lemmas.Bool.Decides.{nat_tests}
use Rattle.tcs_terms.proofs.BoolLaws.{neither_left, neither_right}
use Rattle.protocol.specs.Invariant.Time.{StandsIn}
use Rattle.protocol.specs.Records.{Piece}
use Rattle.protocol.specs.Pieces.{is_kept}
use Rattle.state_transfer.proofs.Chains.{Chain, Rising}

-- the pieces of lower, and of higher numbers
abbrev pub lower : ℕ → List Piece → List Piece
lower number kept = filter (λ p. ltb p.number number) kept

abbrev pub upper : ℕ → List Piece → List Piece
upper number kept = filter (λ p. ltb number p.number) kept

abbrev pub number_of : Piece → ℕ
number_of p = p.number

-- an element of a filtered list, and the other way round
stands_filtered : {X : Type 0} (test : X → Bool) (xs : List X) (x : X) → StandsIn x (filter test xs) → StandsIn x xs × (test x ≡ true)
stands_filtered test [] x s = absurd s
stands_filtered {X = X} test (y ∷ ys) x s = go (test y) refl s (stands_filtered test ys x) where
  go : (b : Bool) → test y ≡ b → StandsIn x (cond b (y ∷ filter test ys) (filter test ys)) → (StandsIn x (filter test ys) → StandsIn x ys × (test x ≡ true)) → StandsIn x (y ∷ ys) × (test x ≡ true)
  go true e (inl q) more = (inl q, rw q e)
  go true e (inr q) more = let m = more q in (inr m.0, m.1)
  go false e q more = let m = more q in (inr m.0, m.1)

pub filtered_stands : {X : Type 0} (test : X → Bool) (xs : List X) (x : X) → StandsIn x xs → test x ≡ true → StandsIn x (filter test xs)
filtered_stands test [] x s passes = absurd s
filtered_stands {X = X} test (y ∷ ys) x s passes = go (test y) refl s (λ t. filtered_stands test ys x t passes) where
  go : (b : Bool) → test y ≡ b → StandsIn x (y ∷ ys) → (StandsIn x ys → StandsIn x (filter test ys)) → StandsIn x (cond b (y ∷ filter test ys) (filter test ys))
  go true e (inl q) more = inl q
  go true e (inr q) more = inr (more q)
  go false e (inl q) more = absurd (let wrong : test x ≡ false = rw q e in cc)
  go false e (inr q) more = more q

none_pass : {X : Type 0} (test : X → Bool) (xs : List X) → ((x : X) → StandsIn x xs → test x ≡ false) → filter test xs ≡ []
none_pass test [] none = refl
none_pass test (x ∷ xs) none = rw (none x (inl refl)) (none_pass test xs (λ y s. none y (inr s)))

all_pass : {X : Type 0} (test : X → Bool) (xs : List X) → ((x : X) → StandsIn x xs → test x ≡ true) → filter test xs ≡ xs
all_pass test [] all = refl
all_pass test (x ∷ xs) all = rw (all x (inl refl)) (ap (λ (ys : List _). x ∷ ys) (all_pass test xs (λ y s. all y (inr s))))

-- kept pieces are those of lower and then those of higher numbers, where there is none of this number
pub parted : (number : ℕ) (kept : List Piece) → Chain (Rising number_of) kept → is_kept kept number ≡ false → lower number kept ++ upper number kept ≡ kept
parted number [] chain new = refl
parted number (p ∷ ps) chain new =
    go (ltb p.number number) refl (ltb number p.number) refl (parted number ps chain.1 (neither_right (eqb p.number number) (is_kept ps number) new)) where
      go : (a : Bool) → ltb p.number number ≡ a → (b : Bool) → ltb number p.number ≡ b → lower number ps ++ upper number ps ≡ ps
          → cond a (p ∷ lower number ps) (lower number ps) ++ cond b (p ∷ upper number ps) (upper number ps) ≡ p ∷ ps
      go true e false f rest = ap (λ (qs : List Piece). p ∷ qs) rest
      go true e true f rest = absurd (let x = ltb-true p.number number e in let y = ltb-true number p.number f in omega arith)
      go false e true f rest =
          let above = ltb-true number p.number f in
          rw (
            none_pass (λ q. ltb q.number number) ps (λ q s. let q_above = chain.0 q s in grind (arith, nat_tests)),
            all_pass (λ q. ltb number q.number) ps (λ q s. let q_above = chain.0 q s in grind (arith, nat_tests)),
          ) refl
      go false e false f rest = absurd (let other = neither_left (eqb p.number number) (is_kept ps number) new in grind (arith, nat_tests))

pub lower_number : (kept : List Piece) (piece p : Piece) → StandsIn p (lower piece.number kept) → StandsIn p kept × (ltb p.number piece.number ≡ true)
lower_number kept piece p s = stands_filtered (λ p. ltb p.number piece.number) kept p s

pub upper_number : (kept : List Piece) (piece p : Piece) → StandsIn p (upper piece.number kept) → StandsIn p kept × (ltb piece.number p.number ≡ true)
upper_number kept piece p s = stands_filtered (λ p. ltb piece.number p.number) kept p s

pub other_number : (kept : List Piece) (number : ℕ) (p : Piece) → is_kept kept number ≡ false → StandsIn p kept → eqb p.number number ≡ false
other_number [] number p new s = absurd s
other_number (q ∷ qs) number p new (inl e) = rw e (neither_left (eqb q.number number) (is_kept qs number) new)
other_number (q ∷ qs) number p new (inr s) = other_number qs number p (neither_right (eqb q.number number) (is_kept qs number) new) s
