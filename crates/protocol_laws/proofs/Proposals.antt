-- What a prober proposes is a configuration.
use Rattle.std.proofs.Common.{◌≡◌, ℕ, ◌+◌, ◌≤◌, Bool, true, false, ◌&&◌, ◌||◌, ◌==◌, IsTrue, cond, List, [], ◌∷◌, ◌++◌, length, filter, refl, sym, ◌∙◌, ap, arith, length-append}
use Rattle.std.specs.Prelude.{nat_lt, nat_le}
use Rattle.std.specs.List.{list_all, list_any}
use Rattle.std.proofs.lemmas.Bool.Decides.{nat_tests}
use Rattle.std.proofs.lemmas.List.{map-id}
use Rattle.std.proofs.lemmas.List.Folds.{list_any-append, list_all-append}
use Rattle.tcs_terms.specs.declared.limits.TheConstants.{MAX_WANTED, MAX_NODES}
use Rattle.tcs_terms.specs.declared.inputs.Input.TheVariants.{Move}
use Rattle.tcs_terms.specs.Events.{InputInRange}
use Rattle.tcs_terms.specs.Order.{ascends}
use Rattle.tcs_terms.specs.Places.{is_shard, is_node, is_epoch, IsMembership}
use Rattle.tcs_terms.proofs.BoolLaws.{both, left_of, right_of}
use Rattle.tcs_terms.proofs.OrderLaws.{numbers_skip, kept_ascends, kept_pass}
use Rattle.protocol.specs.Probing.{joined, proposed}

-- the numbers below one and those above it are no more than all
few_apart : (n : ℕ) (xs : List ℕ) → length (filter (λ m. nat_lt m n) xs) + length (filter (λ m. nat_lt n m) xs) ≤ length xs
few_apart n [] = omega arith
few_apart n (x ∷ xs) = go (nat_lt x n) (nat_lt n x) refl refl (few_apart n xs)
  where
    go : (a b : Bool) → nat_lt x n ≡ a → nat_lt n x ≡ b → length (filter (λ m. nat_lt m n) xs) + length (filter (λ m. nat_lt n m) xs) ≤ length xs
        → length (cond a (x ∷ filter (λ m. nat_lt m n) xs) (filter (λ m. nat_lt m n) xs)) + length (cond b (x ∷ filter (λ m. nat_lt n m) xs) (filter (λ m. nat_lt n m) xs)) ≤ length (x ∷ xs)
    go true true p q h = absurd (grind (arith, nat_tests))
    go true false p q h = omega arith
    go false true p q h = omega arith
    go false false p q h = omega arith

-- what a test leaves passes it
left_pass : (p : ℕ → Bool) (xs : List ℕ) → list_all p (filter p xs) ≡ true
left_pass p [] = refl
left_pass p (x ∷ xs) = go (p x) refl (left_pass p xs)
  where
    go : (b : Bool) → p x ≡ b → list_all p (filter p xs) ≡ true → list_all p (cond b (x ∷ filter p xs) (filter p xs)) ≡ true
    go true e h = both (p x) (list_all p (filter p xs)) e h
    go false e h = h

-- a list that ascends above a number ascends with it in front
ascends_above : (n : ℕ) (ys : List ℕ) → list_all (λ m. nat_lt n m) ys ≡ true → ascends ys ≡ true → ascends (n ∷ ys) ≡ true
ascends_above n [] above h = refl
ascends_above n (y ∷ ys) above h =
    both (nat_lt n y) (ascends (y ∷ ys)) (left_of (nat_lt n y) (list_all (λ m. nat_lt n m) ys) above) h

-- lists that ascend below a number and from it on ascend together
ascends_around : (n : ℕ) (xs ys : List ℕ) → list_all (λ m. nat_lt m n) xs ≡ true → ascends xs ≡ true → ascends (n ∷ ys) ≡ true → ascends (xs ++ n ∷ ys) ≡ true
ascends_around n [] ys below h k = k
ascends_around n (x ∷ []) ys below h k =
    both (nat_lt x n) (ascends (n ∷ ys)) (left_of (nat_lt x n) true below) k
ascends_around n (x ∷ y ∷ xs) ys below h k =
    both (nat_lt x y) (ascends ((y ∷ xs) ++ n ∷ ys)) (left_of (nat_lt x y) (ascends (y ∷ xs)) h)
    (ascends_around n (y ∷ xs) ys (right_of (nat_lt x n) (list_all (λ m. nat_lt m n) (y ∷ xs)) below) (right_of (nat_lt x y) (ascends (y ∷ xs)) h) k)

-- what a test leaves of a list that ascends ascends
left_ascends : (p : ℕ → Bool) (xs : List ℕ) → ascends xs ≡ true → ascends (filter p xs) ≡ true
left_ascends p xs h =
    sym (ap ascends (map-id (filter p xs))) ∙ kept_ascends nat_lt numbers_skip (λ x. x) p xs (ap ascends (map-id xs) ∙ h)

right_holds : (a b : Bool) → b ≡ true → (a || b) ≡ true
right_holds true b h = refl
right_holds false b h = h

-- the wanted nodes and the leader are the members of a configuration that it leads
pub proposed-IsMembership : (me shard epoch : ℕ) (want : List ℕ) (leader : ℕ) → me ≤ MAX_NODES → InputInRange (Move shard want) → IsTrue (is_epoch epoch) → IsTrue (is_node leader)
    → IsMembership (proposed me shard epoch want leader)
proposed-IsMembership me shard epoch want leader proposer movable at node =
    let below = filter (λ m. nat_lt m leader) want in
    let above = filter (λ m. nat_lt leader m) want in
    let apart = few_apart leader want in
    let size : length (joined leader want) ≡ length below + length (leader ∷ above) = length-append below (leader ∷ above) in
    let placed = left_of (is_shard shard && nat_le (length want) MAX_WANTED && list_all is_node want) (ascends want) movable in
    let order = right_of (is_shard shard && nat_le (length want) MAX_WANTED && list_all is_node want) (ascends want) movable in
    let sized = left_of (is_shard shard && nat_le (length want) MAX_WANTED) (list_all is_node want) placed in
    let nodes = right_of (is_shard shard && nat_le (length want) MAX_WANTED) (list_all is_node want) placed in
    let few : length want ≤ MAX_WANTED = let h = right_of (is_shard shard) (nat_le (length want) MAX_WANTED) sized in grind (arith, nat_tests) in
    record {
      some = omega (arith, size);
      few = omega (arith, size, apart, few);
      each = list_all-append is_node below (leader ∷ above) ∙ both (list_all is_node below) (list_all is_node (leader ∷ above)) (kept_pass is_node (λ m. nat_lt m leader) want nodes) (both (is_node leader) (list_all is_node above) node (kept_pass is_node (λ m. nat_lt leader m) want nodes));
      ascend = ascends_around leader below above (left_pass (λ m. nat_lt m leader) want) (left_ascends (λ m. nat_lt m leader) want order) (ascends_above leader above (left_pass (λ m. nat_lt leader m) want) (left_ascends (λ m. nat_lt leader m) want order));
      leads = list_any-append (λ m. m == leader) below (leader ∷ above) ∙ right_holds (list_any (λ m. m == leader) below) ((leader == leader) || list_any (λ m. m == leader) above) (grind (arith, nat_tests));
      shard = left_of (is_shard shard) (nat_le (length want) MAX_WANTED) sized;
      epoch = at;
      by = proposer;
    }
