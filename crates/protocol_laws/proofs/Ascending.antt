-- Lists whose keys ascend or differ: an element is found by its key.
use Rattle.std.proofs.Common.{◌≡◌, ℕ, ◌<◌, true, false, not, nat_lt, List, [], ◌∷◌, map, inl, inr, sym, ◌∙◌, ap, refl, arith, ltb-true}
use Rattle.std.specs.List.{list_any}
use Rattle.tcs_terms.specs.declared.ids.TxId.{TxId}
use Rattle.tcs_terms.specs.Logs.{same_txn, txns_differ}
use Rattle.tcs_terms.specs.Order.{ascends}
use Rattle.tcs_terms.proofs.BoolLaws.{left_of, right_of, not_false}
use Rattle.protocol.specs.Invariant.Time.{StandsIn}
use Rattle.protocol_laws.proofs.Standing.{StandsIn-map, any-from}
use Rattle.protocol_laws.proofs.SameTxn.{same_txn-self}

pub tail-ascends : {X : Type 0} (f : X → ℕ) (x : X) (xs : List X) → ascends (map f (x ∷ xs)) ≡ true → ascends (map f xs) ≡ true
tail-ascends f x [] up = refl
tail-ascends f x (y ∷ ys) up = right_of (nat_lt (f x) (f y)) (ascends (map f (y ∷ ys))) up

-- the keys of the others are above the first
pub tail-above : {X : Type 0} (f : X → ℕ) (x : X) (xs : List X) (y : X) → ascends (map f (x ∷ xs)) ≡ true → StandsIn y xs → f x < f y
tail-above f x [] y up s = absurd s
tail-above f x (z ∷ zs) y up (inl e) =
    let k : f x < f z = ltb-true (f x) (f z) (left_of (nat_lt (f x) (f z)) (ascends (map f (z ∷ zs))) up) in
    let m : f y ≡ f z = ap f e in omega (arith, k, m)
tail-above f x (z ∷ zs) y up (inr s) =
    let k : f x < f z = ltb-true (f x) (f z) (left_of (nat_lt (f x) (f z)) (ascends (map f (z ∷ zs))) up) in
    let m : f z < f y = tail-above f z zs y (right_of (nat_lt (f x) (f z)) (ascends (map f (z ∷ zs))) up) s in omega (arith, k, m)

-- two of one key are one
pub ascending-one : {X : Type 0} (f : X → ℕ) (xs : List X) (a b : X) → ascends (map f xs) ≡ true → StandsIn a xs → StandsIn b xs → f a ≡ f b → a ≡ b
ascending-one f [] a b up p q e = absurd p
ascending-one f (x ∷ xs) a b up (inl p) (inl q) e = p ∙ sym q
ascending-one f (x ∷ xs) a b up (inl p) (inr q) e = absurd (let k : f x < f b = tail-above f x xs b up q in let m : f a ≡ f x = ap f p in omega (arith, k, m, e))
ascending-one f (x ∷ xs) a b up (inr p) (inl q) e = absurd (let k : f x < f a = tail-above f x xs a up p in let m : f b ≡ f x = ap f q in omega (arith, k, m, e))
ascending-one f (x ∷ xs) a b up (inr p) (inr q) e = ascending-one f xs a b (tail-ascends f x xs up) p q e

-- a transaction that stands first stands nowhere else
pub txn_apart : {X : Type 0} (f : X → TxId) (x : X) (xs : List X) (y : X) → txns_differ (map f (x ∷ xs)) ≡ true → StandsIn y xs → f y ≡ f x → ⊥
txn_apart f x xs y d s e =
    let k : list_any (same_txn (f x)) (map f xs) ≡ true = any-from (same_txn (f x)) (map f xs) (f y) (StandsIn-map f xs y s) (ap (same_txn (f x)) e ∙ same_txn-self (f x)) in
    let m : list_any (same_txn (f x)) (map f xs) ≡ false = not_false (list_any (same_txn (f x)) (map f xs)) (left_of (not (list_any (same_txn (f x)) (map f xs))) (txns_differ (map f xs)) d) in
    cc (k, m)

-- two of one transaction are one
pub txns-one : {X : Type 0} (f : X → TxId) (xs : List X) (a b : X) → txns_differ (map f xs) ≡ true → StandsIn a xs → StandsIn b xs → f a ≡ f b → a ≡ b
txns-one f [] a b d p q e = absurd p
txns-one f (x ∷ xs) a b d (inl p) (inl q) e = p ∙ sym q
txns-one f (x ∷ xs) a b d (inl p) (inr q) e = absurd (txn_apart f x xs b d q (sym e ∙ ap f p))
txns-one f (x ∷ xs) a b d (inr p) (inl q) e = absurd (txn_apart f x xs a d p (e ∙ ap f q))
txns-one f (x ∷ xs) a b d (inr p) (inr q) e = txns-one f xs a b (right_of (not (list_any (same_txn (f x)) (map f xs))) (txns_differ (map f xs)) d) p q e
