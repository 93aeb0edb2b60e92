-- The shards of a payload are those in which it has a part.
use Rattle.std.proofs.Common.{◌≡◌, ℕ, suc, ◌≤◌, Bool, true, false, cond, not, ◌&&◌, ◌||◌, ◌==◌, List, [], ◌∷◌, filter, length, Some, None, subst, refl, arith, ne_eqb}
use Rattle.std.specs.List.{list_any, range_with_len}
use Rattle.tcs_terms.specs.Payloads.{Accesses, IsPayload}
use Rattle.tcs_terms.specs.Shards.{lies_in, part_in, restricted, shards_of}
use Rattle.tcs_terms.proofs.ShardLaws.{part_is_payload}
use Rattle.protocol.specs.Invariant.Time.{StandsIn}
use Rattle.protocol_laws.proofs.Standing.{StandsIn-filter, filter-StandsIn, StandsIn-range}

-- a filter keeps nothing exactly where nothing passes
none_kept : {X : Type 0} (f : X → Bool) (xs : List X) → (length (filter f xs) == 0) ≡ not (list_any f xs)
none_kept f [] = refl
none_kept f (x ∷ xs) = go (f x) (none_kept f xs)
  where
    go : (b : Bool) → (length (filter f xs) == 0) ≡ not (list_any f xs) → (length (cond b (x ∷ filter f xs) (filter f xs)) == 0) ≡ not (b || list_any f xs)
    go true h = ne_eqb (suc (length (filter f xs))) 0 (λ e. absurd (omega (arith, e)))
    go false h = h

-- where a payload has a part, there is one of its shards
pub part-shard : (n shard : ℕ) (p q : Accesses) → 1 ≤ shard → shard ≤ n → restricted n shard p ≡ Some q → StandsIn shard (shards_of n p)
part-shard n shard p q l h e = go (length p.ranges == 0) (list_any (λ r. lies_in n shard r.name) p.reads) refl refl
    (subst (λ b. cond (b && (length p.ranges == 0)) None (Some (part_in n shard p)) ≡ Some q) (none_kept (λ r. lies_in n shard r.name) p.reads) e)
  where
    all : StandsIn shard (range_with_len 1 n)
    all = StandsIn-range 1 n shard l (omega (arith, h))

    go : (a b : Bool) → (length p.ranges == 0) ≡ a → list_any (λ r. lies_in n shard r.name) p.reads ≡ b → cond (not b && a) None (Some (part_in n shard p)) ≡ Some q
        → StandsIn shard (cond a (filter (λ s. list_any (λ r. lies_in n s r.name) p.reads) (range_with_len 1 n)) (range_with_len 1 n))
    go false b f g k = all
    go true true f g k = StandsIn-filter (λ s. list_any (λ r. lies_in n s r.name) p.reads) (range_with_len 1 n) shard all g
    go true false f g k = absurd (cc k)

-- the part of a payload is a payload
pub part-payload : (n shard : ℕ) (p q : Accesses) → IsPayload p → restricted n shard p ≡ Some q → IsPayload q
part-payload n shard p q is e = go ((length (part_in n shard p).reads == 0) && (length p.ranges == 0)) refl e
  where
    go : (b : Bool) → ((length (part_in n shard p).reads == 0) && (length p.ranges == 0)) ≡ b → cond b None (Some (part_in n shard p)) ≡ Some q → IsPayload q
    go true f k = absurd (cc k)
    go false f k = let same : part_in n shard p ≡ q = cc k in subst IsPayload same (part_is_payload n shard p is f)

-- in each of its shards it has one
pub shard-part : (n shard : ℕ) (p : Accesses) → StandsIn shard (shards_of n p) → restricted n shard p ≡ Some (part_in n shard p)
shard-part n shard p s = go (length p.ranges == 0) (length (part_in n shard p).reads == 0) refl refl s
  where
    go : (a b : Bool) → (length p.ranges == 0) ≡ a → (length (part_in n shard p).reads == 0) ≡ b
        → StandsIn shard (cond a (filter (λ s. list_any (λ r. lies_in n s r.name) p.reads) (range_with_len 1 n)) (range_with_len 1 n))
        → cond (b && a) None (Some (part_in n shard p)) ≡ Some (part_in n shard p)
    go false true f g k = refl
    go a false f g k = refl
    go true true f g k = absurd (
        let any : list_any (λ r. lies_in n shard r.name) p.reads ≡ true = (filter-StandsIn (λ s. list_any (λ r. lies_in n s r.name) p.reads) (range_with_len 1 n) shard k).1 in
        cc (g, none_kept (λ r. lies_in n shard r.name) p.reads, any))
