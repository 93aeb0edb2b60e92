-- The parts of a case: the part of a shard, and parts of which one was put in its place.
use Rattle.std.proofs.Common.{◌≡◌, ℕ, Bool, true, false, cond, ◌==◌, List, [], ◌∷◌, map, Some, ◌⊎◌, inl, inr, sym, ap, ap₂, subst, refl, eqb-true}
use Rattle.protocol.specs.Cases.{part_of, put_part}
use Rattle.protocol.specs.Records.{Part}
use Rattle.protocol.specs.Invariant.Time.{StandsIn}
use Rattle.protocol.proofs.Lists.{find-StandsIn}
use Rattle.protocol_laws.proofs.Standing.{IsMapped, map-StandsIn}

-- the part of a shard is among the parts, and is of that shard
pub record IsPartOf (parts : List Part) (shard : ℕ) (part : Part) : Type 0 where
  pub among : StandsIn part parts
  pub of_shard : part.shard ≡ shard

pub part_is : (parts : List Part) (shard : ℕ) (part : Part) → part_of parts shard ≡ Some part → IsPartOf parts shard part
part_is parts shard part e =
    let f : StandsIn part parts × ((part.shard == shard) ≡ true) = find-StandsIn (λ (p : Part). p.shard == shard) parts part e in
    record { among = f.0; of_shard = eqb-true part.shard shard f.1 }

-- parts one of which was put in its place are of the same shards
pub put-shards : (part : Part) (parts : List Part) → map (λ (p : Part). p.shard) (put_part part parts) ≡ map (λ (p : Part). p.shard) parts
put-shards part [] = refl
put-shards part (p ∷ ps) = go (p.shard == part.shard) refl (put-shards part ps)
  where
    go : (b : Bool) → (p.shard == part.shard) ≡ b → map (λ (q : Part). q.shard) (put_part part ps) ≡ map (λ (q : Part). q.shard) ps → (cond b part p).shard ∷ map (λ (q : Part). q.shard) (put_part part ps) ≡ p.shard ∷ map (λ (q : Part). q.shard) ps
    go true e ih = ap₂ (λ (k : ℕ) (ks : List ℕ). k ∷ ks) (sym (eqb-true p.shard part.shard e)) ih
    go false e ih = ap (λ ks. p.shard ∷ ks) ih

-- each of them is that one, or another
pub put-StandsIn : (part : Part) (parts : List Part) (p : Part) → StandsIn p (put_part part parts) → StandsIn p parts ⊎ (p ≡ part)
put-StandsIn part parts p s = go (m.from.shard == part.shard) m.is
  where
    m : IsMapped (λ (q : Part). cond (q.shard == part.shard) part q) parts p
    m = map-StandsIn (λ (q : Part). cond (q.shard == part.shard) part q) parts p s

    go : (b : Bool) → p ≡ cond b part m.from → StandsIn p parts ⊎ (p ≡ part)
    go true e = inr e
    go false e = inl (subst (λ q. StandsIn q parts) (sym e) m.there)
