-- A case of which one part changes.
use Rattle.std.proofs.Common.{◌≡◌, ℕ, true, List, [], ◌∷◌, map, get_or, Some, None, refl, sym, ◌∙◌, ap}
use Rattle.std.specs.Prelude.{◌==◌, if◌then◌else◌}
use Rattle.std.specs.List.{slice_get}
use Rattle.std.proofs.Math.ListN.{set}
use Rattle.std.proofs.Math.Seq.{map-set_same}
use Rattle.std.proofs.lemmas.Option.{slice_get-get_or}
use Rattle.tcs_terms.specs.Order.{ascends}
use Rattle.protocol.specs.Records.{Part, Case}
use Rattle.protocol.specs.Cases.{asked, part_of}
use Rattle.protocol.specs.Coordination.{ask_again}
use Rattle.coordinator.specs.Acknowledged.{change_part}
use Rattle.coordinator.specs.InOrder.{HasParts, part_place}
use Rattle.coordinator.proofs.ByKey.{place, no_place}

abbrev pub with_parts : Case → List Part → Case
with_parts case parts = record { shards = case.shards; payload = case.payload; parts = parts }

-- the parts of a case as it begins are those of its shards
pub parts_asked : (shards : List ℕ) → map (λ (p : Part). p.shard) (map asked shards) ≡ shards
parts_asked [] = refl
parts_asked (s ∷ ss) = ap (λ (xs : List ℕ). s ∷ xs) (parts_asked ss)

-- the part at a shard's place became another one of the same shard
pub record Changed (case : Case) (shard at : ℕ) (was new : Part) : Type 0 where
  pub still : HasParts (with_parts case (set case.parts at new))
  pub changes : (change : Part → Part) → new ≡ change was → change_part change case (part_of case.parts shard) ≡ with_parts case (set case.parts at new)
  pub again : new ≡ asked was.shard → ask_again shard case ≡ with_parts case (set case.parts at new)

pub changed : (case : Case) (shard at : ℕ) (was new : Part) → HasParts case → part_place case.parts shard ≡ Some at → was ≡ get_or case.parts at was → new.shard ≡ was.shard
    → Changed case shard at was new
changed case shard at was new h e here same =
    let ascend : ascends (map (λ p. p.shard) case.parts) ≡ true = rw h.each h.shards.ascend in
    let p = place (λ (p : Part). p.shard) shard at case.parts ascend e in
    let own : was.shard ≡ shard = ap (λ (p : Part). p.shard) here ∙ p.own was in
    let got : slice_get case.parts at ≡ Some was = slice_get-get_or case.parts at was p.within ∙ ap (λ (p : Part). Some p) (sym here) in
    record {
      still = record { shards = h.shards; each = map-set_same (λ (p : Part). p.shard) case.parts at new was (same ∙ ap (λ (p : Part). p.shard) here) ∙ h.each };
      changes = λ change fresh. rw (p.found ∙ got, ← fresh) (ap (with_parts case) (ap (λ (n : ℕ). map (λ (x : Part). if x.shard == n then new else x) case.parts) (same ∙ own) ∙ p.put new));
      again = λ fresh. ap (with_parts case)
          (p.put (asked shard) ∙ ap (λ (n : ℕ). set case.parts at (asked n)) (sym own) ∙ ap (set case.parts at) (sym fresh));
    }

-- a shard that the case does not have
pub record Unchanged (case : Case) (shard : ℕ) : Type 0 where
  pub changes : (change : Part → Part) → change_part change case (part_of case.parts shard) ≡ case
  pub again : ask_again shard case ≡ case

pub unchanged : (case : Case) (shard : ℕ) → part_place case.parts shard ≡ None → Unchanged case shard
unchanged case shard e =
    let n = no_place (λ (p : Part). p.shard) shard 0 case.parts e in
    record { changes = λ change. rw n.found refl; again = ap (with_parts case) (n.put (asked shard)) }
