-- The rule in which additions commute obeys the laws of a certifier.
use Rattle.std.proofs.Common.{◌≡◌, ℕ, Bool, true, false, not, cond, List, refl}
use Rattle.std.specs.Prelude.{Option, None}
use Rattle.std.proofs.lemmas.Bool.{cond_both}
use Rattle.tcs_terms.specs.Payloads.{Accesses}
use Rattle.tcs_terms.specs.Shards.{lies_in, part_in, seen}
use Rattle.tcs_laws.specs.Laws.{IsLawful}
use Rattle.tcs_laws.specs.Sight.{GoesBySight, counted}
use Rattle.tcs_laws.proofs.PartLemmas.{part_sees, part_writes}
use Rattle.tcs_laws.proofs.SightLaws.{lawful_by_sight, same_committed, same_prepared}
use Rattle.cert_commute.specs.Commute.{commute, adds_to, truly_seen}

-- the part in a shard truly saw the objects of that shard as the whole payload did
part_truly_sees : (n shard : ℕ) (p : Accesses) (name : List ℕ) → lies_in n shard name ≡ true
    → truly_seen (part_in n shard p) name ≡ truly_seen p name
part_truly_sees n shard p name there =
    let wrote = part_writes n shard p name there in
    let saw = part_sees n shard p name there in
    rw (wrote, saw)

unseen_truly : (p : Accesses) (name : List ℕ) → seen p name ≡ None → truly_seen p name ≡ None
unseen_truly p name none = cond_both (adds_to p name) None (seen p name) (λ o. o ≡ None) (λ _. refl) (λ _. none)

pub commute_lawful : IsLawful commute
commute_lawful = lawful_by_sight truly_seen part_truly_sees unseen_truly

-- what a payload saw of an object counts unless it adds to the object
abbrev pub counts_sight : Accesses → List ℕ → Bool
counts_sight p name = not (adds_to p name)

turned_round : (b : Bool) (absent present : Option ℕ) → cond b absent present ≡ cond (not b) present absent
turned_round true absent present = refl
turned_round false absent present = refl

same_truly : (p : Accesses) (name : List ℕ) → truly_seen p name ≡ counted counts_sight p name
same_truly p name = turned_round (adds_to p name) None (seen p name)

pub commute_goes_by_sight : GoesBySight counts_sight commute
commute_goes_by_sight = record {
  committed = same_committed truly_seen (counted counts_sight) same_truly;
  prepared = λ old new of_old of_new. same_prepared truly_seen (counted counts_sight) same_truly old new;
}
