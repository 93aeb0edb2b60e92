-- A certifier that asks what a payload saw of the objects that the other one writes obeys the laws, for any reading
-- of what a payload saw that keeps to what it really saw.
use Rattle.std.proofs.Common.{◌≡◌, ℕ, ◌≤◌, Bool, true, false, not, ◌||◌, List, refl, sym, ap, ◌∙◌}
use Rattle.std.specs.Prelude.{is_some, find, Option, Some, None, IfSome}
use Rattle.std.specs.List.{list_any}
use Rattle.std.specs.Cmp.Lexicographic.{same_text}
use Rattle.std.proofs.lemmas.Bool.{not-true, not_from_false, or_parts, ltb-false}
use Rattle.tcs_terms.specs.declared.payloads.ReadPart.{ReadPart}
use Rattle.tcs_terms.specs.declared.payloads.WritePart.{WritePart}
use Rattle.tcs_terms.specs.Payloads.{Accesses, IsPayload, same_name, reads_name}
use Rattle.tcs_terms.specs.Shards.{lies_in, part_in, seen, in_range_part, version_seen, range_version}
use Rattle.tcs_laws.specs.Writing.{writes_name, seen_below}
use Rattle.tcs_laws.specs.Laws.{IsLawful}
use Rattle.tcs_laws.specs.Sight.{Sight, by_sight, writes_sighted}
use Rattle.tcs_laws.proofs.ListLemmas.{any_less, any_none_at, any_agree, all_at, find_some}
use Rattle.tcs_laws.proofs.ShardLaw.{by_shards}

-- what was not seen at all was not seen below a version
pub unseen_not_below : (o : Option ℕ) (version : ℕ) → is_some o ≡ false → seen_below o version ≡ false
unseen_not_below None version e = refl
unseen_not_below (Some v) version e = cc

-- what was not seen below a version was seen at it or above, if at all
pub not_below : (o : Option ℕ) (version : ℕ) → seen_below o version ≡ false → IfSome o (λ v. version ≤ v)
not_below None version e = tt
not_below (Some v) version e = ltb-false v version e

-- a test that fails at all writes fails at each written name
pub none_written : (test : List ℕ → Bool) (writes : List WritePart) → list_any (λ w. test w.name) writes ≡ false
    → (name : List ℕ) → writes_name writes name ≡ true → test name ≡ false
none_written test writes none name written =
    any_none_at (λ w. test w.name) (λ w. same_name w.name name) (test name)
    (λ w same. ap test (same_text w.name name (sym same))) writes none written

-- no write was seen, so none was seen below
pub none_below : (sight : Sight) (writer reader : Accesses) → list_any (λ w. is_some (sight reader w.name)) writer.writes ≡ false
    → not (list_any (λ w. seen_below (sight reader w.name) writer.version) writer.writes) ≡ true
none_below sight writer reader none =
    not_from_false _ (any_less (λ w. is_some (sight reader w.name)) (λ w. seen_below (sight reader w.name) writer.version)
    (λ w unseen. unseen_not_below (sight reader w.name) writer.version unseen) writer.writes none)

pub lawful_by_sight : (sight : Sight)
    → ((n shard : ℕ) (p : Accesses) (name : List ℕ) → lies_in n shard name ≡ true → sight (part_in n shard p) name ≡ sight p name)
    → ((p : Accesses) (name : List ℕ) → seen p name ≡ None → sight p name ≡ None)
    → IsLawful (by_sight sight)
lawful_by_sight sight in_part unseen = record {
  by_shards = λ n some few olds new formed is. by_shards (by_sight sight) (λ new version name. seen_below (sight new name) version)
      (record {
        test = λ old new. refl;
        in_part = λ n shard new version name there. ap (λ o. seen_below o version) (in_part n shard new name there);
        unseen = λ new version name none. ap (λ o. seen_below o version) (unseen new name none);
      }) n some olds new formed;
  prepared_commits = λ old new p q ok. none_below sight old new (or_parts _ _ (not-true _ ok)).0;
  prepared_commits_turned = λ old new p q ok. none_below sight new old (or_parts _ _ (not-true _ ok)).1;
}

-- sights that agree make the same tests
pub same_committed : (a b : Sight) → ((p : Accesses) (name : List ℕ) → a p name ≡ b p name) → (old new : Accesses)
    → (by_sight a).committed_ok old new ≡ (by_sight b).committed_ok old new
same_committed a b same old new =
    ap not (any_agree (λ w. seen_below (a new w.name) old.version) (λ w. seen_below (b new w.name) old.version)
    (λ w. ap (λ o. seen_below o old.version) (same new w.name)) old.writes)

same_sighted : (a b : Sight) → ((p : Accesses) (name : List ℕ) → a p name ≡ b p name) → (writer reader : Accesses)
    → writes_sighted a writer reader ≡ writes_sighted b writer reader
same_sighted a b same writer reader =
    any_agree (λ w. is_some (a reader w.name)) (λ w. is_some (b reader w.name)) (λ w. ap is_some (same reader w.name)) writer.writes

pub same_prepared : (a b : Sight) → ((p : Accesses) (name : List ℕ) → a p name ≡ b p name) → (old new : Accesses)
    → (by_sight a).prepared_ok old new ≡ (by_sight b).prepared_ok old new
same_prepared a b same old new =
    ap (λ x. not (x || writes_sighted a new old)) (same_sighted a b same old new)
    ∙ ap (λ x. not (writes_sighted b old new || x)) (same_sighted a b same new old)

-- an object that a payload writes was read by name, and so it was seen
pub written_read : (p : Accesses) → IsPayload p → (name : List ℕ) → writes_name p.writes name ≡ true → reads_name p.reads name ≡ true
written_read p formed name written =
    all_at (λ w. same_name w.name name) (λ w. reads_name p.reads w.name) (reads_name p.reads name)
    (λ w same. ap (λ x. reads_name p.reads x) (same_text w.name name (sym same))) p.writes written formed.writes_read

pub written_seen : (p : Accesses) → IsPayload p → (name : List ℕ) → writes_name p.writes name ≡ true → is_some (seen p name) ≡ true
written_seen p formed name written =
    go (find (λ r. same_name r.name name) p.reads)
    (find_some (λ r. same_name r.name name) p.reads ∙ written_read p formed name written) where
      go : (r : Option ReadPart) → is_some r ≡ true
          → is_some (version_seen r (range_version (find (in_range_part name) p.ranges))) ≡ true
      go (Some r) e = refl
      go None e = absurd (let no : false ≡ true = e in cc)
