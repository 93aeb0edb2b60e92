-- Snapshot certification obeys the laws of a certifier, and orders writes.
use Rattle.std.proofs.Common.{◌≡◌, ℕ, Bool, true, false, not, ◌&&◌, ◌||◌, cond, List, refl, sym, ap, ◌∙◌}
use Rattle.std.specs.Prelude.{is_some, Option, None}
use Rattle.std.specs.List.{list_any}
use Rattle.std.proofs.lemmas.Bool.{not-true, not_from_false, and_left, and_right, cond_both}
use Rattle.std.proofs.lemmas.Cmp.{nat_list_eq_equiv}
use Rattle.tcs_terms.specs.Payloads.{Accesses, IsPayload, same_name}
use Rattle.tcs_terms.specs.Shards.{seen}
use Rattle.tcs_laws.specs.Writing.{writes_name, seen_below}
use Rattle.tcs_laws.specs.Laws.{IsLawful, OrdersWrites}
use Rattle.tcs_laws.specs.Sight.{GoesBySight, CountsWritten, counted, writes_sighted}
use Rattle.tcs_laws.proofs.ListLemmas.{any_less, any_agree, any_turned}
use Rattle.tcs_laws.proofs.PartLemmas.{part_sees, part_writes}
use Rattle.tcs_laws.proofs.ShardLaw.{Hit, AsksPerWrite, by_shards}
use Rattle.tcs_laws.proofs.SightLaws.{none_written, not_below, written_seen}
use Rattle.cert_snapshot.specs.Snapshot.{snapshot, writes_meet, writes_again}

abbrev hits : Hit
hits new version name = writes_name new.writes name && seen_below (seen new name) version

asks : AsksPerWrite snapshot.committed_ok hits
asks = record {
  test = λ old new. refl;
  in_part = λ n shard new version name there.
      let wrote = part_writes n shard new name there in
      let saw = part_sees n shard new name there in
      rw (wrote, saw);
  unseen = λ new version name none. and_right (writes_name new.writes name) _ (ap (λ o. seen_below o version) none);
}

-- writes meet the other way round too
meet_turned : (a b : Accesses) → writes_meet b a ≡ writes_meet a b
meet_turned a b =
    any_agree (λ w. writes_name a.writes w.name) (λ w. list_any (λ v. same_name w.name v.name) a.writes)
    (λ w. any_agree (λ v. same_name v.name w.name) (λ v. same_name w.name v.name)
    (λ v. nat_list_eq_equiv.symm v.name w.name) a.writes) b.writes
    ∙ sym (any_turned (λ v w. same_name w.name v.name) a.writes b.writes)

apart_not_again : (old new : Accesses) → writes_meet old new ≡ false → not (writes_again old new) ≡ true
apart_not_again old new apart =
    not_from_false _ (any_less (λ w. writes_name new.writes w.name)
    (λ w. writes_name new.writes w.name && seen_below (seen new w.name) old.version)
    (λ w unwritten. and_left _ _ unwritten) old.writes apart)

pub snapshot_lawful : IsLawful snapshot
snapshot_lawful = record {
  by_shards = λ n some few olds new formed is. by_shards snapshot hits asks n some olds new formed;
  prepared_commits = λ old new p q ok. apart_not_again old new (not-true _ ok);
  prepared_commits_turned = λ old new p q ok. apart_not_again new old (meet_turned old new ∙ not-true _ ok);
}

-- a pair of tests that does not hold fails at the second where the first holds
second_fails : (a b : Bool) → (a && b) ≡ false → a ≡ true → b ≡ false
second_fails true b none a_holds = none
second_fails false b none a_holds = cc

pub snapshot_orders_writes : OrdersWrites snapshot
snapshot_orders_writes = record {
  above = λ old new p q ok name by_old by_new. not_below (seen new name) old.version
      (second_fails _ _ (none_written (λ x. hits new old.version x) old.writes (not-true _ ok) name by_old) by_new);
}

-- what a payload saw of an object counts where it writes the object
abbrev pub counts_own : Accesses → List ℕ → Bool
counts_own p name = writes_name p.writes name

below_where : (b : Bool) (o : Option ℕ) (version : ℕ) → (b && seen_below o version) ≡ seen_below (cond b o None) version
below_where true o version = refl
below_where false o version = refl

-- it was seen there
sighted_written : (p : Accesses) → IsPayload p → (name : List ℕ) → is_some (counted counts_own p name) ≡ writes_name p.writes name
sighted_written p formed name =
    cond_both (writes_name p.writes name) (seen p name) None (λ o. is_some o ≡ writes_name p.writes name)
    (λ written. written_seen p formed name written ∙ sym written) (λ unwritten. sym unwritten)

meet_sighted : (writer reader : Accesses) → IsPayload reader → writes_sighted (counted counts_own) writer reader ≡ writes_meet writer reader
meet_sighted writer reader formed =
    any_agree (λ w. is_some (counted counts_own reader w.name)) (λ w. writes_name reader.writes w.name)
    (λ w. sighted_written reader formed w.name) writer.writes

or_same : (b : Bool) → (b || b) ≡ b
or_same true = refl
or_same false = refl

pub snapshot_goes_by_sight : GoesBySight counts_own snapshot
snapshot_goes_by_sight = record {
  committed = λ old new. ap not (any_agree (λ w. writes_name new.writes w.name && seen_below (seen new w.name) old.version)
      (λ w. seen_below (counted counts_own new w.name) old.version)
      (λ w. below_where (writes_name new.writes w.name) (seen new w.name) old.version) old.writes);
  prepared = λ old new of_old of_new.
      let meets : writes_sighted (counted counts_own) old new ≡ writes_meet old new = meet_sighted old new of_new in
      let turned : writes_sighted (counted counts_own) new old ≡ writes_meet old new = meet_sighted new old of_old ∙ meet_turned old new in
      sym (ap (λ b. not (b || writes_sighted (counted counts_own) new old)) meets
      ∙ ap (λ b. not (writes_meet old new || b)) turned ∙ ap not (or_same (writes_meet old new)));
}

pub snapshot_counts_written : CountsWritten counts_own
snapshot_counts_written = record { written = λ p name counts. counts }
