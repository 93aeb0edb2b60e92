-- Snapshot certification: of two that overlap and write one object, one aborts. Reads are not checked.
use Rattle.std.specs.Prelude.{Bool, not, ◌&&◌}
use Rattle.std.specs.List.{list_any}
use Rattle.tcs_terms.specs.Payloads.{Accesses}
use Rattle.tcs_terms.specs.Shards.{seen}
use Rattle.tcs_laws.specs.Certification.{Tests}
use Rattle.tcs_laws.specs.Writing.{writes_name, seen_below}

-- whether both write some object
abbrev pub writes_meet : Accesses → Accesses → Bool
writes_meet a b = list_any (λ w. writes_name b.writes w.name) a.writes

-- whether both write some object that the newer one saw at a version below that of the older one's write
abbrev pub writes_again : Accesses → Accesses → Bool
writes_again old new =
    list_any (λ w. writes_name new.writes w.name && seen_below (seen new w.name) old.version) old.writes

-- The committed test fails exactly where the older payload overwrote what the newer one saw and writes too. The
-- prepared test fails exactly where both write some object.
abbrev pub snapshot : Tests
snapshot = record {
  committed_ok = λ old new. not (writes_again old new);
  prepared_ok = λ old new. not (writes_meet old new);
}
