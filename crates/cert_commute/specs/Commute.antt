-- Serial certification in which additions to counters commute (this project's own).
use Rattle.std.specs.Prelude.{ℕ, Bool, not, ◌||◌, ◌&&◌, nat_eq, codes, is_some, if◌then◌else◌, Option, None, List}
use Rattle.std.specs.List.{list_any, starts_with}
use Rattle.tcs_terms.specs.Payloads.{Accesses}
use Rattle.tcs_terms.specs.Shards.{seen}
use Rattle.tcs_laws.specs.Certification.{Tests}
use Rattle.tcs_laws.specs.Writing.{writes_name, seen_below}

-- a counter is an object whose name begins with `n_`
abbrev pub is_counter : List ℕ → Bool
is_counter name = starts_with nat_eq name (codes "n_")

-- whether a payload adds to an object: a counter that it writes
abbrev pub adds_to : Accesses → List ℕ → Bool
adds_to p name = is_counter name && writes_name p.writes name

-- The version at which a payload truly saw an object: as it saw it, but nothing where it adds to it. So a read of a
-- counter that is not written counts as any other read.
abbrev pub truly_seen : Accesses → List ℕ → Option ℕ
truly_seen p name = if adds_to p name then None else seen p name

-- whether the writer writes an object that the reader truly saw
abbrev pub writes_truly_seen : Accesses → Accesses → Bool
writes_truly_seen writer reader = list_any (λ w. is_some (truly_seen reader w.name)) writer.writes

-- whether the writer writes an object that the reader truly saw at a version below that of the write
abbrev pub writes_truly_past : Accesses → Accesses → Bool
writes_truly_past writer reader =
    list_any (λ w. seen_below (truly_seen reader w.name) writer.version) writer.writes

-- The committed test fails exactly where the older payload overwrote what the newer one truly saw. The prepared test
-- fails exactly where one of the two writes what the other one truly saw.
abbrev pub commute : Tests
commute = record {
  committed_ok = λ old new. not (writes_truly_past old new);
  prepared_ok = λ old new. not (writes_truly_seen old new || writes_truly_seen new old);
}
