-- Serial certification: what commits is as if it ran alone, one after the other.
use Rattle.std.specs.Prelude.{Bool, not, ◌||◌, is_some}
use Rattle.std.specs.List.{list_any}
use Rattle.tcs_terms.specs.Payloads.{Accesses}
use Rattle.tcs_terms.specs.Shards.{seen}
use Rattle.tcs_laws.specs.Certification.{Tests}
use Rattle.tcs_laws.specs.Writing.{seen_below}

-- whether the writer writes an object that the reader saw, by name or in a range
abbrev pub writes_seen : Accesses → Accesses → Bool
writes_seen writer reader = list_any (λ w. is_some (seen reader w.name)) writer.writes

-- whether the writer writes an object that the reader saw at a version below that of the write
abbrev pub writes_past : Accesses → Accesses → Bool
writes_past writer reader = list_any (λ w. seen_below (seen reader w.name) writer.version) writer.writes

-- The committed test fails exactly where the older payload overwrote what the newer one saw. The prepared test fails
-- exactly where one of the two writes what the other one saw.
abbrev pub serial : Tests
serial = record {
  committed_ok = λ old new. not (writes_past old new);
  prepared_ok = λ old new. not (writes_seen old new || writes_seen new old);
}
