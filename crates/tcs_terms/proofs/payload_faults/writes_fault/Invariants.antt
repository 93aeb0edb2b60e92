use Rattle.std.proofs.Common.{◌≡◌, ◌+◌, [], ℕ, ◌<◌, get_or, drop}
use Rattle.tcs_terms.specs.declared.payloads.WritePart.{WritePart}
use Rattle.tcs_terms.specs.Payloads.{IsWritePart}
use Rattle.tcs_terms.specs.PayloadFaults.{writes_fault}
use Rattle.tcs_terms.proofs.payload_faults.writes_fault.Given as goal

abbrev pub invariant-loop-write : goal.invariant-loop-write
invariant-loop-write l = record {
  place : l.place ≡ l.first + l.write-index;
  fault : writes_fault l.reads l.place l.before (drop l.write-index l.writes) ≡ writes_fault l.reads l.first [] l.writes;
  parts : (k : ℕ) (d : WritePart) → k < l.write-index → IsWritePart (get_or l.writes k d);
}
