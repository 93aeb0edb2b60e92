use Rattle.std.proofs.Common.{◌≡◌, ◌+◌, [], ℕ, ◌<◌, get_or, drop}
use Rattle.tcs_terms.specs.declared.payloads.ReadPart.{ReadPart}
use Rattle.tcs_terms.specs.Payloads.{IsReadPart}
use Rattle.tcs_terms.specs.PayloadFaults.{reads_fault}
use Rattle.tcs_terms.proofs.payload_faults.reads_fault.Given as goal

abbrev pub invariant-loop-read : goal.invariant-loop-read
invariant-loop-read l = record {
  place : l.place ≡ l.read-index + 1;
  fault : reads_fault l.version l.place l.before (drop l.read-index l.reads) ≡ reads_fault l.version 1 [] l.reads;
  parts : (k : ℕ) (d : ReadPart) → k < l.read-index → IsReadPart (get_or l.reads k d);
}
