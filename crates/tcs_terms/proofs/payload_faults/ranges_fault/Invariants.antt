use Rattle.std.proofs.Common.{◌≡◌, ◌+◌, [], ℕ, ◌<◌, get_or, drop}
use Rattle.tcs_terms.specs.declared.payloads.RangePart.{RangePart}
use Rattle.tcs_terms.specs.Payloads.{IsRangePart}
use Rattle.tcs_terms.specs.PayloadFaults.{ranges_fault}
use Rattle.tcs_terms.proofs.payload_faults.ranges_fault.Given as goal

abbrev pub invariant-loop-range : goal.invariant-loop-range
invariant-loop-range l = record {
  place : l.place ≡ l.first + l.range-index;
  fault : ranges_fault l.version l.place l.end (drop l.range-index l.ranges) ≡ ranges_fault l.version l.first [] l.ranges;
  parts : (k : ℕ) (d : RangePart) → k < l.range-index → IsRangePart (get_or l.ranges k d);
}
