use Rattle.std.proofs.Common.{◌≡◌, ℕ, ◌-◌, ◌≤◌, List, Some}
use Rattle.audit_core.specs.declared.limits.TheConstants.{MAX_TRACE}
use Rattle.audit_core.specs.Audits.{answer_of}
use Rattle.audit_core.specs.Steps.{IsCounted, GoesOn}
use Rattle.audit_core.proofs.reading.verdict_on.Given as goal

abbrev pub invariant-lines : goal.invariant-lines
invariant-lines g l = record {
  counted : IsCounted l.reading;
  goes : (bytes : List ℕ) → g.S.Source.left l.initial.input ≡ Some bytes → GoesOn (answer_of bytes) l.reading (g.S.Source.left l.input);
  count : g.S.Source.faults l.initial.input ≤ g.S.Source.faults l.input;
}

abbrev pub decreases-lines : goal.decreases-lines
decreases-lines g l = MAX_TRACE - l.reading.used
