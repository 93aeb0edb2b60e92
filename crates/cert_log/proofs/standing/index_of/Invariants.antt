use Rattle.std.proofs.Common.{take}
use Rattle.cert_log.specs.Standing.{IsIndexOf}
use Rattle.cert_log.proofs.standing.index_of.Given as goal

abbrev pub invariant-loop-row : goal.invariant-loop-row
invariant-loop-row l = IsIndexOf l.index.entries (take l.row-index l.rows)
