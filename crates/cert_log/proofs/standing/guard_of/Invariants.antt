use Rattle.std.proofs.Common.{take}
use Rattle.cert_log.proofs.standing.guard_of.Given as goal

abbrev pub invariant-loop-row : goal.invariant-loop-row
invariant-loop-row g l = g.G.VoteGuard.StandsFor l.guard (take l.row-index l.rows)
