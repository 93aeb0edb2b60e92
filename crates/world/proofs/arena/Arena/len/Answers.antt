use Rattle.std.proofs.Common.{◌≤◌, arith}
use Rattle.protocol.specs.Limit.{frame_limit}
use Rattle.world.proofs.Letters.{limit_is, letters_few}
use Rattle.world.proofs.arena.Arena.len.Goals as goal
use Rattle.world.proofs.arena.Arena.len.Goals.{After-len}

few : (c : After-len) → c.len.result ≤ frame_limit
few c = let a = c.self.invariant in omega (arith, letters_few _ _ a.sent a.holds, a.within, c.len.ensures)

pub overflow_cast-result : goal.overflow_cast-result
overflow_cast-result c = omega (arith, limit_is, few c)

pub returns-clause-few : goal.returns-clause-few
returns-clause-few c = few c
