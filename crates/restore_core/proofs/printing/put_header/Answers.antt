-- The header is printed.
use Rattle.restore_core.proofs.Schedules.{header_is}
use Rattle.restore_core.proofs.printing.put_header.Goals as goal

pub returns : goal.returns
returns c = rw header_is c.put.ensures.ok
