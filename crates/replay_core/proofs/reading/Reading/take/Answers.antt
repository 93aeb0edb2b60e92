use Rattle.replay_core.proofs.Taking.{breaks_of}
use Rattle.replay_core.proofs.reading.Reading.take.Goals as goal

pub returns-in-Err-OutOfMemory-clause-stop : goal.returns-in-Err-OutOfMemory-clause-stop
returns-in-Err-OutOfMemory-clause-stop g c =
    breaks_of c.args.self.now _ _ c.in_ok-got.got c.next_line.new.line.items c.next_line.new.self c.in_ok-got.ensures.line c.in_ok-got.ensures.ahead c.in_ok-got.ensures.bytes
