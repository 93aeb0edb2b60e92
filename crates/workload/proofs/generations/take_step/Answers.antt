use Rattle.workload.proofs.Taking.{stopped, took}
use Rattle.workload.proofs.generations.take_step.Goals as goal

pub returns-clause-took : goal.returns-clause-took
returns-clause-took g c =
    took _ c.args.world.now c.step.new.self c.args.event c.step.result c.requires.certifier c.requires.setup c.step.ensures.answer c.step.ensures.spent c.step.ensures.record

pub returns-clause-stopped : goal.returns-clause-stopped
returns-clause-stopped g c = stopped _ c.args.world.now c.args.event c.step.result c.requires.certifier c.requires.setup c.step.ensures.answer
