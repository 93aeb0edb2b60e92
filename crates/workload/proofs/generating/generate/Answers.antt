use Rattle.workload.proofs.Completing.{completes, stops_full}
use Rattle.workload.proofs.generating.generate.Goals as goal

pub returns-clause-complete : goal.returns-clause-complete
returns-clause-complete g c = λ stayed within.
    completes c.write_schedule.result c.args.seed c.args.count _ _ c.write_schedule.ensures.from c.write_schedule.ensures.write_fault stayed within

pub returns-clause-full : goal.returns-clause-full
returns-clause-full g c = λ stayed place sum full.
    stops_full c.write_schedule.result c.args.seed c.args.count _ _ place sum c.write_schedule.ensures.within c.write_schedule.ensures.from c.write_schedule.ensures.write_fault stayed full
