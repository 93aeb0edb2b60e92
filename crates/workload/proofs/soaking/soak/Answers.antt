use Rattle.workload.proofs.Completing.{completes, stops_full}
use Rattle.workload.proofs.soaking.soak.Goals as goal

pub returns-clause-complete : goal.returns-clause-complete
returns-clause-complete g c = λ stayed within.
    completes c.write_counts.result c.args.seed c.args.count _ _ c.write_counts.ensures.from c.write_counts.ensures.write_fault stayed within

pub returns-clause-full : goal.returns-clause-full
returns-clause-full g c = λ stayed place sum full.
    stops_full c.write_counts.result c.args.seed c.args.count _ _ place sum c.write_counts.ensures.within c.write_counts.ensures.from c.write_counts.ensures.write_fault stayed full
