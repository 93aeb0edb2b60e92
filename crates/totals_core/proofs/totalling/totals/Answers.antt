use Rattle.totals_core.proofs.Answering.{bad, complete, full, other}
use Rattle.totals_core.proofs.totalling.totals.Goals as goal

pub returns-clause-complete : goal.returns-clause-complete
returns-clause-complete g c = λ bytes before told holds calm quiet d es text commute live.
    complete bytes before _ _ _ _ _ _ d es _ (c.run_and_tell.ensures.stopped bytes before told holds) c.run_and_tell.ensures.read_fault c.run_and_tell.ensures.write_fault calm quiet text commute live

pub returns-clause-other : goal.returns-clause-other
returns-clause-other g c = λ bytes before told holds calm quiet names.
    other bytes before _ _ _ _ _ _ _ (c.run_and_tell.ensures.whole bytes before told holds) (c.run_and_tell.ensures.stopped bytes before told holds) c.run_and_tell.ensures.read_fault
    c.run_and_tell.ensures.write_fault calm quiet names

pub returns-clause-bad : goal.returns-clause-bad
returns-clause-bad g c = λ bytes before told holds calm quiet number reason is first within none.
    bad bytes before _ _ _ _ _ _ number reason is _ (c.run_and_tell.ensures.whole bytes before told holds) (c.run_and_tell.ensures.stopped bytes before told holds) c.run_and_tell.ensures.read_fault
    c.run_and_tell.ensures.write_fault calm quiet first within none

pub returns-clause-full : goal.returns-clause-full
returns-clause-full g c = λ bytes before told holds calm quiet sum is first none.
    full bytes before _ _ _ _ _ _ sum is _ (c.run_and_tell.ensures.whole bytes before told holds) (c.run_and_tell.ensures.stopped bytes before told holds) c.run_and_tell.ensures.read_fault
    c.run_and_tell.ensures.write_fault calm quiet first none
