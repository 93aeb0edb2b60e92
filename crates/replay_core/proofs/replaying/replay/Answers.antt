use Rattle.replay_core.proofs.Completing.{completes, stops_at_bad, stops_at_full}
use Rattle.replay_core.proofs.replaying.replay.Goals as goal

pub returns-clause-complete : goal.returns-clause-complete
returns-clause-complete g c = λ bytes before told holds calm quiet d es text live.
    completes bytes before _ _ _ _ _ _ d es _ (c.replay_by_rule.ensures.stopped bytes before told holds) c.replay_by_rule.ensures.read_fault c.replay_by_rule.ensures.write_fault calm quiet text live

pub returns-clause-bad : goal.returns-clause-bad
returns-clause-bad g c = λ bytes before told holds calm quiet number reason is bad within.
    stops_at_bad bytes before _ _ _ _ _ _ number reason is _ (c.replay_by_rule.ensures.whole bytes before told holds) (c.replay_by_rule.ensures.stopped bytes before told holds)
    c.replay_by_rule.ensures.read_fault c.replay_by_rule.ensures.write_fault calm quiet bad within

pub returns-clause-full : goal.returns-clause-full
returns-clause-full g c = λ bytes before told holds calm quiet sum is full.
    stops_at_full bytes before _ _ _ _ _ _ sum is _ (c.replay_by_rule.ensures.whole bytes before told holds) (c.replay_by_rule.ensures.stopped bytes before told holds)
    c.replay_by_rule.ensures.read_fault c.replay_by_rule.ensures.write_fault calm quiet full
