use Rattle.quorum_config.proofs.Finals.{completes, stops_at_bad}
use Rattle.quorum_config.proofs.engine.quorum.Goals as goal

pub returns-clause-complete : goal.returns-clause-complete
returns-clause-complete g c = λ bytes before told holds calm quiet acceptors es input.
    completes bytes before _ _ _ _ _ _ acceptors es _ (c.run_lines.ensures.stopped bytes before told holds) c.run_lines.ensures.read_fault c.run_lines.ensures.write_fault calm quiet input

pub returns-clause-bad : goal.returns-clause-bad
returns-clause-bad g c = λ bytes before told holds calm quiet number es bad.
    stops_at_bad bytes before _ _ _ _ _ _ number es _ (c.run_lines.ensures.whole bytes before told holds) (c.run_lines.ensures.stopped bytes before told holds)
    c.run_lines.ensures.read_fault c.run_lines.ensures.write_fault calm quiet bad
