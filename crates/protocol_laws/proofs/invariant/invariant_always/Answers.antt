use Rattle.protocol_laws.proofs.RunInduction.{invariant_at}
use Rattle.protocol_laws.proofs.invariant.invariant_always.Goals as goal

-- src/invariant.rt:12:1
pub returns : goal.returns
returns c = invariant_at
