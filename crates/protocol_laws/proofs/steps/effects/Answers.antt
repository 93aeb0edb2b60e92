use Rattle.protocol_laws.proofs.EffectOf.{effect_of}
use Rattle.protocol_laws.proofs.steps.effects.Goals as goal

-- src/steps.rt:10:1
pub returns : goal.returns
returns c = effect_of
