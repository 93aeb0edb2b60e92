-- The stages of a move as the code keeps them, in the words of the rules.
use Rattle.protocol.specs.Records.{Stage as Kept}
use Rattle.protocol.specs.Records.Stage.{Idle, AskedLast, Probing, AskedLower, CasSent}
use Rattle.prober.specs.declared.stages.Stage.{Stage}
use Rattle.prober.specs.declared.stages.Stage.TheVariants as code

-- the stage that the rules speak of
abbrev pub stage_of : Stage → Kept
stage_of code.Idle = Idle
stage_of (code.AskedLast shard want) = AskedLast shard want
stage_of (code.Probing shard want epoch probed low) = Probing shard want epoch probed low.items
stage_of (code.AskedLower shard want epoch asked) = AskedLower shard want epoch asked
stage_of (code.CasSent config) = CasSent config
