-- The stages of an attempt as the code keeps them, in the words of the rules.
use Rattle.quorum_protocol.specs.Rules as rules
use Rattle.quorum_protocol.specs.Rules.Stage.{Asking, Putting, Ended}
use Rattle.quorum_world.specs.declared.attempts.Stage.{Stage}
use Rattle.quorum_world.specs.declared.attempts.Stage.TheVariants as code

abbrev pub stage_of : Stage → rules.Stage
stage_of (code.Asking told greatest) = Asking told.items greatest
stage_of (code.Putting value keepers) = Putting value keepers.items
stage_of code.Ended = Ended
