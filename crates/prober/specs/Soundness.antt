-- What is true of every stage of a move: whoever is then found to lead, a configuration can be proposed.
use Rattle.std.specs.Prelude.{List, IsTrue, All}
use Rattle.tcs_terms.specs.declared.inputs.Input.TheVariants.{Move}
use Rattle.tcs_terms.specs.declared.messages.Outgoing.{Outgoing}
use Rattle.tcs_terms.specs.Places.{is_epoch, IsMembership}
use Rattle.tcs_terms.specs.Events.{InputInRange}
use Rattle.tcs_terms.specs.Messages.{InRange}
use Rattle.protocol.specs.Records.{Stage}
use Rattle.protocol.specs.Records.Stage.{Idle, AskedLast, Probing, AskedLower, CasSent}

-- the shard and the wanted nodes are in range, and so is each epoch and each configuration
abbrev pub IsSound : Stage → Type 0
IsSound Idle = Unit {0}
IsSound (AskedLast shard want) = InputInRange (Move shard want)
IsSound (Probing shard want epoch probed low) = InputInRange (Move shard want) × IsTrue (is_epoch epoch) × IsMembership probed
IsSound (AskedLower shard want epoch asked) = InputInRange (Move shard want) × IsTrue (is_epoch epoch) × IsTrue (is_epoch asked)
IsSound (CasSent config) = IsMembership config

-- each message is in range
abbrev pub AreInRange : List Outgoing → Type 0
AreInRange sends = All (λ sent. InRange sent.message) sends
