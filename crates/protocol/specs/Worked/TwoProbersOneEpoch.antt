-- Two nodes propose one epoch: the first is stored, and the second hears what was stored.
use Rattle.std.specs.Prelude.{List, [], ◌∷◌}
use Rattle.tcs_terms.specs.declared.ids.TxId.{TxId}
use Rattle.tcs_terms.specs.declared.inputs.Event.{Event}
use Rattle.tcs_terms.specs.declared.inputs.Note.{Note}
use Rattle.tcs_terms.specs.declared.inputs.Result1.{Result1}
use Rattle.tcs_terms.specs.declared.messages.Message.TheVariants.{Probe, ProbeAck, NewConfig, ConfigChange, Last, Cas, Stored}
use Rattle.tcs_terms.specs.declared.setups.Rule.TheVariants.{Serial}
use Rattle.tcs_terms.specs.Setups.{Deployment}
use Rattle.cert_serial.specs.Serial.{serial}
use Rattle.protocol.specs.World.{Sent}
use Rattle.protocol.specs.Worked.Words.{deployment, config, deliver, move, sent, acted, Shows}

abbrev pub setup : Deployment
setup = deployment 1 Serial (1 ∷ 1 ∷ 1 ∷ []) (config 1 1 (1 ∷ 2 ∷ []) 1 0 ∷ [])

-- what happens
abbrev pub events : List Event
events =
    move 2 1 (3 ∷ [])
    ∷ move 3 1 (3 ∷ [])
    ∷ deliver 1
    ∷ deliver 2
    ∷ deliver 3
    ∷ deliver 4
    ∷ deliver 5
    ∷ deliver 7
    ∷ deliver 9
    ∷ deliver 10
    ∷ deliver 11
    ∷ deliver 12
    ∷ deliver 17
    ∷ deliver 13
    ∷ []

-- what each event comes to
abbrev pub results : List Result1
results =
    acted
    ∷ acted
    ∷ acted
    ∷ acted
    ∷ acted
    ∷ acted
    ∷ acted
    ∷ acted
    ∷ acted
    ∷ acted
    ∷ acted
    ∷ acted
    ∷ acted
    ∷ acted
    ∷ []

-- what is noted
abbrev pub history : List Note
history = []

-- what is sent, from message 1 on
abbrev pub messages : List Sent
messages =
    sent 2 0 (Last 1)
    ∷ sent 3 0 (Last 1)
    ∷ sent 0 2 (Stored (config 1 1 (1 ∷ 2 ∷ []) 1 0))
    ∷ sent 0 3 (Stored (config 1 1 (1 ∷ 2 ∷ []) 1 0))
    ∷ sent 2 1 (Probe 2)
    ∷ sent 2 2 (Probe 2)
    ∷ sent 3 1 (Probe 2)
    ∷ sent 3 2 (Probe 2)
    ∷ sent 1 2 (ProbeAck 2 1)
    ∷ sent 1 3 (ProbeAck 2 1)
    ∷ sent 2 0 (Cas (config 1 2 (1 ∷ 3 ∷ []) 1 2))
    ∷ sent 3 0 (Cas (config 1 2 (1 ∷ 3 ∷ []) 1 3))
    ∷ sent 0 2 (Stored (config 1 2 (1 ∷ 3 ∷ []) 1 2))
    ∷ sent 0 1 (ConfigChange (config 1 2 (1 ∷ 3 ∷ []) 1 2))
    ∷ sent 0 2 (ConfigChange (config 1 2 (1 ∷ 3 ∷ []) 1 2))
    ∷ sent 0 3 (ConfigChange (config 1 2 (1 ∷ 3 ∷ []) 1 2))
    ∷ sent 0 3 (Stored (config 1 2 (1 ∷ 3 ∷ []) 1 2))
    ∷ sent 2 1 (NewConfig (config 1 2 (1 ∷ 3 ∷ []) 1 2))
    ∷ []

-- the transactions that commit, by their first decisions
abbrev pub order : List TxId
order = []

abbrev pub TwoProbersOneEpochShows : Type 0
TwoProbersOneEpochShows = Shows serial setup events results history messages order
