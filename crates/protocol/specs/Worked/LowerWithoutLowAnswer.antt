-- Without a low answer the prober does not go down.
use Rattle.std.specs.Prelude.{List, [], ◌∷◌}
use Rattle.tcs_terms.specs.declared.ids.TxId.{TxId}
use Rattle.tcs_terms.specs.declared.inputs.Event.{Event}
use Rattle.tcs_terms.specs.declared.inputs.Note.{Note}
use Rattle.tcs_terms.specs.declared.inputs.Result1.{Result1}
use Rattle.tcs_terms.specs.declared.messages.Message.TheVariants.{Probe, ProbeAck, ConfigChange, Last, Cas, Stored}
use Rattle.tcs_terms.specs.declared.setups.Rule.TheVariants.{Serial}
use Rattle.tcs_terms.specs.Setups.{Deployment}
use Rattle.cert_serial.specs.Serial.{serial}
use Rattle.protocol.specs.World.{Sent}
use Rattle.protocol.specs.Worked.Words.{deployment, config, deliver, stop, move, lower, sent, acted, held, Shows}

abbrev pub setup : Deployment
setup = deployment 1 Serial (1 ∷ 1 ∷ 1 ∷ []) (config 1 1 (1 ∷ 2 ∷ []) 1 0 ∷ [])

-- what happens
abbrev pub events : List Event
events =
    move 3 1 (3 ∷ [])
    ∷ deliver 1
    ∷ deliver 2
    ∷ deliver 3
    ∷ deliver 5
    ∷ deliver 6
    ∷ stop 1
    ∷ move 2 1 (3 ∷ [])
    ∷ deliver 11
    ∷ deliver 12
    ∷ lower 2
    ∷ []

-- what each event comes to
abbrev pub results : List Result1
results =
    acted
    ∷ acted
    ∷ acted
    ∷ acted
    ∷ acted
    ∷ acted
    ∷ acted
    ∷ acted
    ∷ acted
    ∷ acted
    ∷ held 3
    ∷ []

-- what is noted
abbrev pub history : List Note
history = []

-- what is sent, from message 1 on
abbrev pub messages : List Sent
messages =
    sent 3 0 (Last 1)
    ∷ sent 0 3 (Stored (config 1 1 (1 ∷ 2 ∷ []) 1 0))
    ∷ sent 3 1 (Probe 2)
    ∷ sent 3 2 (Probe 2)
    ∷ sent 1 3 (ProbeAck 2 1)
    ∷ sent 3 0 (Cas (config 1 2 (1 ∷ 3 ∷ []) 1 3))
    ∷ sent 0 3 (Stored (config 1 2 (1 ∷ 3 ∷ []) 1 3))
    ∷ sent 0 1 (ConfigChange (config 1 2 (1 ∷ 3 ∷ []) 1 3))
    ∷ sent 0 2 (ConfigChange (config 1 2 (1 ∷ 3 ∷ []) 1 3))
    ∷ sent 0 3 (ConfigChange (config 1 2 (1 ∷ 3 ∷ []) 1 3))
    ∷ sent 2 0 (Last 1)
    ∷ sent 0 2 (Stored (config 1 2 (1 ∷ 3 ∷ []) 1 3))
    ∷ sent 2 1 (Probe 3)
    ∷ sent 2 3 (Probe 3)
    ∷ []

-- the transactions that commit, by their first decisions
abbrev pub order : List TxId
order = []

abbrev pub LowerWithoutLowAnswerShows : Type 0
LowerWithoutLowAnswerShows = Shows serial setup events results history messages order
