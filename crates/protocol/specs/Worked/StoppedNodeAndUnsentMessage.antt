-- A stopped node takes nothing, and a number that was not sent names nothing.
use Rattle.std.specs.Prelude.{List, [], ◌∷◌, codes}
use Rattle.tcs_terms.specs.declared.ids.TxId.{TxId}
use Rattle.tcs_terms.specs.declared.inputs.Event.{Event}
use Rattle.tcs_terms.specs.declared.inputs.Note.{Note}
use Rattle.tcs_terms.specs.declared.inputs.Result1.{Result1}
use Rattle.tcs_terms.specs.declared.inputs.Result1.TheVariants.{Gone, Unsent}
use Rattle.tcs_terms.specs.declared.setups.Rule.TheVariants.{Serial}
use Rattle.tcs_terms.specs.Payloads.{Accesses}
use Rattle.tcs_terms.specs.Setups.{Deployment}
use Rattle.cert_serial.specs.Serial.{serial}
use Rattle.protocol.specs.World.{Sent}
use Rattle.protocol.specs.Worked.Words.{deployment, config, payload, reads, certify, deliver, stop, acted, Shows}

abbrev pub payload_1 : Accesses
payload_1 = payload (reads (codes "a") 0 ∷ []) [] [] 1

abbrev pub setup : Deployment
setup = deployment 1 Serial (1 ∷ []) (config 1 1 (1 ∷ []) 1 0 ∷ [])

-- what happens
abbrev pub events : List Event
events =
    deliver 1
    ∷ stop 1
    ∷ certify 1 payload_1
    ∷ stop 1
    ∷ []

-- what each event comes to
abbrev pub results : List Result1
results =
    Unsent
    ∷ acted
    ∷ Gone
    ∷ Gone
    ∷ []

-- what is noted
abbrev pub history : List Note
history = []

-- what is sent, from message 1 on
abbrev pub messages : List Sent
messages = []

-- the transactions that commit, by their first decisions
abbrev pub order : List TxId
order = []

abbrev pub StoppedNodeAndUnsentMessageShows : Type 0
StoppedNodeAndUnsentMessageShows = Shows serial setup events results history messages order
