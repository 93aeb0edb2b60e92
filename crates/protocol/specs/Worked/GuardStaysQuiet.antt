-- A case whose leader stopped stays open while nothing moves the shard.
use Rattle.std.specs.Prelude.{List, [], ◌∷◌, Some, codes}
use Rattle.tcs_terms.specs.declared.ids.TxId.{TxId}
use Rattle.tcs_terms.specs.declared.inputs.Event.{Event}
use Rattle.tcs_terms.specs.declared.inputs.Note.{Note}
use Rattle.tcs_terms.specs.declared.inputs.Result1.{Result1}
use Rattle.tcs_terms.specs.declared.messages.Message.TheVariants.{Prepare}
use Rattle.tcs_terms.specs.declared.setups.Rule.TheVariants.{Serial}
use Rattle.tcs_terms.specs.Payloads.{Accesses}
use Rattle.tcs_terms.specs.Setups.{Deployment}
use Rattle.cert_serial.specs.Serial.{serial}
use Rattle.protocol.specs.World.{Sent}
use Rattle.protocol.specs.Worked.Words.{deployment, config, txn, payload, reads, certify, stop, nudge, begin, sent, acted, Shows}

abbrev pub payload_1 : Accesses
payload_1 = payload (reads (codes "a") 0 ∷ []) [] [] 1

abbrev pub setup : Deployment
setup = deployment 1 Serial (1 ∷ 1 ∷ 1 ∷ []) (config 1 1 (1 ∷ 2 ∷ []) 1 0 ∷ [])

-- what happens
abbrev pub events : List Event
events =
    stop 1
    ∷ certify 3 payload_1
    ∷ nudge 3
    ∷ nudge 3
    ∷ []

-- what each event comes to
abbrev pub results : List Result1
results =
    acted
    ∷ acted
    ∷ acted
    ∷ acted
    ∷ []

-- what is noted
abbrev pub history : List Note
history =
    begin (txn 3 1) payload_1
    ∷ []

-- what is sent, from message 1 on
abbrev pub messages : List Sent
messages =
    sent 3 1 (Prepare 1 (txn 3 1) (1 ∷ []) (Some payload_1))
    ∷ sent 3 1 (Prepare 1 (txn 3 1) (1 ∷ []) (Some payload_1))
    ∷ sent 3 1 (Prepare 1 (txn 3 1) (1 ∷ []) (Some payload_1))
    ∷ []

-- the transactions that commit, by their first decisions
abbrev pub order : List TxId
order = []

abbrev pub GuardStaysQuietShows : Type 0
GuardStaysQuietShows = Shows serial setup events results history messages order
