-- A fenced leader holds a PREPARE of the epoch that it promised, until it leads it.
use Rattle.std.specs.Prelude.{List, [], ◌∷◌, Some, codes}
use Rattle.tcs_terms.specs.declared.ids.TxId.{TxId}
use Rattle.tcs_terms.specs.declared.inputs.Event.{Event}
use Rattle.tcs_terms.specs.declared.inputs.Note.{Note}
use Rattle.tcs_terms.specs.declared.inputs.Result1.{Result1}
use Rattle.tcs_terms.specs.declared.messages.Message.TheVariants.{Prepare, PrepareAck, Probe, ProbeAck, NewConfig, NewState, ConfigChange, Last, Cas, Stored, Refused}
use Rattle.tcs_terms.specs.declared.messages.Why.TheVariants as why
use Rattle.tcs_terms.specs.declared.setups.Rule.TheVariants.{Serial}
use Rattle.tcs_terms.specs.declared.votes.Vote.TheVariants as votes
use Rattle.tcs_terms.specs.Payloads.{Accesses}
use Rattle.tcs_terms.specs.Setups.{Deployment}
use Rattle.cert_serial.specs.Serial.{serial}
use Rattle.protocol.specs.World.{Sent}
use Rattle.protocol.specs.Worked.Words.{deployment, config, txn, payload, reads, entry, certify, deliver, move, nudge, begin, sent, acted, held, Shows}

abbrev pub payload_1 : Accesses
payload_1 = payload (reads (codes "a") 0 ∷ []) [] [] 1

abbrev pub setup : Deployment
setup = deployment 1 Serial (1 ∷ 1 ∷ 1 ∷ []) (config 1 1 (1 ∷ 2 ∷ []) 1 0 ∷ [])

-- what happens
abbrev pub events : List Event
events =
    move 2 1 (3 ∷ [])
    ∷ move 3 1 (3 ∷ [])
    ∷ deliver 1
    ∷ deliver 2
    ∷ deliver 3
    ∷ deliver 4
    ∷ deliver 5
    ∷ deliver 7
    ∷ deliver 9
    ∷ deliver 10
    ∷ deliver 11
    ∷ deliver 12
    ∷ deliver 17
    ∷ deliver 13
    ∷ certify 3 payload_1
    ∷ deliver 19
    ∷ deliver 18
    ∷ nudge 3
    ∷ deliver 22
    ∷ []

-- what each event comes to
abbrev pub results : List Result1
results =
    acted
    ∷ acted
    ∷ acted
    ∷ acted
    ∷ acted
    ∷ acted
    ∷ acted
    ∷ acted
    ∷ acted
    ∷ acted
    ∷ acted
    ∷ acted
    ∷ acted
    ∷ acted
    ∷ acted
    ∷ held 2
    ∷ acted
    ∷ acted
    ∷ acted
    ∷ []

-- what is noted
abbrev pub history : List Note
history =
    begin (txn 3 1) payload_1
    ∷ []

-- what is sent, from message 1 on
abbrev pub messages : List Sent
messages =
    sent 2 0 (Last 1)
    ∷ sent 3 0 (Last 1)
    ∷ sent 0 2 (Stored (config 1 1 (1 ∷ 2 ∷ []) 1 0))
    ∷ sent 0 3 (Stored (config 1 1 (1 ∷ 2 ∷ []) 1 0))
    ∷ sent 2 1 (Probe 2)
    ∷ sent 2 2 (Probe 2)
    ∷ sent 3 1 (Probe 2)
    ∷ sent 3 2 (Probe 2)
    ∷ sent 1 2 (ProbeAck 2 1)
    ∷ sent 1 3 (ProbeAck 2 1)
    ∷ sent 2 0 (Cas (config 1 2 (1 ∷ 3 ∷ []) 1 2))
    ∷ sent 3 0 (Cas (config 1 2 (1 ∷ 3 ∷ []) 1 3))
    ∷ sent 0 2 (Stored (config 1 2 (1 ∷ 3 ∷ []) 1 2))
    ∷ sent 0 1 (ConfigChange (config 1 2 (1 ∷ 3 ∷ []) 1 2))
    ∷ sent 0 2 (ConfigChange (config 1 2 (1 ∷ 3 ∷ []) 1 2))
    ∷ sent 0 3 (ConfigChange (config 1 2 (1 ∷ 3 ∷ []) 1 2))
    ∷ sent 0 3 (Stored (config 1 2 (1 ∷ 3 ∷ []) 1 2))
    ∷ sent 2 1 (NewConfig (config 1 2 (1 ∷ 3 ∷ []) 1 2))
    ∷ sent 3 1 (Prepare 2 (txn 3 1) (1 ∷ []) (Some payload_1))
    ∷ sent 1 3 (Refused 1 why.Held 2)
    ∷ sent 1 3 (NewState (config 1 2 (1 ∷ 3 ∷ []) 1 2) [])
    ∷ sent 3 1 (Prepare 2 (txn 3 1) (1 ∷ []) (Some payload_1))
    ∷ sent 1 3 (PrepareAck 1 2 (entry 1 (txn 3 1) (1 ∷ []) (Some payload_1) votes.Commit))
    ∷ []

-- the transactions that commit, by their first decisions
abbrev pub order : List TxId
order = []

abbrev pub FencedLeaderHoldsPrepareShows : Type 0
FencedLeaderHoldsPrepareShows = Shows serial setup events results history messages order
