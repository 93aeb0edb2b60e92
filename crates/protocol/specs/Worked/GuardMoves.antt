-- A shard whose leader stopped is moved, and the case of a third node is decided there.
use Rattle.std.specs.Prelude.{List, [], ◌∷◌, true, Some, codes}
use Rattle.tcs_terms.specs.declared.ids.TxId.{TxId}
use Rattle.tcs_terms.specs.declared.inputs.Event.{Event}
use Rattle.tcs_terms.specs.declared.inputs.Note.{Note}
use Rattle.tcs_terms.specs.declared.inputs.Result1.{Result1}
use Rattle.tcs_terms.specs.declared.messages.Message.TheVariants.{Prepare, PrepareAck, Accept, AcceptAck, DecisionFor, Probe, ProbeAck, NewConfig, NewState, ConfigChange, Last, Cas, Stored, OutcomeOf}
use Rattle.tcs_terms.specs.declared.setups.Rule.TheVariants.{Serial}
use Rattle.tcs_terms.specs.declared.votes.Vote.TheVariants as votes
use Rattle.tcs_terms.specs.declared.votes.Decision.TheVariants as decisions
use Rattle.tcs_terms.specs.Payloads.{Accesses}
use Rattle.tcs_terms.specs.Setups.{Deployment}
use Rattle.cert_serial.specs.Serial.{serial}
use Rattle.protocol.specs.World.{Sent}
use Rattle.protocol.specs.Worked.Words.{deployment, config, txn, payload, reads, entry, certify, deliver, stop, move, nudge, begin, decide, sent, acted, held, Shows}

abbrev pub payload_1 : Accesses
payload_1 = payload (reads (codes "a") 0 ∷ []) [] [] 1

abbrev pub setup : Deployment
setup = deployment 1 Serial (1 ∷ 1 ∷ 1 ∷ []) (config 1 1 (1 ∷ 2 ∷ []) 1 0 ∷ [])

-- what happens
abbrev pub events : List Event
events =
    stop 1
    ∷ certify 3 payload_1
    ∷ nudge 3
    ∷ nudge 3
    ∷ move 2 1 (2 ∷ 3 ∷ [])
    ∷ deliver 4
    ∷ deliver 5
    ∷ deliver 7
    ∷ deliver 8
    ∷ deliver 9
    ∷ deliver 10
    ∷ deliver 13
    ∷ deliver 12
    ∷ deliver 14
    ∷ deliver 16
    ∷ deliver 15
    ∷ deliver 17
    ∷ deliver 18
    ∷ deliver 19
    ∷ []

-- what each event comes to
abbrev pub results : List Result1
results =
    acted
    ∷ acted
    ∷ acted
    ∷ acted
    ∷ acted
    ∷ acted
    ∷ acted
    ∷ acted
    ∷ acted
    ∷ acted
    ∷ acted
    ∷ acted
    ∷ held 2
    ∷ acted
    ∷ acted
    ∷ acted
    ∷ acted
    ∷ acted
    ∷ acted
    ∷ []

-- what is noted
abbrev pub history : List Note
history =
    begin (txn 3 1) payload_1
    ∷ decide (txn 3 1) decisions.Commit
    ∷ []

-- what is sent, from message 1 on
abbrev pub messages : List Sent
messages =
    sent 3 1 (Prepare 1 (txn 3 1) (1 ∷ []) (Some payload_1))
    ∷ sent 3 1 (Prepare 1 (txn 3 1) (1 ∷ []) (Some payload_1))
    ∷ sent 3 1 (Prepare 1 (txn 3 1) (1 ∷ []) (Some payload_1))
    ∷ sent 2 0 (Last 1)
    ∷ sent 0 2 (Stored (config 1 1 (1 ∷ 2 ∷ []) 1 0))
    ∷ sent 2 1 (Probe 2)
    ∷ sent 2 2 (Probe 2)
    ∷ sent 2 2 (ProbeAck 2 1)
    ∷ sent 2 0 (Cas (config 1 2 (2 ∷ 3 ∷ []) 2 2))
    ∷ sent 0 2 (Stored (config 1 2 (2 ∷ 3 ∷ []) 2 2))
    ∷ sent 0 1 (ConfigChange (config 1 2 (2 ∷ 3 ∷ []) 2 2))
    ∷ sent 0 2 (ConfigChange (config 1 2 (2 ∷ 3 ∷ []) 2 2))
    ∷ sent 0 3 (ConfigChange (config 1 2 (2 ∷ 3 ∷ []) 2 2))
    ∷ sent 2 2 (NewConfig (config 1 2 (2 ∷ 3 ∷ []) 2 2))
    ∷ sent 3 2 (Prepare 2 (txn 3 1) (1 ∷ []) (Some payload_1))
    ∷ sent 2 3 (NewState (config 1 2 (2 ∷ 3 ∷ []) 2 2) [])
    ∷ sent 2 3 (PrepareAck 1 2 (entry 1 (txn 3 1) (1 ∷ []) (Some payload_1) votes.Commit))
    ∷ sent 3 3 (Accept 2 (entry 1 (txn 3 1) (1 ∷ []) (Some payload_1) votes.Commit))
    ∷ sent 3 3 (AcceptAck 1 2 1 (txn 3 1))
    ∷ sent 3 2 (DecisionFor 2 1 (txn 3 1) true)
    ∷ sent 3 3 (DecisionFor 2 1 (txn 3 1) true)
    ∷ sent 3 3 (OutcomeOf (txn 3 1) decisions.Commit)
    ∷ []

-- the transactions that commit, by their first decisions
abbrev pub order : List TxId
order =
    txn 3 1
    ∷ []

abbrev pub GuardMovesShows : Type 0
GuardMovesShows = Shows serial setup events results history messages order
