-- A take-over finds no preparation in the second shard: the transaction is lost there, and the late PREPARE gets the same entry.
use Rattle.std.specs.Prelude.{List, [], ◌∷◌, false, Some, None, codes}
use Rattle.tcs_terms.specs.declared.ids.TxId.{TxId}
use Rattle.tcs_terms.specs.declared.inputs.Event.{Event}
use Rattle.tcs_terms.specs.declared.inputs.Note.{Note}
use Rattle.tcs_terms.specs.declared.inputs.Result1.{Result1}
use Rattle.tcs_terms.specs.declared.inputs.Result1.TheVariants.{Gone}
use Rattle.tcs_terms.specs.declared.messages.Message.TheVariants.{Prepare, PrepareAck, DecisionFor, OutcomeOf}
use Rattle.tcs_terms.specs.declared.setups.Rule.TheVariants.{Serial}
use Rattle.tcs_terms.specs.declared.votes.Vote.TheVariants as votes
use Rattle.tcs_terms.specs.declared.votes.Cause.TheVariants as causes
use Rattle.tcs_terms.specs.declared.votes.Decision.TheVariants as decisions
use Rattle.tcs_terms.specs.Payloads.{Accesses}
use Rattle.tcs_terms.specs.Setups.{Deployment}
use Rattle.cert_serial.specs.Serial.{serial}
use Rattle.protocol.specs.World.{Sent}
use Rattle.protocol.specs.Worked.Words.{deployment, config, txn, payload, reads, writes, entry, certify, deliver, stop, take, begin, took, decide, sent, acted, Shows}

abbrev pub payload_1 : Accesses
payload_1 = payload (reads (codes "a") 0 ∷ reads (codes "b") 0 ∷ []) [] (writes (codes "a") (1 ∷ []) ∷ []) 1

abbrev pub payload_2 : Accesses
payload_2 = payload (reads (codes "b") 0 ∷ []) [] [] 1

abbrev pub payload_3 : Accesses
payload_3 = payload (reads (codes "a") 0 ∷ []) [] (writes (codes "a") (1 ∷ []) ∷ []) 1

abbrev pub setup : Deployment
setup = deployment 1 Serial (1 ∷ 2 ∷ 1 ∷ []) (config 1 1 (1 ∷ []) 1 0 ∷ config 2 1 (2 ∷ []) 2 0 ∷ [])

-- what happens
abbrev pub events : List Event
events =
    certify 3 payload_1
    ∷ deliver 1
    ∷ stop 3
    ∷ take 1 (txn 3 1)
    ∷ deliver 4
    ∷ deliver 5
    ∷ deliver 6
    ∷ deliver 7
    ∷ deliver 2
    ∷ deliver 11
    ∷ []

-- what each event comes to
abbrev pub results : List Result1
results =
    acted
    ∷ acted
    ∷ acted
    ∷ acted
    ∷ acted
    ∷ acted
    ∷ acted
    ∷ acted
    ∷ acted
    ∷ Gone
    ∷ []

-- what is noted
abbrev pub history : List Note
history =
    begin (txn 3 1) payload_1
    ∷ took (txn 3 1)
    ∷ decide (txn 3 1) (decisions.Abort 2 causes.Lost)
    ∷ []

-- what is sent, from message 1 on
abbrev pub messages : List Sent
messages =
    sent 3 1 (Prepare 1 (txn 3 1) (1 ∷ 2 ∷ []) (Some payload_2))
    ∷ sent 3 2 (Prepare 1 (txn 3 1) (1 ∷ 2 ∷ []) (Some payload_3))
    ∷ sent 1 3 (PrepareAck 1 1 (entry 1 (txn 3 1) (1 ∷ 2 ∷ []) (Some payload_2) votes.Commit))
    ∷ sent 1 1 (Prepare 1 (txn 3 1) (1 ∷ 2 ∷ []) None)
    ∷ sent 1 2 (Prepare 1 (txn 3 1) (1 ∷ 2 ∷ []) None)
    ∷ sent 1 1 (PrepareAck 1 1 (entry 1 (txn 3 1) (1 ∷ 2 ∷ []) (Some payload_2) votes.Commit))
    ∷ sent 2 1 (PrepareAck 2 1 (entry 1 (txn 3 1) (1 ∷ 2 ∷ []) None votes.Lost))
    ∷ sent 1 1 (DecisionFor 1 1 (txn 3 1) false)
    ∷ sent 1 2 (DecisionFor 1 1 (txn 3 1) false)
    ∷ sent 1 3 (OutcomeOf (txn 3 1) (decisions.Abort 2 causes.Lost))
    ∷ sent 2 3 (PrepareAck 2 1 (entry 1 (txn 3 1) (1 ∷ 2 ∷ []) None votes.Lost))
    ∷ []

-- the transactions that commit, by their first decisions
abbrev pub order : List TxId
order = []

abbrev pub LostPreparationShows : Type 0
LostPreparationShows = Shows serial setup events results history messages order
