-- A transaction in a shard with a follower: it is accepted, then it commits.
use Rattle.std.specs.Prelude.{List, [], ◌∷◌, true, Some, codes}
use Rattle.tcs_terms.specs.declared.ids.TxId.{TxId}
use Rattle.tcs_terms.specs.declared.inputs.Event.{Event}
use Rattle.tcs_terms.specs.declared.inputs.Note.{Note}
use Rattle.tcs_terms.specs.declared.inputs.Result1.{Result1}
use Rattle.tcs_terms.specs.declared.messages.Message.TheVariants.{Prepare, PrepareAck, Accept, AcceptAck, DecisionFor, OutcomeOf}
use Rattle.tcs_terms.specs.declared.setups.Rule.TheVariants.{Serial}
use Rattle.tcs_terms.specs.declared.votes.Vote.TheVariants as votes
use Rattle.tcs_terms.specs.declared.votes.Decision.TheVariants as decisions
use Rattle.tcs_terms.specs.Payloads.{Accesses}
use Rattle.tcs_terms.specs.Setups.{Deployment}
use Rattle.cert_serial.specs.Serial.{serial}
use Rattle.protocol.specs.World.{Sent}
use Rattle.protocol.specs.Worked.Words.{deployment, config, txn, payload, reads, writes, entry, certify, deliver, begin, decide, sent, acted, Shows}

abbrev pub payload_1 : Accesses
payload_1 = payload (reads (codes "a") 0 ∷ []) [] (writes (codes "a") (5 ∷ []) ∷ []) 1

abbrev pub setup : Deployment
setup = deployment 1 Serial (1 ∷ 1 ∷ 1 ∷ []) (config 1 1 (1 ∷ 2 ∷ []) 1 0 ∷ [])

-- what happens
abbrev pub events : List Event
events =
    certify 1 payload_1
    ∷ deliver 1
    ∷ deliver 2
    ∷ deliver 3
    ∷ deliver 4
    ∷ []

-- what each event comes to
abbrev pub results : List Result1
results =
    acted
    ∷ acted
    ∷ acted
    ∷ acted
    ∷ acted
    ∷ []

-- what is noted
abbrev pub history : List Note
history =
    begin (txn 1 1) payload_1
    ∷ decide (txn 1 1) decisions.Commit
    ∷ []

-- what is sent, from message 1 on
abbrev pub messages : List Sent
messages =
    sent 1 1 (Prepare 1 (txn 1 1) (1 ∷ []) (Some payload_1))
    ∷ sent 1 1 (PrepareAck 1 1 (entry 1 (txn 1 1) (1 ∷ []) (Some payload_1) votes.Commit))
    ∷ sent 1 2 (Accept 1 (entry 1 (txn 1 1) (1 ∷ []) (Some payload_1) votes.Commit))
    ∷ sent 2 1 (AcceptAck 1 1 1 (txn 1 1))
    ∷ sent 1 1 (DecisionFor 1 1 (txn 1 1) true)
    ∷ sent 1 2 (DecisionFor 1 1 (txn 1 1) true)
    ∷ sent 1 1 (OutcomeOf (txn 1 1) decisions.Commit)
    ∷ []

-- the transactions that commit, by their first decisions
abbrev pub order : List TxId
order =
    txn 1 1
    ∷ []

abbrev pub AcceptPhaseShows : Type 0
AcceptPhaseShows = Shows serial setup events results history messages order
