-- The take-over under version 2: the state comes in one piece.
use Rattle.std.specs.Prelude.{List, [], ◌∷◌, true, Some, None, codes}
use Rattle.tcs_terms.specs.declared.ids.TxId.{TxId}
use Rattle.tcs_terms.specs.declared.inputs.Event.{Event}
use Rattle.tcs_terms.specs.declared.inputs.Note.{Note}
use Rattle.tcs_terms.specs.declared.inputs.Result1.{Result1}
use Rattle.tcs_terms.specs.declared.logs.Mark.TheVariants.{Undecided}
use Rattle.tcs_terms.specs.declared.messages.Message.TheVariants.{Prepare, PrepareAck, Accept, AcceptAck, DecisionFor, Probe, ProbeAck, NewConfig, ConfigChange, Last, Cas, Stored, OutcomeOf, StatePiece}
use Rattle.tcs_terms.specs.declared.setups.Rule.TheVariants.{Serial}
use Rattle.tcs_terms.specs.declared.votes.Vote.TheVariants as votes
use Rattle.tcs_terms.specs.declared.votes.Decision.TheVariants as decisions
use Rattle.tcs_terms.specs.Payloads.{Accesses}
use Rattle.tcs_terms.specs.Setups.{Deployment}
use Rattle.cert_serial.specs.Serial.{serial}
use Rattle.protocol.specs.World.{Sent}
use Rattle.protocol.specs.Worked.Words.{deployment, config, txn, payload, reads, writes, entry, row, certify, deliver, stop, take, move, begin, took, decide, sent, acted, Shows}

abbrev pub payload_1 : Accesses
payload_1 = payload (reads (codes "a") 0 ∷ []) [] (writes (codes "a") (5 ∷ []) ∷ []) 1

abbrev pub setup : Deployment
setup = deployment 2 Serial (1 ∷ 1 ∷ 1 ∷ []) (config 1 1 (1 ∷ 2 ∷ []) 1 0 ∷ [])

-- what happens
abbrev pub events : List Event
events =
    certify 1 payload_1
    ∷ deliver 1
    ∷ deliver 2
    ∷ deliver 3
    ∷ deliver 4
    ∷ stop 1
    ∷ move 3 1 (3 ∷ [])
    ∷ deliver 8
    ∷ deliver 9
    ∷ deliver 11
    ∷ deliver 12
    ∷ deliver 13
    ∷ deliver 14
    ∷ deliver 18
    ∷ deliver 19
    ∷ take 3 (txn 1 1)
    ∷ deliver 20
    ∷ deliver 21
    ∷ deliver 22
    ∷ deliver 23
    ∷ []

-- what each event comes to
abbrev pub results : List Result1
results =
    acted
    ∷ acted
    ∷ acted
    ∷ acted
    ∷ acted
    ∷ acted
    ∷ acted
    ∷ acted
    ∷ acted
    ∷ acted
    ∷ acted
    ∷ acted
    ∷ acted
    ∷ acted
    ∷ acted
    ∷ acted
    ∷ acted
    ∷ acted
    ∷ acted
    ∷ acted
    ∷ []

-- what is noted
abbrev pub history : List Note
history =
    begin (txn 1 1) payload_1
    ∷ decide (txn 1 1) decisions.Commit
    ∷ took (txn 1 1)
    ∷ decide (txn 1 1) decisions.Commit
    ∷ []

-- what is sent, from message 1 on
abbrev pub messages : List Sent
messages =
    sent 1 1 (Prepare 1 (txn 1 1) (1 ∷ []) (Some payload_1))
    ∷ sent 1 1 (PrepareAck 1 1 (entry 1 (txn 1 1) (1 ∷ []) (Some payload_1) votes.Commit))
    ∷ sent 1 2 (Accept 1 (entry 1 (txn 1 1) (1 ∷ []) (Some payload_1) votes.Commit))
    ∷ sent 2 1 (AcceptAck 1 1 1 (txn 1 1))
    ∷ sent 1 1 (DecisionFor 1 1 (txn 1 1) true)
    ∷ sent 1 2 (DecisionFor 1 1 (txn 1 1) true)
    ∷ sent 1 1 (OutcomeOf (txn 1 1) decisions.Commit)
    ∷ sent 3 0 (Last 1)
    ∷ sent 0 3 (Stored (config 1 1 (1 ∷ 2 ∷ []) 1 0))
    ∷ sent 3 1 (Probe 2)
    ∷ sent 3 2 (Probe 2)
    ∷ sent 2 3 (ProbeAck 2 1)
    ∷ sent 3 0 (Cas (config 1 2 (2 ∷ 3 ∷ []) 2 3))
    ∷ sent 0 3 (Stored (config 1 2 (2 ∷ 3 ∷ []) 2 3))
    ∷ sent 0 1 (ConfigChange (config 1 2 (2 ∷ 3 ∷ []) 2 3))
    ∷ sent 0 2 (ConfigChange (config 1 2 (2 ∷ 3 ∷ []) 2 3))
    ∷ sent 0 3 (ConfigChange (config 1 2 (2 ∷ 3 ∷ []) 2 3))
    ∷ sent 3 2 (NewConfig (config 1 2 (2 ∷ 3 ∷ []) 2 3))
    ∷ sent 2 3 (StatePiece (config 1 2 (2 ∷ 3 ∷ []) 2 3) 1 1 ((row (entry 1 (txn 1 1) (1 ∷ []) (Some payload_1) votes.Commit) Undecided) ∷ []))
    ∷ sent 3 2 (Prepare 2 (txn 1 1) (1 ∷ []) None)
    ∷ sent 2 3 (PrepareAck 1 2 (entry 1 (txn 1 1) (1 ∷ []) (Some payload_1) votes.Commit))
    ∷ sent 3 3 (Accept 2 (entry 1 (txn 1 1) (1 ∷ []) (Some payload_1) votes.Commit))
    ∷ sent 3 3 (AcceptAck 1 2 1 (txn 1 1))
    ∷ sent 3 2 (DecisionFor 2 1 (txn 1 1) true)
    ∷ sent 3 3 (DecisionFor 2 1 (txn 1 1) true)
    ∷ sent 3 1 (OutcomeOf (txn 1 1) decisions.Commit)
    ∷ []

-- the transactions that commit, by their first decisions
abbrev pub order : List TxId
order =
    txn 1 1
    ∷ []

abbrev pub StateInOnePieceShows : Type 0
StateInOnePieceShows = Shows serial setup events results history messages order
