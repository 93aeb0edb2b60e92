-- A state of 25 rows comes in two pieces, the second first, and each twice.
use Rattle.std.specs.Prelude.{List, [], ◌∷◌, Some, codes}
use Rattle.tcs_terms.specs.declared.ids.TxId.{TxId}
use Rattle.tcs_terms.specs.declared.inputs.Event.{Event}
use Rattle.tcs_terms.specs.declared.inputs.Note.{Note}
use Rattle.tcs_terms.specs.declared.inputs.Result1.{Result1}
use Rattle.tcs_terms.specs.declared.logs.Mark.TheVariants.{Undecided}
use Rattle.tcs_terms.specs.declared.messages.Message.TheVariants.{Prepare, PrepareAck, Probe, ProbeAck, NewConfig, ConfigChange, Last, Cas, Stored, Refused, StatePiece}
use Rattle.tcs_terms.specs.declared.messages.Why.TheVariants as why
use Rattle.tcs_terms.specs.declared.setups.Rule.TheVariants.{Serial}
use Rattle.tcs_terms.specs.declared.votes.Vote.TheVariants as votes
use Rattle.tcs_terms.specs.Payloads.{Accesses}
use Rattle.tcs_terms.specs.Setups.{Deployment}
use Rattle.cert_serial.specs.Serial.{serial}
use Rattle.protocol.specs.World.{Sent}
use Rattle.protocol.specs.Worked.Words.{deployment, config, txn, payload, reads, entry, row, certify, deliver, move, begin, sent, acted, stale, Shows}

abbrev pub payload_1 : Accesses
payload_1 = payload (reads (codes "a") 0 ∷ []) [] [] 1

abbrev pub setup : Deployment
setup = deployment 2 Serial (1 ∷ 1 ∷ 1 ∷ []) (config 1 1 (1 ∷ 2 ∷ []) 1 0 ∷ [])

-- what happens
abbrev pub events : List Event
events =
    certify 1 payload_1
    ∷ deliver 1
    ∷ certify 1 payload_1
    ∷ deliver 3
    ∷ certify 1 payload_1
    ∷ deliver 5
    ∷ certify 1 payload_1
    ∷ deliver 7
    ∷ certify 1 payload_1
    ∷ deliver 9
    ∷ certify 1 payload_1
    ∷ deliver 11
    ∷ certify 1 payload_1
    ∷ deliver 13
    ∷ certify 1 payload_1
    ∷ deliver 15
    ∷ certify 1 payload_1
    ∷ deliver 17
    ∷ certify 1 payload_1
    ∷ deliver 19
    ∷ certify 1 payload_1
    ∷ deliver 21
    ∷ certify 1 payload_1
    ∷ deliver 23
    ∷ certify 1 payload_1
    ∷ deliver 25
    ∷ certify 1 payload_1
    ∷ deliver 27
    ∷ certify 1 payload_1
    ∷ deliver 29
    ∷ certify 1 payload_1
    ∷ deliver 31
    ∷ certify 1 payload_1
    ∷ deliver 33
    ∷ certify 1 payload_1
    ∷ deliver 35
    ∷ certify 1 payload_1
    ∷ deliver 37
    ∷ certify 1 payload_1
    ∷ deliver 39
    ∷ certify 1 payload_1
    ∷ deliver 41
    ∷ certify 1 payload_1
    ∷ deliver 43
    ∷ certify 1 payload_1
    ∷ deliver 45
    ∷ certify 1 payload_1
    ∷ deliver 47
    ∷ certify 1 payload_1
    ∷ deliver 49
    ∷ move 3 1 (3 ∷ [])
    ∷ deliver 51
    ∷ deliver 52
    ∷ deliver 53
    ∷ deliver 55
    ∷ deliver 56
    ∷ deliver 57
    ∷ deliver 61
    ∷ deliver 63
    ∷ deliver 63
    ∷ deliver 62
    ∷ deliver 62
    ∷ []

-- what each event comes to
abbrev pub results : List Result1
results =
    acted
    ∷ acted
    ∷ acted
    ∷ acted
    ∷ acted
    ∷ acted
    ∷ acted
    ∷ acted
    ∷ acted
    ∷ acted
    ∷ acted
    ∷ acted
    ∷ acted
    ∷ acted
    ∷ acted
    ∷ acted
    ∷ acted
    ∷ acted
    ∷ acted
    ∷ acted
    ∷ acted
    ∷ acted
    ∷ acted
    ∷ acted
    ∷ acted
    ∷ acted
    ∷ acted
    ∷ acted
    ∷ acted
    ∷ acted
    ∷ acted
    ∷ acted
    ∷ acted
    ∷ acted
    ∷ acted
    ∷ acted
    ∷ acted
    ∷ acted
    ∷ acted
    ∷ acted
    ∷ acted
    ∷ acted
    ∷ acted
    ∷ acted
    ∷ acted
    ∷ acted
    ∷ acted
    ∷ acted
    ∷ acted
    ∷ acted
    ∷ acted
    ∷ acted
    ∷ acted
    ∷ acted
    ∷ acted
    ∷ acted
    ∷ acted
    ∷ acted
    ∷ acted
    ∷ acted
    ∷ acted
    ∷ stale 3
    ∷ []

-- what is noted
abbrev pub history : List Note
history =
    begin (txn 1 1) payload_1
    ∷ begin (txn 1 2) payload_1
    ∷ begin (txn 1 3) payload_1
    ∷ begin (txn 1 4) payload_1
    ∷ begin (txn 1 5) payload_1
    ∷ begin (txn 1 6) payload_1
    ∷ begin (txn 1 7) payload_1
    ∷ begin (txn 1 8) payload_1
    ∷ begin (txn 1 9) payload_1
    ∷ begin (txn 1 10) payload_1
    ∷ begin (txn 1 11) payload_1
    ∷ begin (txn 1 12) payload_1
    ∷ begin (txn 1 13) payload_1
    ∷ begin (txn 1 14) payload_1
    ∷ begin (txn 1 15) payload_1
    ∷ begin (txn 1 16) payload_1
    ∷ begin (txn 1 17) payload_1
    ∷ begin (txn 1 18) payload_1
    ∷ begin (txn 1 19) payload_1
    ∷ begin (txn 1 20) payload_1
    ∷ begin (txn 1 21) payload_1
    ∷ begin (txn 1 22) payload_1
    ∷ begin (txn 1 23) payload_1
    ∷ begin (txn 1 24) payload_1
    ∷ begin (txn 1 25) payload_1
    ∷ []

-- what is sent, from message 1 on
abbrev pub messages : List Sent
messages =
    sent 1 1 (Prepare 1 (txn 1 1) (1 ∷ []) (Some payload_1))
    ∷ sent 1 1 (PrepareAck 1 1 (entry 1 (txn 1 1) (1 ∷ []) (Some payload_1) votes.Commit))
    ∷ sent 1 1 (Prepare 1 (txn 1 2) (1 ∷ []) (Some payload_1))
    ∷ sent 1 1 (PrepareAck 1 1 (entry 2 (txn 1 2) (1 ∷ []) (Some payload_1) votes.Commit))
    ∷ sent 1 1 (Prepare 1 (txn 1 3) (1 ∷ []) (Some payload_1))
    ∷ sent 1 1 (PrepareAck 1 1 (entry 3 (txn 1 3) (1 ∷ []) (Some payload_1) votes.Commit))
    ∷ sent 1 1 (Prepare 1 (txn 1 4) (1 ∷ []) (Some payload_1))
    ∷ sent 1 1 (PrepareAck 1 1 (entry 4 (txn 1 4) (1 ∷ []) (Some payload_1) votes.Commit))
    ∷ sent 1 1 (Prepare 1 (txn 1 5) (1 ∷ []) (Some payload_1))
    ∷ sent 1 1 (PrepareAck 1 1 (entry 5 (txn 1 5) (1 ∷ []) (Some payload_1) votes.Commit))
    ∷ sent 1 1 (Prepare 1 (txn 1 6) (1 ∷ []) (Some payload_1))
    ∷ sent 1 1 (PrepareAck 1 1 (entry 6 (txn 1 6) (1 ∷ []) (Some payload_1) votes.Commit))
    ∷ sent 1 1 (Prepare 1 (txn 1 7) (1 ∷ []) (Some payload_1))
    ∷ sent 1 1 (PrepareAck 1 1 (entry 7 (txn 1 7) (1 ∷ []) (Some payload_1) votes.Commit))
    ∷ sent 1 1 (Prepare 1 (txn 1 8) (1 ∷ []) (Some payload_1))
    ∷ sent 1 1 (PrepareAck 1 1 (entry 8 (txn 1 8) (1 ∷ []) (Some payload_1) votes.Commit))
    ∷ sent 1 1 (Prepare 1 (txn 1 9) (1 ∷ []) (Some payload_1))
    ∷ sent 1 1 (PrepareAck 1 1 (entry 9 (txn 1 9) (1 ∷ []) (Some payload_1) votes.Commit))
    ∷ sent 1 1 (Prepare 1 (txn 1 10) (1 ∷ []) (Some payload_1))
    ∷ sent 1 1 (PrepareAck 1 1 (entry 10 (txn 1 10) (1 ∷ []) (Some payload_1) votes.Commit))
    ∷ sent 1 1 (Prepare 1 (txn 1 11) (1 ∷ []) (Some payload_1))
    ∷ sent 1 1 (PrepareAck 1 1 (entry 11 (txn 1 11) (1 ∷ []) (Some payload_1) votes.Commit))
    ∷ sent 1 1 (Prepare 1 (txn 1 12) (1 ∷ []) (Some payload_1))
    ∷ sent 1 1 (PrepareAck 1 1 (entry 12 (txn 1 12) (1 ∷ []) (Some payload_1) votes.Commit))
    ∷ sent 1 1 (Prepare 1 (txn 1 13) (1 ∷ []) (Some payload_1))
    ∷ sent 1 1 (PrepareAck 1 1 (entry 13 (txn 1 13) (1 ∷ []) (Some payload_1) votes.Commit))
    ∷ sent 1 1 (Prepare 1 (txn 1 14) (1 ∷ []) (Some payload_1))
    ∷ sent 1 1 (PrepareAck 1 1 (entry 14 (txn 1 14) (1 ∷ []) (Some payload_1) votes.Commit))
    ∷ sent 1 1 (Prepare 1 (txn 1 15) (1 ∷ []) (Some payload_1))
    ∷ sent 1 1 (PrepareAck 1 1 (entry 15 (txn 1 15) (1 ∷ []) (Some payload_1) votes.Commit))
    ∷ sent 1 1 (Prepare 1 (txn 1 16) (1 ∷ []) (Some payload_1))
    ∷ sent 1 1 (PrepareAck 1 1 (entry 16 (txn 1 16) (1 ∷ []) (Some payload_1) votes.Commit))
    ∷ sent 1 1 (Prepare 1 (txn 1 17) (1 ∷ []) (Some payload_1))
    ∷ sent 1 1 (PrepareAck 1 1 (entry 17 (txn 1 17) (1 ∷ []) (Some payload_1) votes.Commit))
    ∷ sent 1 1 (Prepare 1 (txn 1 18) (1 ∷ []) (Some payload_1))
    ∷ sent 1 1 (PrepareAck 1 1 (entry 18 (txn 1 18) (1 ∷ []) (Some payload_1) votes.Commit))
    ∷ sent 1 1 (Prepare 1 (txn 1 19) (1 ∷ []) (Some payload_1))
    ∷ sent 1 1 (PrepareAck 1 1 (entry 19 (txn 1 19) (1 ∷ []) (Some payload_1) votes.Commit))
    ∷ sent 1 1 (Prepare 1 (txn 1 20) (1 ∷ []) (Some payload_1))
    ∷ sent 1 1 (PrepareAck 1 1 (entry 20 (txn 1 20) (1 ∷ []) (Some payload_1) votes.Commit))
    ∷ sent 1 1 (Prepare 1 (txn 1 21) (1 ∷ []) (Some payload_1))
    ∷ sent 1 1 (PrepareAck 1 1 (entry 21 (txn 1 21) (1 ∷ []) (Some payload_1) votes.Commit))
    ∷ sent 1 1 (Prepare 1 (txn 1 22) (1 ∷ []) (Some payload_1))
    ∷ sent 1 1 (PrepareAck 1 1 (entry 22 (txn 1 22) (1 ∷ []) (Some payload_1) votes.Commit))
    ∷ sent 1 1 (Prepare 1 (txn 1 23) (1 ∷ []) (Some payload_1))
    ∷ sent 1 1 (PrepareAck 1 1 (entry 23 (txn 1 23) (1 ∷ []) (Some payload_1) votes.Commit))
    ∷ sent 1 1 (Prepare 1 (txn 1 24) (1 ∷ []) (Some payload_1))
    ∷ sent 1 1 (PrepareAck 1 1 (entry 24 (txn 1 24) (1 ∷ []) (Some payload_1) votes.Commit))
    ∷ sent 1 1 (Prepare 1 (txn 1 25) (1 ∷ []) (Some payload_1))
    ∷ sent 1 1 (PrepareAck 1 1 (entry 25 (txn 1 25) (1 ∷ []) (Some payload_1) votes.Commit))
    ∷ sent 3 0 (Last 1)
    ∷ sent 0 3 (Stored (config 1 1 (1 ∷ 2 ∷ []) 1 0))
    ∷ sent 3 1 (Probe 2)
    ∷ sent 3 2 (Probe 2)
    ∷ sent 1 3 (ProbeAck 2 1)
    ∷ sent 3 0 (Cas (config 1 2 (1 ∷ 3 ∷ []) 1 3))
    ∷ sent 0 3 (Stored (config 1 2 (1 ∷ 3 ∷ []) 1 3))
    ∷ sent 0 1 (ConfigChange (config 1 2 (1 ∷ 3 ∷ []) 1 3))
    ∷ sent 0 2 (ConfigChange (config 1 2 (1 ∷ 3 ∷ []) 1 3))
    ∷ sent 0 3 (ConfigChange (config 1 2 (1 ∷ 3 ∷ []) 1 3))
    ∷ sent 3 1 (NewConfig (config 1 2 (1 ∷ 3 ∷ []) 1 3))
    ∷ sent 1 3 (StatePiece (config 1 2 (1 ∷ 3 ∷ []) 1 3) 1 2 ((row (entry 1 (txn 1 1) (1 ∷ []) (Some payload_1) votes.Commit) Undecided) ∷ (row (entry 2 (txn 1 2) (1 ∷ []) (Some payload_1) votes.Commit) Undecided) ∷ (row (entry 3 (txn 1 3) (1 ∷ []) (Some payload_1) votes.Commit) Undecided) ∷ (row (entry 4 (txn 1 4) (1 ∷ []) (Some payload_1) votes.Commit) Undecided) ∷ (row (entry 5 (txn 1 5) (1 ∷ []) (Some payload_1) votes.Commit) Undecided) ∷ (row (entry 6 (txn 1 6) (1 ∷ []) (Some payload_1) votes.Commit) Undecided) ∷ (row (entry 7 (txn 1 7) (1 ∷ []) (Some payload_1) votes.Commit) Undecided) ∷ (row (entry 8 (txn 1 8) (1 ∷ []) (Some payload_1) votes.Commit) Undecided) ∷ (row (entry 9 (txn 1 9) (1 ∷ []) (Some payload_1) votes.Commit) Undecided) ∷ (row (entry 10 (txn 1 10) (1 ∷ []) (Some payload_1) votes.Commit) Undecided) ∷ (row (entry 11 (txn 1 11) (1 ∷ []) (Some payload_1) votes.Commit) Undecided) ∷ (row (entry 12 (txn 1 12) (1 ∷ []) (Some payload_1) votes.Commit) Undecided) ∷ (row (entry 13 (txn 1 13) (1 ∷ []) (Some payload_1) votes.Commit) Undecided) ∷ (row (entry 14 (txn 1 14) (1 ∷ []) (Some payload_1) votes.Commit) Undecided) ∷ (row (entry 15 (txn 1 15) (1 ∷ []) (Some payload_1) votes.Commit) Undecided) ∷ (row (entry 16 (txn 1 16) (1 ∷ []) (Some payload_1) votes.Commit) Undecided) ∷ (row (entry 17 (txn 1 17) (1 ∷ []) (Some payload_1) votes.Commit) Undecided) ∷ (row (entry 18 (txn 1 18) (1 ∷ []) (Some payload_1) votes.Commit) Undecided) ∷ (row (entry 19 (txn 1 19) (1 ∷ []) (Some payload_1) votes.Commit) Undecided) ∷ (row (entry 20 (txn 1 20) (1 ∷ []) (Some payload_1) votes.Commit) Undecided) ∷ (row (entry 21 (txn 1 21) (1 ∷ []) (Some payload_1) votes.Commit) Undecided) ∷ (row (entry 22 (txn 1 22) (1 ∷ []) (Some payload_1) votes.Commit) Undecided) ∷ (row (entry 23 (txn 1 23) (1 ∷ []) (Some payload_1) votes.Commit) Undecided) ∷ (row (entry 24 (txn 1 24) (1 ∷ []) (Some payload_1) votes.Commit) Undecided) ∷ []))
    ∷ sent 1 3 (StatePiece (config 1 2 (1 ∷ 3 ∷ []) 1 3) 2 2 ((row (entry 25 (txn 1 25) (1 ∷ []) (Some payload_1) votes.Commit) Undecided) ∷ []))
    ∷ sent 3 1 (Refused 17 why.Stale 3)
    ∷ []

-- the transactions that commit, by their first decisions
abbrev pub order : List TxId
order = []

abbrev pub StateInTwoPiecesShows : Type 0
StateInTwoPiecesShows = Shows serial setup events results history messages order
