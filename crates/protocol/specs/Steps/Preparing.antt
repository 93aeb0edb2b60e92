-- Steps of a node that prepares, accepts and marks.
use Rattle.std.specs.Prelude.{◌≡◌, ℕ, [], ◌∷◌, Some, None, true, false}
use Rattle.tcs_terms.specs.declared.inputs.Handled.TheVariants.{Full}
use Rattle.tcs_terms.specs.declared.logs.Mark.TheVariants.{Undecided, Committed, Aborted}
use Rattle.tcs_terms.specs.declared.messages.Message.TheVariants.{Prepare, PrepareAck, Accept, AcceptAck, DecisionFor, Refused}
use Rattle.tcs_terms.specs.Payloads.{Accesses}
use Rattle.tcs_terms.specs.Preparations.{Preparation}
use Rattle.cert_serial.specs.Serial.{serial}
use Rattle.protocol.specs.Outcomes.{to, acts, rests}
use Rattle.protocol.specs.Records.{NodeRecord}
use Rattle.protocol.specs.Table.{step}
use Rattle.protocol.specs.Steps.Nodes.{given, held_back, too_old, writes_b, reads_b, entry_b, undecided_b, committed_b, leader, follower, fenced}
use Rattle.protocol.specs.Worked.Words.{txn, entry, row}
use Rattle.tcs_terms.specs.declared.inputs.Input.TheVariants as inputs
use Rattle.tcs_terms.specs.declared.messages.Why.TheVariants as why
use Rattle.tcs_terms.specs.declared.votes.Vote.TheVariants as votes

-- a new entry of node 4's first transaction, in shard 1 alone
abbrev pub entry_4 : ℕ → Accesses → Preparation
entry_4 slot part = entry slot (txn 4 1) (1 ∷ []) (Some part) votes.Commit

-- that of a preparation that was lost
abbrev pub lost_4 : ℕ → Preparation
lost_4 slot = entry slot (txn 4 1) (1 ∷ []) None votes.Lost

-- the leader in epoch 2
abbrev pub later : NodeRecord
later = record leader { state = 2; promised = 2 }

-- the leader with a full log
abbrev pub full_leader : NodeRecord
full_leader = record leader { rows = row (entry 4096 (txn 3 1) (1 ∷ []) (Some writes_b) votes.Commit) Undecided ∷ [] }

-- PREPARE acts at a leader of its epoch, for a transaction of its shard, while a slot is left or the transaction is
-- known.
pub record Preparing : Type 0 where
  pub appends : given (record leader { rows = [] }) 3 (Prepare 1 (txn 4 1) (1 ∷ []) (Some reads_b))
      ≡ acts (record leader { rows = row (entry_4 1 reads_b) Undecided ∷ [] }) (to 3 (PrepareAck 1 1 (entry_4 1 reads_b)) ∷ [])
  pub after_the_last_slot : given leader 3 (Prepare 1 (txn 4 1) (1 ∷ []) (Some reads_b))
      ≡ acts (record leader { rows = undecided_b ∷ row (entry 3 (txn 4 1) (1 ∷ []) (Some reads_b) (votes.Clash (txn 3 1))) Undecided ∷ [] }) (to 3 (PrepareAck 1 1 (entry 3 (txn 4 1) (1 ∷ []) (Some reads_b) (votes.Clash (txn 3 1)))) ∷ [])
  pub known : given leader 4 (Prepare 1 (txn 3 1) (1 ∷ []) (Some writes_b))
      ≡ acts leader (to 4 (PrepareAck 1 1 entry_b) ∷ [])
  pub known_without_payload : given leader 4 (Prepare 1 (txn 3 1) (1 ∷ []) None)
      ≡ acts leader (to 4 (PrepareAck 1 1 entry_b) ∷ [])
  pub lost : given leader 4 (Prepare 1 (txn 4 1) (1 ∷ []) None)
      ≡ acts (record leader { rows = undecided_b ∷ row (lost_4 3) Undecided ∷ [] }) (to 4 (PrepareAck 1 1 (lost_4 3)) ∷ [])
  pub lower_epoch : given later 3 (Prepare 1 (txn 4 1) (1 ∷ []) (Some reads_b)) ≡ too_old later 3 1 2
  pub higher_epoch : given leader 3 (Prepare 2 (txn 4 1) (1 ∷ []) (Some reads_b)) ≡ held_back leader 3 1 1
  pub follower_holds : given follower 3 (Prepare 1 (txn 4 1) (1 ∷ []) (Some reads_b)) ≡ held_back follower 3 1 1
  pub fenced_refuses : given fenced 3 (Prepare 1 (txn 4 1) (1 ∷ []) (Some reads_b)) ≡ too_old fenced 3 1 2
  pub other_shard : given leader 3 (Prepare 1 (txn 4 1) (2 ∷ []) (Some reads_b)) ≡ held_back leader 3 1 1
  pub full_log : given full_leader 3 (Prepare 1 (txn 4 1) (1 ∷ []) (Some reads_b))
      ≡ record (rests Full full_leader) { sends = to 3 (Refused 1 why.Full 1) ∷ [] }
  pub known_in_full_log : given full_leader 3 (Prepare 1 (txn 3 1) (1 ∷ []) (Some writes_b))
      ≡ acts full_leader (to 3 (PrepareAck 1 1 (entry 4096 (txn 3 1) (1 ∷ []) (Some writes_b) votes.Commit)) ∷ [])

-- A vote names the row of lowest slot that clashes: a committed one by the committed test, an undecided one that
-- voted to commit by the prepared test, and no other.
pub record Voting : Type 0 where
  pub prepared_clashes : (step serial 1 (record leader { rows = undecided_b ∷ [] }) (inputs.Deliver 3 (Prepare 1 (txn 4 1) (1 ∷ []) (Some reads_b)))).sends
      ≡ to 3 (PrepareAck 1 1 (entry 3 (txn 4 1) (1 ∷ []) (Some reads_b) (votes.Clash (txn 3 1)))) ∷ []
  pub committed_clashes : (step serial 1 (record leader { rows = committed_b ∷ [] }) (inputs.Deliver 3 (Prepare 1 (txn 4 1) (1 ∷ []) (Some reads_b)))).sends
      ≡ to 3 (PrepareAck 1 1 (entry 3 (txn 4 1) (1 ∷ []) (Some reads_b) (votes.Clash (txn 3 1)))) ∷ []
  pub aborted_passes : (step serial 1 (record leader { rows = row entry_b Aborted ∷ [] }) (inputs.Deliver 3 (Prepare 1 (txn 4 1) (1 ∷ []) (Some reads_b)))).sends
      ≡ to 3 (PrepareAck 1 1 (entry 3 (txn 4 1) (1 ∷ []) (Some reads_b) votes.Commit)) ∷ []
  pub lost_passes : (step serial 1 (record leader { rows = row (entry 2 (txn 3 1) (1 ∷ []) None votes.Lost) Undecided ∷ [] }) (inputs.Deliver 3 (Prepare 1 (txn 4 1) (1 ∷ []) (Some reads_b)))).sends
      ≡ to 3 (PrepareAck 1 1 (entry 3 (txn 4 1) (1 ∷ []) (Some reads_b) votes.Commit)) ∷ []
  pub refused_passes : (step serial 1 (record leader { rows = row (entry 2 (txn 3 1) (1 ∷ []) (Some writes_b) (votes.Clash (txn 3 7))) Undecided ∷ [] }) (inputs.Deliver 3 (Prepare 1 (txn 4 1) (1 ∷ []) (Some reads_b)))).sends
      ≡ to 3 (PrepareAck 1 1 (entry 3 (txn 4 1) (1 ∷ []) (Some reads_b) votes.Commit)) ∷ []
  pub lowest_slot : (step serial 1 (record leader { rows = undecided_b ∷ row (entry 3 (txn 3 2) (1 ∷ []) (Some writes_b) votes.Commit) Undecided ∷ [] }) (inputs.Deliver 3 (Prepare 1 (txn 4 1) (1 ∷ []) (Some reads_b)))).sends
      ≡ to 3 (PrepareAck 1 1 (entry 4 (txn 4 1) (1 ∷ []) (Some reads_b) (votes.Clash (txn 3 1)))) ∷ []
  pub readers_pass : (step serial 1 (record leader { rows = row (entry 2 (txn 3 1) (1 ∷ []) (Some reads_b) votes.Commit) Undecided ∷ [] }) (inputs.Deliver 3 (Prepare 1 (txn 4 1) (1 ∷ []) (Some reads_b)))).sends
      ≡ to 3 (PrepareAck 1 1 (entry 3 (txn 4 1) (1 ∷ []) (Some reads_b) votes.Commit)) ∷ []
  pub reader_clashes_with_writer : (step serial 1 (record leader { rows = row (entry 2 (txn 3 1) (1 ∷ []) (Some reads_b) votes.Commit) Undecided ∷ [] }) (inputs.Deliver 3 (Prepare 1 (txn 4 1) (1 ∷ []) (Some writes_b)))).sends
      ≡ to 3 (PrepareAck 1 1 (entry 3 (txn 4 1) (1 ∷ []) (Some writes_b) (votes.Clash (txn 3 1)))) ∷ []

-- ACCEPT acts at a follower of its epoch, unless its slot or its transaction is taken. An entry that is there stays
-- as it is.
pub record Accepting : Type 0 where
  pub puts : given follower 1 (Accept 1 (entry_4 3 reads_b))
      ≡ acts (record follower { rows = undecided_b ∷ row (entry_4 3 reads_b) Undecided ∷ [] }) (to 1 (AcceptAck 1 1 3 (txn 4 1)) ∷ [])
  pub puts_before : given follower 1 (Accept 1 (entry_4 1 reads_b))
      ≡ acts (record follower { rows = row (entry_4 1 reads_b) Undecided ∷ undecided_b ∷ [] }) (to 1 (AcceptAck 1 1 1 (txn 4 1)) ∷ [])
  pub again : given follower 1 (Accept 1 (entry_b)) ≡ acts follower (to 1 (AcceptAck 1 1 2 (txn 3 1)) ∷ [])
  pub again_after_decision : given (record follower { rows = committed_b ∷ [] }) 1 (Accept 1 (entry_b))
      ≡ acts (record follower { rows = committed_b ∷ [] }) (to 1 (AcceptAck 1 1 2 (txn 3 1)) ∷ [])
  pub slot_taken : given follower 1 (Accept 1 (entry_4 2 reads_b)) ≡ held_back follower 1 3 1
  pub transaction_elsewhere : given follower 1 (Accept 1 (entry 3 (txn 3 1) (1 ∷ []) (Some writes_b) votes.Commit))
      ≡ held_back follower 1 3 1
  pub leader_holds : given leader 1 (Accept 1 (entry_4 3 reads_b)) ≡ held_back leader 1 3 1
  pub lower_epoch : given (record follower { state = 2; promised = 2 }) 1 (Accept 1 (entry_4 3 reads_b))
      ≡ too_old (record follower { state = 2; promised = 2 }) 1 3 2
  pub higher_epoch : given follower 1 (Accept 2 (entry_4 3 reads_b)) ≡ held_back follower 1 3 1
  pub fenced_refuses : given fenced 1 (Accept 1 (entry_4 3 reads_b)) ≡ too_old fenced 1 3 2

-- DECISION marks the row of its slot and transaction, in its epoch or a later one. The first mark stays.
pub record Deciding : Type 0 where
  pub commits : given follower 3 (DecisionFor 1 2 (txn 3 1) true)
      ≡ acts (record follower { rows = committed_b ∷ [] }) []
  pub aborts : given follower 3 (DecisionFor 1 2 (txn 3 1) false)
      ≡ acts (record follower { rows = row entry_b Aborted ∷ [] }) []
  pub first_mark_stays : given (record follower { rows = committed_b ∷ [] }) 3 (DecisionFor 1 2 (txn 3 1) false)
      ≡ acts (record follower { rows = committed_b ∷ [] }) []
  pub others_stay : given (record follower { rows = undecided_b ∷ row (entry_4 3 reads_b) Undecided ∷ [] }) 3 (DecisionFor 1 3 (txn 4 1) true)
      ≡ acts (record follower { rows = undecided_b ∷ row (entry_4 3 reads_b) Committed ∷ [] }) []
  pub in_a_later_epoch : given later 3 (DecisionFor 1 2 (txn 3 1) true)
      ≡ acts (record later { rows = committed_b ∷ [] }) []
  pub fenced_marks : given fenced 3 (DecisionFor 1 2 (txn 3 1) true)
      ≡ acts (record fenced { rows = committed_b ∷ [] }) []
  pub epoch_to_come : given follower 3 (DecisionFor 2 2 (txn 3 1) true) ≡ held_back follower 3 5 1
  pub free_slot : given follower 3 (DecisionFor 1 1 (txn 3 1) true) ≡ held_back follower 3 5 1
  pub other_transaction : given follower 3 (DecisionFor 1 2 (txn 4 1) true) ≡ held_back follower 3 5 1
  pub other_transaction_of_old : given later 3 (DecisionFor 1 2 (txn 4 1) true) ≡ too_old later 3 5 2
