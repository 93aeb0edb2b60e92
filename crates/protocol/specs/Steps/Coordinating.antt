-- Steps of a node that coordinates transactions.
use Rattle.std.specs.Prelude.{◌≡◌, [], ◌∷◌, Some, None, true, false}
use Rattle.tcs_terms.specs.declared.inputs.Handled.TheVariants.{Stale, Held}
use Rattle.tcs_terms.specs.declared.messages.Message.TheVariants.{Prepare, PrepareAck, Accept, AcceptAck, DecisionFor, ConfigChange, Last, At, Cas, OutcomeOf, Refused}
use Rattle.tcs_terms.specs.declared.votes.Vote.{Vote}
use Rattle.tcs_terms.specs.Places.{Membership}
use Rattle.tcs_terms.specs.Preparations.{Preparation}
use Rattle.cert_serial.specs.Serial.{serial}
use Rattle.protocol.specs.Outcomes.{to, acts, tells, rests}
use Rattle.protocol.specs.Records.{NodeRecord, Part, Case}
use Rattle.protocol.specs.Table.{step}
use Rattle.protocol.specs.Steps.Nodes.{given, held_back, too_old, first_1, first_2, second_1, writes_b, reads_both, both_in_1, both_in_2, entry_b, spare, asked_part, voted_part, coordinating, case_b}
use Rattle.protocol.specs.Worked.Words.{config, txn, entry, decide}
use Rattle.tcs_terms.specs.declared.inputs.Input.TheVariants as inputs
use Rattle.tcs_terms.specs.declared.messages.Why.TheVariants as why
use Rattle.tcs_terms.specs.declared.votes.Vote.TheVariants as votes
use Rattle.tcs_terms.specs.declared.votes.Cause.TheVariants as causes
use Rattle.tcs_terms.specs.declared.votes.Decision.TheVariants as decisions

-- the node with the case of its first transaction, in shard 1: asked, voted, and voted with an acknowledgement
abbrev pub asking : NodeRecord
asking = coordinating (case_b (asked_part 1))

abbrev pub accepting : NodeRecord
accepting = coordinating (case_b (voted_part 1 entry_b []))

-- the same where the view of shard 1 has two followers, of which node 2 has acknowledged
abbrev pub wide_1 : Membership
wide_1 = config 1 1 (1 ∷ 2 ∷ 3 ∷ []) 1 0

abbrev pub wide : Part → NodeRecord
wide part = record spare {
  next = 2;
  coordinator = record { views = wide_1 ∷ first_2 ∷ []; cases = (txn 3 1, case_b part) ∷ [] };
}

-- the same where the view of shard 1 is the second configuration
abbrev pub moved : Part → NodeRecord
moved part = record spare {
  next = 2;
  coordinator = record { views = second_1 ∷ first_2 ∷ []; cases = (txn 3 1, case_b part) ∷ [] };
}

-- the node without a case, after one
abbrev pub done : NodeRecord
done = record spare { next = 2 }

-- another entry at the slot of the voted one
abbrev pub other_b : Preparation
other_b = entry 2 (txn 3 1) (1 ∷ []) (Some writes_b) (votes.Clash (txn 4 1))

-- a case of both shards, and entries of it with these votes
abbrev pub case_both : Part → Part → Case
case_both in_1 in_2 = record { shards = 1 ∷ 2 ∷ []; payload = Some reads_both; parts = in_1 ∷ in_2 ∷ [] }

abbrev pub both_entry_1 : Vote → Preparation
both_entry_1 vote = entry 2 (txn 3 1) (1 ∷ 2 ∷ []) (Some both_in_1) vote

abbrev pub both_entry_2 : Vote → Preparation
both_entry_2 vote = entry 1 (txn 3 1) (1 ∷ 2 ∷ []) (Some both_in_2) vote

-- PREPARE_ACK acts from the leader of the shard's view, at its epoch, while the shard is asked or for the slot that
-- it voted. ACCEPT goes to the followers that have not acknowledged.
pub record Voted : Type 0 where
  pub becomes_voted : given asking 1 (PrepareAck 1 1 (entry_b)) ≡ acts accepting (to 2 (Accept 1 entry_b) ∷ [])
  pub first_entry_stays : given accepting 1 (PrepareAck 1 1 (other_b)) ≡ acts accepting (to 2 (Accept 1 entry_b) ∷ [])
  pub only_who_has_not_acknowledged : given (wide (voted_part 1 entry_b (2 ∷ []))) 1 (PrepareAck 1 1 (entry_b))
      ≡ acts (wide (voted_part 1 entry_b (2 ∷ []))) (to 3 (Accept 1 entry_b) ∷ [])
  pub other_slot : given accepting 1 (PrepareAck 1 1 (entry 3 (txn 3 1) (1 ∷ []) (Some writes_b) votes.Commit))
      ≡ held_back accepting 1 2 1
  pub not_from_the_leader : given asking 2 (PrepareAck 1 1 (entry_b)) ≡ held_back asking 2 2 1
  pub lower_epoch : given (moved (asked_part 1)) 1 (PrepareAck 1 1 (entry_b)) ≡ too_old (moved (asked_part 1)) 1 2 2
  pub higher_epoch : given asking 1 (PrepareAck 1 2 (entry_b)) ≡ held_back asking 1 2 1
  pub no_case : given done 1 (PrepareAck 1 1 (entry_b)) ≡ held_back done 1 2 1
  pub shard_not_of_the_case : given asking 4 (PrepareAck 2 1 (entry_b)) ≡ held_back asking 4 2 1
  pub shard_not_of_the_run : given asking 4 (PrepareAck 9 1 (entry_b)) ≡ held_back asking 4 2 0
  pub without_followers : given (coordinating (case_both (voted_part 1 (both_entry_1 votes.Commit) (2 ∷ [])) (asked_part 2))) 4 (PrepareAck 2 1 (both_entry_2 votes.Commit))
      ≡ tells done (to 1 (DecisionFor 1 2 (txn 3 1) true) ∷ to 2 (DecisionFor 1 2 (txn 3 1) true) ∷ to 4 (DecisionFor 1 1 (txn 3 1) true) ∷ to 3 (OutcomeOf (txn 3 1) decisions.Commit) ∷ []) (decide (txn 3 1) decisions.Commit ∷ [])

-- ACCEPT_ACK acts from a follower of the shard's view, at its epoch, for the voted slot. The last one that is missing
-- decides; an abort names the lowest shard that refused.
pub record Acknowledged : Type 0 where
  pub last_one_decides : given accepting 2 (AcceptAck 1 1 2 (txn 3 1))
      ≡ tells done (to 1 (DecisionFor 1 2 (txn 3 1) true) ∷ to 2 (DecisionFor 1 2 (txn 3 1) true) ∷ to 3 (OutcomeOf (txn 3 1) decisions.Commit) ∷ []) (decide (txn 3 1) decisions.Commit ∷ [])
  pub a_clash_decides : given (coordinating (case_b (voted_part 1 other_b []))) 2 (AcceptAck 1 1 2 (txn 3 1))
      ≡ tells done (to 1 (DecisionFor 1 2 (txn 3 1) false) ∷ to 2 (DecisionFor 1 2 (txn 3 1) false) ∷ to 3 (OutcomeOf (txn 3 1) (decisions.Abort 1 (causes.Clash (txn 4 1)))) ∷ []) (decide (txn 3 1) (decisions.Abort 1 (causes.Clash (txn 4 1))) ∷ [])
  pub one_of_two_waits : given (wide (voted_part 1 entry_b [])) 3 (AcceptAck 1 1 2 (txn 3 1))
      ≡ acts (wide (voted_part 1 entry_b (3 ∷ []))) []
  pub counts_once : given (wide (voted_part 1 entry_b (2 ∷ []))) 2 (AcceptAck 1 1 2 (txn 3 1))
      ≡ acts (wide (voted_part 1 entry_b (2 ∷ []))) []
  pub not_from_the_leader : given accepting 1 (AcceptAck 1 1 2 (txn 3 1)) ≡ held_back accepting 1 4 1
  pub not_from_a_stranger : given accepting 3 (AcceptAck 1 1 2 (txn 3 1)) ≡ held_back accepting 3 4 1
  pub shard_still_asked : given asking 2 (AcceptAck 1 1 2 (txn 3 1)) ≡ held_back asking 2 4 1
  pub other_slot : given accepting 2 (AcceptAck 1 1 3 (txn 3 1)) ≡ held_back accepting 2 4 1
  pub lower_epoch : given (moved (voted_part 1 entry_b [])) 1 (AcceptAck 1 1 2 (txn 3 1))
      ≡ too_old (moved (voted_part 1 entry_b [])) 1 4 2
  pub higher_epoch : given accepting 2 (AcceptAck 1 2 2 (txn 3 1)) ≡ held_back accepting 2 4 1
  pub no_case : given done 2 (AcceptAck 1 1 2 (txn 3 1)) ≡ held_back done 2 4 1
  pub other_shard_waits : given (coordinating (case_both (voted_part 1 (both_entry_1 votes.Commit) []) (asked_part 2))) 2 (AcceptAck 1 1 2 (txn 3 1))
      ≡ acts (coordinating (case_both (voted_part 1 (both_entry_1 votes.Commit) (2 ∷ [])) (asked_part 2))) []
  pub lowest_shard_named : (step serial 1 (coordinating (case_both (voted_part 1 (both_entry_1 votes.Lost) []) (voted_part 2 (both_entry_2 (votes.Clash (txn 4 1))) []))) (inputs.Deliver 2 (AcceptAck 1 1 2 (txn 3 1)))).notes
      ≡ decide (txn 3 1) (decisions.Abort 1 causes.Lost) ∷ []
  pub higher_shard_named : (step serial 1 (coordinating (case_both (voted_part 1 (both_entry_1 votes.Commit) []) (voted_part 2 (both_entry_2 (votes.Clash (txn 4 1))) []))) (inputs.Deliver 2 (AcceptAck 1 1 2 (txn 3 1)))).notes
      ≡ decide (txn 3 1) (decisions.Abort 2 (causes.Clash (txn 4 1))) ∷ []

-- CONFIG_CHANGE replaces an older view alone. A shard with a new view is asked again, its acknowledgements are
-- forgotten, and PREPARE goes to the new leader. It is answered by no notice.
pub record Changing : Type 0 where
  pub asks_again : given accepting 0 (ConfigChange second_1)
      ≡ acts (moved (asked_part 1)) (to 2 (Prepare 2 (txn 3 1) (1 ∷ []) (Some writes_b)) ∷ [])
  pub forgets_acknowledgements : given (wide (voted_part 1 entry_b (2 ∷ []))) 0 (ConfigChange second_1)
      ≡ acts (moved (asked_part 1)) (to 2 (Prepare 2 (txn 3 1) (1 ∷ []) (Some writes_b)) ∷ [])
  pub without_payload : given (coordinating (record { shards = 1 ∷ []; payload = None; parts = asked_part 1 ∷ [] })) 0 (ConfigChange second_1)
      ≡ acts (record spare { next = 2; coordinator = record { views = second_1 ∷ first_2 ∷ []; cases = (txn 3 1, record { shards = 1 ∷ []; payload = None; parts = asked_part 1 ∷ [] }) ∷ [] } }) (to 2 (Prepare 2 (txn 3 1) (1 ∷ []) None) ∷ [])
  pub other_shard_stays : given (coordinating (case_both (voted_part 1 (both_entry_1 votes.Commit) (2 ∷ [])) (asked_part 2))) 0 (ConfigChange (config 2 2 (4 ∷ 5 ∷ []) 5 3))
      ≡ acts (record spare { next = 2; coordinator = record { views = first_1 ∷ config 2 2 (4 ∷ 5 ∷ []) 5 3 ∷ []; cases = (txn 3 1, case_both (voted_part 1 (both_entry_1 votes.Commit) (2 ∷ [])) (asked_part 2)) ∷ [] } }) (to 5 (Prepare 2 (txn 3 1) (1 ∷ 2 ∷ []) (Some both_in_2)) ∷ [])
  pub cases_without_the_shard : given accepting 0 (ConfigChange (config 2 2 (4 ∷ 5 ∷ []) 5 3))
      ≡ acts (record accepting { coordinator = record { views = first_1 ∷ config 2 2 (4 ∷ 5 ∷ []) 5 3 ∷ []; cases = (txn 3 1, case_b (voted_part 1 entry_b [])) ∷ [] } }) []
  pub same_epoch : given accepting 0 (ConfigChange (config 1 1 (1 ∷ 3 ∷ []) 3 2)) ≡ rests (Held 1) accepting
  pub lower_epoch : given (moved (asked_part 1)) 0 (ConfigChange first_1) ≡ rests (Stale 2) (moved (asked_part 1))
  pub shard_not_of_the_run : given asking 0 (ConfigChange (config 9 2 (1 ∷ []) 1 1)) ≡ rests (Held 0) asking

-- The first OUTCOME of a transaction that the node made is kept. A REFUSED does nothing. LAST, AT and CAS are for the
-- service alone.
pub record Hearing : Type 0 where
  pub kept : given done 4 (OutcomeOf (txn 3 1) decisions.Commit)
      ≡ acts (record done { outcomes = (txn 3 1, decisions.Commit) ∷ [] }) []
  pub first_stays : given (record done { outcomes = (txn 3 1, decisions.Commit) ∷ [] }) 4 (OutcomeOf (txn 3 1) (decisions.Abort 1 causes.Lost))
      ≡ acts (record done { outcomes = (txn 3 1, decisions.Commit) ∷ [] }) []
  pub other_home : given done 4 (OutcomeOf (txn 4 1) decisions.Commit) ≡ rests (Held 0) done
  pub number_not_given : given done 4 (OutcomeOf (txn 3 2) decisions.Commit) ≡ rests (Held 0) done
  pub refusal : given done 4 (Refused 1 why.Held 1) ≡ acts done []
  pub last : given done 4 (Last 1) ≡ held_back done 4 11 0
  pub at : given done 4 (At 1 1) ≡ held_back done 4 12 0
  pub cas : given done 4 (Cas second_1) ≡ held_back done 4 13 0
