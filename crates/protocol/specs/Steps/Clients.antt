-- Steps of a node that a client calls.
use Rattle.std.specs.Prelude.{◌≡◌, ℕ, List, [], ◌∷◌, Some, None, codes}
use Rattle.tcs_terms.specs.declared.inputs.Handled.TheVariants.{Acted, Held, Full}
use Rattle.tcs_terms.specs.declared.inputs.Input.TheVariants as inputs
use Rattle.tcs_terms.specs.declared.logs.Mark.TheVariants.{Committed, Aborted}
use Rattle.tcs_terms.specs.declared.messages.Message.TheVariants.{Prepare, Accept, Last, At, Cas, Probe}
use Rattle.tcs_terms.specs.declared.votes.Vote.TheVariants as votes
use Rattle.tcs_terms.specs.Preparations.{Preparation}
use Rattle.cert_serial.specs.Serial.{serial}
use Rattle.protocol.specs.Outcomes.{to, acts, tells, rests}
use Rattle.protocol.specs.Records.Stage.{AskedLast, Probing, AskedLower, CasSent}
use Rattle.protocol.specs.Table.{step}
use Rattle.protocol.specs.Steps.Nodes.{first_1, first_2, second_1, writes_b, reads_both, both_in_1, both_in_2, entry_b, undecided_b, committed_b, leader, follower, spare, asked_part, voted_part, coordinating, case_b, moving}
use Rattle.protocol.specs.Worked.Words.{txn, reads, writes, payload, entry, row, begin, took, found}

-- A transaction begins while the node has a number for it.
pub record Certifying : Type 0 where
  pub both_shards : step serial 1 spare (inputs.Certify reads_both) ≡ tells
      (record spare { next = 2; coordinator = record { views = first_1 ∷ first_2 ∷ []; cases = (txn 3 1, record { shards = 1 ∷ 2 ∷ []; payload = Some reads_both; parts = asked_part 1 ∷ asked_part 2 ∷ [] }) ∷ [] } })
      (to 1 (Prepare 1 (txn 3 1) (1 ∷ 2 ∷ []) (Some both_in_1)) ∷ to 4 (Prepare 1 (txn 3 1) (1 ∷ 2 ∷ []) (Some both_in_2)) ∷ [])
      (begin (txn 3 1) reads_both ∷ [])
  pub last_number : (step serial 1 (record spare { next = 1000000 }) (inputs.Certify writes_b)).answer ≡ Acted
  pub numbers_spent : step serial 1 (record spare { next = 1000001 }) (inputs.Certify writes_b)
      ≡ rests Full (record spare { next = 1000001 })

-- A transaction is taken over where a row holds it undecided, no case of it is open, and it may exist.
pub record TakingOver : Type 0 where
  pub from_a_row : step serial 1 follower (inputs.Take (txn 3 1)) ≡ tells
      (record follower { coordinator = record { views = first_1 ∷ first_2 ∷ []; cases = (txn 3 1, record { shards = 1 ∷ []; payload = None; parts = asked_part 1 ∷ [] }) ∷ [] } })
      (to 1 (Prepare 1 (txn 3 1) (1 ∷ []) None) ∷ [])
      (took (txn 3 1) ∷ [])
  pub no_row : step serial 1 follower (inputs.Take (txn 3 2)) ≡ rests (Held 1) follower
  pub decided_row : step serial 1 (record follower { rows = committed_b ∷ [] }) (inputs.Take (txn 3 1))
      ≡ rests (Held 1) (record follower { rows = committed_b ∷ [] })
  pub open_case : step serial 1 (record (coordinating (case_b (asked_part 1))) { rows = undecided_b ∷ [] }) (inputs.Take (txn 3 1))
      ≡ rests (Held 0) (record (coordinating (case_b (asked_part 1))) { rows = undecided_b ∷ [] })
  pub own_and_not_given : step serial 1 (record spare { rows = undecided_b ∷ [] }) (inputs.Take (txn 3 1))
      ≡ rests (Held 0) (record spare { rows = undecided_b ∷ [] })
  pub own_and_given : (step serial 1 (record spare { rows = undecided_b ∷ []; next = 2 }) (inputs.Take (txn 3 1))).answer
      ≡ Acted

-- A nudge asks again for all that is waited for: shards that are asked, followers that have not acknowledged, and what
-- the stage of a move waits for.
pub record Nudging : Type 0 where
  pub idle : step serial 1 spare inputs.Nudge ≡ acts spare []
  pub asked_shard : step serial 1 (coordinating (case_b (asked_part 1))) inputs.Nudge
      ≡ acts (coordinating (case_b (asked_part 1))) (to 1 (Prepare 1 (txn 3 1) (1 ∷ []) (Some writes_b)) ∷ [])
  pub voted_shard : step serial 1 (coordinating (case_b (voted_part 1 entry_b []))) inputs.Nudge
      ≡ acts (coordinating (case_b (voted_part 1 entry_b []))) (to 2 (Accept 1 entry_b) ∷ [])
  pub acknowledged_shard : step serial 1 (coordinating (case_b (voted_part 1 entry_b (2 ∷ [])))) inputs.Nudge
      ≡ acts (coordinating (case_b (voted_part 1 entry_b (2 ∷ [])))) []
  pub asked_last : step serial 1 (moving (AskedLast 1 (3 ∷ []))) inputs.Nudge
      ≡ acts (moving (AskedLast 1 (3 ∷ []))) (to 0 (Last 1) ∷ [])
  pub probing : step serial 1 (moving (Probing 1 (3 ∷ []) 2 first_1 (2 ∷ []))) inputs.Nudge
      ≡ acts (moving (Probing 1 (3 ∷ []) 2 first_1 (2 ∷ []))) (to 1 (Probe 2) ∷ to 2 (Probe 2) ∷ [])
  pub asked_lower : step serial 1 (moving (AskedLower 1 (3 ∷ []) 4 2)) inputs.Nudge
      ≡ acts (moving (AskedLower 1 (3 ∷ []) 4 2)) (to 0 (At 1 2) ∷ [])
  pub cas_sent : step serial 1 (moving (CasSent second_1)) inputs.Nudge
      ≡ acts (moving (CasSent second_1)) (to 0 (Cas second_1) ∷ [])
  pub case_before_stage : (step serial 1 (record (coordinating (case_b (asked_part 1))) { prober = AskedLast 1 [] }) inputs.Nudge).sends
      ≡ to 1 (Prepare 1 (txn 3 1) (1 ∷ []) (Some writes_b)) ∷ to 0 (Last 1) ∷ []

-- A move begins whatever the prober did before. A shard may be asked for, also one that the run does not have.
pub record Asking : Type 0 where
  pub move_from_idle : step serial 1 spare (inputs.Move 1 (3 ∷ []))
      ≡ acts (moving (AskedLast 1 (3 ∷ []))) (to 0 (Last 1) ∷ [])
  pub move_again : step serial 1 (moving (CasSent second_1)) (inputs.Move 2 [])
      ≡ acts (moving (AskedLast 2 [])) (to 0 (Last 2) ∷ [])
  pub ask : step serial 1 spare (inputs.Ask 2) ≡ acts spare (to 0 (Last 2) ∷ [])
  pub ask_unknown_shard : step serial 1 spare (inputs.Ask 9) ≡ acts spare (to 0 (Last 9) ∷ [])

-- A prober goes down one epoch from probing alone, after a low answer, and not below epoch 1.
pub record Lowering : Type 0 where
  pub after_low : step serial 1 (moving (Probing 1 (3 ∷ []) 3 second_1 (1 ∷ []))) inputs.Lower
      ≡ acts (moving (AskedLower 1 (3 ∷ []) 3 1)) (to 0 (At 1 1) ∷ [])
  pub nobody_low : step serial 1 (moving (Probing 1 (3 ∷ []) 3 second_1 [])) inputs.Lower
      ≡ rests (Held 3) (moving (Probing 1 (3 ∷ []) 3 second_1 []))
  pub epoch_one : step serial 1 (moving (Probing 1 (3 ∷ []) 2 first_1 (2 ∷ []))) inputs.Lower
      ≡ rests (Held 2) (moving (Probing 1 (3 ∷ []) 2 first_1 (2 ∷ [])))
  pub idle : step serial 1 spare inputs.Lower ≡ rests (Held 0) spare
  pub asked_last : step serial 1 (moving (AskedLast 1 [])) inputs.Lower ≡ rests (Held 0) (moving (AskedLast 1 []))
  pub asked_lower : step serial 1 (moving (AskedLower 1 [] 4 2)) inputs.Lower
      ≡ rests (Held 4) (moving (AskedLower 1 [] 4 2))
  pub cas_sent : step serial 1 (moving (CasSent second_1)) inputs.Lower ≡ rests (Held 2) (moving (CasSent second_1))

-- object b written at a version, by the third node's transaction of that number, at the same slot
abbrev pub b_at : ℕ → ℕ → List ℕ → Preparation
b_at seq version value = entry seq (txn 3 seq) (1 ∷ []) (Some (payload (reads (codes "b") 0 ∷ []) [] (writes (codes "b") value ∷ []) version)) votes.Commit

-- A read tells the committed value of greatest version, of the lower slot where versions tie.
pub record Reading : Type 0 where
  pub never_written : step serial 1 spare (inputs.ReadName (codes "b")) ≡ tells spare [] (found (codes "b") 0 [] ∷ [])
  pub undecided : (step serial 1 leader (inputs.ReadName (codes "b"))).notes ≡ found (codes "b") 0 [] ∷ []
  pub aborted : (step serial 1 (record leader { rows = row entry_b Aborted ∷ [] }) (inputs.ReadName (codes "b"))).notes
      ≡ found (codes "b") 0 [] ∷ []
  pub committed : (step serial 1 (record leader { rows = committed_b ∷ [] }) (inputs.ReadName (codes "b"))).notes
      ≡ found (codes "b") 1 (5 ∷ []) ∷ []
  pub greatest : (step serial 1 (record leader { rows = row (b_at 1 2 (8 ∷ [])) Committed ∷ row (b_at 2 1 (9 ∷ [])) Committed ∷ [] }) (inputs.ReadName (codes "b"))).notes
      ≡ found (codes "b") 2 (8 ∷ []) ∷ []
  pub tie : (step serial 1 (record leader { rows = row (b_at 1 2 (8 ∷ [])) Committed ∷ row (b_at 2 2 (9 ∷ [])) Committed ∷ [] }) (inputs.ReadName (codes "b"))).notes
      ≡ found (codes "b") 2 (8 ∷ []) ∷ []
  pub other_shard : step serial 1 leader (inputs.ReadName (codes "a")) ≡ rests (Held 1) leader
