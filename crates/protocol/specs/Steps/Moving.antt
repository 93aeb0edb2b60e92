-- Steps of a node that promises epochs, and of one that moves a shard.
use Rattle.std.specs.Prelude.{◌≡◌, [], ◌∷◌, Some}
use Rattle.tcs_terms.specs.declared.inputs.Handled.TheVariants.{Stale, Held}
use Rattle.tcs_terms.specs.declared.messages.Message.TheVariants.{Prepare, Probe, ProbeAck, NewConfig, Cas, Stored}
use Rattle.tcs_terms.specs.Places.{Membership}
use Rattle.protocol.specs.Outcomes.{to, acts, rests}
use Rattle.protocol.specs.Records.{Gathering}
use Rattle.protocol.specs.Records.Role.{Fenced}
use Rattle.protocol.specs.Records.Stage.{AskedLast, Probing, AskedLower, CasSent}
use Rattle.protocol.specs.Steps.Nodes.{given, given_2, held_back, too_old, first_1, first_2, second_1, writes_b, leader, follower, fenced, spare, asked_part, coordinating, case_b, moving}
use Rattle.protocol.specs.Worked.Words.{config, txn}

-- a gathering for a configuration that has none of its two pieces yet
abbrev pub gathered : Membership → Gathering
gathered config = record { config = config; pieces = 2; kept = [] }

abbrev pub third_1 : Membership
third_1 = config 1 3 (2 ∷ 3 ∷ []) 3 2

-- PROBE fences a node that may still promise the epoch, and tells its state epoch. What was gathered for a lower
-- epoch is dropped.
pub record Promising : Type 0 where
  pub follower_promises : given follower 3 (Probe 2) ≡ acts fenced (to 3 (ProbeAck 2 1) ∷ [])
  pub leader_promises : given leader 3 (Probe 4)
      ≡ acts (record leader { role = Fenced; promised = 4 }) (to 3 (ProbeAck 4 1) ∷ [])
  pub fenced_promises_again : given fenced 4 (Probe 2) ≡ acts fenced (to 4 (ProbeAck 2 1) ∷ [])
  pub spare_promises : given spare 3 (Probe 2) ≡ acts (record spare { promised = 2 }) (to 3 (ProbeAck 2 0) ∷ [])
  pub own_epoch : given follower 3 (Probe 1) ≡ too_old follower 3 6 2
  pub below_the_promise : given (record fenced { promised = 3 }) 3 (Probe 2)
      ≡ too_old (record fenced { promised = 3 }) 3 6 3
  pub drops_what_is_lower : given_2 (record fenced { gathering = Some (gathered second_1) }) 3 (Probe 3)
      ≡ acts (record fenced { promised = 3 }) (to 3 (ProbeAck 3 1) ∷ [])
  pub keeps_what_is_not : given_2 (record fenced { gathering = Some (gathered third_1) }) 3 (Probe 3)
      ≡ acts (record fenced { promised = 3; gathering = Some (gathered third_1) }) (to 3 (ProbeAck 3 1) ∷ [])

-- PROBE_ACK of the probed epoch, from a probed member, chooses a leader where its state epoch is the probed one or
-- later; else the member is marked low, once.
pub record Choosing : Type 0 where
  pub chosen : given (moving (Probing 1 (3 ∷ []) 2 first_1 [])) 2 (ProbeAck 2 1)
      ≡ acts (moving (CasSent (config 1 2 (2 ∷ 3 ∷ []) 2 3))) (to 0 (Cas (config 1 2 (2 ∷ 3 ∷ []) 2 3)) ∷ [])
  pub between_the_wanted : given (moving (Probing 1 (1 ∷ 3 ∷ []) 2 first_1 [])) 2 (ProbeAck 2 1)
      ≡ acts (moving (CasSent (config 1 2 (1 ∷ 2 ∷ 3 ∷ []) 2 3))) (to 0 (Cas (config 1 2 (1 ∷ 2 ∷ 3 ∷ []) 2 3)) ∷ [])
  pub wanted_itself : given (moving (Probing 1 (2 ∷ 3 ∷ []) 2 first_1 [])) 2 (ProbeAck 2 1)
      ≡ acts (moving (CasSent (config 1 2 (2 ∷ 3 ∷ []) 2 3))) (to 0 (Cas (config 1 2 (2 ∷ 3 ∷ []) 2 3)) ∷ [])
  pub low : given (moving (Probing 1 (3 ∷ []) 3 second_1 [])) 1 (ProbeAck 3 1)
      ≡ acts (moving (Probing 1 (3 ∷ []) 3 second_1 (1 ∷ []))) []
  pub low_again : given (moving (Probing 1 (3 ∷ []) 3 second_1 (1 ∷ []))) 1 (ProbeAck 3 1)
      ≡ acts (moving (Probing 1 (3 ∷ []) 3 second_1 (1 ∷ []))) []
  pub a_second_low : given (moving (Probing 1 (3 ∷ []) 3 second_1 (3 ∷ []))) 1 (ProbeAck 3 0)
      ≡ acts (moving (Probing 1 (3 ∷ []) 3 second_1 (3 ∷ 1 ∷ []))) []
  pub chosen_after_low : given (moving (Probing 1 (3 ∷ []) 3 second_1 (1 ∷ []))) 2 (ProbeAck 3 2)
      ≡ acts (moving (CasSent (config 1 3 (2 ∷ 3 ∷ []) 2 3))) (to 0 (Cas (config 1 3 (2 ∷ 3 ∷ []) 2 3)) ∷ [])
  pub stranger : given (moving (Probing 1 (3 ∷ []) 2 first_1 [])) 4 (ProbeAck 2 1)
      ≡ held_back (moving (Probing 1 (3 ∷ []) 2 first_1 [])) 4 7 2
  pub older_probe : given (moving (Probing 1 (3 ∷ []) 3 second_1 [])) 1 (ProbeAck 2 1)
      ≡ too_old (moving (Probing 1 (3 ∷ []) 3 second_1 [])) 1 7 3
  pub later_probe : given (moving (Probing 1 (3 ∷ []) 2 first_1 [])) 1 (ProbeAck 3 1)
      ≡ held_back (moving (Probing 1 (3 ∷ []) 2 first_1 [])) 1 7 2
  pub idle : given spare 1 (ProbeAck 2 1) ≡ held_back spare 1 7 0
  pub asked_last : given (moving (AskedLast 1 [])) 1 (ProbeAck 2 1) ≡ held_back (moving (AskedLast 1 [])) 1 7 0
  pub asked_lower : given (moving (AskedLower 1 [] 3 1)) 1 (ProbeAck 3 1)
      ≡ held_back (moving (AskedLower 1 [] 3 1)) 1 7 3
  pub cas_sent : given (moving (CasSent second_1)) 1 (ProbeAck 2 1) ≡ held_back (moving (CasSent second_1)) 1 7 2

-- STORED replaces an older view, and takes the prober to its next stage where it was awaited, as judged by the view
-- before. NEW_CONFIG goes out only where this node proposed what was stored. It is answered by no notice.
pub record Storing : Type 0 where
  pub probes_the_last : given (moving (AskedLast 1 (3 ∷ []))) 0 (Stored first_1)
      ≡ acts (moving (Probing 1 (3 ∷ []) 2 first_1 [])) (to 1 (Probe 2) ∷ to 2 (Probe 2) ∷ [])
  pub probes_a_newer_one : given (moving (AskedLast 1 (3 ∷ []))) 0 (Stored second_1)
      ≡ acts (record (moving (Probing 1 (3 ∷ []) 3 second_1 [])) { coordinator = record { views = second_1 ∷ first_2 ∷ []; cases = [] } }) (to 1 (Probe 3) ∷ to 2 (Probe 3) ∷ to 3 (Probe 3) ∷ [])
  pub last_of_other_shard : given (moving (AskedLast 1 (3 ∷ []))) 0 (Stored first_2)
      ≡ rests (Held 1) (moving (AskedLast 1 (3 ∷ [])))
  pub last_is_older_than_the_view : given (record (moving (AskedLast 1 (3 ∷ []))) { coordinator = record { views = second_1 ∷ first_2 ∷ []; cases = [] } }) 0 (Stored first_1)
      ≡ rests (Stale 2) (record (moving (AskedLast 1 (3 ∷ []))) { coordinator = record { views = second_1 ∷ first_2 ∷ []; cases = [] } })
  pub last_epoch_of_all : given (moving (AskedLast 1 (3 ∷ []))) 0 (Stored (config 1 1000000 (1 ∷ 2 ∷ []) 1 2))
      ≡ acts (record (moving (AskedLast 1 (3 ∷ []))) { coordinator = record { views = config 1 1000000 (1 ∷ 2 ∷ []) 1 2 ∷ first_2 ∷ []; cases = [] } }) []
  pub probes_a_lower_one : given (record (moving (AskedLower 1 (3 ∷ []) 3 1)) { coordinator = record { views = second_1 ∷ first_2 ∷ []; cases = [] } }) 0 (Stored first_1)
      ≡ acts (record (moving (Probing 1 (3 ∷ []) 3 first_1 [])) { coordinator = record { views = second_1 ∷ first_2 ∷ []; cases = [] } }) (to 1 (Probe 3) ∷ to 2 (Probe 3) ∷ [])
  pub lower_of_other_epoch : given (record (moving (AskedLower 1 (3 ∷ []) 3 1)) { coordinator = record { views = second_1 ∷ first_2 ∷ []; cases = [] } }) 0 (Stored second_1)
      ≡ rests (Held 2) (record (moving (AskedLower 1 (3 ∷ []) 3 1)) { coordinator = record { views = second_1 ∷ first_2 ∷ []; cases = [] } })
  pub lower_of_other_shard : given (moving (AskedLower 1 (3 ∷ []) 3 1)) 0 (Stored first_2)
      ≡ rests (Held 1) (moving (AskedLower 1 (3 ∷ []) 3 1))
  pub own_is_stored : given (moving (CasSent second_1)) 0 (Stored second_1)
      ≡ acts (record spare { coordinator = record { views = second_1 ∷ first_2 ∷ []; cases = [] } }) (to 2 (NewConfig second_1) ∷ [])
  pub other_is_stored : given (moving (CasSent second_1)) 0 (Stored (config 1 2 (1 ∷ 2 ∷ []) 1 2))
      ≡ acts (record spare { coordinator = record { views = config 1 2 (1 ∷ 2 ∷ []) 1 2 ∷ first_2 ∷ []; cases = [] } }) []
  pub stored_of_other_epoch : given (moving (CasSent second_1)) 0 (Stored first_1)
      ≡ rests (Held 1) (moving (CasSent second_1))
  pub while_probing : given (moving (Probing 1 (3 ∷ []) 2 first_1 [])) 0 (Stored first_1)
      ≡ rests (Held 1) (moving (Probing 1 (3 ∷ []) 2 first_1 []))
  pub idle : given spare 0 (Stored first_1) ≡ rests (Held 1) spare
  pub idle_sees_a_newer_one : given spare 0 (Stored second_1)
      ≡ acts (record spare { coordinator = record { views = second_1 ∷ first_2 ∷ []; cases = [] } }) []
  pub view_first : given (record (coordinating (case_b (asked_part 1))) { prober = CasSent second_1 }) 0 (Stored second_1)
      ≡ acts (record spare { next = 2; coordinator = record { views = second_1 ∷ first_2 ∷ []; cases = (txn 3 1, case_b (asked_part 1)) ∷ [] } }) (to 2 (Prepare 2 (txn 3 1) (1 ∷ []) (Some writes_b)) ∷ to 2 (NewConfig second_1) ∷ [])
  pub shard_not_of_the_run : given spare 0 (Stored (config 9 2 (1 ∷ []) 1 1)) ≡ rests (Held 0) spare
