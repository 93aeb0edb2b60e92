-- Steps of the configuration service.
use Rattle.std.specs.Prelude.{◌≡◌, List, [], ◌∷◌, None, true}
use Rattle.tcs_terms.specs.declared.inputs.Handled.TheVariants.{Held}
use Rattle.tcs_terms.specs.declared.messages.Message.TheVariants.{Prepare, PrepareAck, Accept, AcceptAck, DecisionFor, Probe, ProbeAck, NewConfig, NewState, ConfigChange, Last, At, Cas, Stored, OutcomeOf, Refused, StatePiece}
use Rattle.tcs_terms.specs.Places.{Membership}
use Rattle.protocol.specs.Outcomes.{to, acts, rests}
use Rattle.protocol.specs.Service.{serve}
use Rattle.protocol.specs.Steps.Nodes.{held_back, first_1, first_2, second_1, entry_b}
use Rattle.protocol.specs.Worked.Words.{config, txn}
use Rattle.tcs_terms.specs.declared.messages.Why.TheVariants as why
use Rattle.tcs_terms.specs.declared.votes.Decision.TheVariants as decisions

-- what is stored: one configuration of each shard
abbrev pub stored : List Membership
stored = first_1 ∷ first_2 ∷ []

-- and with a second one of shard 1
abbrev pub stored_2 : List Membership
stored_2 = first_1 ∷ first_2 ∷ second_1 ∷ []

-- LAST and AT are answered by what is stored.
pub record Answering : Type 0 where
  pub last : serve 4 stored_2 3 (Last 1) ≡ acts stored_2 (to 3 (Stored second_1) ∷ [])
  pub last_of_other_shard : serve 4 stored_2 3 (Last 2) ≡ acts stored_2 (to 3 (Stored first_2) ∷ [])
  pub last_of_no_shard : serve 4 stored 3 (Last 9) ≡ held_back stored 3 11 0
  pub at : serve 4 stored_2 3 (At 1 1) ≡ acts stored_2 (to 3 (Stored first_1) ∷ [])
  pub at_an_epoch_to_come : serve 4 stored_2 3 (At 1 3) ≡ held_back stored_2 3 12 2
  pub at_of_no_shard : serve 4 stored 3 (At 9 1) ≡ held_back stored 3 12 0

-- CAS stores the next epoch of a shard of the run, and every node hears of it. An epoch is stored once; a later CAS
-- of it is answered by what was stored.
pub record Comparing : Type 0 where
  pub next_is_stored : serve 4 stored 3 (Cas second_1)
      ≡ acts stored_2 (to 3 (Stored second_1) ∷ to 1 (ConfigChange second_1) ∷ to 2 (ConfigChange second_1) ∷ to 3 (ConfigChange second_1) ∷ to 4 (ConfigChange second_1) ∷ [])
  pub stored_once : serve 4 stored_2 1 (Cas (config 1 2 (1 ∷ 2 ∷ []) 1 1)) ≡ acts stored_2 (to 1 (Stored second_1) ∷ [])
  pub first_stays : serve 4 stored_2 1 (Cas (config 1 1 (1 ∷ 3 ∷ []) 1 1)) ≡ acts stored_2 (to 1 (Stored first_1) ∷ [])
  pub ahead : serve 4 stored 3 (Cas (config 1 3 (1 ∷ 2 ∷ []) 1 3)) ≡ held_back stored 3 13 1
  pub shard_not_of_the_run : serve 4 stored 3 (Cas (config 9 1 (1 ∷ []) 1 3)) ≡ held_back stored 3 13 0

-- Every other message is held back, with the last epoch of the shard that it names. STORED, CONFIG_CHANGE, OUTCOME
-- and REFUSED are answered by no notice.
pub record HoldingBack : Type 0 where
  pub prepare : serve 4 stored_2 3 (Prepare 1 (txn 3 1) (1 ∷ []) None) ≡ held_back stored_2 3 1 0
  pub prepare_ack : serve 4 stored_2 3 (PrepareAck 1 1 entry_b) ≡ held_back stored_2 3 2 2
  pub accept : serve 4 stored_2 3 (Accept 1 entry_b) ≡ held_back stored_2 3 3 0
  pub accept_ack : serve 4 stored_2 3 (AcceptAck 1 1 2 (txn 3 1)) ≡ held_back stored_2 3 4 2
  pub decision : serve 4 stored_2 3 (DecisionFor 1 2 (txn 3 1) true) ≡ held_back stored_2 3 5 0
  pub probe : serve 4 stored_2 3 (Probe 2) ≡ held_back stored_2 3 6 0
  pub probe_ack : serve 4 stored_2 3 (ProbeAck 2 1) ≡ held_back stored_2 3 7 0
  pub new_config : serve 4 stored_2 3 (NewConfig second_1) ≡ held_back stored_2 3 8 2
  pub new_state : serve 4 stored_2 3 (NewState second_1 []) ≡ held_back stored_2 3 9 2
  pub state_piece : serve 4 stored_2 3 (StatePiece second_1 1 1 []) ≡ held_back stored_2 3 17 2
  pub shard_not_of_the_run : serve 4 stored_2 3 (NewConfig (config 9 1 (1 ∷ []) 1 3)) ≡ held_back stored_2 3 8 0
  pub config_change : serve 4 stored_2 3 (ConfigChange second_1) ≡ rests (Held 2) stored_2
  pub stored : serve 4 stored_2 3 (Stored second_1) ≡ rests (Held 2) stored_2
  pub outcome : serve 4 stored_2 3 (OutcomeOf (txn 3 1) decisions.Commit) ≡ rests (Held 0) stored_2
  pub refused : serve 4 stored_2 3 (Refused 1 why.Held 1) ≡ rests (Held 0) stored_2
