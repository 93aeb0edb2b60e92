-- Every step of a node is one of the effects: the rule table read backwards.
use Rattle.std.proofs.Common.{ℕ, refl}
use Rattle.tcs_terms.specs.declared.inputs.Handled.TheVariants.{Acted, Held}
use Rattle.tcs_terms.specs.declared.inputs.Input.{Input}
use Rattle.tcs_terms.specs.declared.inputs.Input.TheVariants as inputs
use Rattle.tcs_terms.specs.declared.messages.Message.{Message}
use Rattle.tcs_terms.specs.declared.messages.Message.TheVariants.{Prepare, PrepareAck, Accept, AcceptAck, DecisionFor, Probe, ProbeAck, NewConfig, NewState, ConfigChange, Last, At, Cas, Stored, OutcomeOf, Refused, StatePiece}
use Rattle.tcs_laws.specs.Certification.{Tests}
use Rattle.protocol.specs.Records.{NodeRecord}
use Rattle.protocol.specs.Table.{receive, step}
use Rattle.protocol_laws.specs.Effect.{Effect}
use Rattle.protocol_laws.specs.Effect.IsMark.{NoMark}
use Rattle.protocol_laws.proofs.EffectsOfClients.{certify_effect, take_effect, nudge_effect, move_effect, lower_effect, read_effect, ask_effect}
use Rattle.protocol_laws.proofs.EffectsOfCoordination.{prepare_ack_effect, accept_ack_effect, config_change_effect, outcome_effect}
use Rattle.protocol_laws.proofs.EffectsOfProbing.{probe_ack_effect}
use Rattle.protocol_laws.proofs.EffectsOfShardRules.{prepare_effect, accept_effect, decision_effect, probe_effect, new_config_effect, new_state_effect, state_piece_effect}
use Rattle.protocol_laws.proofs.EffectsOfStored.{stored_effect}
use Rattle.protocol_laws.proofs.Guards.{rests_quietly, rests_noticed}

-- what a node does with each of the 17 kinds of message
receive_effect : (tests : Tests) (version : ℕ) (node : NodeRecord) (from : ℕ) (message : Message) → Effect tests version node (inputs.Deliver from message) (receive tests version node from message)
unfolding receive
receive_effect tests version node from (Prepare epoch txn shards part) = prepare_effect tests version node from epoch txn shards part
receive_effect tests version node from (PrepareAck shard epoch entry) = prepare_ack_effect tests version node from shard epoch entry
receive_effect tests version node from (Accept epoch entry) = accept_effect tests version node from epoch entry
receive_effect tests version node from (AcceptAck shard epoch slot txn) = accept_ack_effect tests version node from shard epoch slot txn
receive_effect tests version node from (DecisionFor epoch slot txn commit) = decision_effect tests version node from epoch slot txn commit
receive_effect tests version node from (Probe epoch) = probe_effect tests version node from epoch
receive_effect tests version node from (ProbeAck epoch state) = probe_ack_effect tests version node from epoch state
receive_effect tests version node from (NewConfig config) = new_config_effect tests version node from config
receive_effect tests version node from (NewState config rows) = new_state_effect tests version node from config rows
receive_effect tests version node from (ConfigChange config) = config_change_effect tests version node from config
receive_effect tests version node from (Last shard) = rests_noticed tests version node from 11 (Last shard) (Held 0) NoMark (record { answered = refl; kind = refl })
receive_effect tests version node from (At shard epoch) = rests_noticed tests version node from 12 (At shard epoch) (Held 0) NoMark (record { answered = refl; kind = refl })
receive_effect tests version node from (Cas config) = rests_noticed tests version node from 13 (Cas config) (Held 0) NoMark (record { answered = refl; kind = refl })
receive_effect tests version node from (Stored config) = stored_effect tests version node from config
receive_effect tests version node from (OutcomeOf txn decision) = outcome_effect tests version node from txn decision
receive_effect tests version node from (Refused kind why mark) = rests_quietly tests version node (inputs.Deliver from (Refused kind why mark)) Acted tt refl
receive_effect tests version node from (StatePiece config number pieces rows) = state_piece_effect tests version node from config number pieces rows

pub effect_of : (tests : Tests) (version : ℕ) (node : NodeRecord) (input : Input) → Effect tests version node input (step tests version node input)
unfolding step
effect_of tests version node (inputs.Certify payload) = certify_effect tests version node payload
effect_of tests version node (inputs.Take txn) = take_effect tests version node txn
effect_of tests version node inputs.Nudge = nudge_effect tests version node
effect_of tests version node (inputs.Move shard want) = move_effect tests version node shard want
effect_of tests version node inputs.Lower = lower_effect tests version node
effect_of tests version node (inputs.ReadName name) = read_effect tests version node name
effect_of tests version node (inputs.Ask shard) = ask_effect tests version node shard
effect_of tests version node (inputs.Deliver from message) = receive_effect tests version node from message
