-- The rule of a message apart from the notice to its sender.
use Rattle.std.specs.Prelude.{ℕ, []}
use Rattle.tcs_terms.specs.declared.inputs.Handled.TheVariants.{Held}
use Rattle.tcs_terms.specs.declared.messages.Message.{Message}
use Rattle.tcs_terms.specs.declared.messages.Message.TheVariants.{Prepare, PrepareAck, Accept, AcceptAck, DecisionFor, Probe, ProbeAck, NewConfig, NewState, ConfigChange, Last, At, Cas, Stored, OutcomeOf, Refused, StatePiece}
use Rattle.tcs_laws.specs.Certification.{Tests}
use Rattle.protocol.specs.Outcomes.{Out, acts, rests}
use Rattle.protocol.specs.Records.{NodeRecord}
use Rattle.protocol.specs.Coordination.{on_prepare_ack, on_accept_ack, on_config}
use Rattle.protocol.specs.Probing.{on_probe_ack}
use Rattle.protocol.specs.ShardRules.{on_prepare, on_accept, on_decision, on_probe, on_new_config, on_new_state, on_state_piece}
use Rattle.protocol.specs.ClientRules.{coordinates, probes}
use Rattle.protocol.specs.Table.{on_stored_config, on_outcome}

-- what `receive` does with a message, but for the notice
abbrev pub hear : Tests → ℕ → NodeRecord → ℕ → Message → Out NodeRecord
hear tests version node from (Prepare epoch txn shards part) = on_prepare tests node from epoch txn shards part
hear tests version node from (PrepareAck shard epoch entry) = coordinates node (on_prepare_ack node.coordinator from shard epoch entry)
hear tests version node from (Accept epoch entry) = on_accept node from epoch entry
hear tests version node from (AcceptAck shard epoch slot txn) = coordinates node (on_accept_ack node.coordinator from shard epoch slot txn)
hear tests version node from (DecisionFor epoch slot txn commit) = on_decision node epoch slot txn commit
hear tests version node from (Probe epoch) = on_probe node from epoch
hear tests version node from (ProbeAck epoch state) = probes node (on_probe_ack node.name node.prober from epoch state)
hear tests version node from (NewConfig config) = on_new_config version node config
hear tests version node from (NewState config rows) = on_new_state version node config rows
hear tests version node from (ConfigChange config) = coordinates node (on_config node.coordinator config)
hear tests version node from (Last shard) = rests (Held 0) node
hear tests version node from (At shard epoch) = rests (Held 0) node
hear tests version node from (Cas config) = rests (Held 0) node
hear tests version node from (Stored config) = on_stored_config node config
hear tests version node from (OutcomeOf txn decision) = on_outcome node txn decision
hear tests version node from (Refused kind why mark) = acts node []
hear tests version node from (StatePiece config number pieces rows) = on_state_piece version node config pieces (record { number = number; rows = rows })
