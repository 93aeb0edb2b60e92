-- The rule table of a node: what it does with each input.
use Rattle.std.specs.Prelude.{ℕ, Bool, ◌&&◌, ◌||◌, ◌==◌, nat_lt, if◌then◌else◌, List, [], ◌∷◌, ◌++◌, is_some}
use Rattle.std.specs.Map.{lookup}
use Rattle.tcs_terms.specs.declared.ids.TxId.{TxId}
use Rattle.tcs_terms.specs.declared.inputs.Handled.TheVariants.{Held}
use Rattle.tcs_terms.specs.declared.inputs.Input.{Input}
use Rattle.tcs_terms.specs.declared.inputs.Input.TheVariants as inputs
use Rattle.tcs_terms.specs.declared.messages.Message.{Message}
use Rattle.tcs_terms.specs.declared.messages.Message.TheVariants.{Prepare, PrepareAck, Accept, AcceptAck, DecisionFor, Probe, ProbeAck, NewConfig, NewState, ConfigChange, Last, At, Cas, Stored, OutcomeOf, Refused, StatePiece}
use Rattle.tcs_terms.specs.declared.votes.Decision.{Decision}
use Rattle.tcs_terms.specs.Logs.{same_txn}
use Rattle.tcs_terms.specs.Places.{Membership}
use Rattle.tcs_laws.specs.Certification.{Tests}
use Rattle.protocol.specs.Choices.{when}
use Rattle.protocol.specs.Outcomes.{Out, acts, rests, refuses}
use Rattle.protocol.specs.Notices.{with_notice}
use Rattle.protocol.specs.Records.{Coordinator, Stage, NodeRecord}
use Rattle.protocol.specs.Views.{view_epoch}
use Rattle.protocol.specs.Coordination.{on_prepare_ack, on_accept_ack, on_config, is_newer}
use Rattle.protocol.specs.Probing.{awaits, on_stored, on_probe_ack}
use Rattle.protocol.specs.ShardRules.{on_prepare, on_accept, on_decision, on_probe, on_new_config, on_new_state, on_state_piece}
use Rattle.protocol.specs.ClientRules.{coordinates, probes, certify, take, nudge, move, go_lower, read, ask}

-- whether the node's prober awaits a stored configuration
abbrev pub is_awaited : NodeRecord → Membership → Bool
is_awaited node config = awaits node.prober config (view_epoch node.coordinator.views config.shard)

-- the prober after a stored configuration: its next stage if it awaited it
abbrev pub next_stage : Bool → NodeRecord → Membership → Out Stage
next_stage awaited node config = when awaited (on_stored node.name node.prober config) (acts node.prober [])

-- a node learns of a configuration, as coordinator and as prober
abbrev pub learns : NodeRecord → Out Coordinator → Out Stage → Out NodeRecord
learns node coordinator prober =
    acts (record node { coordinator = coordinator.kept; prober = prober.kept }) (coordinator.sends ++ prober.sends)

-- STORED: an older view of the shard is replaced, and the prober goes on where it awaited the configuration. Whether it
-- did is judged by the view before.
unfoldable pub on_stored_config : NodeRecord → Membership → Out NodeRecord
on_stored_config node config =
    when (is_awaited node config || is_newer node.coordinator config)
    (learns node (on_config node.coordinator config) (next_stage (is_awaited node config) node config))
    (refuses config.epoch (view_epoch node.coordinator.views config.shard) node)

-- the first outcome of a transaction is kept
abbrev pub with_outcome : List (TxId × Decision) → TxId → Decision → List (TxId × Decision)
with_outcome outcomes txn decision =
    if is_some (lookup (same_txn txn) outcomes) then outcomes else outcomes ++ (txn, decision) ∷ []

-- OUTCOME: of a transaction that the node made.
unfoldable pub on_outcome : NodeRecord → TxId → Decision → Out NodeRecord
on_outcome node txn decision =
    when ((txn.home == node.name) && nat_lt txn.seq node.next)
    (acts (record node { outcomes = with_outcome node.outcomes txn decision }) [])
    (rests (Held 0) node)

-- the rule of a message, with the notice to its sender where it does not act
abbrev pub noticed : NodeRecord → ℕ → ℕ → Out NodeRecord → Out NodeRecord
noticed node from kind out = with_notice from kind node.promised out

-- What a node does with a message. The numbers 1 to 17 are those of the kinds. STORED, CONFIG_CHANGE, OUTCOME and REFUSED
-- are answered by no notice. LAST, AT and CAS are for the configuration service alone.
unfoldable pub receive : Tests → ℕ → NodeRecord → ℕ → Message → Out NodeRecord
receive tests version node from (Prepare epoch txn shards part) = noticed node from 1 (on_prepare tests node from epoch txn shards part)
receive tests version node from (PrepareAck shard epoch entry) = noticed node from 2 (coordinates node (on_prepare_ack node.coordinator from shard epoch entry))
receive tests version node from (Accept epoch entry) = noticed node from 3 (on_accept node from epoch entry)
receive tests version node from (AcceptAck shard epoch slot txn) = noticed node from 4 (coordinates node (on_accept_ack node.coordinator from shard epoch slot txn))
receive tests version node from (DecisionFor epoch slot txn commit) = noticed node from 5 (on_decision node epoch slot txn commit)
receive tests version node from (Probe epoch) = noticed node from 6 (on_probe node from epoch)
receive tests version node from (ProbeAck epoch state) = noticed node from 7 (probes node (on_probe_ack node.name node.prober from epoch state))
receive tests version node from (NewConfig config) = noticed node from 8 (on_new_config version node config)
receive tests version node from (NewState config rows) = noticed node from 9 (on_new_state version node config rows)
receive tests version node from (ConfigChange config) = coordinates node (on_config node.coordinator config)
receive tests version node from (Last shard) = noticed node from 11 (rests (Held 0) node)
receive tests version node from (At shard epoch) = noticed node from 12 (rests (Held 0) node)
receive tests version node from (Cas config) = noticed node from 13 (rests (Held 0) node)
receive tests version node from (Stored config) = on_stored_config node config
receive tests version node from (OutcomeOf txn decision) = on_outcome node txn decision
receive tests version node from (Refused kind why mark) = acts node []
receive tests version node from (StatePiece config number pieces rows) = noticed node from 17 (on_state_piece version node config pieces (record { number = number; rows = rows }))

-- What a node does with an input.
unfoldable pub step : Tests → ℕ → NodeRecord → Input → Out NodeRecord
step tests version node (inputs.Certify payload) = certify node payload
step tests version node (inputs.Take txn) = take node txn
step tests version node inputs.Nudge = nudge node
step tests version node (inputs.Move shard want) = move node shard want
step tests version node inputs.Lower = go_lower node
step tests version node (inputs.ReadName name) = read node name
step tests version node (inputs.Ask shard) = ask node shard
step tests version node (inputs.Deliver from message) = receive tests version node from message
