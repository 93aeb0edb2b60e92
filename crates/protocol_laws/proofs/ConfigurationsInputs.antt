-- How an input came: a message that was sent to the node, or a call that fits the setup.
use Rattle.std.proofs.Common.{◌≡◌, ℕ, true, List, ◌&&◌, ◌∙◌, subst, IsTrue, nat_le, length}
use Rattle.std.specs.List.{list_all}
use Rattle.tcs_terms.specs.declared.inputs.Event.{Event}
use Rattle.tcs_terms.specs.declared.inputs.Input.{Input}
use Rattle.tcs_terms.specs.declared.inputs.Input.TheVariants as inputs
use Rattle.tcs_terms.specs.declared.limits.TheConstants.{MAX_WANTED}
use Rattle.tcs_terms.specs.declared.messages.Message.{Message}
use Rattle.tcs_terms.specs.Events.{event_fits, input_fits, has_shard}
use Rattle.tcs_terms.specs.Order.{ascends}
use Rattle.tcs_terms.specs.Setups.{Deployment, has_node, is_node_of}
use Rattle.protocol.specs.Invariant.Time.{Moment, StandsIn, WasSent}
use Rattle.protocol_laws.specs.Change.{Comes}
use Rattle.protocol_laws.specs.Change.Comes.{ByCall, ByMessage}
use Rattle.tcs_terms.proofs.BoolLaws.{right_of}

-- a message that a node takes was sent to it
pub delivered : (setup : Deployment) (t : Moment) (name : ℕ) (event : Event) (input : Input) → Comes t.now name event input → event_fits setup event ≡ true
    → (from : ℕ) (message : Message) → input ≡ inputs.Deliver from message → WasSent t from name message
delivered setup t name event input (ByCall i) f from message e =
    absurd (cc (right_of (has_node setup.nodes name) (input_fits setup (inputs.Deliver from message)) (subst (λ j. (has_node setup.nodes name && input_fits setup j) ≡ true) e f)))
delivered setup t name event input (ByMessage number g m sent q a s) f from message e =
    record { sent = subst (λ k. StandsIn k t.now.messages) (q ∙ (let x : g ≡ from = cc e in let y : m ≡ message = cc e in cc (x, y))) s }

-- a move that a node is asked for wants nodes of its shard
pub moved : (setup : Deployment) (t : Moment) (name : ℕ) (event : Event) (input : Input) → Comes t.now name event input → event_fits setup event ≡ true
    → (shard : ℕ) (want : List ℕ) → input ≡ inputs.Move shard want → IsTrue (list_all (is_node_of setup.nodes shard) want)
moved setup t name event input (ByCall i) f shard want e =
    right_of (has_shard setup shard && nat_le (length want) MAX_WANTED && ascends want) (list_all (is_node_of setup.nodes shard) want)
    (right_of (has_node setup.nodes name) (input_fits setup (inputs.Move shard want)) (subst (λ j. (has_node setup.nodes name && input_fits setup j) ≡ true) e f))
moved setup t name event input (ByMessage number g m sent q a s) f shard want e = absurd (cc e)
