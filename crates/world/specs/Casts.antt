-- Who takes part in a run: the nodes, the configuration service, and the nodes that stopped; and what an event makes of
-- them. The nodes are found by place: node 1 stands first.
use Rattle.std.specs.Prelude.{ℕ, ◌-◌, ◌==◌, ◌≤◌, List, [], ◌∷◌, ◌++◌, length, slice_get, slice_set, Option, Some, None}
use Rattle.tcs_terms.specs.declared.inputs.Handled.TheVariants.{Acted}
use Rattle.tcs_terms.specs.declared.inputs.Input.{Input}
use Rattle.tcs_terms.specs.declared.inputs.Input.TheVariants as inputs
use Rattle.tcs_terms.specs.declared.inputs.Event.{Event}
use Rattle.tcs_terms.specs.declared.inputs.Event.TheVariants.{Call, DeliverNumber, Stop}
use Rattle.tcs_terms.specs.declared.inputs.Note.{Note}
use Rattle.tcs_terms.specs.declared.inputs.Result1.{Result1}
use Rattle.tcs_terms.specs.declared.inputs.Result1.TheVariants.{Node, Gone, Unsent}
use Rattle.tcs_terms.specs.declared.messages.Message.{Message}
use Rattle.tcs_terms.specs.declared.messages.Outgoing.{Outgoing}
use Rattle.tcs_terms.specs.Events.{InputInRange}
use Rattle.tcs_terms.specs.Places.{Membership, is_among}
use Rattle.tcs_terms.specs.Setups.{Deployment}
use Rattle.tcs_laws.specs.Certification.{Tests}
use Rattle.protocol.specs.Choices.{when}
use Rattle.protocol.specs.Outcomes.{Out}
use Rattle.protocol.specs.Records.{NodeRecord}
use Rattle.protocol.specs.Service.{serve}
use Rattle.protocol.specs.Table.{step}
use Rattle.protocol.specs.World.{Sent, first_nodes, message_of}

-- the nodes, which follow this version of the protocol
pub record Peers : Type 0 where
  pub version : ℕ
  pub nodes : List NodeRecord

pub record Cast : Type 0 where
  pub peers : Peers
  pub configs : List Membership
  pub stopped : List ℕ

-- the cast before the first event of a run
abbrev pub first_cast : Deployment → Cast
first_cast setup = record {
  peers = record { version = setup.version; nodes = first_nodes setup.configs 1 setup.nodes };
  configs = setup.configs;
  stopped = [];
}

-- what an event comes to: its result, who sends, what is sent and noted, and the cast after it
pub record Doing : Type 0 where
  pub result : Result1
  pub from : ℕ
  pub sends : List Outgoing
  pub notes : List Note
  pub after : Cast

-- nothing is done
abbrev pub rests_with : Cast → Result1 → Doing
rests_with cast result = record { result = result; from = 0; sends = []; notes = []; after = cast }

-- the nodes with one in that place
abbrev pub with_node : Peers → ℕ → NodeRecord → Peers
with_node peers name node = record peers { nodes = slice_set peers.nodes (name - 1) node }

-- a node did this
abbrev pub done_by : Cast → ℕ → Out NodeRecord → Doing
done_by cast name out = record {
  result = Node out.answer;
  from = name;
  sends = out.sends;
  notes = out.notes;
  after = record cast { peers = with_node cast.peers name out.kept };
}

-- the service did this
abbrev pub done_by_service : Cast → Out (List Membership) → Doing
done_by_service cast out = record {
  result = Node out.answer;
  from = 0;
  sends = out.sends;
  notes = out.notes;
  after = record cast { configs = out.kept };
}

-- the node of that name, from 1
abbrev pub peer_of : Peers → ℕ → Option NodeRecord
peer_of peers name = slice_get peers.nodes (name - 1)

abbrev pub taken : Tests → Cast → ℕ → Input → Option NodeRecord → Doing
taken tests cast name input None = rests_with cast Gone
taken tests cast name input (Some node) = done_by cast name (step tests cast.peers.version node input)

-- a node is given an input
unfoldable pub given : Tests → Cast → ℕ → Input → Doing
given tests cast name input = when (is_among cast.stopped name) (rests_with cast Gone) (taken tests cast name input (peer_of cast.peers name))

-- the service is given a message
abbrev pub served : Cast → ℕ → Message → Doing
served cast from message = done_by_service cast (serve (length cast.peers.nodes) cast.configs from message)

-- a message reaches its receiver
unfoldable pub delivered : Tests → Cast → Sent → Doing
delivered tests cast sent =
    when (sent.to == 0)
    (served cast sent.from sent.message)
    (given tests cast sent.to (inputs.Deliver sent.from sent.message))

abbrev pub delivered_if_sent : Tests → Cast → Option Sent → Doing
delivered_if_sent tests cast None = rests_with cast Unsent
delivered_if_sent tests cast (Some sent) = delivered tests cast sent

-- a node stops
abbrev pub stops_there : Cast → ℕ → Doing
stops_there cast name = record (rests_with cast (Node Acted)) { after = record cast { stopped = cast.stopped ++ name ∷ [] } }

-- a node stops, if it has not
unfoldable pub stopping : Cast → ℕ → Doing
stopping cast name = when (is_among cast.stopped name) (rests_with cast Gone) (stops_there cast name)

-- an event, given the messages that were sent
unfoldable pub does : Tests → Cast → List Sent → Event → Doing
does tests cast messages (Call name input) = given tests cast name input
does tests cast messages (DeliverNumber number) = delivered_if_sent tests cast (message_of messages number)
does tests cast messages (Stop name) = stopping cast name

-- what the cast may be given: a call names a node, from 1 on, and its input is in range
abbrev pub MayReach : Event → Type 0
MayReach (Call name input) = (1 ≤ name) × InputInRange input
MayReach (DeliverNumber number) = Unit {0}
MayReach (Stop name) = Unit {0}
