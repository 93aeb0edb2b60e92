-- A run's world: nodes and service, the messages that were sent, the nodes that stopped, and the history.
use Rattle.std.specs.Prelude.{ℕ, ◌+◌, ◌-◌, ◌==◌, if◌then◌else◌, List, [], ◌∷◌, ◌++◌, find, map, length, Option, Some, None, slice_get}
use Rattle.tcs_terms.specs.declared.inputs.Handled.TheVariants.{Acted}
use Rattle.tcs_terms.specs.declared.inputs.Input.{Input}
use Rattle.tcs_terms.specs.declared.inputs.Input.TheVariants as inputs
use Rattle.tcs_terms.specs.declared.inputs.Event.{Event}
use Rattle.tcs_terms.specs.declared.inputs.Event.TheVariants.{Call, DeliverNumber, Stop}
use Rattle.tcs_terms.specs.declared.inputs.Note.{Note}
use Rattle.tcs_terms.specs.declared.inputs.Result1.{Result1}
use Rattle.tcs_terms.specs.declared.inputs.Result1.TheVariants.{Node, Gone, Unsent}
use Rattle.tcs_terms.specs.declared.messages.Message.{Message}
use Rattle.tcs_terms.specs.declared.messages.Outgoing.{Outgoing}
use Rattle.tcs_terms.specs.Places.{Membership, is_among}
use Rattle.tcs_terms.specs.Setups.{Deployment}
use Rattle.tcs_laws.specs.Certification.{Tests}
use Rattle.protocol.specs.Choices.{when}
use Rattle.protocol.specs.Outcomes.{Out}
use Rattle.protocol.specs.Records.{Role, NodeRecord}
use Rattle.protocol.specs.Records.Role.{Fenced, Leader, Follower}
use Rattle.protocol.specs.Records.Stage.{Idle}
use Rattle.protocol.specs.Views.{view_of}
use Rattle.protocol.specs.Table.{step}
use Rattle.protocol.specs.Service.{serve}

-- a message that was sent
pub record Sent : Type 0 where
  pub from : ℕ
  pub to : ℕ
  pub message : Message

-- Messages are numbered from 1 in order of sending, and none is ever taken away: one may be delivered many times or
-- never.
pub record World : Type 0 where
  pub nodes : List NodeRecord
  pub configs : List Membership
  pub messages : List Sent
  pub stopped : List ℕ
  pub history : List Note

-- a member of its shard's first configuration leads or follows it, in epoch 1; any other node is fenced in epoch 0
abbrev pub first_role : ℕ → Option Membership → Role
first_role name None = Fenced
first_role name (Some c) = if c.leader == name then Leader c else if is_among c.members name then Follower c else Fenced

-- the state epoch and the promise with which a node begins
abbrev pub first_epoch : Role → ℕ
first_epoch Fenced = 0
first_epoch (Leader c) = 1
first_epoch (Follower c) = 1

-- a node as it begins, given its role
abbrev pub first_node_as : List Membership → ℕ → ℕ → Role → NodeRecord
first_node_as configs name shard role = record {
  name = name;
  shard = shard;
  role = role;
  state = first_epoch role;
  promised = first_epoch role;
  rows = [];
  next = 1;
  coordinator = record { views = configs; cases = [] };
  prober = Idle;
  outcomes = [];
  gathering = None;
}

-- a node as it begins, with an empty log
unfoldable pub first_node : List Membership → ℕ → ℕ → NodeRecord
first_node configs name shard = first_node_as configs name shard (first_role name (view_of configs shard))

-- nodes as they begin, numbered from the first number on
unfoldable pub first_nodes : List Membership → ℕ → List ℕ → List NodeRecord
first_nodes configs name [] = []
first_nodes configs name (shard ∷ shards) = first_node configs name shard ∷ first_nodes configs (name + 1) shards

-- the world in which a run begins
unfoldable pub first_world : Deployment → World
first_world setup = record {
  nodes = first_nodes setup.configs 1 setup.nodes;
  configs = setup.configs;
  messages = [];
  stopped = [];
  history = [];
}

-- what an event comes to: its result, what it notes and sends, and the world after it
pub record Happening : Type 0 where
  pub result : Result1
  pub notes : List Note
  pub sent : List Sent
  pub after : World

-- nothing happens
abbrev pub passes : World → Result1 → Happening
passes w result = record { result = result; notes = []; sent = []; after = w }

-- messages with their sender
abbrev pub sent_by : ℕ → List Outgoing → List Sent
sent_by from sends = map (λ o. record { from = from; to = o.to; message = o.message }) sends

-- the node of a name
abbrev pub node_of : List NodeRecord → ℕ → Option NodeRecord
node_of nodes name = find (λ n. n.name == name) nodes

-- the nodes with one in the place of its name
abbrev pub put_node : NodeRecord → List NodeRecord → List NodeRecord
put_node node nodes = map (λ n. if n.name == node.name then node else n) nodes

-- a node did this: its sends get the next numbers, and its notes end the history
abbrev pub happens_at : World → ℕ → Out NodeRecord → Happening
happens_at w name out = record {
  result = Node out.answer;
  notes = out.notes;
  sent = sent_by name out.sends;
  after = record {
    nodes = put_node out.kept w.nodes;
    configs = w.configs;
    messages = w.messages ++ sent_by name out.sends;
    stopped = w.stopped;
    history = w.history ++ out.notes;
  };
}

-- the service, which is 0, did this
abbrev pub happens_at_service : World → Out (List Membership) → Happening
happens_at_service w out = record {
  result = Node out.answer;
  notes = out.notes;
  sent = sent_by 0 out.sends;
  after = record {
    nodes = w.nodes;
    configs = out.kept;
    messages = w.messages ++ sent_by 0 out.sends;
    stopped = w.stopped;
    history = w.history ++ out.notes;
  };
}

-- the node of that name takes an input, if there is one
abbrev pub node_takes : Tests → ℕ → World → ℕ → Input → Option NodeRecord → Happening
node_takes tests version w name input None = passes w Gone
node_takes tests version w name input (Some node) = happens_at w name (step tests version node input)

-- a node takes an input, unless it has stopped
unfoldable pub give : Tests → ℕ → World → ℕ → Input → Happening
give tests version w name input =
    when (is_among w.stopped name) (passes w Gone) (node_takes tests version w name input (node_of w.nodes name))

-- a message reaches its receiver: the service, or a node
unfoldable pub deliver : Tests → ℕ → World → Sent → Happening
deliver tests version w sent =
    when (sent.to == 0)
    (happens_at_service w (serve (length w.nodes) w.configs sent.from sent.message))
    (give tests version w sent.to (inputs.Deliver sent.from sent.message))

-- a message reaches its receiver, if it was sent
abbrev pub deliver_if_sent : Tests → ℕ → World → Option Sent → Happening
deliver_if_sent tests version w None = passes w Unsent
deliver_if_sent tests version w (Some sent) = deliver tests version w sent

-- the message of a number, from 1
abbrev pub message_of : List Sent → ℕ → Option Sent
message_of messages number = if number == 0 then None else slice_get messages (number - 1)

-- a node stops
abbrev pub stops : World → ℕ → Happening
stops w name = record {
  result = Node Acted;
  notes = [];
  sent = [];
  after = record w { stopped = w.stopped ++ name ∷ [] };
}

-- one event of a run, by the tests of its certifier and the version of its protocol
unfoldable pub world_step : Tests → ℕ → World → Event → Happening
world_step tests version w (Call name input) = give tests version w name input
world_step tests version w (DeliverNumber number) = deliver_if_sent tests version w (message_of w.messages number)
world_step tests version w (Stop name) = when (is_among w.stopped name) (passes w Gone) (stops w name)
