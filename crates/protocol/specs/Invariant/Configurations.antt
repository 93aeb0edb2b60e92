-- Configurations: what is stored, and that all copies of it are equal.
use Rattle.std.specs.Prelude.{◌≡◌, ℕ, ◌==◌, List, [], ◌∷◌, ◌++◌, map, filter, length, Option, Some, None, IsTrue}
use Rattle.std.specs.List.{list_all, range_with_len}
use Rattle.tcs_terms.specs.declared.messages.Message.{Message}
use Rattle.tcs_terms.specs.declared.messages.Message.TheVariants.{Prepare, PrepareAck, Accept, AcceptAck, DecisionFor, Probe, ProbeAck, NewConfig, NewState, ConfigChange, Last, At, Cas, Stored, OutcomeOf, Refused, StatePiece}
use Rattle.tcs_terms.specs.Places.{Membership, is_among}
use Rattle.tcs_terms.specs.Setups.{Deployment, is_node_of}
use Rattle.protocol.specs.Records.{Role, Stage, Gathering, NodeRecord}
use Rattle.protocol.specs.Records.Role.{Fenced, Leader, Follower}
use Rattle.protocol.specs.Records.Stage.{Idle, AskedLast, Probing, AskedLower, CasSent}
use Rattle.protocol.specs.Service.{last_epoch}
use Rattle.protocol.specs.Invariant.Time.{Moment, StandsIn, IsNode, IsStored, WasSent}

-- the configuration that a message tells as stored, if it tells one
abbrev pub told_config : Message → Option Membership
told_config (Prepare epoch txn shards payload) = None
told_config (PrepareAck shard epoch entry) = None
told_config (Accept epoch entry) = None
told_config (AcceptAck shard epoch slot txn) = None
told_config (DecisionFor epoch slot txn commit) = None
told_config (Probe epoch) = None
told_config (ProbeAck epoch state) = None
told_config (NewConfig config) = Some config
told_config (NewState config rows) = Some config
told_config (ConfigChange config) = Some config
told_config (Last shard) = None
told_config (At shard epoch) = None
told_config (Cas config) = None
told_config (Stored config) = Some config
told_config (OutcomeOf txn decision) = None
told_config (Refused kind why mark) = None
told_config (StatePiece config piece pieces rows) = Some config

-- the configuration of a role
abbrev pub role_configs : Role → List Membership
role_configs Fenced = []
role_configs (Leader config) = config ∷ []
role_configs (Follower config) = config ∷ []

-- the configuration that a stage probes
abbrev pub probed_configs : Stage → List Membership
probed_configs Idle = []
probed_configs (AskedLast shard want) = []
probed_configs (Probing shard want epoch probed low) = probed ∷ []
probed_configs (AskedLower shard want epoch asked) = []
probed_configs (CasSent config) = []

-- the configuration that is gathered for
abbrev pub gathered_configs : Option Gathering → List Membership
gathered_configs None = []
gathered_configs (Some g) = g.config ∷ []

-- all configurations that a node has as stored ones
abbrev pub configs_of : NodeRecord → List Membership
configs_of node =
    node.coordinator.views ++ role_configs node.role ++ probed_configs node.prober ++ gathered_configs node.gathering

-- the members of a configuration are nodes of its shard, and its leader is one of them
pub record HasMembers (setup : Deployment) (c : Membership) : Type 0 where
  pub nodes : IsTrue (list_all (is_node_of setup.nodes c.shard) c.members)
  pub leader : IsTrue (is_among c.members c.leader)

-- the nodes that a stage keeps as wanted ones are of its shard
abbrev pub WantsNodes : Deployment → Stage → Type 0
WantsNodes setup Idle = Unit {0}
WantsNodes setup (AskedLast shard want) = IsTrue (list_all (is_node_of setup.nodes shard) want)
WantsNodes setup (Probing shard want epoch probed low) = IsTrue (list_all (is_node_of setup.nodes shard) want)
WantsNodes setup (AskedLower shard want epoch asked) = IsTrue (list_all (is_node_of setup.nodes shard) want)
WantsNodes setup (CasSent config) = HasMembers setup config

-- the epochs that are stored of a shard
abbrev pub epochs_of : Moment → ℕ → List ℕ
epochs_of t shard = map (λ c. c.epoch) (filter (λ c. c.shard == shard) t.now.configs)

-- Nodes keep their names and shards. The stored epochs of a shard are 1 to its last one. Every configuration that a
-- node or a message has as stored is stored. Members are nodes of their shard.
pub record ConfigurationsHold (setup : Deployment) (t : Moment) : Type 0 where
  pub names : map (λ n. n.name) t.now.nodes ≡ range_with_len 1 (length setup.nodes)
  pub shards : map (λ n. n.shard) t.now.nodes ≡ setup.nodes
  pub views : (node : NodeRecord) → IsNode t node → map (λ v. v.shard) node.coordinator.views ≡ range_with_len 1 setup.shards
  pub epochs : (shard : ℕ) → epochs_of t shard ≡ range_with_len 1 (last_epoch t.now.configs shard)
  pub in_nodes : (node : NodeRecord) (c : Membership) → IsNode t node → StandsIn c (configs_of node) → IsStored t c
  pub in_messages : (from to : ℕ) (m : Message) (c : Membership) → WasSent t from to m → told_config m ≡ Some c → IsStored t c
  pub members : (c : Membership) → IsStored t c → HasMembers setup c
  pub proposed : (from to : ℕ) (c : Membership) → WasSent t from to (Cas c) → HasMembers setup c
  pub wanted : (node : NodeRecord) → IsNode t node → WantsNodes setup node.prober
