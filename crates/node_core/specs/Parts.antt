-- The parts of a node, put together.
use Rattle.std.specs.Prelude.{ℕ, List}
use Rattle.tcs_terms.specs.declared.ids.TxId.{TxId}
use Rattle.tcs_terms.specs.declared.votes.Decision.{Decision}
use Rattle.protocol.specs.Records.{Coordinator, Stage, NodeRecord}
use Rattle.replica.specs.Replicas.{ReplicaState}

-- the node of a replica, with the number of its next transaction, its coordinator, its prober and its outcomes
abbrev pub node_of : ReplicaState → ℕ → Coordinator → Stage → List (TxId × Decision) → NodeRecord
node_of replica next coordinator prober outcomes = record {
  name = replica.name;
  shard = replica.shard;
  role = replica.role;
  state = replica.state;
  promised = replica.promised;
  rows = replica.rows;
  next = next;
  coordinator = coordinator;
  prober = prober;
  outcomes = outcomes;
  gathering = replica.gathering;
}
