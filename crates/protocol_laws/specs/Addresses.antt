-- The home of a transaction is a node, and whatever names a transaction is sent by a node to a node.
use Rattle.std.specs.Prelude.{◌≡◌, ℕ, Bool, true, false}
use Rattle.tcs_terms.specs.declared.ids.TxId.{TxId}
use Rattle.tcs_terms.specs.declared.inputs.Note.TheVariants.{Begin}
use Rattle.tcs_terms.specs.declared.messages.Message.{Message}
use Rattle.tcs_terms.specs.declared.messages.Message.TheVariants.{Prepare, PrepareAck, Accept, AcceptAck, DecisionFor, Probe, ProbeAck, NewConfig, NewState, ConfigChange, Last, At, Cas, Stored, OutcomeOf, Refused, StatePiece}
use Rattle.tcs_terms.specs.Payloads.{Accesses}
use Rattle.tcs_terms.specs.Setups.{Deployment, has_node}
use Rattle.protocol.specs.Invariant.Time.{StandsIn}
use Rattle.protocol.specs.World.{World}

-- whether a message names a transaction, or brings rows
abbrev pub names_txn : Message → Bool
names_txn (Prepare epoch txn shards payload) = true
names_txn (PrepareAck shard epoch entry) = true
names_txn (Accept epoch entry) = true
names_txn (AcceptAck shard epoch slot txn) = true
names_txn (DecisionFor epoch slot txn commit) = true
names_txn (Probe epoch) = false
names_txn (ProbeAck epoch state) = false
names_txn (NewConfig config) = false
names_txn (NewState config rows) = true
names_txn (ConfigChange config) = false
names_txn (Last shard) = false
names_txn (At shard epoch) = false
names_txn (Cas config) = false
names_txn (Stored config) = false
names_txn (OutcomeOf txn decision) = true
names_txn (Refused kind why mark) = false
names_txn (StatePiece config number pieces rows) = true

-- the ends of a message are nodes of the setup
pub record IsBetweenNodes (setup : Deployment) (from to : ℕ) : Type 0 where
  pub sender : has_node setup.nodes from ≡ true
  pub receiver : has_node setup.nodes to ≡ true

pub record TransactionsStayAmongNodes (setup : Deployment) (w : World) : Type 0 where
  pub homes : (txn : TxId) (payload : Accesses) → StandsIn (Begin txn payload) w.history → has_node setup.nodes txn.home ≡ true
  pub messages : (from to : ℕ) (m : Message) → StandsIn (record { from = from; to = to; message = m }) w.messages → names_txn m ≡ true → IsBetweenNodes setup from to
