-- The shard in which a transaction is prepared is one of the transaction's.
use Rattle.std.specs.Prelude.{◌≡◌, ℕ, true, List, Some, None}
use Rattle.tcs_terms.specs.declared.ids.TxId.{TxId}
use Rattle.tcs_terms.specs.declared.inputs.Note.TheVariants.{Take}
use Rattle.tcs_terms.specs.declared.logs.Row.{Row}
use Rattle.tcs_terms.specs.declared.messages.Message.{Message}
use Rattle.tcs_terms.specs.declared.messages.Message.TheVariants.{Prepare, PrepareAck, Accept, AcceptAck, DecisionFor, Probe, ProbeAck, NewConfig, NewState, ConfigChange, Last, At, Cas, Stored, OutcomeOf, Refused, StatePiece}
use Rattle.tcs_terms.specs.Places.{is_among}
use Rattle.tcs_terms.specs.Preparations.{Preparation}
use Rattle.protocol.specs.Invariant.Time.{StandsIn}
use Rattle.protocol.specs.Records.{Part, Case, NodeRecord}
use Rattle.protocol.specs.World.{World}

-- an entry's transaction has the shard
abbrev pub IsOfShard : ℕ → Preparation → Type 0
IsOfShard shard entry = is_among entry.shards shard ≡ true

-- so have the transactions of rows
abbrev pub AreOfShard : ℕ → List Row → Type 0
AreOfShard shard rows = (r : Row) → StandsIn r rows → IsOfShard shard r.entry

-- what a message to a node of a shard says is of that shard, or of the one that it tells
abbrev pub NamesShard : ℕ → Message → Type 0
NamesShard to_shard (Prepare epoch txn shards part) = is_among shards to_shard ≡ true
NamesShard to_shard (PrepareAck shard epoch entry) = IsOfShard shard entry
NamesShard to_shard (Accept epoch entry) = IsOfShard to_shard entry
NamesShard to_shard (AcceptAck shard epoch slot txn) = Unit {0}
NamesShard to_shard (DecisionFor epoch slot txn commit) = Unit {0}
NamesShard to_shard (Probe epoch) = Unit {0}
NamesShard to_shard (ProbeAck epoch state) = Unit {0}
NamesShard to_shard (NewConfig config) = Unit {0}
NamesShard to_shard (NewState config rows) = AreOfShard config.shard rows
NamesShard to_shard (ConfigChange config) = Unit {0}
NamesShard to_shard (Last shard) = Unit {0}
NamesShard to_shard (At shard epoch) = Unit {0}
NamesShard to_shard (Cas config) = Unit {0}
NamesShard to_shard (Stored config) = Unit {0}
NamesShard to_shard (OutcomeOf txn decision) = Unit {0}
NamesShard to_shard (Refused kind why mark) = Unit {0}
NamesShard to_shard (StatePiece config number pieces rows) = AreOfShard config.shard rows

-- a part of a case: its shard is one of the transaction's, and so says the entry that was voted there
pub record IsPartOfCase (shards : List ℕ) (p : Part) : Type 0 where
  pub shard : is_among shards p.shard ≡ true
  pub entry : (x : Preparation) → p.entry ≡ Some x → IsOfShard p.shard x

-- rows, cases and messages to nodes
pub record ShardsAreNamed (w : World) : Type 0 where
  pub rows : (node : NodeRecord) → StandsIn node w.nodes → AreOfShard node.shard node.rows
  pub cases : (node : NodeRecord) (txn : TxId) (case : Case) (p : Part) → StandsIn node w.nodes → StandsIn (txn, case) node.coordinator.cases → StandsIn p case.parts → IsPartOfCase case.shards p
  pub messages : (from : ℕ) (node : NodeRecord) (m : Message) → StandsIn node w.nodes → StandsIn (record { from = from; to = node.name; message = m }) w.messages → NamesShard node.shard m

-- a row without payload, and a PREPARE without payload, are there only after a take-over
pub record EmptyAfterTakeOver (w : World) : Type 0 where
  pub rows : (node : NodeRecord) (r : Row) → StandsIn node w.nodes → StandsIn r node.rows → r.entry.payload ≡ None → StandsIn (Take r.entry.txn) w.history
  pub asked : (from : ℕ) (node : NodeRecord) (epoch : ℕ) (txn : TxId) (shards : List ℕ) → StandsIn node w.nodes → StandsIn (record { from = from; to = node.name; message = Prepare epoch txn shards None }) w.messages
      → StandsIn (Take txn) w.history
