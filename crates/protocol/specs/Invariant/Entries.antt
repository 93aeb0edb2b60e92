-- Entry lists: how each entry came into its list, and that whatever names an entry names a listed one.
use Rattle.std.specs.Prelude.{◌≡◌, ℕ, ◌<◌, List, [], ◌∷◌, ◌++◌, map, Option, Some, None, IsTrue}
use Rattle.tcs_terms.specs.declared.ids.TxId.{TxId}
use Rattle.tcs_terms.specs.declared.inputs.Note.{Note}
use Rattle.tcs_terms.specs.declared.inputs.Note.TheVariants.{Decide}
use Rattle.tcs_terms.specs.declared.logs.Mark.{Mark}
use Rattle.tcs_terms.specs.declared.logs.Mark.TheVariants.{Undecided, Committed, Aborted}
use Rattle.tcs_terms.specs.declared.logs.Row.{Row}
use Rattle.tcs_terms.specs.declared.messages.Message.TheVariants.{PrepareAck, Accept, AcceptAck}
use Rattle.tcs_terms.specs.declared.votes.Cause.{Cause}
use Rattle.tcs_terms.specs.declared.votes.Decision.TheVariants.{Commit, Abort}
use Rattle.tcs_terms.specs.Logs.{txns_differ}
use Rattle.tcs_terms.specs.Places.{Membership}
use Rattle.tcs_terms.specs.Preparations.{Preparation}
use Rattle.tcs_laws.specs.Certification.{Tests}
use Rattle.protocol.specs.Log.{undecided, vote_on_part}
use Rattle.protocol.specs.Records.{Part, Case, NodeRecord}
use Rattle.protocol.specs.Records.Role.{Leader}
use Rattle.protocol.specs.Views.{view_of}
use Rattle.protocol.specs.World.{World}
use Rattle.protocol.specs.Invariant.Time.{Moment, worlds, StandsIn, IsNode, IsStored, WasSent}
use Rattle.protocol.specs.Invariant.Logs.{Held, Listed}

-- the history has a decision behind a mark
abbrev pub MarkStands : List Note → TxId → Mark → Type 0
MarkStands history txn Undecided = Unit {0}
MarkStands history txn Committed = StandsIn (Decide txn Commit) history
MarkStands history txn Aborted = (shard : ℕ) × (cause : Cause) × StandsIn (Decide txn (Abort shard cause)) history

-- A leader of the configuration's shard appended an entry: to rows that held every listed entry of a lower slot and no
-- entry of its transaction, with its vote on them; and each mark in those rows had a decision behind it.
pub record Appended (tests : Tests) (t : Moment) (c : Membership) (entry : Preparation) : Type 0 where
  pub later : List World
  pub after : World
  pub before : World
  pub earlier : List World
  pub moments : worlds t ≡ later ++ (after ∷ before ∷ earlier)
  pub node : NodeRecord
  pub there : StandsIn node before.nodes
  pub shard : node.shard ≡ c.shard
  pub config : Membership
  pub leads : node.role ≡ Leader config
  pub grown : NodeRecord
  pub grown_there : StandsIn grown after.nodes
  pub grown_name : grown.name ≡ node.name
  pub grown_rows : grown.rows ≡ node.rows ++ undecided entry ∷ []
  pub vote : entry.vote ≡ vote_on_part tests node.rows entry.payload
  pub above : (x : Preparation) → Listed t c x → x.slot < entry.slot → StandsIn x (map (λ r. r.entry) node.rows)
  pub new : (r : Row) → StandsIn r node.rows → (r.entry.slot < entry.slot) × (r.entry.txn ≡ entry.txn → ⊥)
  pub marks : (r : Row) → StandsIn r node.rows → MarkStands before.history r.entry.txn r.mark

-- an entry is listed in the configuration of a shard and epoch
pub record ListedAt (t : Moment) (shard epoch : ℕ) (entry : Preparation) : Type 0 where
  pub config : Membership
  pub stored : IsStored t config
  pub of_shard : config.shard ≡ shard
  pub of_epoch : config.epoch ≡ epoch
  pub listed : Listed t config entry

-- a node held an entry of that slot and transaction in an epoch
pub record HeldAt (t : Moment) (epoch name slot : ℕ) (txn : TxId) : Type 0 where
  pub entry : Preparation
  pub held : Held t epoch name entry
  pub at_slot : entry.slot ≡ slot
  pub of_txn : entry.txn ≡ txn

-- a part of a case: while asked it has no acknowledgements; once voted its entry is listed at the epoch of its view, is
-- of the case's transaction, and was held there by whoever acknowledged it
abbrev pub PartHolds : Moment → TxId → Option Membership → Option Preparation → List ℕ → Type 0
PartHolds t txn view None acks = acks ≡ []
PartHolds t txn None (Some entry) acks = ⊥
PartHolds t txn (Some view) (Some entry) acks =
    Listed t view entry × (entry.txn ≡ txn) × ((name : ℕ) → StandsIn name acks → HeldAt t view.epoch name entry.slot txn)

-- a case has a part for each of its shards, and each part holds
pub record CaseHolds (t : Moment) (views : List Membership) (txn : TxId) (case : Case) : Type 0 where
  pub shards : map (λ p. p.shard) case.parts ≡ case.shards
  pub parts : (p : Part) → StandsIn p case.parts → PartHolds t txn (view_of views p.shard) p.entry p.acks

-- In a list each slot and each transaction stands once, and each entry was appended. What is answered, sent to be
-- accepted, voted or acknowledged is listed, or held, at the epoch that is stated. A node has one case of a transaction.
pub record EntriesHold (tests : Tests) (t : Moment) : Type 0 where
  pub slots : (c : Membership) (x y : Preparation) → Listed t c x → Listed t c y → x.slot ≡ y.slot → x ≡ y
  pub txns : (c : Membership) (x y : Preparation) → Listed t c x → Listed t c y → x.txn ≡ y.txn → x ≡ y
  pub appended : (c : Membership) (x : Preparation) → Listed t c x → Appended tests t c x
  pub answered : (from to shard epoch : ℕ) (x : Preparation) → WasSent t from to (PrepareAck shard epoch x) → ListedAt t shard epoch x
  pub accepting : (from epoch : ℕ) (node : NodeRecord) (x : Preparation) → IsNode t node → WasSent t from node.name (Accept epoch x) → ListedAt t node.shard epoch x
  pub acknowledged : (from to shard epoch slot : ℕ) (txn : TxId) → WasSent t from to (AcceptAck shard epoch slot txn) → HeldAt t epoch from slot txn
  pub cases : (node : NodeRecord) (txn : TxId) (case : Case) → IsNode t node → StandsIn (txn, case) node.coordinator.cases → CaseHolds t node.coordinator.views txn case
  pub one_case : (node : NodeRecord) → IsNode t node → IsTrue (txns_differ (map (λ e. e.0) node.coordinator.cases))
