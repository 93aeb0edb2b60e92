-- Transactions: whatever names one names one that began, with its shards and the right part of its payload.
use Rattle.std.specs.Prelude.{◌≡◌, ℕ, ◌<◌, List, [], ◌∷◌, ◌++◌, filter, length, Option, Some, None, true, is_some, ◌⊎◌}
use Rattle.tcs_terms.specs.declared.ids.TxId.{TxId}
use Rattle.tcs_terms.specs.declared.inputs.Note.TheVariants as notes
use Rattle.tcs_terms.specs.declared.logs.Row.{Row}
use Rattle.tcs_terms.specs.declared.messages.Message.{Message}
use Rattle.tcs_terms.specs.declared.messages.Message.TheVariants.{Prepare, PrepareAck, Accept, AcceptAck, DecisionFor, Probe, ProbeAck, NewConfig, NewState, ConfigChange, Last, At, Cas, Stored, OutcomeOf, Refused, StatePiece}
use Rattle.tcs_terms.specs.declared.votes.Cause.{Cause}
use Rattle.tcs_terms.specs.declared.votes.Cause.TheVariants as causes
use Rattle.tcs_terms.specs.declared.votes.Decision.{Decision}
use Rattle.tcs_terms.specs.declared.votes.Decision.TheVariants as decisions
use Rattle.tcs_terms.specs.declared.votes.Vote.{Vote}
use Rattle.tcs_terms.specs.declared.votes.Vote.TheVariants as votes
use Rattle.tcs_terms.specs.Payloads.{Accesses}
use Rattle.tcs_terms.specs.Preparations.{Preparation, KeepsPayload}
use Rattle.tcs_terms.specs.Setups.{Deployment}
use Rattle.tcs_terms.specs.Shards.{restricted, shards_of}
use Rattle.protocol.specs.History.{begins_with, payload_in}
use Rattle.protocol.specs.Log.{row_of, undecided}
use Rattle.protocol.specs.Records.{Part, Case, NodeRecord}
use Rattle.protocol.specs.ShardRules.{is_leader}
use Rattle.protocol.specs.World.{World}
use Rattle.protocol.specs.Invariant.Time.{Moment, worlds, StandsIn, IsNode, WasSent, WasNoted}

-- a transaction began, once, with this payload, and its home gave its number
pub record IsBegun (t : Moment) (txn : TxId) (payload : Accesses) : Type 0 where
  pub first : payload_in t.now.history txn ≡ Some payload
  pub once : length (filter (λ n. is_some (begins_with txn n)) t.now.history) ≡ 1
  pub given : (node : NodeRecord) → IsNode t node → node.name ≡ txn.home → txn.seq < node.next

-- a transaction began
abbrev pub HasBegun : Moment → TxId → Type 0
HasBegun t txn = (payload : Accesses) × IsBegun t txn payload

-- a transaction was taken over
abbrev pub WasTaken : Moment → TxId → Type 0
WasTaken t txn = WasNoted t (notes.Take txn)

-- a leader of the shard held no row of a transaction, and appended one without payload; it leads as before, so the row
-- did not come to it as another leader's state
pub record FoundNothingBy (t : Moment) (txn : TxId) (shard : ℕ) : Type 0 where
  pub later : List World
  pub after : World
  pub before : World
  pub earlier : List World
  pub moments : worlds t ≡ later ++ (after ∷ before ∷ earlier)
  pub node : NodeRecord
  pub there : StandsIn node before.nodes
  pub of_shard : node.shard ≡ shard
  pub leads : is_leader node.role ≡ true
  pub nothing : row_of node.rows txn ≡ None
  pub grown : NodeRecord
  pub grown_there : StandsIn grown after.nodes
  pub grown_name : grown.name ≡ node.name
  pub still : grown.role ≡ node.role
  pub entry : Preparation
  pub appended : grown.rows ≡ node.rows ++ undecided entry ∷ []
  pub of_txn : entry.txn ≡ txn
  pub empty : entry.payload ≡ None

-- a payload's part in a shard, or none, and then the transaction was taken over
abbrev pub IsPart : Moment → ℕ → ℕ → TxId → Accesses → Option Accesses → Type 0
IsPart t n shard txn whole part = (part ≡ restricted n shard whole) ⊎ ((part ≡ None) × WasTaken t txn)

-- the transactions that votes and decisions name have begun
abbrev pub VoteNames : Moment → Vote → Type 0
VoteNames t votes.Commit = Unit {0}
VoteNames t (votes.Clash txn) = HasBegun t txn
VoteNames t votes.Lost = Unit {0}

-- the same of the cause of an abort
abbrev pub CauseNames : Moment → Cause → Type 0
CauseNames t (causes.Clash txn) = HasBegun t txn
CauseNames t causes.Lost = Unit {0}

-- the same of a decision
abbrev pub DecisionNames : Moment → Decision → Type 0
DecisionNames t decisions.Commit = Unit {0}
DecisionNames t (decisions.Abort shard cause) = CauseNames t cause

-- An entry in a shard: its transaction has begun, its shards are those of the whole payload, and its payload is the part
-- in the shard. Where it has none, the transaction was taken over, and the shard found nothing of it.
pub record EntryFits (n : ℕ) (t : Moment) (shard : ℕ) (entry : Preparation) : Type 0 where
  pub payload : Accesses
  pub begun : IsBegun t entry.txn payload
  pub shards : entry.shards ≡ shards_of n payload
  pub part : IsPart t n shard entry.txn payload entry.payload
  pub keeps : KeepsPayload entry.payload entry.vote
  pub lost : entry.vote ≡ votes.Lost → FoundNothingBy t entry.txn shard
  pub vote : VoteNames t entry.vote

-- a PREPARE to a node of a shard
pub record PrepareFits (n : ℕ) (t : Moment) (shard : ℕ) (txn : TxId) (shards : List ℕ) (part : Option Accesses) : Type 0 where
  pub payload : Accesses
  pub begun : IsBegun t txn payload
  pub of_shards : shards ≡ shards_of n payload
  pub is_part : IsPart t n shard txn payload part

-- what a message to a node of a shard says of transactions is so
abbrev pub MessageFits : ℕ → Moment → ℕ → Message → Type 0
MessageFits n t to_shard (Prepare epoch txn shards part) = PrepareFits n t to_shard txn shards part
MessageFits n t to_shard (PrepareAck shard epoch entry) = EntryFits n t shard entry
MessageFits n t to_shard (Accept epoch entry) = EntryFits n t to_shard entry
MessageFits n t to_shard (AcceptAck shard epoch slot txn) = HasBegun t txn
MessageFits n t to_shard (DecisionFor epoch slot txn commit) = HasBegun t txn
MessageFits n t to_shard (Probe epoch) = Unit {0}
MessageFits n t to_shard (ProbeAck epoch state) = Unit {0}
MessageFits n t to_shard (NewConfig config) = Unit {0}
MessageFits n t to_shard (NewState config rows) = (r : Row) → StandsIn r rows → EntryFits n t config.shard r.entry
MessageFits n t to_shard (ConfigChange config) = Unit {0}
MessageFits n t to_shard (Last shard) = Unit {0}
MessageFits n t to_shard (At shard epoch) = Unit {0}
MessageFits n t to_shard (Cas config) = Unit {0}
MessageFits n t to_shard (Stored config) = Unit {0}
MessageFits n t to_shard (OutcomeOf txn decision) = HasBegun t txn × DecisionNames t decision
MessageFits n t to_shard (Refused kind why mark) = Unit {0}
MessageFits n t to_shard (StatePiece config number pieces rows) = (r : Row) → StandsIn r rows → EntryFits n t config.shard r.entry

-- a case: its transaction has begun, its shards are those of the payload, and it has the whole payload, or none, and then
-- the transaction was taken over; what its parts voted fits
pub record CaseFits (n : ℕ) (t : Moment) (txn : TxId) (case : Case) : Type 0 where
  pub payload : Accesses
  pub begun : IsBegun t txn payload
  pub shards : case.shards ≡ shards_of n payload
  pub whole : (case.payload ≡ Some payload) ⊎ ((case.payload ≡ None) × WasTaken t txn)
  pub voted : (p : Part) (entry : Preparation) → StandsIn p case.parts → p.entry ≡ Some entry → EntryFits n t p.shard entry

-- Each transaction that began has a number that its home gave. Rows, messages and cases fit.
pub record TransactionsHold (setup : Deployment) (t : Moment) : Type 0 where
  pub numbers : (txn : TxId) (payload : Accesses) (node : NodeRecord) → WasNoted t (notes.Begin txn payload) → IsNode t node → node.name ≡ txn.home → txn.seq < node.next
  pub rows : (node : NodeRecord) (r : Row) → IsNode t node → StandsIn r node.rows → EntryFits setup.shards t node.shard r.entry
  pub messages : (from : ℕ) (node : NodeRecord) (m : Message) → IsNode t node → WasSent t from node.name m → MessageFits setup.shards t node.shard m
  pub cases : (node : NodeRecord) (txn : TxId) (case : Case) → IsNode t node → StandsIn (txn, case) node.coordinator.cases → CaseFits setup.shards t txn case
