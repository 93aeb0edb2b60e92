-- Which messages and entries are in range: exactly those that have a spelling in bytes.
use Rattle.std.specs.Prelude.{ℕ, ◌^◌, ◌<◌, ◌≤◌, ◌&&◌, nat_le, Bool, List, length, IsTrue, All, IfSome}
use Rattle.tcs_terms.specs.declared.limits.TheConstants.{MAX_SLOT, MAX_EPOCH, MAX_SEQUENCE, MAX_PIECES, MAX_PIECE_ROWS, MAX_KIND}
use Rattle.tcs_terms.specs.declared.ids.TxId.{TxId}
use Rattle.tcs_terms.specs.declared.votes.Vote.{Vote}
use Rattle.tcs_terms.specs.declared.votes.Vote.TheVariants as votes
use Rattle.tcs_terms.specs.declared.votes.Cause.{Cause}
use Rattle.tcs_terms.specs.declared.votes.Cause.TheVariants as causes
use Rattle.tcs_terms.specs.declared.votes.Decision.{Decision}
use Rattle.tcs_terms.specs.declared.votes.Decision.TheVariants as decisions
use Rattle.tcs_terms.specs.declared.logs.Row.{Row}
use Rattle.tcs_terms.specs.declared.messages.Message.{Message}
use Rattle.tcs_terms.specs.declared.messages.Message.TheVariants.{Prepare, PrepareAck, Accept, AcceptAck, DecisionFor, Probe, ProbeAck, NewConfig, NewState, ConfigChange, Last, At, Cas, Stored, OutcomeOf, Refused, StatePiece}
use Rattle.tcs_terms.specs.Payloads.{IsPayload}
use Rattle.tcs_terms.specs.Places.{IsShardSet, IsMembership, is_shard, is_node, is_epoch}
use Rattle.tcs_terms.specs.Preparations.{Preparation, KeepsPayload}
use Rattle.tcs_terms.specs.Logs.{AreRows}

-- a transaction: its home is a node, its number 1 to 1,000,000
abbrev pub is_txn : TxId → Bool
is_txn t = is_node t.home && (nat_le 1 t.seq && nat_le t.seq MAX_SEQUENCE)

-- a slot: 1 to 4,096
abbrev pub is_slot : ℕ → Bool
is_slot n = nat_le 1 n && nat_le n MAX_SLOT

-- a vote names a transaction in range
abbrev pub IsVote : Vote → Type 0
IsVote votes.Commit = Unit {0}
IsVote (votes.Clash txn) = IsTrue (is_txn txn)
IsVote votes.Lost = Unit {0}

-- so does a cause
abbrev pub IsCause : Cause → Type 0
IsCause (causes.Clash txn) = IsTrue (is_txn txn)
IsCause causes.Lost = Unit {0}

-- a decision to abort names a shard and a cause in range
abbrev pub IsDecision : Decision → Type 0
IsDecision decisions.Commit = Unit {0}
IsDecision (decisions.Abort shard cause) = IsTrue (is_shard shard) × IsCause cause

-- an entry: each number is in range, and it has a payload exactly where its preparation was not lost
pub record IsEntry (e : Preparation) : Type 0 where
  pub slot : IsTrue (is_slot e.slot)
  pub txn : IsTrue (is_txn e.txn)
  pub shards : IsShardSet e.shards
  pub payload : IfSome e.payload IsPayload
  pub vote : IsVote e.vote
  pub keeps : KeepsPayload e.payload e.vote

-- rows as they are sent: those of a log, each entry in range
pub record AreSentRows (rows : List Row) : Type 0 where
  pub in_order : AreRows rows
  pub entries : All (λ r. IsEntry r.entry) rows

-- each number of the message is in its range, and what its types promise holds
abbrev pub InRange : Message → Type 0
InRange (Prepare epoch txn shards payload) = IsTrue (is_epoch epoch) × IsTrue (is_txn txn) × IsShardSet shards × IfSome payload IsPayload
InRange (PrepareAck shard epoch entry) = IsTrue (is_shard shard) × IsTrue (is_epoch epoch) × IsEntry entry
InRange (Accept epoch entry) = IsTrue (is_epoch epoch) × IsEntry entry
InRange (AcceptAck shard epoch slot txn) = IsTrue (is_shard shard) × IsTrue (is_epoch epoch) × IsTrue (is_slot slot) × IsTrue (is_txn txn)
InRange (DecisionFor epoch slot txn commit) = IsTrue (is_epoch epoch) × IsTrue (is_slot slot) × IsTrue (is_txn txn)
InRange (Probe epoch) = IsTrue (is_epoch epoch)
InRange (ProbeAck epoch state) = IsTrue (is_epoch epoch) × (state ≤ MAX_EPOCH)
InRange (NewConfig config) = IsMembership config
InRange (NewState config rows) = IsMembership config × AreSentRows rows
InRange (ConfigChange config) = IsMembership config
InRange (Last shard) = IsTrue (is_shard shard)
InRange (At shard epoch) = IsTrue (is_shard shard) × IsTrue (is_epoch epoch)
InRange (Cas config) = IsMembership config
InRange (Stored config) = IsMembership config
InRange (OutcomeOf txn decision) = IsTrue (is_txn txn) × IsDecision decision
InRange (Refused kind why mark) = IsTrue (nat_le 1 kind && nat_le kind MAX_KIND) × (mark < 2 ^ 32)
InRange (StatePiece config piece pieces rows) = IsMembership config × IsTrue (nat_le 1 piece && (nat_le piece pieces && nat_le pieces MAX_PIECES)) × AreSentRows rows × (length rows ≤ MAX_PIECE_ROWS)
