-- Decisions: behind each stand accepted entries, and whatever tells one tells one that was taken.
use Rattle.std.specs.Prelude.{◌≡◌, ℕ, ◌≤◌, List, Some, map, Bool}
use Rattle.tcs_terms.specs.declared.ids.TxId.{TxId}
use Rattle.tcs_terms.specs.declared.inputs.Note.TheVariants as notes
use Rattle.tcs_terms.specs.declared.logs.Row.{Row}
use Rattle.tcs_terms.specs.declared.messages.Message.TheVariants.{DecisionFor, NewState, OutcomeOf, StatePiece}
use Rattle.tcs_terms.specs.declared.votes.Decision.{Decision}
use Rattle.tcs_terms.specs.Payloads.{Accesses}
use Rattle.tcs_terms.specs.Places.{Membership}
use Rattle.tcs_terms.specs.Preparations.{Preparation}
use Rattle.tcs_terms.specs.Setups.{Deployment}
use Rattle.tcs_terms.specs.Shards.{shards_of}
use Rattle.protocol.specs.Cases.{decision_of, commits}
use Rattle.protocol.specs.Log.{mark_of}
use Rattle.protocol.specs.Records.{Part, NodeRecord}
use Rattle.protocol.specs.Invariant.Time.{Moment, StandsIn, IsNode, WasSent, WasNoted}
use Rattle.protocol.specs.Invariant.Logs.{Accepted}
use Rattle.protocol.specs.Invariant.Transactions.{IsBegun}

-- a shard's entry of a transaction is accepted in a configuration of that shard
pub record IsAcceptedIn (t : Moment) (txn : TxId) (shard : ℕ) (entry : Preparation) : Type 0 where
  pub config : Membership
  pub of_shard : config.shard ≡ shard
  pub accepted : Accepted t config entry
  pub of_txn : entry.txn ≡ txn

-- a decision stands behind parts, one for each shard of the transaction, whose entries are accepted and whose votes give it
pub record IsDecidedBy (n : ℕ) (t : Moment) (txn : TxId) (decision : Decision) : Type 0 where
  pub payload : Accesses
  pub begun : IsBegun t txn payload
  pub parts : List Part
  pub shards : map (λ p. p.shard) parts ≡ shards_of n payload
  pub accepted : (p : Part) → StandsIn p parts → (entry : Preparation) × (p.entry ≡ Some entry) × IsAcceptedIn t txn p.shard entry
  pub gives : decision ≡ decision_of parts

-- A decision of that sense was taken, and in the shard an entry of the transaction is accepted at that slot, in that
-- epoch or an earlier one.
pub record IsBehind (t : Moment) (shard epoch slot : ℕ) (txn : TxId) (commit : Bool) : Type 0 where
  pub decision : Decision
  pub noted : WasNoted t (notes.Decide txn decision)
  pub sense : commits decision ≡ commit
  pub entry : Preparation
  pub config : Membership
  pub of_shard : config.shard ≡ shard
  pub until : config.epoch ≤ epoch
  pub accepted : Accepted t config entry
  pub at_slot : entry.slot ≡ slot
  pub of_txn : entry.txn ≡ txn

-- a row of a shard, in an epoch: where it is marked, such a decision is behind it
abbrev pub RowHolds : Moment → ℕ → ℕ → Row → Type 0
RowHolds t shard epoch r = (commit : Bool) → r.mark ≡ mark_of commit → IsBehind t shard epoch r.entry.slot r.entry.txn commit

-- Every decision stands behind accepted entries. DECISION messages, marks in rows and in state that is sent, and
-- outcomes agree with a decision that was taken.
pub record DecisionsHold (setup : Deployment) (t : Moment) : Type 0 where
  pub decided : (txn : TxId) (decision : Decision) → WasNoted t (notes.Decide txn decision) → IsDecidedBy setup.shards t txn decision
  pub told : (from epoch slot : ℕ) (txn : TxId) (commit : Bool) (node : NodeRecord) → IsNode t node → WasSent t from node.name (DecisionFor epoch slot txn commit)
      → IsBehind t node.shard epoch slot txn commit
  pub rows : (node : NodeRecord) (r : Row) → IsNode t node → StandsIn r node.rows → RowHolds t node.shard node.state r
  pub state : (from to : ℕ) (c : Membership) (rows : List Row) (r : Row) → WasSent t from to (NewState c rows) → StandsIn r rows → RowHolds t c.shard c.epoch r
  pub pieces : (from to number pieces : ℕ) (c : Membership) (rows : List Row) (r : Row) → WasSent t from to (StatePiece c number pieces rows) → StandsIn r rows → RowHolds t c.shard c.epoch r
  pub outcomes : (from to : ℕ) (txn : TxId) (decision : Decision) → WasSent t from to (OutcomeOf txn decision) → WasNoted t (notes.Decide txn decision)
  pub kept : (node : NodeRecord) (txn : TxId) (decision : Decision) → IsNode t node → StandsIn (txn, decision) node.outcomes → WasNoted t (notes.Decide txn decision)
