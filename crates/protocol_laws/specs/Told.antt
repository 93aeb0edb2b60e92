-- Whatever tells a decision tells one that was taken.
use Rattle.std.specs.Prelude.{◌≡◌, ℕ, Bool, List, Some}
use Rattle.std.specs.Map.{lookup}
use Rattle.tcs_terms.specs.declared.ids.TxId.{TxId}
use Rattle.tcs_terms.specs.declared.inputs.Note.TheVariants.{Decide}
use Rattle.tcs_terms.specs.declared.logs.Row.{Row}
use Rattle.tcs_terms.specs.declared.messages.Message.TheVariants.{DecisionFor, NewState, OutcomeOf, StatePiece}
use Rattle.tcs_terms.specs.declared.votes.Decision.{Decision}
use Rattle.tcs_terms.specs.Logs.{same_txn}
use Rattle.tcs_terms.specs.Places.{Membership}
use Rattle.protocol.specs.Cases.{commits}
use Rattle.protocol.specs.Invariant.Time.{StandsIn}
use Rattle.protocol.specs.Log.{mark_of}
use Rattle.protocol.specs.Records.{NodeRecord}
use Rattle.protocol.specs.World.{World}

-- a decision of that sense was taken
pub record WasDecided (w : World) (txn : TxId) (commit : Bool) : Type 0 where
  pub decision : Decision
  pub noted : StandsIn (Decide txn decision) w.history
  pub sense : commits decision ≡ commit

-- DECISION and OUTCOME messages, marks in rows and in state that is sent, and outcomes that are kept agree with decisions
-- of the history; so does the outcome that a node finds when it looks one up.
pub record ToldRightly (w : World) : Type 0 where
  pub decisions : (from dest epoch slot : ℕ) (txn : TxId) (commit : Bool) → StandsIn (record { from = from; to = dest; message = DecisionFor epoch slot txn commit }) w.messages → WasDecided w txn commit
  pub outcomes : (from dest : ℕ) (txn : TxId) (decision : Decision) → StandsIn (record { from = from; to = dest; message = OutcomeOf txn decision }) w.messages → StandsIn (Decide txn decision) w.history
  pub marks : (node : NodeRecord) (r : Row) (commit : Bool) → StandsIn node w.nodes → StandsIn r node.rows → r.mark ≡ mark_of commit → WasDecided w r.entry.txn commit
  pub sent : (from dest : ℕ) (c : Membership) (rows : List Row) (r : Row) (commit : Bool) → StandsIn (record { from = from; to = dest; message = NewState c rows }) w.messages → StandsIn r rows → r.mark ≡ mark_of commit → WasDecided w r.entry.txn commit
  pub pieces : (from dest number pieces : ℕ) (c : Membership) (rows : List Row) (r : Row) (commit : Bool) → StandsIn (record { from = from; to = dest; message = StatePiece c number pieces rows }) w.messages → StandsIn r rows → r.mark ≡ mark_of commit → WasDecided w r.entry.txn commit
  pub kept : (node : NodeRecord) (txn : TxId) (decision : Decision) → StandsIn node w.nodes → StandsIn (txn, decision) node.outcomes → StandsIn (Decide txn decision) w.history
  pub found : (node : NodeRecord) (txn : TxId) (decision : Decision) → StandsIn node w.nodes → lookup (same_txn txn) node.outcomes ≡ Some decision → StandsIn (Decide txn decision) w.history
