-- The marks of a node's rows have decisions behind them, after it acted.
use Rattle.std.proofs.Common.{◌≡◌, ℕ, Bool, true, false, List, Option, Some, None, ◌==◌, sym, ◌∙◌, ap, subst, refl, eqb-true}
use Rattle.tcs_terms.specs.declared.ids.TxId.{TxId}
use Rattle.tcs_terms.specs.declared.inputs.Input.{Input}
use Rattle.tcs_terms.specs.declared.logs.Mark.{Mark}
use Rattle.tcs_terms.specs.declared.logs.Mark.TheVariants.{Undecided, Committed, Aborted}
use Rattle.tcs_terms.specs.declared.logs.Row.{Row}
use Rattle.tcs_terms.specs.declared.messages.Message.TheVariants.{DecisionFor, NewState, StatePiece}
use Rattle.tcs_terms.specs.Logs.{AreRows}
use Rattle.tcs_terms.specs.Places.{Membership}
use Rattle.tcs_terms.specs.Preparations.{Preparation}
use Rattle.tcs_terms.specs.Setups.{Deployment}
use Rattle.tcs_laws.specs.Certification.{Tests}
use Rattle.protocol.specs.Log.{row_at, holds_txn, has_at, new_entry, undecided, first_mark, set_mark, mark_of}
use Rattle.protocol.specs.Outcomes.{Out}
use Rattle.protocol.specs.Records.{NodeRecord}
use Rattle.protocol.specs.Invariant.Decisions.{IsBehind, RowHolds}
use Rattle.protocol.specs.Invariant.Time.{Moment, StandsIn, WasSent}
use Rattle.protocol.proofs.Lists.{find-StandsIn}
use Rattle.protocol_laws.specs.Effect.{Effect}
use Rattle.protocol_laws.specs.Turn.{Onward}
use Rattle.protocol_laws.proofs.DecisionsLast.{is_behind-on, is_behind-later, row_holds-on, row_holds-later}
use Rattle.protocol_laws.proofs.TransactionsRows.{RowCame, row_came}
use Rattle.protocol_laws.proofs.TransactionsRows.RowCame.{WasThere, WasMarked, WasAppended, WasAccepted, WasWhole, WasInPiece, WasKept}
use Rattle.protocol_laws.proofs.SameTxn.{same_txn-eq}
use Rattle.protocol_laws.proofs.Ascending.{ascending-one}
use Rattle.protocol_laws.proofs.TransactionsActing.{IsActing}

-- the row of a slot that holds a transaction is of it
at_slot_is : (rows : List Row) (slot : ℕ) (txn : TxId) (old : Row) → AreRows rows → has_at rows slot txn ≡ true → StandsIn old rows → old.entry.slot ≡ slot → old.entry.txn ≡ txn
at_slot_is rows slot txn old are has s at = go (row_at rows slot) refl has
  where
    go : (r : Option Row) → row_at rows slot ≡ r → holds_txn r txn ≡ true → old.entry.txn ≡ txn
    go None e h = absurd (cc h)
    go (Some r) e h =
        let f : StandsIn r rows × ((r.entry.slot == slot) ≡ true) = find-StandsIn (λ (q : Row). q.entry.slot == slot) rows r e in
        let same : old ≡ r = ascending-one (λ (q : Row). q.entry.slot) rows old r are.slots_ascend s f.0 (at ∙ sym (eqb-true r.entry.slot slot f.1)) in
        ap (λ (x : Row). x.entry.txn) same ∙ same_txn-eq r.entry.txn txn h

same_sense : (a b : Bool) → mark_of a ≡ mark_of b → a ≡ b
same_sense true true e = refl
same_sense true false e = absurd (cc e)
same_sense false true e = absurd (cc e)
same_sense false false e = refl

unmarked : (commit : Bool) → ◌≡◌ {A = Mark} Undecided (mark_of commit) → ⊥
unmarked true e = cc e
unmarked false e = cc e

-- a row that got a mark, unless it had one
set_mark_holds : (t : Moment) (shard epoch : ℕ) (commit : Bool) (old : Row) → RowHolds t shard epoch old → IsBehind t shard epoch old.entry.slot old.entry.txn commit → RowHolds t shard epoch (set_mark (mark_of commit) old)
set_mark_holds t shard epoch commit old k b other e = go old.mark refl e
  where
    go : (mark : Mark) → old.mark ≡ mark → first_mark mark (mark_of commit) ≡ mark_of other → IsBehind t shard epoch old.entry.slot old.entry.txn other
    go Undecided q e = subst (λ c. IsBehind t shard epoch old.entry.slot old.entry.txn c) (same_sense commit other e) b
    go Committed q e = k other (q ∙ e)
    go Aborted q e = k other (q ∙ e)

undecided_holds : (t : Moment) (shard epoch : ℕ) (entry : Preparation) → RowHolds t shard epoch (undecided entry)
undecided_holds t shard epoch entry commit e = absurd (unmarked commit e)

-- what holds of a row of a configuration's state holds of it in a node that follows the configuration
state_holds : (t u : Moment) (node : NodeRecord) (c : Membership) (r : Row) (state : ℕ) → Onward t u → c.shard ≡ node.shard → c.epoch ≡ state → RowHolds t c.shard c.epoch r → RowHolds u node.shard state r
state_holds t u node c r state o shard epoch k =
    subst (λ s. RowHolds u s state r) shard (subst (λ e. RowHolds u c.shard e r) epoch (row_holds-on t u c.shard c.epoch r o k))

-- a row's marks hold where it comes from
came_holds : (tests : Tests) (setup : Deployment) (t u : Moment) (node : NodeRecord) (input : Input) (out : Out NodeRecord) (r : Row) → IsActing tests setup t u node input out → RowCame tests node out.kept r input → RowHolds u node.shard out.kept.state r
came_holds tests setup t u node _ out r a (WasThere input s l) = row_holds-later u node.shard node.state out.kept.state r l (row_holds-on t u node.shard node.state r a.goes.onward (a.before.decisions.rows node r a.is s))
came_holds tests setup t u node _ out r a (WasMarked from epoch slot txn commit old low state has s at is) =
    let told : IsBehind t node.shard epoch slot txn commit = a.before.decisions.told from epoch slot txn commit node a.is (a.received from (DecisionFor epoch slot txn commit) refl) in
    let of : old.entry.txn ≡ txn = at_slot_is node.rows slot txn old (a.before.promises.rows node a.is) has s at in
    let behind : IsBehind u node.shard node.state old.entry.slot old.entry.txn commit = is_behind-later u node.shard epoch node.state old.entry.slot old.entry.txn commit low
    (subst (λ y. IsBehind u node.shard epoch old.entry.slot y commit) (sym of) (subst (λ y. IsBehind u node.shard epoch y txn commit) (sym at) (is_behind-on t u node.shard epoch slot txn commit a.goes.onward told))) in
    let holds : RowHolds u node.shard node.state (set_mark (mark_of commit) old) =
    set_mark_holds u node.shard node.state commit old (row_holds-on t u node.shard node.state old a.goes.onward (a.before.decisions.rows node old a.is s)) behind in
    subst (λ e. RowHolds u node.shard e r) (sym state) (subst (λ x. RowHolds u node.shard node.state x) (sym is) holds)
came_holds tests setup t u node _ out r a (WasAppended from epoch txn shards part lead none rows still is) = subst (λ x. RowHolds u node.shard out.kept.state x) (sym is) (undecided_holds u node.shard out.kept.state (new_entry tests node.rows txn shards part))
came_holds tests setup t u node _ out r a (WasAccepted from epoch entry is) = subst (λ x. RowHolds u node.shard out.kept.state x) (sym is) (undecided_holds u node.shard out.kept.state entry)
came_holds tests setup t u node _ out r a (WasWhole from c rows s shard epoch) = state_holds t u node c r out.kept.state a.goes.onward shard epoch (a.before.decisions.state from node.name c rows r (a.received from (NewState c rows) refl) s)
came_holds tests setup t u node _ out r a (WasInPiece from c number pieces rows s shard epoch) = state_holds t u node c r out.kept.state a.goes.onward shard epoch (a.before.decisions.pieces from node.name number pieces c rows r (a.received from (StatePiece c number pieces rows) refl) s)
came_holds tests setup t u node _ out r a (WasKept input g piece is k q shard epoch) =
    let kept : (from : ℕ) × WasSent t from node.name (StatePiece g.config piece.number g.pieces piece.rows) = a.before.transfer.kept node g piece a.is is k in
    state_holds t u node g.config r out.kept.state a.goes.onward shard epoch (a.before.decisions.pieces kept.0 node.name piece.number g.pieces g.config piece.rows r kept.1 q)

pub acting_rows_hold : (tests : Tests) (version : ℕ) (setup : Deployment) (t u : Moment) (node : NodeRecord) (input : Input) (out : Out NodeRecord) (r : Row) → IsActing tests setup t u node input out → Effect tests version node input out
    → StandsIn r out.kept.rows → RowHolds u node.shard out.kept.state r
acting_rows_hold tests version setup t u node input out r a e s = came_holds tests setup t u node input out r a (row_came tests version node input out r (a.before.promises.roles node a.is) e s)
