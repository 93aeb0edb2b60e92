-- The row is put in its place, its transaction into the index, and the guard is told.
use Rattle.std.proofs.Common.{◌≡◌, false, cond, Some, sym, ap, ◌∙◌, subst}
use Rattle.std.specs.Prelude.{is_some}
use Rattle.std.specs.Map.{lookup}
use Rattle.tcs_terms.specs.declared.ids.TxId.{TxId}
use Rattle.tcs_terms.specs.declared.logs.Row.{Row}
use Rattle.tcs_terms.specs.Logs.{same_txn}
use Rattle.tcs_terms.specs.Preparations.{Preparation}
use Rattle.protocol.specs.Log.{row_of, undecided, put_entry}
use Rattle.cert_log.specs.Places.{SplitsAt}
use Rattle.cert_log.specs.Standing.{IsLog, StandsWhere}
use Rattle.cert_log.proofs.Changing.{inserted, log_put, log_same, split_same}
use Rattle.cert_log.proofs.log.CertLog.put.Goals as goal

pub invariant_of-self-in_err-prepared : goal.invariant_of-self-in_err-prepared
invariant_of-self-in_err-prepared g c =
    log_same (StandsWhere g.G.VoteGuard.StandsFor c.self.inside.votes.guard) (StandsWhere g.G.VoteGuard.StandsFor c.prepared.new.self.guard) c.self.inside.index.entries c.reserve-2.new.self.entries
    c.self.inside.rows.items c.reserve.new.self.items c.self.invariant c.reserve.ensures.items c.reserve-2.ensures.entries.2 c.in_err-prepared.ensures.kept

pub invariant_of-self-2 : goal.invariant_of-self-2
invariant_of-self-2 g c =
    let reserved : IsLog (StandsWhere g.G.VoteGuard.StandsFor c.self.inside.votes.guard) c.reserve-2.new.self.entries c.reserve.new.self.items =
    log_same (StandsWhere g.G.VoteGuard.StandsFor c.self.inside.votes.guard) (StandsWhere g.G.VoteGuard.StandsFor c.self.inside.votes.guard) c.self.inside.index.entries c.reserve-2.new.self.entries
    c.self.inside.rows.items c.reserve.new.self.items c.self.invariant c.reserve.ensures.items c.reserve-2.ensures.entries.2 (λ before stands. stands) in
    let row : Row = undecided c.args.entry in
    let split : SplitsAt c.reserve.new.self.items row.entry.slot c.free_place-at.result =
    split_same c.deref.result.now c.reserve.new.self.items c.entry.inside.slot row.entry.slot c.free_place-at.result
    (c.deref.ensures.value ∙ sym c.reserve.ensures.items) (ap (λ (e : Preparation). e.slot) c.entry.view_is) c.free_place-at.ensures in
    let new : is_some (row_of c.reserve.new.self.items row.entry.txn) ≡ false =
    subst (λ rows. is_some (row_of rows row.entry.txn) ≡ false) (sym (c.reserve.ensures.items ∙ c.self.view_is)) c.requires.new in
    subst (λ rows. IsLog (StandsWhere g.G.VoteGuard.StandsFor c.prepared.new.self.guard) c.insert.new.self.entries rows) (sym c.in_ok-insert-2.ensures.items)
    (log_put (StandsWhere g.G.VoteGuard.StandsFor c.self.inside.votes.guard) (StandsWhere g.G.VoteGuard.StandsFor c.prepared.new.self.guard) c.reserve-2.new.self.entries c.insert.new.self.entries
    c.reserve.new.self.items row c.free_place-at.result reserved split c.requires.slot new
    (subst (λ (e : Preparation). (q : TxId) → lookup (same_txn q) c.insert.new.self.entries ≡ cond (same_txn e.txn q) (Some e.slot) (lookup (same_txn q) c.reserve-2.new.self.entries))
    c.entry.view_is (λ q. c.in_ok-insert.ensures.updates.0 q))
    c.in_ok-prepared.ensures.put)

pub returns-clause-rows : goal.returns-clause-rows
returns-clause-rows g c =
    let row : Row = undecided c.args.entry in
    let split : SplitsAt c.reserve.new.self.items row.entry.slot c.free_place-at.result =
    split_same c.deref.result.now c.reserve.new.self.items c.entry.inside.slot row.entry.slot c.free_place-at.result
    (c.deref.ensures.value ∙ sym c.reserve.ensures.items) (ap (λ (e : Preparation). e.slot) c.entry.view_is) c.free_place-at.ensures in
    c.in_ok-insert-2.ensures.items ∙ sym (inserted c.reserve.new.self.items row c.free_place-at.result split)
    ∙ ap (λ rows. put_entry rows c.args.entry) (c.reserve.ensures.items ∙ c.self.view_is)
