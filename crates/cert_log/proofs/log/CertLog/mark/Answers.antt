-- The row of the slot is marked, where there is one.
use Rattle.std.proofs.Common.{◌≡◌, sym, ap, ◌∙◌, subst}
use Rattle.std.specs.Prelude.{slice_index}
use Rattle.protocol.specs.Log.{marked, mark_of, set_mark}
use Rattle.cert_log.specs.Places.{slots_of, SplitsAt}
use Rattle.cert_log.specs.Standing.{StandsWhere}
use Rattle.cert_log.proofs.Changing.{log_marked}
use Rattle.cert_log.proofs.Marking.{changed_none}
use Rattle.cert_log.proofs.Splitting.{split_is_free}
use Rattle.cert_log.proofs.log.CertLog.mark.Goals as goal

pub invariant_of-self : goal.invariant_of-self
invariant_of-self g c =
    log_marked (StandsWhere g.G.VoteGuard.StandsFor c.self.inside.votes.guard) (StandsWhere g.G.VoteGuard.StandsFor c.mark_row.new.votes.guard) c.self.inside.index.entries c.self.inside.rows.items
    c.mark_row.new.rows.items (slice_index (slots_of c.self.inside.rows.items) c.in-Ok.at) c.mark_of.result c.self.invariant c.mark_row.ensures.rows c.mark_row.ensures.stands

pub returns-in-Ok : goal.returns-in-Ok
returns-in-Ok g c =
    let here : slice_index (slots_of c.self.inside.rows.items) c.in-Ok.at ≡ c.args.slot =
    ap (λ rows. slice_index (slots_of rows) c.in-Ok.at) (sym c.deref.ensures.value) ∙ c.in-Ok.ensures.here in
    c.mark_row.ensures.rows ∙ ap (λ slot. marked c.self.inside.rows.items slot c.mark_of.result) here
    ∙ ap (λ mark. marked c.self.inside.rows.items c.args.slot mark) c.mark_of.ensures
    ∙ ap (λ rows. marked rows c.args.slot (mark_of c.args.commit)) c.self.view_is

pub returns-in_default : goal.returns-in_default
returns-in_default g c =
    let split : SplitsAt c.args.self.now c.args.slot c.in_default.field-0 =
    subst (λ rows. SplitsAt rows c.args.slot c.in_default.field-0) (c.deref.ensures.value ∙ c.self.view_is) c.in_default.ensures in
    sym (changed_none (set_mark (mark_of c.args.commit)) c.args.slot c.args.self.now (split_is_free c.args.self.now c.args.slot c.in_default.field-0 split))
