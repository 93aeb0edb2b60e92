-- An undecided row gets the mark and the guard is told; another row keeps the mark that it has.
use Rattle.std.specs.Prelude.{slice_set}
use Rattle.std.proofs.Common.{sym, ap, ◌∙◌, subst}
use Rattle.tcs_terms.specs.declared.logs.Row.{Row}
use Rattle.std.proofs.lemmas.List.{get_or_default}
use Rattle.cert_log.specs.Standing.{StandsWhere}
use Rattle.cert_log.proofs.Marking.{marked_here, told_here, marked_before, has_mark}
use Rattle.cert_log.proofs.marks.mark_row.Goals as goal

pub returns-in-Undecided-clause-rows : goal.returns-in-Undecided-clause-rows
returns-in-Undecided-clause-rows g c =
    let same = c.index_mut.ensures.value ∙ get_or_default c.args.rows.now.items c.args.at c.index_mut.result.now c.index-row.result.now c.requires.within ∙ sym c.index-row.ensures in
    marked_here c.args.mark c.args.rows.now.items c.args.at c.index_mut.result.now c.requires.ascend c.requires.within c.index_mut.ensures.value
    (ap (λ (r : Row). r.mark) same ∙ c.in-Undecided.is)

pub returns-in-Undecided-clause-stands : goal.returns-in-Undecided-clause-stands
returns-in-Undecided-clause-stands g c =
    let same = c.index_mut.ensures.value ∙ get_or_default c.args.rows.now.items c.args.at c.index_mut.result.now c.index-row.result.now c.requires.within ∙ sym c.index-row.ensures in
    subst (λ rows. StandsWhere g.G.VoteGuard.StandsFor c.decided.new.self.guard rows)
    (told_here c.args.mark c.args.rows.now.items c.args.at c.index-row.result.now c.requires.ascend c.requires.within c.index-row.ensures c.in-Undecided.is
    ∙ ap (λ (r : Row). slice_set c.args.rows.now.items c.args.at (record { entry = r.entry; mark = c.args.mark })) (sym same))
    (c.decided.ensures c.args.rows.now.items c.requires.stands (c.args.at, c.requires.within, sym c.index-row.ensures) c.in-Undecided.is)

pub returns-in-Committed : goal.returns-in-Committed
returns-in-Committed g c = record {
  rows = marked_before c.args.mark c.args.rows.now.items c.args.at c.index-row.result.now c.requires.ascend c.requires.within c.index-row.ensures (has_mark c.index-row.result.now.mark c.in-Committed.is);
  stands = c.requires.stands;
}
