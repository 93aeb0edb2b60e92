-- A line is whole, too long, or the last.
use Rattle.std.proofs.Common.{sym, ◌∙◌, arith}
use Rattle.long_lines.proofs.Lines.{has_room}
use Rattle.long_lines.proofs.Pieces.{lacks_on, longer_by, gathers_more, yields_long, yields_whole, yields_end}
use Rattle.long_lines.proofs.texts.Texts.next_text.Goals as goal

pub pieces-preserved : goal.pieces-preserved
pieces-preserved g c =
    let a = rw c.in-Long.is at c.in_ok-next_piece.ensures.piece in
    record {
      short = has_room c.args.most _ (rw c.deref-in-Long.ensures.value at (sym c.is_too_long.ensures ∙ c.if-is_too_long.false));
      one_line = lacks_on _ _ _ _ _ _ _ c.in_ok-next_piece.ensures.piece c.pieces.invariant.one_line;
      gathers = λ rest told. gathers_more _ _ _ _ _ _ _ a (c.pieces.invariant.gathers rest told);
      count = omega (arith, c.pieces.invariant.count);
    }

pub pieces-smaller : goal.pieces-smaller
pieces-smaller g c =
    let fits = has_room c.args.most _ (rw c.deref-in-Long.ensures.value at (sym c.is_too_long.ensures ∙ c.if-is_too_long.false)) in
    let longer = longer_by _ _ _ _ _ _ (rw c.in-Long.is at c.in_ok-next_piece.ensures.piece) in
    omega (arith, longer, fits)

pub returns-in-Cut-clause-bytes : goal.returns-in-Cut-clause-bytes
returns-in-Cut-clause-bytes g c = λ rest told.
    yields_end _ _ _ _ _ _ _ _ _ c.in-Cut.is c.in_ok-next_piece.ensures.piece (c.pieces.invariant.gathers rest told) c.pieces.invariant.one_line

pub returns-in-Whole-clause-bytes : goal.returns-in-Whole-clause-bytes
returns-in-Whole-clause-bytes g c = λ rest told.
    yields_whole _ _ _ _ _ _ _ _ _ (rw c.in-Whole.is at c.in_ok-next_piece.ensures.piece) (c.pieces.invariant.gathers rest told) c.pieces.invariant.one_line
    (rw c.deref.ensures.value at c.end_of_whole.ensures)

pub returns-then-is_too_long-clause-bytes : goal.returns-then-is_too_long-clause-bytes
returns-then-is_too_long-clause-bytes g c = λ rest told.
    yields_long _ _ _ _ _ _ _ _ (rw c.in-Long.is at c.in_ok-next_piece.ensures.piece) (c.pieces.invariant.gathers rest told) c.pieces.invariant.one_line
    (rw c.deref-in-Long.ensures.value at (sym c.is_too_long.ensures ∙ c.if-is_too_long.true))
