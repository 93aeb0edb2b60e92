use Rattle.std.proofs.Common.{List, ℕ, refl, sym, ap, ◌∙◌, arith}
use Rattle.std.specs.Prelude.{slice_range}
use Rattle.world.proofs.Letters.{found}
use Rattle.world.proofs.arena.Arena.posted.Goals as goal

pub slice_bounds-result-count : goal.slice_bounds-result-count
slice_bounds-result-count c =
    let f = found _ _ c.self.invariant c.args.number c.in_ok-letter.letter (rw c.deref.ensures.value at (sym c.in_ok-letter.ensures)) in f.lies.ordered

pub slice_bounds-result-start : goal.slice_bounds-result-start
slice_bounds-result-start c =
    let f = found _ _ c.self.invariant c.args.number c.in_ok-letter.letter (rw c.deref.ensures.value at (sym c.in_ok-letter.ensures)) in
    omega (arith, f.lies.ordered, f.lies.within, c.deref-2.ensures.len)

pub slice_bounds-result-end : goal.slice_bounds-result-end
slice_bounds-result-end c =
    let f = found _ _ c.self.invariant c.args.number c.in_ok-letter.letter (rw c.deref.ensures.value at (sym c.in_ok-letter.ensures)) in
    omega (arith, f.lies.ordered, f.lies.within, c.deref-2.ensures.len)

pub returns : goal.returns
returns c =
    let f = found _ _ c.self.invariant c.args.number c.in_ok-letter.letter (rw c.deref.ensures.value at (sym c.in_ok-letter.ensures)) in
    rw (← c.self.view_is, f.is) (record {
      from = refl;
      dest = refl;
      frame = ap (λ (bs : List ℕ). slice_range bs c.in_ok-letter.letter.begin c.in_ok-letter.letter.end) c.deref-2.ensures.value ∙ f.lies.frame;
      in_range = f.lies.in_range;
    })
