-- No range so far refuses.
use Rattle.std.proofs.Common.{◌≡◌, ◌<◌, length, arith, true, false, sym, ap, ◌∙◌}
use Rattle.std.specs.List.{list_any}
use Rattle.std.proofs.lemmas.Bool.{or_from}
use Rattle.std.proofs.lemmas.List.{take_all}
use Rattle.std.proofs.lemmas.List.Folds.{list_any_more, list_any_at}
use Rattle.judge.specs.Newest.{refused_by_range}
use Rattle.judge.proofs.newest.refused_by_ranges.Goals as goal

pub loop-range-preserved : goal.loop-range-preserved
loop-range-preserved g c =
    let f = refused_by_range g.C.Certifier.tests c.args.new.now c.args.newest.now in
    let i = c.loop-range.range-index in
    let within : i < length c.args.ranges.now = omega arith in
    let here : f c.range-item.result ≡ false = sym c.refused_by_range.ensures ∙ c.if-refused_by_range.false in
    list_any_more f c.args.ranges.now i c.range-item.result within
    ∙ or_from _ _ c.loop-range.invariant (ap f (sym c.range-item.is) ∙ here)

pub returns-then-refused_by_range : goal.returns-then-refused_by_range
returns-then-refused_by_range g c =
    let f = refused_by_range g.C.Certifier.tests c.args.new.now c.args.newest.now in
    let here : f c.range-item.result ≡ true = sym c.refused_by_range.ensures ∙ c.if-refused_by_range.true in
    sym (list_any_at f c.args.ranges.now c.loop-range.range-index c.range-item.result (omega arith) (ap f (sym c.range-item.is) ∙ here))

pub returns : goal.returns
returns g c =
    let f = refused_by_range g.C.Certifier.tests c.args.new.now c.args.newest.now in
    sym (ap (list_any f) (sym (take_all c.loop-range.range-index c.args.ranges.now (omega arith))) ∙ c.loop-range.invariant)
