use Rattle.std.proofs.lemmas.Result.{err_from_is_err_and}
use Rattle.wire_frame.specs.Parts.{range_at}
use Rattle.wire_frame.proofs.Loop.{goes_on, ends, is_done}
use Rattle.wire_frame.proofs.payloads.each_range.Goals as goal

pub returns-in_err-range : goal.returns-in_err-range
returns-in_err-range c =
    let p = err_from_is_err_and c.from_residual-in_err-range.result c.from_residual-in_err-range.ensures.1 in
    rw (p.1, p.2) (ends (range_at c.args.version) (λ last q. q.upto) c.in_err-range.field-0.0 c.loop.ranges.items c.args.count c.loop.counter c.loop.last.now c.loop.rest.now _ c.loop-test.true c.in_err-range.ensures.range c.loop.invariant)

pub loop-preserved : goal.loop-preserved
loop-preserved c =
    rw (c.in_ok-push.ensures.items, c.in_ok-range.ensures.name)
    (goes_on (range_at c.args.version) (λ last q. q.upto) c.loop.ranges.items c.args.count c.loop.counter c.loop.last.now c.loop.rest.now c.in_ok-range.range c.in_ok-range.after.now _ c.loop-test.true c.in_ok-range.ensures.range c.loop.invariant)

pub returns : goal.returns
returns c = is_done (range_at c.args.version) (λ last q. q.upto) c.loop.ranges.items c.args.count c.loop.counter c.loop.last.now c.loop.rest.now _ c.loop-test.false c.loop.invariant
