use Rattle.std.proofs.Common.{arith, take, refl}
use Rattle.std.proofs.lemmas.Result.{err_from_is_err_and}
use Rattle.wire_frame.specs.Parts.{next_at}
use Rattle.wire_frame.proofs.Loop.{later, ends, walks_on, walked}
use Rattle.wire_frame.proofs.sets.each_next.Goals as goal

pub returns-in_err-number : goal.returns-in_err-number
returns-in_err-number c =
    let p = err_from_is_err_and c.from_residual.result c.from_residual.ensures.1 in
    rw (p.1, p.2) (ends (next_at c.args.most) later c.in_err-number.field-0.0 (take c.loop.counter c.args.bytes.now) c.args.count c.loop.counter c.loop.last c.loop.rest.now _ c.loop-test.true c.in_err-number.ensures c.loop.invariant.so_far)

pub loop-preserved : goal.loop-preserved
loop-preserved c = walks_on c.args.most c.loop.last c.args.count c.loop.counter c.args.bytes.now c.loop.rest.now c.in_ok-number.number c.in_ok-number.after.now _ c.loop-test.true c.in_ok-number.ensures c.loop.invariant

pub returns : goal.returns
returns c = rw (c.split_at.ensures.front, c.split_at.ensures.back) (walked c.args.most c.loop.last c.args.count c.loop.counter c.args.bytes.now c.loop.rest.now _ c.loop-test.false (omega arith) c.loop.invariant)
