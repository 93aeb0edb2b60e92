use Rattle.std.proofs.lemmas.Result.{err_from_is_err_and}
use Rattle.wire_frame.specs.Parts.{write_at}
use Rattle.wire_frame.proofs.Loop.{goes_on, ends, is_done}
use Rattle.wire_frame.proofs.payloads.each_write.Goals as goal

pub returns-in_err-write : goal.returns-in_err-write
returns-in_err-write c =
    let p = err_from_is_err_and c.from_residual-in_err-write.result c.from_residual-in_err-write.ensures.1 in
    rw (p.1, p.2) (ends (write_at c.args.reads.now) (λ last w. w.name) c.in_err-write.field-0.0 c.loop.writes.items c.args.count c.loop.counter c.loop.last.now c.loop.rest.now _ c.loop-test.true c.in_err-write.ensures.write c.loop.invariant)

pub loop-preserved : goal.loop-preserved
loop-preserved c =
    rw (c.in_ok-push.ensures.items, c.in_ok-write.ensures.name)
    (goes_on (write_at c.args.reads.now) (λ last w. w.name) c.loop.writes.items c.args.count c.loop.counter c.loop.last.now c.loop.rest.now c.in_ok-write.write c.in_ok-write.after.now _ c.loop-test.true c.in_ok-write.ensures.write c.loop.invariant)

pub returns : goal.returns
returns c = is_done (write_at c.args.reads.now) (λ last w. w.name) c.loop.writes.items c.args.count c.loop.counter c.loop.last.now c.loop.rest.now _ c.loop-test.false c.loop.invariant
