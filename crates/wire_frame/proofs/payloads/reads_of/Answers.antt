use Rattle.std.proofs.lemmas.Result.{err_from_is_err_and}
use Rattle.wire_frame.specs.Parts.{read_at, reads_at}
use Rattle.wire_frame.proofs.Loop.{goes_on, ends, is_done}
use Rattle.wire_frame.proofs.payloads.reads_of.Goals as goal

pub returns-in_err-read : goal.returns-in_err-read
unfolding reads_at
returns-in_err-read c =
    let p = err_from_is_err_and c.from_residual-in_err-read.result c.from_residual-in_err-read.ensures.1 in
    rw (p.1, p.2) (ends (read_at c.args.version) (λ last r. r.name) c.in_err-read.field-0.0 c.loop.reads.items c.args.count c.loop.counter c.loop.last.now c.loop.rest.now _ c.loop-test.true c.in_err-read.ensures.read c.loop.invariant)

pub loop-preserved : goal.loop-preserved
loop-preserved c =
    rw (c.in_ok-push.ensures.items, c.in_ok-read.ensures.name)
    (goes_on (read_at c.args.version) (λ last r. r.name) c.loop.reads.items c.args.count c.loop.counter c.loop.last.now c.loop.rest.now c.in_ok-read.read c.in_ok-read.after.now _ c.loop-test.true c.in_ok-read.ensures.read c.loop.invariant)

pub returns : goal.returns
unfolding reads_at
returns c = is_done (read_at c.args.version) (λ last r. r.name) c.loop.reads.items c.args.count c.loop.counter c.loop.last.now c.loop.rest.now _ c.loop-test.false c.loop.invariant
