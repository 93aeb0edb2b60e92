-- The next number is queued.
use Rattle.std.proofs.Common.{arith}
use Rattle.std.proofs.lemmas.Grind.{common_steps}
use Rattle.generator.proofs.Numbers.{numbers_more}
use Rattle.generator.proofs.course.Course.queue_sent.Goals as goal

pub loop-number-preserved : goal.loop-number-preserved
loop-number-preserved c =
    let more = numbers_more c.args.before c.loop-number.number c.loop-number.invariant.from in
    let items = c.in_ok-push_back.ensures.items in
    grind (arith, common_steps)
