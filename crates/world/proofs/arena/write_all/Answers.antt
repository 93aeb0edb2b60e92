use Rattle.std.proofs.Common.{sym, subst}
use Rattle.tcs_terms.proofs.Appending.{begins_behind}
use Rattle.world.specs.Writing.{Grown}
use Rattle.world.proofs.Writing.{grown-count, grown-more, up_to_next}
use Rattle.world.proofs.arena.write_all.Goals as goal

pub write_one-requires-clause-before : goal.write_one-requires-clause-before
write_one-requires-clause-before c = grown-count _ _ _ _ _ _ _ c.loop-sent.invariant.grown

pub loop-sent-preserved : goal.loop-sent-preserved
loop-sent-preserved c =
    let i = c.loop-sent.invariant in
    let e = c.in_ok-sum.ensures in
    record {
      grown = subst (λ sends. Grown c.args.from c.args.bytes.now.items c.args.letters.now.items sends c.in_ok-sum.sum c.write_one.new.bytes.items c.write_one.new.letters.items)
          (sym (up_to_next c.args.sends.now c.loop-sent.sent-index c.sent-item.result c.loop-sent-test.true c.sent-item.is))
          (grown-more _ _ _ _ c.sent-item.result _ _ _ _ _ _ i.grown e.sum e.bytes e.letters);
      small = e.small;
      bytes_front = begins_behind _ i.bytes_front.more _ _ i.bytes_front.whole c.write_one.ensures.bytes_front;
      letters_front = begins_behind _ i.letters_front.more _ _ i.letters_front.whole c.write_one.ensures.letters_front;
    }
