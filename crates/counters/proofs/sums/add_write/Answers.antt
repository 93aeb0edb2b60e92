use Rattle.std.proofs.Common.{sym, ◌∙◌}
use Rattle.counters.proofs.Adding.{adds_one}
use Rattle.counters.proofs.sums.add_write.Goals as goal

pub returns-in_ok-insert : goal.returns-in_ok-insert
returns-in_ok-insert c =
    let updates = rw (c.again.ensures, c.saturating_add-sum.ensures, c.sum_at.ensures, c.amount_of.ensures) at c.in_ok-insert.ensures.updates in
    adds_one c.args.sums.now c.insert.new.self c.args.write.now (sym c.is_counter.ensures ∙ c.if-is_counter.true) updates
