use Rattle.std.proofs.Common.{Err, arith, ap, sym, ◌∙◌}
use Rattle.std.proofs.lemmas.Result.{err_from_is_err_and}
use Rattle.replay_core.proofs.Going.{fewer, no_header, no_setup, may, few}
use Rattle.replay_core.proofs.Heading.{header_unwritten}
use Rattle.replay_core.proofs.Taking.{few_taken}
use Rattle.totals_core.proofs.Countable.{countable, some_shards}
use Rattle.totals_core.proofs.CommutingEvents.{ends, goes_at_first, goes_on, has_run, stops_at_end, stops_at_step, stops_taking}
use Rattle.totals_core.proofs.events.run_events.Goals as goal

pub take-requires : goal.take-requires
take-requires g c = omega (arith, few_taken c.lines.reading _ (c.lines.invariant.works c.requires.begun.0 c.requires.begun.1).stands.standing)

pub returns-in_err-event-clause-stopped : goal.returns-in_err-event-clause-stopped
returns-in_err-event-clause-stopped g c = λ is s bytes at.
    let p = err_from_is_err_and c.from_residual.result c.from_residual.ensures.1 in
    rw (p.1, p.2) (stops_taking _ bytes c.args.reading.now c.lines.reading _ _ _ _ _ is _ (c.lines.invariant.works is s) at c.in_err-event.ensures.stop)

pub returns-in_err-event-clause-unwritten : goal.returns-in_err-event-clause-unwritten
returns-in_err-event-clause-unwritten g c = λ told.
    let p = err_from_is_err_and c.from_residual.result c.from_residual.ensures.1 in
    header_unwritten c.lines.reading _ _ _ c.in_err-event.ensures.stop (ap Err (sym p.2) ∙ sym p.1 ∙ told)

pub step-requires-clause-may : goal.step-requires-clause-may
step-requires-clause-may g c =
    let w = c.lines.invariant.works c.requires.begun.0 c.requires.begun.1 in
    may _ c.lines.reading c.take.new.self _ _ w.items _ _ _ w.stands (rw c.in-Event.is at c.in_ok-event.ensures.item)

pub step-requires-clause-few : goal.step-requires-clause-few
step-requires-clause-few g c =
    let w = c.lines.invariant.works c.requires.begun.0 c.requires.begun.1 in
    few _ c.lines.reading c.take.new.self _ _ w.items _ _ _ w.stands (rw c.in-Event.is at c.in_ok-event.ensures.item)

pub returns-in_err-step-in-Event-clause-stopped : goal.returns-in_err-step-in-Event-clause-stopped
returns-in_err-step-in-Event-clause-stopped g c = λ is s bytes at.
    let w = c.lines.invariant.works is s in
    let p = err_from_is_err_and c.from_residual-in_err-step-in-Event.result c.from_residual-in_err-step-in-Event.ensures.1 in
    rw (p.1, p.2)
    (stops_at_step _ bytes c.args.reading.now c.lines.reading c.take.new.self _ _ _ _ _ is _ _ w at (rw c.in-Event.is at c.in_ok-event.ensures.item)
    (c.in_err-step-in-Event.ensures.stopped _ _ w.stands.runs))

pub lines-smaller : goal.lines-smaller
lines-smaller g c =
    let w = c.lines.invariant.works c.requires.begun.0 c.requires.begun.1 in
    omega (arith, fewer _ c.lines.reading c.take.new.self _ _ w.items _ _ _ w.stands c.in_ok-event.ensures.item, c.in_ok-event.ensures.item.one_more)

pub lines-preserved : goal.lines-preserved
lines-preserved g c = record {
  works = λ is s.
      let w = c.lines.invariant.works is s in
      goes_on _ c.args.reading.now c.lines.reading c.take.new.self _ _ _ _ _ _ _ is _ w (rw c.in-Event.is at c.in_ok-event.ensures.item) (c.in_ok-step-in-Event.ensures.stepped _ _ w.stands.runs);
  lives = c.in_ok-step-in-Event.ensures.lives;
  count = omega (arith, c.lines.invariant.count, c.take.ensures.count);
}

pub lines-init : goal.lines-init
lines-init g c = record {
  works = λ is s. goes_at_first _ c.args.reading.now _ _ _ is s c.requires.many c.requires.commute;
  lives = c.requires.lives;
  count = omega arith;
}

pub unreachable-requires : goal.unreachable-requires
unreachable-requires g c =
    let w = c.lines.invariant.works c.requires.begun.0 c.requires.begun.1 in
    no_header _ c.lines.reading c.take.new.self _ _ w.items _ _ w.stands (rw c.in-Header.is at c.in_ok-event.ensures.item)

pub unreachable-requires-in-Begun : goal.unreachable-requires-in-Begun
unreachable-requires-in-Begun g c =
    let w = c.lines.invariant.works c.requires.begun.0 c.requires.begun.1 in
    no_setup _ c.lines.reading c.take.new.self _ _ w.items _ _ _ w.stands (rw c.in-Begun.is at c.in_ok-event.ensures.item)

-- behind the line `end`
pub take-requires-in-End : goal.take-requires-in-End
take-requires-in-End g c =
    let w = c.lines.invariant.works c.requires.begun.0 c.requires.begun.1 in
    let e = ends _ c.args.reading.now c.lines.reading c.take.new.self _ _ _ _ _ _ w (rw c.in-End.is at c.in_ok-event.ensures.item) in
    omega (arith, few_taken c.take.new.self e.items e.stands.standing)

pub returns-in_err-take-in-End-clause-stopped : goal.returns-in_err-take-in-End-clause-stopped
returns-in_err-take-in-End-clause-stopped g c = λ is s bytes at.
    let e = ends _ c.args.reading.now c.lines.reading c.take.new.self _ _ _ _ _ _ (c.lines.invariant.works is s) (rw c.in-End.is at c.in_ok-event.ensures.item) in
    let p = err_from_is_err_and c.from_residual-in_err-take-in-End.result c.from_residual-in_err-take-in-End.ensures.1 in
    rw (p.1, p.2) (stops_at_end _ bytes c.take.new.self c.args.reading.now _ _ _ is _ _ _ e at c.in_err-take-in-End.ensures.stop)

pub returns-in-End-clause-whole : goal.returns-in-End-clause-whole
returns-in-End-clause-whole g c = λ is s bytes at.
    let e = ends _ c.args.reading.now c.lines.reading c.take.new.self _ _ _ _ _ _ (c.lines.invariant.works is s) (rw c.in-End.is at c.in_ok-event.ensures.item) in
    has_run _ bytes c.take.new.self c.take-in-End.new.self c.args.reading.now _ _ _ is _ _ _ e at c.in_ok-take-in-End.ensures.item

pub returns-in-End-clause-countable : goal.returns-in-End-clause-countable
returns-in-End-clause-countable g c =
    let w = c.lines.invariant.works c.requires.begun.0 c.requires.begun.1 in
    let e = ends _ c.args.reading.now c.lines.reading c.take.new.self _ _ _ _ _ _ w (rw c.in-End.is at c.in_ok-event.ensures.item) in
    countable _ c.take.new.self _ _ e.items e.stands

pub returns-in-End-clause-some : goal.returns-in-End-clause-some
returns-in-End-clause-some g c =
    let w = c.lines.invariant.works c.requires.begun.0 c.requires.begun.1 in
    let e = ends _ c.args.reading.now c.lines.reading c.take.new.self _ _ _ _ _ _ w (rw c.in-End.is at c.in_ok-event.ensures.item) in
    some_shards _ c.take.new.self _ _ e.items e.stands
