use Rattle.std.proofs.Common.{arith}
use Rattle.std.proofs.lemmas.Result.{err_from_is_err_and}
use Rattle.schedule_text.specs.declared.places.Place.TheVariants as places
use Rattle.replay_core.proofs.Going.{sink_stops, stops_taking, stops_stepping, stops_writing, fewer, no_header, no_setup, may, few, goes_on, ended, at_ended}
use Rattle.replay_core.proofs.Taking.{few_taken}
use Rattle.replay_core.proofs.events.replay_events.Goals as goal

pub take-requires : goal.take-requires
take-requires g c = omega (arith, few_taken c.lines.reading _ (c.lines.invariant.works c.requires.begun.0 c.requires.begun.1).stands.standing)

pub returns-in_err-event-clause-stopped : goal.returns-in_err-event-clause-stopped
returns-in_err-event-clause-stopped g c = λ is s bytes before at.
    let w = c.lines.invariant.works is s in
    let p = err_from_is_err_and c.from_residual.result c.from_residual.ensures.1 in
    rw (p.1, p.2) (stops_taking bytes before _ places.Events c.lines.reading _ _ w.items _ _ _ _ w.stands (w.at bytes before at) c.in_err-event.ensures.stop)

pub step-requires-clause-may : goal.step-requires-clause-may
step-requires-clause-may g c =
    let w = c.lines.invariant.works c.requires.begun.0 c.requires.begun.1 in
    may _ c.lines.reading c.take.new.self _ _ w.items _ _ _ w.stands (rw c.in-Event.is at c.in_ok-event.ensures.item)

pub step-requires-clause-few : goal.step-requires-clause-few
step-requires-clause-few g c =
    let w = c.lines.invariant.works c.requires.begun.0 c.requires.begun.1 in
    few _ c.lines.reading c.take.new.self _ _ w.items _ _ _ w.stands (rw c.in-Event.is at c.in_ok-event.ensures.item)

pub returns-in_err-step-in-Event-clause-stopped : goal.returns-in_err-step-in-Event-clause-stopped
returns-in_err-step-in-Event-clause-stopped g c = λ is s bytes before at.
    let w = c.lines.invariant.works is s in
    let p = err_from_is_err_and c.from_residual-in_err-step-in-Event.result c.from_residual-in_err-step-in-Event.ensures.1 in
    rw (p.1, p.2)
    (stops_stepping bytes before _ c.lines.reading c.take.new.self _ _ w.items _ _ _ _ _ w.stands (w.at bytes before at) (rw c.in-Event.is at c.in_ok-event.ensures.item)
    (c.in_err-step-in-Event.ensures.stopped _ _ w.stands.runs))

pub returns-in_err-write_all-in-Event-clause-stopped : goal.returns-in_err-write_all-in-Event-clause-stopped
returns-in_err-write_all-in-Event-clause-stopped g c = λ is s bytes before at.
    let w = c.lines.invariant.works is s in
    let p = err_from_is_err_and c.from_residual-in_err-write_all-in-Event.result c.from_residual-in_err-write_all-in-Event.ensures.1 in
    rw (p.1, p.2)
    (stops_writing bytes before _ c.lines.reading c.take.new.self _ _ _ _ w.items _ c.step.new.text.items _ _ _ _ _ w.stands (w.at bytes before at) (rw c.in-Event.is at c.in_ok-event.ensures.item)
    (c.in_ok-step-in-Event.ensures.stepped _ _ w.stands.runs) (rw c.deref.ensures.value at c.in_err-write_all-in-Event.ensures.front) (sink_stops bytes _))

pub lines-smaller : goal.lines-smaller
lines-smaller g c =
    let w = c.lines.invariant.works c.requires.begun.0 c.requires.begun.1 in
    omega (arith, fewer _ c.lines.reading c.take.new.self _ _ w.items _ _ _ w.stands c.in_ok-event.ensures.item, c.in_ok-event.ensures.item.one_more)

pub lines-preserved : goal.lines-preserved
lines-preserved g c = record {
  works = λ is s.
      let w = c.lines.invariant.works is s in
      goes_on _ c.args.reading.now c.lines.reading c.take.new.self _ _ _ _ _ _ _ _ _ _ is _ c.step.new.text.items w (rw c.in-Event.is at c.in_ok-event.ensures.item)
      (c.in_ok-step-in-Event.ensures.stepped _ _ w.stands.runs) (rw c.deref.ensures.value at c.in_ok-write_all-in-Event.ensures.whole);
  lives = c.in_ok-step-in-Event.ensures.lives;
  read = omega (arith, c.lines.invariant.read, c.take.ensures.count);
  wrote = omega (arith, c.lines.invariant.wrote, c.write_all.ensures.count);
}

pub finish-requires-clause-ended : goal.finish-requires-clause-ended
finish-requires-clause-ended g c =
    let w = c.lines.invariant.works c.requires.begun.0 c.requires.begun.1 in
    (_, ended _ c.lines.reading c.take.new.self _ _ w.items _ _ w.stands (rw c.in-End.is at c.in_ok-event.ensures.item))

pub returns-in-End-clause-whole : goal.returns-in-End-clause-whole
returns-in-End-clause-whole g c = λ is s bytes before at.
    let w = c.lines.invariant.works is s in
    let item = rw c.in-End.is at c.in_ok-event.ensures.item in
    c.finish.ensures.whole _ (ended _ c.lines.reading c.take.new.self _ _ w.items _ _ w.stands item) bytes before
    (at_ended bytes before _ c.lines.reading c.take.new.self _ _ w.items _ _ _ w.stands (w.at bytes before at) item)

pub returns-in-End-clause-stopped : goal.returns-in-End-clause-stopped
returns-in-End-clause-stopped g c = λ is s bytes before at.
    let w = c.lines.invariant.works is s in
    let item = rw c.in-End.is at c.in_ok-event.ensures.item in
    c.finish.ensures.stopped _ (ended _ c.lines.reading c.take.new.self _ _ w.items _ _ w.stands item) bytes before
    (at_ended bytes before _ c.lines.reading c.take.new.self _ _ w.items _ _ _ w.stands (w.at bytes before at) item)

pub unreachable-requires : goal.unreachable-requires
unreachable-requires g c =
    let w = c.lines.invariant.works c.requires.begun.0 c.requires.begun.1 in
    no_header _ c.lines.reading c.take.new.self _ _ w.items _ _ w.stands (rw c.in-Header.is at c.in_ok-event.ensures.item)

pub unreachable-requires-in-Begun : goal.unreachable-requires-in-Begun
unreachable-requires-in-Begun g c =
    let w = c.lines.invariant.works c.requires.begun.0 c.requires.begun.1 in
    no_setup _ c.lines.reading c.take.new.self _ _ w.items _ _ _ w.stands (rw c.in-Begun.is at c.in_ok-event.ensures.item)
