use Rattle.std.proofs.Common.{arith}
use Rattle.std.proofs.lemmas.Result.{err_from_is_err_and}
use Rattle.schedule_text.specs.declared.places.Place.TheVariants as places
use Rattle.replay_core.specs.declared.stops.ReplayStop.TheVariants as stops
use Rattle.replay_core.proofs.Finishing.{at_end, finishes, ends_tail, ends_tail_unwritten}
use Rattle.replay_core.proofs.Going.{sink_stops, stops_taking}
use Rattle.replay_core.proofs.Taking.{few_taken}
use Rattle.replay_core.proofs.events.finish.Goals as goal

pub take-requires : goal.take-requires
take-requires g c = omega (arith, few_taken c.args.reading.now c.requires.ended.0 c.requires.ended.1.standing)

pub returns-in_err-take-clause-stopped : goal.returns-in_err-take-clause-stopped
returns-in_err-take-clause-stopped g c = λ is s bytes before at.
    let p = err_from_is_err_and c.from_residual.result c.from_residual.ensures.1 in
    rw (p.1, p.2) (stops_taking bytes before _ places.Ended c.args.reading.now _ _ is _ _ _ _ s at c.in_err-take.ensures.stop)

pub returns-in_err-put_tail-clause-stopped : goal.returns-in_err-put_tail-clause-stopped
returns-in_err-put_tail-clause-stopped g c = λ is s bytes before at.
    let p = err_from_is_err_and c.from_residual-in_err-put_tail.result c.from_residual-in_err-put_tail.ensures.1 in
    rw (p.1, p.2)
    (ends_tail_unwritten bytes before _ c.args.reading.now _ _ is _ _ stops.OutOfMemory s at.holds
    (at_end bytes c.args.reading.now c.take.new.self _ _ is _ s.place at.read c.in_ok-take.ensures.item) (λ l w x. x))

pub returns-in_err-write_all-clause-stopped : goal.returns-in_err-write_all-clause-stopped
returns-in_err-write_all-clause-stopped g c = λ is s bytes before at.
    let p = err_from_is_err_and c.from_residual-in_err-write_all.result c.from_residual-in_err-write_all.ensures.1 in
    rw (p.1, p.2)
    (ends_tail bytes before _ c.args.reading.now _ _ is c.put_tail.new.text.items _ _ _ _ s c.in_ok-put_tail.ensures at.holds
    (at_end bytes c.args.reading.now c.take.new.self _ _ is _ s.place at.read c.in_ok-take.ensures.item) (rw c.deref.ensures.value at c.in_err-write_all.ensures.front) (sink_stops bytes _))

pub returns-clause-whole : goal.returns-clause-whole
returns-clause-whole g c = λ is s bytes before at.
    finishes bytes before _ c.args.reading.now _ _ is c.put_tail.new.text.items _ _ _ s c.in_ok-put_tail.ensures at.holds
    (at_end bytes c.args.reading.now c.take.new.self _ _ is _ s.place at.read c.in_ok-take.ensures.item) (rw c.deref.ensures.value at c.in_ok-write_all.ensures.whole)
