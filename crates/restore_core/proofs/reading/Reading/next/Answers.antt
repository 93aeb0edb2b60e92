-- The next line is taken, or the input has ended.
use Rattle.std.proofs.Common.{Some, refl}
use Rattle.std.proofs.lemmas.Result.{err_from_is_err_and}
use Rattle.restore_core.specs.declared.reading.Reading.{Reading}
use Rattle.restore_core.proofs.Stepping.{stopped_goes, long_here, unended_goes, ended_goes, refused_goes, taken_goes}
use Rattle.restore_core.proofs.reading.Reading.next.Goals as goal

pub returns-in_err-next_text-clause-goes : goal.returns-in_err-next_text-clause-goes
returns-in_err-next_text-clause-goes g c = λ rest told.
    let p = err_from_is_err_and c.from_residual.result c.from_residual.ensures.1 in
    rw (p.1, p.2) (stopped_goes c.args.self.now rest c.args.self.now (Some rest) _)

pub returns-in-Long-clause-goes : goal.returns-in-Long-clause-goes
returns-in-Long-clause-goes g c = λ rest told.
    long_here c.args.self.now _ _ _ _ (rw c.in-Long.is at (c.in_ok-next_text.ensures.bytes rest told))

pub returns-in_err-end-in-Ended-clause-goes : goal.returns-in_err-end-in-Ended-clause-goes
returns-in_err-end-in-Ended-clause-goes g c = λ rest told.
    let p = err_from_is_err_and c.from_residual-in_err-end-in-Ended.result c.from_residual-in_err-end-in-Ended.ensures.1 in
    rw (p.1, p.2) (unended_goes c.args.self.now rest c.args.self.now _ _ _ _ (rw c.in-Ended.is at (c.in_ok-next_text.ensures.bytes rest told)) c.in_err-end-in-Ended.ensures.says)

pub returns-in_ok-end-in-Ended-clause-goes : goal.returns-in_ok-end-in-Ended-clause-goes
returns-in_ok-end-in-Ended-clause-goes g c = λ rest told.
    ended_goes c.args.self.now rest c.args.self.now _ _ _ (rw c.in-Ended.is at (c.in_ok-next_text.ensures.bytes rest told)) c.in_ok-end-in-Ended.ensures.says refl

pub returns-in_err-take-in-Whole-clause-goes : goal.returns-in_err-take-in-Whole-clause-goes
returns-in_err-take-in-Whole-clause-goes g c = λ rest told.
    let p = err_from_is_err_and c.from_residual-in_err-take-in-Whole.result c.from_residual-in_err-take-in-Whole.ensures.1 in
    let line : Reading = record (c.args.self.now) { texts = c.next_text.new.self; text = c.next_text.new.text } in
    rw (p.1, p.2)
    (refused_goes c.args.self.now line rest c.take.new.self _ _ _ (rw c.in-Whole.is at (c.in_ok-next_text.ensures.bytes rest told)) refl refl refl c.in_err-take-in-Whole.ensures.takes)

pub returns-in_ok-take-in-Whole-clause-goes : goal.returns-in_ok-take-in-Whole-clause-goes
returns-in_ok-take-in-Whole-clause-goes g c = λ rest told.
    let line : Reading = record (c.args.self.now) { texts = c.next_text.new.self; text = c.next_text.new.text } in
    taken_goes c.args.self.now line rest c.take.new.self _ _ (rw c.in-Whole.is at (c.in_ok-next_text.ensures.bytes rest told)) refl refl refl c.in_ok-take-in-Whole.ensures.takes
    c.in_ok-take-in-Whole.ensures.texts
