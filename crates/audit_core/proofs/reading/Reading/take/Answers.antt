-- The line in work is taken.
use Rattle.std.proofs.Common.{refl, arith}
use Rattle.audit_core.proofs.Answering.{answer_bad, shards_of}
use Rattle.audit_core.proofs.Stepping.{take_on, take_counts}
use Rattle.audit_core.proofs.reading.Reading.take.Goals as goal

pub hear-requires : goal.hear-requires
hear-requires c = shards_of _ _ _ _ c.in-Ok.ensures.found

pub returns-in-Err-Bad-clause-takes : goal.returns-in-Err-Bad-clause-takes
returns-in-Err-Bad-clause-takes c = λ texts rest.
    answer_bad _ _ c.args.self.now.history c.args.self.now.lines c.args.self.now.used _ c.requires.short
    (rw (c.in-Err-Bad.field-0-is, c.deref.ensures.value) at c.in-Err-Bad.ensures.exact) texts rest

pub returns-clause-takes : goal.returns-clause-takes
returns-clause-takes c = λ texts rest.
    take_on _ _ _ _ _ _ _ _ _ _ c.requires.short (rw c.deref.ensures.value at c.in-Ok.ensures.exact) c.in_ok-hear.ensures refl (omega arith) texts rest

pub returns-clause-counted : goal.returns-clause-counted
returns-clause-counted c =
    let counts = take_counts _ _ _ _ _ _ _ _ _ _ c.requires.short (rw c.deref.ensures.value at c.in-Ok.ensures.exact) c.in_ok-hear.ensures refl (omega arith)
    c.requires.counted.lines c.requires.counted.notes in
    (record { within = counts.0; lines = counts.1; notes = counts.2 }, counts.3)
