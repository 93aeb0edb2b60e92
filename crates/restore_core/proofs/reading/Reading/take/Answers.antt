-- The line in work is taken.
use Rattle.std.proofs.Common.{refl}
use Rattle.restore_core.proofs.Stepping.{take_on, take_objects, take_counts, take_ended}
use Rattle.restore_core.proofs.reading.Reading.take.Goals as goal

pub returns-clause-takes : goal.returns-clause-takes
returns-clause-takes c = λ short texts rest.
    take_on _ _ _ _ _ _ _ _ (rw c.deref.ensures.value at c.in-Ok.ensures.exact) c.in_ok-hear.ensures.kept refl short texts rest

pub returns-clause-behind : goal.returns-clause-behind
returns-clause-behind c =
    let takes = rw c.deref.ensures.value at c.in-Ok.ensures.exact in
    record {
      objects = take_objects _ _ _ _ c.args.self.now.lines _ _ _ takes c.in_ok-hear.ensures.kept refl c.requires.objects;
      lines = take_counts _ _ c.args.self.now.kept.items _ _ _ _ _ takes c.in_ok-hear.ensures.kept refl c.requires.lines;
      ended = take_ended _ _ c.args.self.now.kept.items _ c.args.self.now.lines _ _ _ takes c.in_ok-hear.ensures.kept refl c.args.self.now.ended _ c.requires.ended c.in_ok-hear.ensures.ended;
    }
