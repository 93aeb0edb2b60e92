-- All writes are taken in, and so the first of each object.
use Rattle.std.proofs.Common.{◌∙◌, ap, fold}
use Rattle.std.proofs.lemmas.List.{take_all}
use Rattle.version_store.specs.Keeping.{kept_at, after_write}
use Rattle.version_store.proofs.BestWrites.{first_found}
use Rattle.version_store.proofs.writes.take_writes.Goals as goal

pub returns : goal.returns
returns c = λ name. let before = kept_at c.args.writes.now name in
    c.loop-part.invariant name
    ∙ ap (fold (after_write name c.args.slot c.args.version) before) (take_all c.loop-part.part-index c.args.parts.now c.loop-part-test.false)
    ∙ first_found name c.args.slot c.args.version before c.args.parts.now
