-- The part of an object gets its value.
use Rattle.std.proofs.Common.{refl}
use Rattle.store_client.proofs.Putting.{set_is_with_put, with_put_are}
use Rattle.store_client.proofs.parts.set_put.Goals as goal

pub returns-clause-are : goal.returns-clause-are
returns-clause-are c =
    with_put_are c.args.name.now c.args.value c.args.parts.now _
    (set_is_with_put c.args.name.now c.args.value c.args.parts.now c.args.place c.index-parts-place.result _ refl c.requires.found)
