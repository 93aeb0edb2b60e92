-- The part is put behind those whose names stand before its own.
use Rattle.store_client.proofs.Reading.{inserted_at, with_read_are}
use Rattle.store_client.proofs.parts.take_read.Goals as goal

pub returns-clause-ok : goal.returns-clause-ok
returns-clause-ok c =
    inserted_at c.args.part c.args.parts.now.items c.deref.result.now c.insert.new.self.items c.count_before-place.result
    c.deref.ensures.value c.count_before-place.ensures.count c.in_ok-insert.ensures.items

pub returns-clause-are : goal.returns-clause-are
returns-clause-are c =
    with_read_are c.args.part c.args.parts.now.items c.insert.new.self.items
    (inserted_at c.args.part c.args.parts.now.items c.deref.result.now c.insert.new.self.items c.count_before-place.result
    c.deref.ensures.value c.count_before-place.ensures.count c.in_ok-insert.ensures.items)
    c.requires.are c.requires.other c.requires.room
