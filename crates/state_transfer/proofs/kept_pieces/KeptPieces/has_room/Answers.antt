use Rattle.std.proofs.Common.{◌≡◌, true, false, sym, ◌∙◌}
use Rattle.std.specs.List.{list_all}
use Rattle.state_transfer.specs.Apart.{stands_apart}
use Rattle.state_transfer.proofs.KeptRows.{room_is}
use Rattle.state_transfer.proofs.kept_pieces.KeptPieces.has_room.Goals as goal

pub returns-then-stands_apart : goal.returns-then-stands_apart
returns-then-stands_apart c =
    let room = room_is c.self.inside.list.items c.self.inside.txns.keys (record { number = c.args.number; rows = c.args.rows.now }) c.self.invariant (rw (← c.self.view_is) at c.requires.new) c.requires.rows in
    let apart : list_all (stands_apart c.args.number c.args.rows.now) c.self.inside.list.items ≡ true
    = rw c.deref.ensures.value at (sym c.stands_apart.ensures ∙ c.if-stands_apart.true) in
    rw (← c.self.view_is) (c.are_new.ensures ∙ rw apart at room)

pub returns-else-stands_apart : goal.returns-else-stands_apart
returns-else-stands_apart c =
    let room = room_is c.self.inside.list.items c.self.inside.txns.keys (record { number = c.args.number; rows = c.args.rows.now }) c.self.invariant (rw (← c.self.view_is) at c.requires.new) c.requires.rows in
    let apart : list_all (stands_apart c.args.number c.args.rows.now) c.self.inside.list.items ≡ false
    = rw c.deref.ensures.value at (sym c.stands_apart.ensures ∙ c.if-stands_apart.false) in
    rw (← c.self.view_is) (c.if-stands_apart.false ∙ rw apart at room)
