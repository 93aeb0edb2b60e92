use Rattle.std.proofs.Common.{◌≡◌, ◌∙◌, arith}
use Rattle.std.specs.Prelude.{nat_lt}
use Rattle.protocol.specs.Pieces.{with_piece}
use Rattle.tcs_terms.proofs.OrderLaws.{kept_few}
use Rattle.state_transfer.proofs.KeptRows.{put_in_place, keeps_with}
use Rattle.state_transfer.proofs.kept_pieces.KeptPieces.with.Goals as goal

pub insert-requires : goal.insert-requires
insert-requires c =
    let few = kept_few (λ p. nat_lt p.number c.args.number) c.self.inside.list.items in
    let place = rw c.deref.ensures.value at c.place_of.ensures in
    omega arith

put : (c : goal.In_ok-insert) → c.insert.new.self.items ≡ with_piece c.self.inside.list.items (record { number = c.args.number; rows = c.args.rows })
put c =
    c.in_ok-insert.ensures.items
    ∙ rw (c.place_of.ensures, c.deref.ensures.value)
    (put_in_place c.self.inside.list.items c.self.inside.txns.keys (record { number = c.args.number; rows = c.args.rows }) c.self.invariant (rw (← c.self.view_is) at c.requires.new))

pub invariant_of-result : goal.invariant_of-result
invariant_of-result c =
    rw (put c)
    (keeps_with c.self.inside.list.items c.self.inside.txns.keys c.remember.new.txns.keys (record { number = c.args.number; rows = c.args.rows })
    c.self.invariant (rw (← c.self.view_is) at c.requires.new) c.list.ensures.rows (rw (← c.self.view_is) at c.requires.room) (rw c.list.ensures.list at c.in_ok-remember.ensures))

pub returns : goal.returns
returns c = rw (← c.self.view_is) (put c)
