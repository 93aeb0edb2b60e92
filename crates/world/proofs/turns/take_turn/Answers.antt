use Rattle.std.proofs.Common.{List, length, refl, sym, ap, ◌∙◌}
use Rattle.protocol.specs.World.{Sent}
use Rattle.world.specs.Turns.{LedgerState}
use Rattle.world.proofs.Turning.{filled, turned}
use Rattle.world.proofs.turns.take_turn.Goals as goal

pub take_event-requires : goal.take_event-requires
take_event-requires g c = c.requires.may

pub post-requires : goal.post-requires
post-requires g c = rw (c.deref.ensures.value, c.in-Ok.ensures.sends) (rw (← c.ledger.view_is) at c.requires.range)

pub returns-in-Err-post-clause-full : goal.returns-in-Err-post-clause-full
returns-in-Err-post-clause-full g c =
    let e = c.in-Err-post.ensures in
    let inside = c.ledger.inside in
    rw (← c.ledger.view_is) (filled c.in-Err-post.stop c.in-Ok.doing _ _ _ _ c.deref.result.now c.in-Ok.ensures c.deref.ensures.value
    (ap (λ (ms : List Sent). let l : LedgerState = record { messages = ms; history = inside.history.items; order = inside.order.keys } in l) e.err) e.full)

pub returns-clause-turned : goal.returns-clause-turned
returns-clause-turned g c =
    let e = c.in_default.ensures in
    rw (← c.ledger.view_is) (turned _ c.in-Ok.doing _ _ _ _ c.deref.result.now c.deref-2.result.now c.in-Ok.ensures c.deref.ensures.value c.deref-2.ensures.value
    refl (c.len.ensures ∙ sym c.deref-2.ensures.len ∙ ap length c.deref-2.ensures.value) (c.len-2.ensures ∙ sym c.deref.ensures.len ∙ ap length c.deref.ensures.value)
    e.within e.ok c.in_ok-append.ensures.items c.in_ok-keep_commits.ensures)
