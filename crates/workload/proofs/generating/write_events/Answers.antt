use Rattle.std.proofs.Common.{arith, ℕ, suc, ◌+◌, ◌≡◌, sym, refl, subst}
use Rattle.workload.proofs.generating.write_events.Goals as goal

pub loop-place-preserved : goal.loop-place-preserved
loop-place-preserved g c =
    let next : suc c.loop-place.place ≡ c.loop-place.place + 1 = omega arith in
    record {
      stands = rw next at c.in_ok-write_event.ensures.stands;
      held = λ before holds. rw next at (c.in_ok-write_event.ensures.whole before (c.loop-place.invariant.held before holds));
      wrote = omega (arith, c.loop-place.invariant.wrote, c.write_event.ensures.wrote);
    }
