use Rattle.std.proofs.Common.{◌≡◌, ◌-◌, ◌≤◌, length, drop}
use Rattle.audit_core.specs.Told.{first_difference}
use Rattle.audit_core.proofs.orders.first_difference.Given as goal

abbrev pub invariant-places : goal.invariant-places
invariant-places l = record {
  in_told : l.place ≤ length l.told;
  in_order : l.place ≤ length l.order;
  same : first_difference l.told l.order ≡ first_difference (drop l.place l.told) (drop l.place l.order);
}

abbrev pub decreases-places : goal.decreases-places
decreases-places l = length l.told - l.place
