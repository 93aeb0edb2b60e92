-- The names of the parts so far stand before this one.
use Rattle.std.proofs.Common.{◌≡◌, ◌+◌, ◌-◌, ◌≤◌, length, drop}
use Rattle.std.specs.List.{prefix_len}
use Rattle.tcs_terms.specs.Order.{name_before}
use Rattle.store_client.proofs.parts.count_before.Given as goal

abbrev pub invariant-loop-count : goal.invariant-loop-count
invariant-loop-count l = record {
  within : l.count ≤ length l.parts;
  left : prefix_len (λ p. name_before p.name l.name) l.parts ≡ l.count + prefix_len (λ p. name_before p.name l.name) (drop l.count l.parts);
}

abbrev pub decreases-loop-count : goal.decreases-loop-count
decreases-loop-count l = length l.parts - l.count
