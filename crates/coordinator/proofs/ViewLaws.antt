-- Views in the order of their shards: the place of a shard's view, and a view that is replaced.
use Rattle.std.proofs.Common.{◌≡◌, ℕ, ◌-◌, ◌<◌, ◌≤◌, true, List, length, map, Some, None, sym, ◌∙◌, ap, arith, zero-add}
use Rattle.std.specs.List.{range_with_len}
use Rattle.std.proofs.Math.ListN.{set, length-set}
use Rattle.std.proofs.Math.Seq.{map-set_same}
use Rattle.tcs_terms.specs.Order.{ascends}
use Rattle.tcs_terms.specs.Places.{Membership}
use Rattle.tcs_terms.proofs.OrderLaws.{range_ascends}
use Rattle.coordinator.specs.InOrder.{AreViews, place_among}
use Rattle.coordinator.proofs.ByKey.{HasPlace, place, own_place, no_place_below, no_place_above}

pub place_is : (views : List Membership) (shard : ℕ) → AreViews views → 1 ≤ shard → shard - 1 < length views → Some (shard - 1) ≡ place_among views shard
place_is views shard h low high = sym (own_place (λ (v : Membership). v.shard) shard 0 1 views h.in_order low (omega arith) ∙ ap (λ (n : ℕ). Some n) (zero-add (shard - 1)))

pub no_place_at_zero : (views : List Membership) (shard : ℕ) → AreViews views → shard < 1 → None ≡ place_among views shard
no_place_at_zero views shard h low = sym (no_place_below (λ (v : Membership). v.shard) shard 0 1 views h.in_order low)

pub no_place_past : (views : List Membership) (shard : ℕ) → AreViews views → 1 ≤ shard → length views ≤ shard - 1 → None ≡ place_among views shard
no_place_past views shard h low high = sym (no_place_above (λ (v : Membership). v.shard) shard 0 1 views h.in_order (omega arith))

pub view_place : (views : List Membership) (shard at : ℕ) → AreViews views → place_among views shard ≡ Some at → HasPlace (λ (v : Membership). v.shard) shard at views
view_place views shard at h e =
    let ascend : ascends (map (λ v. v.shard) views) ≡ true = rw h.in_order (range_ascends 1 (length views)) in
    place (λ (v : Membership). v.shard) shard at views ascend e

pub still_views : (views : List Membership) (at : ℕ) (c : Membership) → AreViews views → place_among views c.shard ≡ Some at → AreViews (set views at c)
still_views views at c h e =
    let p = view_place views c.shard at h e in
    let same : length (set views at c) ≡ length views = length-set views at c in
    let some = h.some in
    let few = h.few in
    record {
      some = omega arith;
      few = omega arith;
      in_order = map-set_same (λ (v : Membership). v.shard) views at c c (sym (p.own c)) ∙ h.in_order ∙ ap (range_with_len 1) (sym same);
    }
