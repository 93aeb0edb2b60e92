-- The middle row says where all rows before it, or all from it on, stand.
use Rattle.std.proofs.Common.{◌≡◌, ◌+◌, ◌-◌, ◌/◌, ◌<◌, ℕ, length, arith}
use Rattle.std.specs.Prelude.{slice_index}
use Rattle.conflict_index.specs.Slots.{slots_of}
use Rattle.conflict_index.proofs.Rising.{slot_at, lower_half, upper_half}
use Rattle.conflict_index.proofs.row_search.split_at.Goals as goal

pub loop-low-preserved-then-slot_of-slot : goal.loop-low-preserved-then-slot_of-slot
loop-low-preserved-then-slot_of-slot c =
    let middle : ℕ = c.loop-low.low + (c.loop-low.high - c.loop-low.low) / 2 in
    let within : middle < length c.args.rows.now = omega arith in
    let here : slice_index (slots_of c.args.rows.now) middle ≡ c.index-rows-middle.result.entry.slot =
    slot_at c.args.rows.now middle c.index-rows-middle.result within c.index-rows-middle.is in
    record {
      in_order = omega arith;
      within = omega arith;
      below = lower_half c.args.rows.now c.args.slot middle c.requires within (omega arith);
      from_there = c.loop-low.invariant.from_there;
    }

pub loop-low-preserved : goal.loop-low-preserved
loop-low-preserved c =
    let middle : ℕ = c.loop-low.low + (c.loop-low.high - c.loop-low.low) / 2 in
    let within : middle < length c.args.rows.now = omega arith in
    let here : slice_index (slots_of c.args.rows.now) middle ≡ c.index-rows-middle.result.entry.slot =
    slot_at c.args.rows.now middle c.index-rows-middle.result within c.index-rows-middle.is in
    record {
      in_order = omega arith;
      within = omega arith;
      below = c.loop-low.invariant.below;
      from_there = upper_half c.args.rows.now c.args.slot middle c.requires within (omega arith);
    }
