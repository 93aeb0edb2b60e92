-- The row where the rows are split has the slot, or none has.
use Rattle.std.proofs.Common.{◌<◌, length, sym, ◌∙◌, ap, arith}
use Rattle.std.specs.Prelude.{Some}
use Rattle.conflict_index.proofs.Rising.{slot_at, found_at, none_split}
use Rattle.conflict_index.proofs.row_search.row_at.Goals as goal

pub returns-then-at-rows : goal.returns-then-at-rows
returns-then-at-rows c =
    sym (none_split c.args.rows.now c.args.slot c.split_at-at.result c.requires c.split_at-at.ensures (λ within. absurd (omega arith)))

pub returns-then-slot_of-slot : goal.returns-then-slot_of-slot
returns-then-slot_of-slot c =
    let within : c.split_at-at.result < length c.args.rows.now = omega (arith, c.split_at-at.ensures.within) in
    let here = slot_at c.args.rows.now c.split_at-at.result c.index-rows-at.result within c.index-rows-at.is in
    ap (λ r. Some r) c.index-rows-at.is
    ∙ sym (found_at c.args.rows.now c.args.slot c.split_at-at.result c.index-rows-at.result c.split_at-at.ensures.below within
    (here ∙ sym c.slot_of.ensures ∙ c.if-slot_of-slot.true))

pub returns-else-slot_of-slot : goal.returns-else-slot_of-slot
returns-else-slot_of-slot c =
    let within : c.split_at-at.result < length c.args.rows.now = omega (arith, c.split_at-at.ensures.within) in
    let here = slot_at c.args.rows.now c.split_at-at.result c.index-rows-at.result within c.index-rows-at.is in
    sym (none_split c.args.rows.now c.args.slot c.split_at-at.result c.requires c.split_at-at.ensures (λ _ same.
    c.if-slot_of-slot.false (c.slot_of.ensures ∙ sym here ∙ same)))
