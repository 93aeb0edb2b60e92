-- A mark changes no slot.
use Rattle.std.proofs.Common.{◌∙◌, ap}
use Rattle.conflict_index.specs.Slots.{slots_of}
use Rattle.conflict_index.proofs.LastRow.{slots_marked}
use Rattle.conflict_index.proofs.side_by_side.decide.Goals as goal

pub returns-in-Undecided-clause-slots : goal.returns-in-Undecided-clause-slots
returns-in-Undecided-clause-slots g c =
    ap slots_of c.mark_slot.ensures ∙ slots_marked _ c.args.mark c.args.rows.now
