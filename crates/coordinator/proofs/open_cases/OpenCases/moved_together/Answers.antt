-- No transaction stands twice, so none of those that are still to be moved is among those that were.
use Rattle.std.proofs.Common.{◌≡◌, true, List, ◌∷◌, ◌++◌, map, refl, sym, ◌∙◌, ap}
use Rattle.std.specs.Vec.Iter.{into_iter_items}
use Rattle.tcs_terms.specs.declared.ids.TxId.{TxId}
use Rattle.tcs_terms.specs.Logs.{txns_differ}
use Rattle.protocol.specs.Records.{Case}
use Rattle.coordinator.specs.OpenCases.{taken}
use Rattle.coordinator.proofs.Slots.{taken_txns, new_behind}
use Rattle.coordinator.proofs.open_cases.OpenCases.moved_together.Goals as goal

pub append-requires : goal.append-requires
append-requires c =
    let rest = taken (into_iter_items c.next.new.self) in
    let step : into_iter_items c.loop-slot.slot-iterator ≡ c.in-Some.slot ∷ into_iter_items c.next.new.self = c.in-Some.ensures.steps.0 in
    let here : taken (into_iter_items c.loop-slot.slot-iterator) ≡ (c.in-Some-slot.txn, c.in-Some-slot.case) ∷ rest = ap taken step ∙ rw c.in-Some-slot.is refl in
    let whole : c.loop-slot.together ++ (c.in-Some-slot.txn, c.in-Some-slot.case) ∷ rest ≡ taken c.self.inside.slots.items =
    ap (λ (es : List (TxId × Case)). c.loop-slot.together ++ es) (sym here) ∙ c.loop-slot.invariant.2 ∙ sym c.self.view_is in
    let differ : txns_differ (map (λ e. e.0) (c.loop-slot.together ++ (c.in-Some-slot.txn, c.in-Some-slot.case) ∷ rest)) ≡ true =
    ap (λ (es : List (TxId × Case)). txns_differ (map (λ e. e.0) es)) whole ∙ ap txns_differ (sym (taken_txns c.self.inside.slots.items)) ∙ c.self.invariant.differ in
    new_behind c.in-Some-slot.txn c.in-Some-slot.case c.loop-slot.together rest differ
