use Rattle.std.proofs.Common.{◌≤◌, List, ◌++◌, length, Option, ◌∙◌, ap, arith}
use Rattle.std.specs.Prelude.{flat_map}
use Rattle.std.proofs.lemmas.List.{take_all}
use Rattle.tcs_terms.specs.declared.ids.TxId.{TxId}
use Rattle.tcs_terms.specs.declared.messages.Outgoing.{Outgoing}
use Rattle.protocol.specs.Cases.{send_case}
use Rattle.protocol.specs.Records.{Case}
use Rattle.coordinator.specs.OpenCases.{sends_at}
use Rattle.coordinator.proofs.Asking.{sends_all}
use Rattle.coordinator.proofs.open_cases.OpenCases.resend.Goals as goal

pub returns : goal.returns
returns c =
    let views = c.args.views.now in
    let before = c.args.out.now.items in
    let slots = c.deref-slot-items.result.now in
    let end : length slots ≤ c.loop-slot.slot-index = omega (arith, c.loop-slot-test.false) in
    c.loop-slot.invariant
    ∙ ap (λ (xs : List (Option (TxId × Case))). before ++ flat_map (sends_at views) xs) (take_all c.loop-slot.slot-index slots end ∙ c.deref-slot-items.ensures.value)
    ∙ ap (λ (ys : List Outgoing). before ++ ys) (sends_all views c.self.inside.slots.items)
    ∙ ap (λ (es : List (TxId × Case)). before ++ flat_map (λ e. send_case views e.0 e.1) es) c.self.view_is
