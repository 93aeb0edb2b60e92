-- The new case stands behind the others, and the table has its place.
use Rattle.std.proofs.Common.{◌≡◌, List, [], ◌∷◌, ◌++◌, length, map, Some, None, sym, ◌∙◌, ap, subst, arith}
use Rattle.std.specs.Map.{lookup}
use Rattle.tcs_terms.specs.declared.ids.TxId.{TxId}
use Rattle.tcs_terms.specs.Logs.{same_txn}
use Rattle.protocol.specs.Records.{Case}
use Rattle.coordinator.specs.OpenCases.{taken, txn_at, IsPlaced}
use Rattle.coordinator.proofs.Slots.{has_no_place, placed_append, taken-append}
use Rattle.coordinator.proofs.open_cases.OpenCases.append.Goals as goal

pub invariant_of-self-2 : goal.invariant_of-self-2
invariant_of-self-2 c =
    let absent : lookup (same_txn c.args.txn) (taken c.self.inside.slots.items) ≡ None = rw c.self.view_is c.requires in
    let none = has_no_place c.self.inside.places.entries c.self.inside.slots.items c.self.invariant c.args.txn absent in
    let slots = c.in_ok-push.ensures.items ∙ ap (λ xs. xs ++ Some (c.args.txn, c.args.case) ∷ []) c.reserve.ensures.items in
    let long = rw (c.in_ok-insert.ensures.old, none) at c.in_ok-insert.ensures.len in
    let at : c.len.result ≡ length c.self.inside.slots.items = omega (arith, c.len.ensures, c.reserve.new.self.ok, ap length c.reserve.ensures.items) in
    let finds = rw at at c.in_ok-insert.ensures.updates.0 in
    subst (λ xs. IsPlaced c.insert.new.self.entries (map txn_at xs)) (sym slots)
    (placed_append c.self.inside.places.entries c.self.inside.slots.items c.self.invariant c.insert.new.self.entries c.args.txn c.args.case absent finds long)

pub returns : goal.returns
returns c =
    let slots = c.in_ok-push.ensures.items ∙ ap (λ xs. xs ++ Some (c.args.txn, c.args.case) ∷ []) c.reserve.ensures.items in
    ap taken slots ∙ taken-append c.self.inside.slots.items (c.args.txn, c.args.case) ∙ ap (λ (cases : List (TxId × Case)). cases ++ (c.args.txn, c.args.case) ∷ []) c.self.view_is
