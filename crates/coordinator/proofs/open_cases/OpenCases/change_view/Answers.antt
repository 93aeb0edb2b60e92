-- One place after the other asks the new leader; each keeps its transaction.
use Rattle.std.proofs.Common.{◌≡◌, ◌<◌, ◌≤◌, List, ◌++◌, length, map, filter, get_or, take, Option, Some, sym, ◌∙◌, ap, arith, append_assoc}
use Rattle.std.specs.Prelude.{flat_map}
use Rattle.std.proofs.Math.ListN.{set}
use Rattle.std.proofs.lemmas.List.{take_all}
use Rattle.tcs_terms.specs.declared.ids.TxId.{TxId}
use Rattle.tcs_terms.specs.declared.messages.Outgoing.{Outgoing}
use Rattle.protocol.specs.Cases.{prepare}
use Rattle.protocol.specs.Coordination.{ask_again, has_part}
use Rattle.protocol.specs.Records.{Case}
use Rattle.coordinator.specs.OpenCases.{taken, txn_at, asked_at, asks_at}
use Rattle.coordinator.proofs.Asking.{length-changed_until, next_unchanged, changed_one_more, all_changed, asked_until, asked_taken, asks_all, flat_one_more, keeps_txns}
use Rattle.coordinator.proofs.open_cases.OpenCases.change_view.Goals as goal

pub index_mut-requires : goal.index_mut-requires
index_mut-requires c =
    let same = ap length c.loop-at.invariant.0 ∙ length-changed_until (asked_at c.args.config.now.shard) c.loop-at.at c.self.inside.slots.items in
    omega (arith, same, c.loop-at-test.true, c.len-at-end.ensures, c.loop-at.self-inside.slots.ok, c.self.inside.slots.ok)

pub loop-at-preserved : goal.loop-at-preserved
loop-at-preserved c =
    let f = asked_at c.args.config.now.shard in
    let sends = asks_at (length c.args.views.now) c.args.config.now in
    let slots = c.self.inside.slots.items in
    let before = c.args.out.now.items in
    let old = c.index_mut.result.now in
    let within : c.loop-at.at < length slots = omega (arith, c.loop-at-test.true, c.len-at-end.ensures, c.self.inside.slots.ok) in
    let here : old ≡ get_or slots c.loop-at.at old =
    c.index_mut.ensures.value ∙ ap (λ xs. get_or xs c.loop-at.at old) c.loop-at.invariant.0 ∙ next_unchanged f c.loop-at.at slots old in (
      ap (λ xs. set xs c.loop-at.at c.change_one.new.slot) c.loop-at.invariant.0
          ∙ changed_one_more f c.loop-at.at slots old c.change_one.new.slot within (c.in_ok-change_one.ensures.case ∙ ap f here),
      c.loop-at.invariant.1,
      c.in_ok-change_one.ensures.sends
          ∙ ap (λ (ys : List Outgoing). ys ++ sends old) c.loop-at.invariant.2
          ∙ append_assoc before (flat_map sends (take c.loop-at.at slots)) (sends old)
          ∙ ap (λ (ys : List Outgoing). before ++ ys)
          (ap (λ (o : Option (TxId × Case)). flat_map sends (take c.loop-at.at slots) ++ sends o) here ∙ sym (flat_one_more sends c.loop-at.at slots old within)),
    )

pub invariant_of-self-in_err-change_one : goal.invariant_of-self-in_err-change_one
invariant_of-self-in_err-change_one c =
    let same = keeps_txns c.loop-at.self-inside.slots.items c.loop-at.at c.index_mut.result.now c.change_one.new.slot c.in_err-change_one.ensures.txn c.index_mut.ensures.value
    ∙ ap (map txn_at) c.loop-at.invariant.0 ∙ asked_until c.args.config.now.shard c.loop-at.at c.self.inside.slots.items in
    rw (same, c.loop-at.invariant.1) c.self.invariant

pub invariant_of-self : goal.invariant_of-self
invariant_of-self c =
    rw (c.loop-at.invariant.0, asked_until c.args.config.now.shard c.loop-at.at c.self.inside.slots.items, c.loop-at.invariant.1) c.self.invariant

pub returns-clause-cases : goal.returns-clause-cases
returns-clause-cases c =
    let end : length c.self.inside.slots.items ≤ c.loop-at.at = omega (arith, c.loop-at-test.false, c.len-at-end.ensures, c.self.inside.slots.ok) in
    let all = all_changed (asked_at c.args.config.now.shard) c.loop-at.at c.self.inside.slots.items end in
    ap taken (c.loop-at.invariant.0 ∙ all) ∙ asked_taken c.args.config.now.shard c.self.inside.slots.items
    ∙ ap (map (λ (e : TxId × Case). (e.0, ask_again c.args.config.now.shard e.1))) c.self.view_is

pub returns-clause-sends : goal.returns-clause-sends
returns-clause-sends c =
    let n = length c.args.views.now in
    let config = c.args.config.now in
    let before = c.args.out.now.items in
    let end : length c.self.inside.slots.items ≤ c.loop-at.at = omega (arith, c.loop-at-test.false, c.len-at-end.ensures, c.self.inside.slots.ok) in
    c.loop-at.invariant.2
    ∙ ap (λ (xs : List (Option (TxId × Case))). before ++ flat_map (asks_at n config) xs) (take_all c.loop-at.at c.self.inside.slots.items end)
    ∙ ap (λ (ys : List Outgoing). before ++ ys) (asks_all n config c.self.inside.slots.items)
    ∙ ap (λ (es : List (TxId × Case)). before ++ flat_map (λ e. prepare n e.0 e.1 (Some config)) (filter (λ e. has_part e.1 config.shard) es)) c.self.view_is
