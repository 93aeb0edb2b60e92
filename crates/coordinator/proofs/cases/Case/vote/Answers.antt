use Rattle.std.proofs.Common.{◌≡◌, Some, None, sym, ◌∙◌, ap}
use Rattle.protocol.specs.Records.{Part}
use Rattle.protocol.specs.Coordination.{voted}
use Rattle.coordinator.specs.Acknowledged.{voted_case}
use Rattle.coordinator.specs.InOrder.{part_place}
use Rattle.coordinator.proofs.PartLaws.{changed, unchanged}
use Rattle.coordinator.specs.contracts.cases.Case.{the_view}
use Rattle.coordinator.proofs.cases.Case.vote.Goals as goal

pub invariant_of-self : goal.invariant_of-self
invariant_of-self c =
    let there : part_place c.self.inside.parts.items c.args.shard ≡ Some c.in-Some.at = cc in
    let same = ap (λ (p : Part). p.shard) c.vote.ensures in
    (changed (the_view c.self.inside) c.args.shard c.in-Some.at c.index_mut.result.now c.vote.new.self c.self.invariant there c.index_mut.ensures.value same).still

pub returns-in-Some : goal.returns-in-Some
returns-in-Some c =
    let there : part_place c.self.inside.parts.items c.args.shard ≡ Some c.in-Some.at = cc in
    let same = ap (λ (p : Part). p.shard) c.vote.ensures in
    let k = changed (the_view c.self.inside) c.args.shard c.in-Some.at c.index_mut.result.now c.vote.new.self c.self.invariant there c.index_mut.ensures.value same in
    sym (k.changes (λ p. voted p c.args.entry) c.vote.ensures) ∙ ap (voted_case c.args.shard c.args.entry) c.self.view_is

pub returns-in_default : goal.returns-in_default
returns-in_default c =
    let none : part_place c.self.inside.parts.items c.args.shard ≡ None = cc in
    let k = unchanged (the_view c.self.inside) c.args.shard none in
    sym c.self.view_is ∙ sym (k.changes (λ p. voted p c.args.entry)) ∙ ap (voted_case c.args.shard c.args.entry) c.self.view_is
