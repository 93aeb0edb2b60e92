use Rattle.std.proofs.Common.{◌≡◌, Some, None, sym, ◌∙◌, ap}
use Rattle.protocol.specs.Coordination.{acknowledged}
use Rattle.coordinator.specs.Acknowledged.{acknowledged_case}
use Rattle.coordinator.specs.InOrder.{part_place}
use Rattle.coordinator.proofs.PartLaws.{changed, unchanged}
use Rattle.coordinator.specs.contracts.cases.Case.{the_view}
use Rattle.coordinator.proofs.cases.Case.acknowledge.Goals as goal

pub invariant_of-self : goal.invariant_of-self
invariant_of-self c =
    let there : part_place c.self.inside.parts.items c.args.shard ≡ Some c.in-Some.at = cc in
    (changed (the_view c.self.inside) c.args.shard c.in-Some.at c.index_mut.result.now c.acknowledge.new.self c.self.invariant there c.index_mut.ensures.value c.acknowledge.ensures.shard).still

pub invariant_of-self-in_err-acknowledge : goal.invariant_of-self-in_err-acknowledge
invariant_of-self-in_err-acknowledge c =
    let there : part_place c.self.inside.parts.items c.args.shard ≡ Some c.in-Some.at = cc in
    (changed (the_view c.self.inside) c.args.shard c.in-Some.at c.index_mut.result.now c.acknowledge.new.self c.self.invariant there c.index_mut.ensures.value c.acknowledge.ensures.shard).still

pub returns-in_ok-acknowledge : goal.returns-in_ok-acknowledge
returns-in_ok-acknowledge c =
    let there : part_place c.self.inside.parts.items c.args.shard ≡ Some c.in-Some.at = cc in
    let k = changed (the_view c.self.inside) c.args.shard c.in-Some.at c.index_mut.result.now c.acknowledge.new.self c.self.invariant there c.index_mut.ensures.value c.acknowledge.ensures.shard in
    sym (k.changes (λ p. acknowledged p c.args.from) c.in_ok-acknowledge.ensures.kept) ∙ ap (acknowledged_case c.args.shard c.args.from) c.self.view_is

pub returns-in_default : goal.returns-in_default
returns-in_default c =
    let none : part_place c.self.inside.parts.items c.args.shard ≡ None = cc in
    let k = unchanged (the_view c.self.inside) c.args.shard none in
    sym c.self.view_is ∙ sym (k.changes (λ p. acknowledged p c.args.from)) ∙ ap (acknowledged_case c.args.shard c.args.from) c.self.view_is
