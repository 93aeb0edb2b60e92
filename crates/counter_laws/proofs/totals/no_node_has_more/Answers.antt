use Rattle.std.proofs.Common.{ℕ, ◌≤◌, List, sym, subst}
use Rattle.protocol.specs.Invariant.Time.{StandsIn, time_after}
use Rattle.protocol.specs.Records.{NodeRecord}
use Rattle.protocol.specs.World.{World}
use Rattle.protocol_laws.specs.Told.{ToldRightly}
use Rattle.counters.specs.Amounts.{node_total}
use Rattle.counters.specs.Histories.{total}
use Rattle.counter_laws.proofs.NodeTotals.{node_within}
use Rattle.counter_laws.proofs.totals.no_node_has_more.Goals as goal

pub returns : goal.returns
returns c = λ tests setup events w count bytes kept.
    let t = time_after tests setup events in
    let holds = kept.invariant.holds in
    subst (λ (x : World). (node : NodeRecord) → StandsIn node x.nodes → (name : List ℕ) → node_total node.rows name ≤ total x.history name) kept.invariant.now
    (node_within setup t holds.transactions holds.promises (subst ToldRightly (sym kept.invariant.now) kept.told))
