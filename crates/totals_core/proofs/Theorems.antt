-- What holds of the counters of each run.
use Rattle.std.proofs.Common.{◌≡◌, ◌⊎◌, inl, inr, ℕ, ◌≤◌, true, List, sym, subst, arith}
use Rattle.tcs_terms.specs.declared.inputs.Event.{Event}
use Rattle.tcs_terms.specs.declared.setups.Rule.{Rule}
use Rattle.tcs_terms.specs.declared.setups.Rule.TheVariants as rules
use Rattle.tcs_terms.specs.Payloads.{Accesses}
use Rattle.tcs_terms.specs.Runs.{AreEventsOf}
use Rattle.tcs_terms.specs.Setups.{Deployment}
use Rattle.tcs_terms.specs.Shards.{lies_in}
use Rattle.schedule_text.specs.Whole.{IsSchedule}
use Rattle.cert_commute.specs.Commute.{commute}
use Rattle.protocol.specs.CorrectHistory.{is_legal}
use Rattle.protocol.specs.Invariant.Time.{StandsIn, time_after}
use Rattle.protocol.specs.Limit.{Progress as Run}
use Rattle.protocol.specs.Limit.Progress.{Live, Ended}
use Rattle.protocol.specs.Records.{NodeRecord}
use Rattle.protocol.specs.World.{World}
use Rattle.protocol_laws.specs.Exchange.{may_commit}
use Rattle.protocol_laws.specs.Promises.{KeepsItsPromises, world_of}
use Rattle.protocol_laws.specs.Told.{ToldRightly}
use Rattle.protocol_laws.proofs.Exchanges.{exchange-additions, legal-may_commit}
use Rattle.counters.specs.Amounts.{node_total}
use Rattle.counters.specs.Histories.{total}
use Rattle.counter_laws.specs.Marked.{HasEach}
use Rattle.counter_laws.proofs.NodeHasAll.{has_as_much}
use Rattle.counter_laws.proofs.NodeTotals.{node_within}
use Rattle.replay_core.specs.Replays.{Kept}
use Rattle.replay_core.specs.Trace.{run_of, is_live, tests_of}
use Rattle.totals_core.specs.Telling.{Holds, IsTold}
use Rattle.totals_core.specs.Totalling.{ExchangesAdditions}

-- no node has more of a counter than the sum over the order
node_less : (d : Deployment) (es : List Event) (p : Run) → KeepsItsPromises (tests_of d.rule) d es p → is_live p ≡ true
    → (node : NodeRecord) → StandsIn node (world_of p).nodes → (name : List ℕ) → node_total node.rows name ≤ total (world_of p).history name
node_less d es (Ended w count bytes) k live = absurd cc
node_less d es (Live w count bytes) k live =
    let t = time_after (tests_of d.rule) d es in
    let holds = k.invariant.holds in
    subst (λ (x : World). (node : NodeRecord) → StandsIn node x.nodes → (name : List ℕ) → node_total node.rows name ≤ total x.history name) k.invariant.now
    (node_within d t holds.transactions holds.promises (subst ToldRightly (sym k.invariant.now) k.told))

pub within : (d : Deployment) (es : List Event) (text : List ℕ) → Kept d es → (told : IsTold d.shards (world_of (run_of d es)) text) → (name : List ℕ) → told.held name ≤ total (world_of (run_of d es)).history name
within d es text k told name = go (told.greatest name).reached where
  go : (told.held name ≡ 0) ⊎ Holds d.shards (world_of (run_of d es)).nodes name (told.held name) → told.held name ≤ total (world_of (run_of d es)).history name
  go (inl none) = omega (arith, none)
  go (inr h) = subst (λ k. k ≤ total (world_of (run_of d es)).history name) h.has (node_less d es (run_of d es) k.promises k.within h.node h.there name)

-- a node that has each committed addition marked has as much
node_same : (d : Deployment) (es : List Event) (p : Run) → KeepsItsPromises (tests_of d.rule) d es p → is_live p ≡ true → AreEventsOf d es
    → (node : NodeRecord) → StandsIn node (world_of p).nodes → (name : List ℕ) → lies_in d.shards node.shard name ≡ true → HasEach (world_of p).history node.rows name
    → node_total node.rows name ≡ total (world_of p).history name
node_same d es (Ended w count bytes) k live are = absurd cc
node_same d es (Live w count bytes) k live are = has_as_much (tests_of d.rule) d es w count bytes k are

pub equal : (d : Deployment) (es : List Event) (text : List ℕ) → IsSchedule d es → Kept d es → (told : IsTold d.shards (world_of (run_of d es)) text)
    → (node : NodeRecord) → StandsIn node (world_of (run_of d es)).nodes → (name : List ℕ) → lies_in d.shards node.shard name ≡ true → HasEach (world_of (run_of d es)).history node.rows name
    → told.held name ≡ total (world_of (run_of d es)).history name
equal d es text s k told node there name lies each =
    let same = node_same d es (run_of d es) k.promises k.within (record { deployment = s.setup; events = s.events }) node there name lies each in
    let least = (told.greatest name).least node there lies in
    let most = within d es text k told name in
    omega (arith, same, least, most)

-- neighbours of the order that only add may be exchanged
pub exchanges : (d : Deployment) (es : List Event) → Kept d es → d.rule ≡ rules.Commute → ExchangesAdditions (world_of (run_of d es)).history
exchanges d es k rule = λ front a b back is only.
    let h = (world_of (run_of d es)).history in
    let legal : is_legal commute h ≡ true = subst (λ (r : Rule). is_legal (tests_of r) h ≡ true) rule k.promises.correct.legality in
    exchange-additions front a b back only (subst (λ (ps : List Accesses). may_commit commute ps ≡ true) is (legal-may_commit commute h legal))
