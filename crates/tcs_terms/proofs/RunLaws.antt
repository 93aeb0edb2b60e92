-- What fits a setup is in range, and events come one by one.
use Rattle.std.proofs.Common.{◌≡◌, ℕ, ◌+◌, ◌-◌, ◌≤◌, true, ◌&&◌, List, [], ◌∷◌, ◌++◌, length, refl, arith}
use Rattle.std.specs.Prelude.{nat_le, ◌==◌, slice_index, IsTrue}
use Rattle.std.specs.List.{list_all, AllByRecursion}
use Rattle.std.proofs.lemmas.Bool.Decides.{nat_tests}
use Rattle.tcs_terms.specs.declared.limits.TheConstants.{MAX_NODES, MAX_SHARDS, MAX_SEQUENCE, MAX_WANTED}
use Rattle.tcs_terms.specs.declared.ids.TxId.{TxId}
use Rattle.tcs_terms.specs.declared.inputs.Input.{Input}
use Rattle.tcs_terms.specs.declared.inputs.Input.TheVariants.{Certify, Take, Nudge, Move, Lower, ReadName, Ask, Deliver}
use Rattle.tcs_terms.specs.declared.inputs.Event.{Event}
use Rattle.tcs_terms.specs.Order.{ascends}
use Rattle.tcs_terms.specs.Places.{is_node, is_shard}
use Rattle.tcs_terms.specs.Messages.{is_txn}
use Rattle.tcs_terms.specs.Setups.{Deployment, IsDeployment, has_node, is_node_of}
use Rattle.tcs_terms.specs.Events.{has_shard, may_be_of, input_fits, InputInRange}
use Rattle.tcs_terms.specs.Runs.{MayStand, AreEventsOf}
use Rattle.tcs_terms.proofs.BoolLaws.{both, left_of, right_of}

pub node_in_range : (d : Deployment) (node : ℕ) → IsDeployment d → has_node d.nodes node ≡ true → is_node node ≡ true
node_in_range d node is h = let few = is.few_nodes in grind (arith, nat_tests)

pub shard_in_range : (d : Deployment) (shard : ℕ) → IsDeployment d → has_shard d shard ≡ true → is_shard shard ≡ true
shard_in_range d shard is h = let few = is.few_shards in grind (arith, nat_tests)

pub txn_in_range : (d : Deployment) (txn : TxId) → IsDeployment d → may_be_of d txn ≡ true → is_txn txn ≡ true
txn_in_range d txn is h =
    let numbered = nat_le 1 txn.seq && nat_le txn.seq MAX_SEQUENCE in
    both (is_node txn.home) numbered (node_in_range d txn.home is (left_of (has_node d.nodes txn.home) numbered h)) (right_of (has_node d.nodes txn.home) numbered h)

nodes_in_range : (d : Deployment) (shard : ℕ) (want : List ℕ) → IsDeployment d → list_all (is_node_of d.nodes shard) want ≡ true → list_all is_node want ≡ true
nodes_in_range d shard [] is h = refl
nodes_in_range d shard (n ∷ ns) is h =
    let here = left_of (is_node_of d.nodes shard n) (list_all (is_node_of d.nodes shard) ns) h in
    both (is_node n) (list_all is_node ns) (node_in_range d n is (left_of (has_node d.nodes n) (slice_index d.nodes (n - 1) == shard) here))
    (nodes_in_range d shard ns is (right_of (is_node_of d.nodes shard n) (list_all (is_node_of d.nodes shard) ns) h))

pub input_in_range : (d : Deployment) (input : Input) → IsDeployment d → input_fits d input ≡ true → InputInRange input
input_in_range d (Certify payload) is h = tt
input_in_range d (Take txn) is h = tt
input_in_range d Nudge is h = tt
input_in_range d (Move shard want) is h =
    let few = nat_le (length want) MAX_WANTED in
    let three = left_of (has_shard d shard && few && ascends want) (list_all (is_node_of d.nodes shard) want) h in
    let two = left_of (has_shard d shard && few) (ascends want) three in
    let placed = shard_in_range d shard is (left_of (has_shard d shard) few two) in
    let nodes = nodes_in_range d shard want is (right_of (has_shard d shard && few && ascends want) (list_all (is_node_of d.nodes shard) want) h) in
    both (is_shard shard && few && list_all is_node want) (ascends want)
    (both (is_shard shard && few) (list_all is_node want) (both (is_shard shard) few placed (right_of (has_shard d shard) few two)) nodes)
    (right_of (has_shard d shard && few) (ascends want) three)
input_in_range d Lower is h = tt
input_in_range d (ReadName name) is h = tt
input_in_range d (Ask shard) is h = shard_in_range d shard is h
input_in_range d (Deliver from message) is h = absurd cc

one_more : (d : Deployment) (events : List Event) (event : Event) → AllByRecursion (MayStand d) events → MayStand d event → AllByRecursion (MayStand d) (events ++ event ∷ [])
one_more d [] event all may = (may, tt)
one_more d (e ∷ es) event all may = (all.0, one_more d es event all.1 may)

those_in_front : (d : Deployment) (events more : List Event) → AllByRecursion (MayStand d) (events ++ more) → AllByRecursion (MayStand d) events
those_in_front d [] more all = tt
those_in_front d (e ∷ es) more all = (all.0, those_in_front d es more all.1)

pub no_events : (d : Deployment) → IsDeployment d → AreEventsOf d []
no_events d is = record { deployment = is; events = tt }

pub event_joins : (d : Deployment) (events : List Event) (event : Event) → AreEventsOf d events → MayStand d event → AreEventsOf d (events ++ event ∷ [])
event_joins d events event are may = record { deployment = are.deployment; events = one_more d events event are.events may }

pub front_stands : (d : Deployment) (events more : List Event) → AreEventsOf d (events ++ more) → AreEventsOf d events
front_stands d events more are = record { deployment = are.deployment; events = those_in_front d events more are.events }
