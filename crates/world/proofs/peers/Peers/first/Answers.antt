use Rattle.std.proofs.Common.{◌≡◌, ℕ, ◌+◌, ◌<◌, ◌≤◌, ◌++◌, ◌∷◌, [], List, length, get_or, take, map, refl, sym, ap, ◌∙◌, arith}
use Rattle.std.proofs.lemmas.List.{map-append, length-map, length-take-le, take_more, take_all}
use Rattle.tcs_terms.specs.declared.limits.TheConstants.{MAX_NODES}
use Rattle.tcs_terms.specs.Places.{Membership}
use Rattle.protocol.specs.Records.{NodeRecord}
use Rattle.node_core.specs.State.{NodeState}
use Rattle.coordinator.proofs.FirstViews.{first_views}
use Rattle.config_service.proofs.SetupFirsts.{firsts_of_setup}
use Rattle.protocol.specs.World.{first_node, first_nodes}
use Rattle.world.proofs.PeerLaws.{first_nodes-more, first_nodes-count, each-more, shard_of_node, node_named}
use Rattle.world.proofs.peers.Peers.first.Goals as goal

pub loop-shard-init : goal.loop-shard-init
unfolding first_nodes
loop-shard-init g c = rw c.in_ok-nodes.ensures.items (record { nodes = refl; versions = tt; name = refl })

pub first-requires-clause-name : goal.first-requires-clause-name
first-requires-clause-name g c =
    let i = c.loop-shard.invariant in
    let shards = c.nodes-shards.result.now in
    let few : length shards ≤ MAX_NODES = rw c.nodes-shards.ensures.nodes c.nodes-shards.ensures.setup.few_nodes in
    let lt : c.loop-shard.shard-index < length shards = c.loop-shard-test.true in
    node_named c.loop-shard.name (omega (arith, i.name)) (omega (arith, i.name, few, lt))

pub first-requires-clause-shard : goal.first-requires-clause-shard
first-requires-clause-shard g c =
    let place = c.loop-shard.shard-index in
    let lt : place < length c.args.setup.now.nodes = rw c.nodes-shards.ensures.nodes at c.loop-shard-test.true in
    rw c.nodes-shards.ensures.nodes (shard_of_node c.args.setup.now place 0 c.nodes-shards.ensures.setup lt)

pub first-requires-clause-views : goal.first-requires-clause-views
first-requires-clause-views g c = rw c.in_ok-configs.ensures.configs (first_views c.args.setup.now c.in_ok-configs.ensures.setup)

pub first-requires-clause-first : goal.first-requires-clause-first
first-requires-clause-first g c = rw c.in_ok-configs.ensures.configs (firsts_of_setup c.args.setup.now c.in_ok-configs.ensures.setup).first

pub loop-shard-preserved : goal.loop-shard-preserved
loop-shard-preserved g c =
    let i = c.loop-shard.invariant in
    let f = λ (n : NodeState). n.kept in
    let x : NodeState = c.in_ok-first.field-0 in
    let configs = c.args.setup.now.configs in
    let shards = c.nodes-shards.result.now in
    let place = c.loop-shard.shard-index in
    let shard = get_or shards place 0 in
    let lt : place < length shards = c.loop-shard-test.true in
    let count : c.loop-shard.name ≡ 1 + length (take place shards) = omega (arith, i.name, length-take-le place shards (omega arith)) in
    let kept : x.kept ≡ first_node configs (1 + length (take place shards)) shard =
    ap (λ (n : NodeState). n.kept) c.in_ok-first.ensures
    ∙ ap (λ (cs : List Membership). first_node cs c.loop-shard.name shard) c.in_ok-configs.ensures.configs
    ∙ ap (λ (n : ℕ). first_node configs n shard) count in
    record {
      nodes = ap (λ (ns : List NodeState). map f ns) c.in_ok-push.ensures.items
          ∙ map-append f c.loop-shard.nodes.items (x ∷ [])
          ∙ ap (λ (ns : List NodeRecord). ns ++ x.kept ∷ []) i.nodes
          ∙ ap (λ (n : NodeRecord). first_nodes configs 1 (take place shards) ++ n ∷ []) kept
          ∙ sym (first_nodes-more configs 1 (take place shards) shard)
          ∙ ap (λ (ss : List ℕ). first_nodes configs 1 ss) (sym (take_more shards place 0 lt));
      versions = rw c.in_ok-push.ensures.items
          (each-more (λ (n : NodeState). n.version ≡ c.args.setup.now.version) c.loop-shard.nodes.items x i.versions
          (ap (λ (n : NodeState). n.version) c.in_ok-first.ensures ∙ c.protocol-version.ensures.version));
      name = omega (arith, i.name);
    }

pub invariant_of-result : goal.invariant_of-result
invariant_of-result g c =
    let i = c.loop-shard.invariant in
    let shards = c.nodes-shards.result.now in
    let place = c.loop-shard.shard-index in
    let few : length shards ≤ MAX_NODES = rw c.nodes-shards.ensures.nodes c.nodes-shards.ensures.setup.few_nodes in
    record {
      few = omega (
        arith,
        few,
        length-map c.loop-shard.nodes.items (λ (n : NodeState). n.kept),
        ap length i.nodes,
        first_nodes-count c.args.setup.now.configs 1 (take place shards),
        length-take-le place shards (omega (arith, c.loop-shard.auto.shard-index-end)),
      );
      versions = rw c.protocol-version.ensures.version i.versions;
    }

pub returns : goal.returns
returns g c =
    let i = c.loop-shard.invariant in
    let shards = c.nodes-shards.result.now in
    let configs = c.args.setup.now.configs in
    let whole : take c.loop-shard.shard-index shards ≡ shards = take_all c.loop-shard.shard-index shards (omega (arith, c.loop-shard-test.false)) in
    let nodes : map (λ (n : NodeState). n.kept) c.loop-shard.nodes.items ≡ first_nodes configs 1 c.args.setup.now.nodes =
    i.nodes ∙ ap (λ (ss : List ℕ). first_nodes configs 1 ss) (whole ∙ c.nodes-shards.ensures.nodes) in
    λ k. record { version = c.protocol-version.ensures.version k; nodes = nodes k }
