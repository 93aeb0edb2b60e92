-- What a node never changes: its name, its shard, and of which shards it has views.
use Rattle.std.proofs.Common.{◌≡◌, ℕ, List, map, refl, ap, ◌∙◌}
use Rattle.tcs_terms.specs.declared.inputs.Input.{Input}
use Rattle.tcs_terms.specs.declared.messages.Outgoing.{Outgoing}
use Rattle.tcs_terms.specs.Places.{Membership}
use Rattle.tcs_laws.specs.Certification.{Tests}
use Rattle.protocol.specs.Coordination.{change_view}
use Rattle.protocol.specs.Outcomes.{Out}
use Rattle.protocol.specs.Records.{Coordinator, NodeRecord}
use Rattle.protocol_laws.specs.Effect.{Sees, Effect}
use Rattle.protocol_laws.specs.Effect.Sees.{Replaces, Keeps as KeepsView}
use Rattle.protocol_laws.specs.Effect.Effect.{Rests, Votes, Acknowledges, Changes, Learns}
use Rattle.protocol_laws.proofs.ConfigurationsHad.{goes_on-views, replaced-shards, change_view-views}

-- the shards of views
abbrev shards_seen : Coordinator → List ℕ
shards_seen k = map (λ v. v.shard) k.views

changed_view-shards : (k : Coordinator) (config : Membership) → shards_seen (change_view k config) ≡ shards_seen k
changed_view-shards k config = ap (λ vs. map (λ v. v.shard) vs) (change_view-views k config) ∙ replaced-shards k.views config

sees-shards : (k : Coordinator) (config : Membership) (seen : Coordinator) (sends : List Outgoing) → Sees k config seen sends → shards_seen seen ≡ shards_seen k
sees-shards k config seen sends (Replaces n) = changed_view-shards k config
sees-shards k config seen sends (KeepsView n) = refl

-- what stays
pub record SameNode (node kept : NodeRecord) : Type 0 where
  pub name : kept.name ≡ node.name
  pub shard : kept.shard ≡ node.shard
  pub views : map (λ v. v.shard) kept.coordinator.views ≡ map (λ v. v.shard) node.coordinator.views

same : (node kept : NodeRecord) → kept.name ≡ node.name → kept.shard ≡ node.shard → map (λ v. v.shard) kept.coordinator.views ≡ map (λ v. v.shard) node.coordinator.views → SameNode node kept
same node kept n s v = record { name = n; shard = s; views = v }

pub same_node : (tests : Tests) (version : ℕ) (node : NodeRecord) (input : Input) (out : Out NodeRecord) → Effect tests version node input out → SameNode node out.kept
same_node tests version node input out (Rests i answer notices n) = same node _ refl refl refl
same_node tests version node input out (Votes from shard epoch entry case part view p e l f o g) = same node _ refl refl (ap (λ vs. map (λ v. v.shard) vs) (goes_on-views _ _ _ _ o g))
same_node tests version node input out (Acknowledges from shard epoch slot txn case part view p e l f o g) = same node _ refl refl (ap (λ vs. map (λ v. v.shard) vs) (goes_on-views _ _ _ _ o g))
same_node tests version node input out (Changes from config n) = same node _ refl refl (changed_view-shards node.coordinator config)
same_node tests version node input out (Learns from config coordinator sent stage asked y h) = same node _ refl refl (sees-shards node.coordinator config coordinator sent y)
same_node tests version node input out _ = same node _ refl refl refl
