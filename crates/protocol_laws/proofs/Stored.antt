-- Stored configurations: one of each shard and epoch, the next of a later epoch, whose leader and followers are members.
use Rattle.std.proofs.Common.{◌≡◌, ℕ, ◌≤◌, filter, ◌==◌, refl, eq-eqb, ◌+◌, ◌-◌, ◌<◌, true, length, slice_index, Some, sym, ◌∙◌, ap, arith, eqb-true, not}
use Rattle.tcs_terms.specs.Places.{Membership}
use Rattle.tcs_terms.specs.Setups.{Deployment, has_node, is_node_of}
use Rattle.protocol.specs.Invariant.Configurations.{ConfigurationsHold}
use Rattle.protocol.specs.Invariant.Time.{Moment, StandsIn, IsStored, IsNode}
use Rattle.protocol.specs.Service.{last_epoch, last_config}
use Rattle.protocol_laws.proofs.Numbered.{numbered-above, numbered-one, numbered-index, numbered-below}
use Rattle.protocol_laws.proofs.Standing.{StandsIn-filter, filter-StandsIn}
use Rattle.tcs_terms.proofs.BoolLaws.{right_of}
use Rattle.protocol.specs.Records.{NodeRecord}
use Rattle.protocol.specs.Views.{epoch_of, followers}
use Rattle.protocol.proofs.Lists.{all-StandsIn, among-StandsIn}
use Rattle.protocol_laws.proofs.Came.{IsNext}

-- a stored configuration stands among those of its shard
stands_in_shard : (t : Moment) (shard : ℕ) (c : Membership) → IsStored t c → c.shard ≡ shard → StandsIn c (filter (λ x. x.shard == shard) t.now.configs)
stands_in_shard t shard c s e = StandsIn-filter (λ x. x.shard == shard) t.now.configs c s (eq-eqb c.shard shard e)

-- the epochs of stored configurations begin at 1
pub stored-some : (setup : Deployment) (t : Moment) (c : Membership) → ConfigurationsHold setup t → IsStored t c → 1 ≤ c.epoch
stored-some setup t c k s = numbered-above (λ x. x.epoch) (filter (λ x. x.shard == c.shard) t.now.configs) 1 (last_epoch t.now.configs c.shard) c (k.epochs c.shard) (stands_in_shard t c.shard c s refl)

-- two stored configurations of one shard and epoch are one
pub one_config : (setup : Deployment) (t : Moment) (a b : Membership) → ConfigurationsHold setup t → IsStored t a → IsStored t b → a.shard ≡ b.shard → a.epoch ≡ b.epoch → a ≡ b
one_config setup t a b k p q s e =
    numbered-one (λ x. x.epoch) (filter (λ x. x.shard == b.shard) t.now.configs) 1 (last_epoch t.now.configs b.shard) a b (k.epochs b.shard) (stands_in_shard t b.shard a p s) (stands_in_shard t b.shard b q refl) e

-- no epoch is above the last one
upto_last : (setup : Deployment) (t : Moment) → ConfigurationsHold setup t → (c last : Membership) → IsStored t c → last_config t.now.configs c.shard ≡ Some last → c.epoch ≤ last.epoch
upto_last setup t h c last s e =
    let below : c.epoch < 1 + last_epoch t.now.configs c.shard = numbered-below (λ (d : Membership). d.epoch) (filter (λ (d : Membership). d.shard == c.shard) t.now.configs) 1 (last_epoch t.now.configs c.shard) c (h.epochs c.shard) (stands_in_shard t c.shard c s refl) in
    let is : last_epoch t.now.configs c.shard ≡ last.epoch = ap epoch_of e in
    omega (arith, below, is)

-- the next one is of a later epoch
pub next_above : (setup : Deployment) (t : Moment) → ConfigurationsHold setup t → (c new : Membership) → IsStored t c → IsNext t new → c.shard ≡ new.shard → c.epoch < new.epoch
next_above setup t h c new s n e =
    let low : c.epoch ≤ n.last.epoch = upto_last setup t h c n.last s (ap (λ s. last_config t.now.configs s) e ∙ n.is_last) in
    omega (arith, low, n.epoch)

-- a node that is a member is of the shard
pub member_shard : (setup : Deployment) (t : Moment) → ConfigurationsHold setup t → (c : Membership) (node : NodeRecord) → IsStored t c → IsNode t node → StandsIn node.name c.members → node.shard ≡ c.shard
member_shard setup t h c node s n m =
    let of : is_node_of setup.nodes c.shard node.name ≡ true = all-StandsIn (is_node_of setup.nodes c.shard) c.members node.name (h.members c s).nodes m in
    let is : slice_index setup.nodes (node.name - 1) ≡ c.shard = eqb-true (slice_index setup.nodes (node.name - 1)) c.shard (right_of (has_node setup.nodes node.name) (slice_index setup.nodes (node.name - 1) == c.shard) of) in
    sym (numbered-index (λ (n : NodeRecord). n.name) (λ (n : NodeRecord). n.shard) t.now.nodes 1 (length setup.nodes) node h.names n) ∙ (rw h.shards is)

-- the leader is a member
pub leads_member : (setup : Deployment) (t : Moment) → ConfigurationsHold setup t → (c : Membership) → IsStored t c → StandsIn c.leader c.members
leads_member setup t h c s = among-StandsIn c.members c.leader (h.members c s).leader

-- and so is each follower
pub follower_member : (c : Membership) (node : ℕ) → StandsIn node (followers c) → StandsIn node c.members
follower_member c node s = (filter-StandsIn (λ m. not (m == c.leader)) c.members node s).0
