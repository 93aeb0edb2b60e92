-- The nodes that a prober wants, and those that it proposes, are nodes of the shard.
use Rattle.std.proofs.Common.{◌≡◌, ℕ, true, List, ◌∷◌, filter, ◌⊎◌, inl, inr, sym, subst, refl, nat_lt, IsTrue}
use Rattle.std.specs.List.{list_all}
use Rattle.tcs_terms.specs.declared.inputs.Input.{Input}
use Rattle.tcs_terms.specs.declared.inputs.Input.TheVariants as inputs
use Rattle.tcs_terms.specs.declared.messages.Outgoing.{Outgoing}
use Rattle.tcs_terms.specs.Places.{Membership, is_among}
use Rattle.tcs_terms.specs.Setups.{Deployment, is_node_of}
use Rattle.tcs_laws.specs.Certification.{Tests}
use Rattle.protocol.specs.Outcomes.{Out}
use Rattle.protocol.specs.Probing.{joined, proposed}
use Rattle.protocol.specs.Records.{Stage, NodeRecord}
use Rattle.protocol.specs.Records.Stage.{Probing}
use Rattle.protocol.specs.Invariant.Configurations.{HasMembers, WantsNodes}
use Rattle.protocol.specs.Invariant.Time.{StandsIn}
use Rattle.protocol.proofs.Lists.{StandsIn-append, all-StandsIn, among-StandsIn}
use Rattle.protocol_laws.specs.Effect.{Hears, Effect}
use Rattle.protocol_laws.specs.Effect.Hears.{Waits, ProbesLast, ProbesLower, IsDone}
use Rattle.protocol_laws.specs.Effect.Effect.{Rests, Moves, Lowers, Learns, Chooses, FindsLow}
use Rattle.protocol_laws.proofs.Standing.{StandsIn-right, filter-StandsIn, all-from, StandsIn-among}

-- the wanted nodes and one more
joined-StandsIn : (node n : ℕ) (nodes : List ℕ) → StandsIn n (joined node nodes) → (n ≡ node) ⊎ StandsIn n nodes
joined-StandsIn node n nodes s = elim (StandsIn-append (filter (λ m. nat_lt m node) nodes) (node ∷ filter (λ m. nat_lt node m) nodes) n s) [
  | inl a ↦ inr (filter-StandsIn (λ m. nat_lt m node) nodes n a).0
  | inr (inl e) ↦ inl e
  | inr (inr b) ↦ inr (filter-StandsIn (λ m. nat_lt node m) nodes n b).0
]

proposed-HasMembers : (setup : Deployment) (me shard epoch : ℕ) (want : List ℕ) (leader : ℕ) → is_node_of setup.nodes shard leader ≡ true → IsTrue (list_all (is_node_of setup.nodes shard) want)
    → HasMembers setup (proposed me shard epoch want leader)
proposed-HasMembers setup me shard epoch want leader l w = record {
  nodes = all-from (is_node_of setup.nodes shard) (joined leader want) (λ n s. elim (joined-StandsIn leader n want s) [
    | inl e ↦ subst (λ m. is_node_of setup.nodes shard m ≡ true) (sym e) l
    | inr r ↦ all-StandsIn (is_node_of setup.nodes shard) want n w r
  ]);
  leader = StandsIn-among (joined leader want) leader (StandsIn-right (filter (λ m. nat_lt m leader) want) (leader ∷ filter (λ m. nat_lt leader m) want) leader (inl refl));
}

-- a prober's stage: the wanted nodes are of the shard, and so are the members of what it probes
pub record WantsWell (setup : Deployment) (stage : Stage) : Type 0 where
  pub wants : WantsNodes setup stage
  pub probed : (shard : ℕ) (want : List ℕ) (epoch : ℕ) (c : Membership) (low : List ℕ) → stage ≡ Probing shard want epoch c low → HasMembers setup c × (c.shard ≡ shard)

hears-wants : (setup : Deployment) (me : ℕ) (config : Membership) (view : ℕ) (old new : Stage) (sends : List Outgoing) → Hears me config view old new sends → WantsNodes setup old → WantsNodes setup new
hears-wants setup me config view old new sends (Waits stage) w = w
hears-wants setup me config view old new sends (ProbesLast shard want h v m) w = w
hears-wants setup me config view old new sends (ProbesLower shard want epoch asked h e) w = w
hears-wants setup me config view old new sends (IsDone k h e) w = tt

-- a member of the probed configuration is a node of the shard
probed-node : (setup : Deployment) (shard from : ℕ) (c : Membership) → HasMembers setup c → c.shard ≡ shard → is_among c.members from ≡ true → is_node_of setup.nodes shard from ≡ true
probed-node setup shard from c h e a = all-StandsIn (is_node_of setup.nodes shard) c.members from (subst (λ s. IsTrue (list_all (is_node_of setup.nodes s) c.members)) e h.nodes) (among-StandsIn c.members from a)

-- after an event, given that a move that is asked for wants nodes of its shard
pub wants_kept : (setup : Deployment) (tests : Tests) (version : ℕ) (node : NodeRecord) (input : Input) (out : Out NodeRecord) → Effect tests version node input out
    → WantsWell setup node.prober → ((shard : ℕ) (want : List ℕ) → input ≡ inputs.Move shard want → IsTrue (list_all (is_node_of setup.nodes shard) want)) → WantsNodes setup out.kept.prober
wants_kept setup tests version node input out (Rests i answer notices n) k moves = k.wants
wants_kept setup tests version node input out (Moves shard want) k moves = moves shard want refl
wants_kept setup tests version node input out (Lowers shard want epoch probed low e l p) k moves = subst (λ p. WantsNodes setup p) e k.wants
wants_kept setup tests version node input out (Learns from config coordinator sent stage asked y h) k moves = hears-wants setup node.name config _ node.prober stage asked h k.wants
wants_kept setup tests version node input out (Chooses from told shard want epoch probed low e a l) k moves = proposed-HasMembers setup node.name shard epoch want from (probed-node setup shard from probed (k.probed shard want epoch probed low e).0 (k.probed shard want epoch probed low e).1 a) (subst (λ p. WantsNodes setup p) e k.wants)
wants_kept setup tests version node input out (FindsLow from told shard want epoch probed low e a l) k moves = subst (λ p. WantsNodes setup p) e k.wants
wants_kept setup tests version node input out _ k moves = k.wants
