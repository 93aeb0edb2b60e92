-- Lemmas on the roles with which nodes begin.
use Rattle.std.proofs.Common.{◌≡◌, ℕ, suc, ◌<◌, ◌≤◌, Bool, true, false, cond, not, List, [], ◌∷◌, Option, Some, None, ◌&&◌, ◌==◌, ◌⊎◌, inl, inr, sym, subst, refl, arith, length, eqb-true, eq-eqb, slice_index_or, IsTrue}
use Rattle.std.specs.List.{list_all}
use Rattle.tcs_terms.specs.Places.{Membership, IsMembership, is_among}
use Rattle.tcs_terms.specs.Setups.{Deployment, IsDeployment, is_first, is_node_of}
use Rattle.protocol.specs.Records.{NodeRecord}
use Rattle.protocol.specs.Records.Role.{Fenced, Leader, Follower}
use Rattle.protocol.specs.Views.{view_of}
use Rattle.protocol.specs.World.{first_node, first_node_as, first_role, first_world}
use Rattle.protocol.specs.Invariant.Configurations.{role_configs}
use Rattle.protocol.specs.Invariant.Promises.{FitsRole, IsMemberAt}
use Rattle.protocol.specs.Invariant.Time.{Moment, StandsIn, IsStored}
use Rattle.protocol.proofs.Lists.{find-StandsIn, all-StandsIn, among-StandsIn}
use Rattle.tcs_terms.proofs.BoolLaws.{left_of, right_of}

-- the moment at which a run begins
unfoldable pub start : Deployment → Moment
start setup = record { now = first_world setup; before = [] }

-- what a first configuration is
pub record IsFirstConfig (setup : Deployment) (c : Membership) : Type 0 where
  pub epoch : c.epoch ≡ 1
  pub nodes : IsTrue (list_all (is_node_of setup.nodes c.shard) c.members)
  pub leader : IsTrue (is_among c.members c.leader)

-- P of each element, at one that stands in the list
pub All-StandsIn : {X : Type 0} (P : X → Type 0) (xs : List X) (x : X) → ((k : ℕ) (d : X) → k < length xs → P (slice_index_or xs k d)) → StandsIn x xs → P x
All-StandsIn P [] x h s = absurd s
All-StandsIn P (y ∷ ys) x h (inl e) = subst P (sym e) (h 0 y (omega arith))
All-StandsIn P (y ∷ ys) x h (inr s) = All-StandsIn P ys x (λ k d l. h (suc k) d (omega (arith, l))) s

pub first_configs : (setup : Deployment) → IsDeployment setup → (c : Membership) → StandsIn c setup.configs → IsFirstConfig setup c
first_configs setup d c s =
    let f : is_first setup.nodes c ≡ true = all-StandsIn (is_first setup.nodes) setup.configs c d.first s in
    let m : IsMembership c = All-StandsIn IsMembership setup.configs c d.configs s in
    record {
      epoch = eqb-true c.epoch 1 (left_of (c.epoch == 1) (c.by == 0) (left_of ((c.epoch == 1) && (c.by == 0)) (list_all (is_node_of setup.nodes c.shard) c.members) f));
      nodes = right_of ((c.epoch == 1) && (c.by == 0)) (list_all (is_node_of setup.nodes c.shard) c.members) f;
      leader = m.leads;
    }

-- what holds of a node as it begins
pub record IsStarted (t : Moment) (node : NodeRecord) : Type 0 where
  pub fits : FitsRole node node.role
  pub member : 1 ≤ node.state → IsMemberAt t node
  pub low : node.state ≤ 1
  pub configs : (c : Membership) → StandsIn c (role_configs node.role) → IsStored t c

not_leader : (a b : ℕ) → (a == b) ≡ false → not (b == a) ≡ true
not_leader a b h = go (b == a) refl
  where
    go : (v : Bool) → (b == a) ≡ v → not v ≡ true
    go false e = refl
    go true e = absurd (cc (h, eq-eqb a b (sym (eqb-true b a e))))

fenced_starts : (setup : Deployment) (name shard : ℕ) → IsStarted (start setup) (first_node_as setup.configs name shard Fenced)
fenced_starts setup name shard = record { fits = inr (refl, refl); member = λ h. absurd (omega (arith, h)); low = omega arith; configs = λ c s. absurd s }

-- the node of a configuration's shard, as its leader, its follower, or neither
member_starts : (setup : Deployment) → IsDeployment setup → (name shard : ℕ) (c : Membership) → StandsIn c setup.configs → c.shard ≡ shard
    → (leads among : Bool) → (c.leader == name) ≡ leads → is_among c.members name ≡ among → IsStarted (start setup) (first_node_as setup.configs name shard (cond leads (Leader c) (cond among (Follower c) Fenced)))
unfolding start first_world
member_starts setup d name shard c s e true among p q =
    let f : IsFirstConfig setup c = first_configs setup d c s in
    let n : c.leader ≡ name = eqb-true c.leader name p in
    record {
      fits = (record { shard = e; epoch = f.epoch; promise = refl }, n);
      member = λ h. record { config = c; stored = s; shard = e; epoch = f.epoch; member = among-StandsIn c.members name (subst (λ m. is_among c.members m ≡ true) n f.leader) };
      low = omega arith;
      configs = go;
    }
  where
    go : (x : Membership) → (x ≡ c) ⊎ ⊥ → StandsIn x setup.configs
    go x (inl r) = subst (λ y. StandsIn y setup.configs) (sym r) s
    go x (inr r) = absurd r
member_starts setup d name shard c s e false true p q =
    let f : IsFirstConfig setup c = first_configs setup d c s in
    record {
      fits = (record { shard = e; epoch = f.epoch; promise = refl }, cc (q, not_leader c.leader name p));
      member = λ h. record { config = c; stored = s; shard = e; epoch = f.epoch; member = among-StandsIn c.members name q };
      low = omega arith;
      configs = go;
    }
  where
    go : (x : Membership) → (x ≡ c) ⊎ ⊥ → StandsIn x setup.configs
    go x (inl r) = subst (λ y. StandsIn y setup.configs) (sym r) s
    go x (inr r) = absurd r
member_starts setup d name shard c s e false false p q = fenced_starts setup name shard

view_starts : (setup : Deployment) → IsDeployment setup → (name shard : ℕ) (v : Option Membership) → view_of setup.configs shard ≡ v → IsStarted (start setup) (first_node_as setup.configs name shard (first_role name v))
view_starts setup d name shard None h = fenced_starts setup name shard
view_starts setup d name shard (Some c) h =
    let f : StandsIn c setup.configs × ((c.shard == shard) ≡ true) = find-StandsIn (λ v. v.shard == shard) setup.configs c h in
    member_starts setup d name shard c f.0 (eqb-true c.shard shard f.1) (c.leader == name) (is_among c.members name) refl refl

pub first_node-IsStarted : (setup : Deployment) → IsDeployment setup → (name shard : ℕ) → IsStarted (start setup) (first_node setup.configs name shard)
unfolding first_node
first_node-IsStarted setup d name shard = view_starts setup d name shard (view_of setup.configs shard) refl
