-- The configurations that a node has, and the nodes that it wants, after one event.
use Rattle.std.proofs.Common.{◌≡◌, ℕ, Bool, true, false, cond, List, [], ◌∷◌, ◌++◌, map, Option, Some, None, ◌⊎◌, inl, inr, sym, ◌∙◌, subst, ap, refl, ◌==◌, nat_lt, eqb-true}
use Rattle.tcs_terms.specs.declared.inputs.Input.{Input}
use Rattle.tcs_terms.specs.declared.inputs.Input.TheVariants as inputs
use Rattle.tcs_terms.specs.declared.logs.Row.{Row}
use Rattle.tcs_terms.specs.declared.messages.Message.{Message}
use Rattle.tcs_terms.specs.declared.messages.Message.TheVariants.{NewConfig, NewState, ConfigChange, Stored, StatePiece}
use Rattle.tcs_terms.specs.declared.messages.Outgoing.{Outgoing}
use Rattle.tcs_terms.specs.Places.{Membership}
use Rattle.tcs_laws.specs.Certification.{Tests}
use Rattle.protocol.specs.Coordination.{change_view}
use Rattle.protocol.specs.Outcomes.{Out}
use Rattle.protocol.specs.Pieces.{gathering_for, gathered_from, with_one_more, with_piece, begun, is_gathering_of, is_kept}
use Rattle.protocol.specs.Records.{Piece, Coordinator, Stage, Gathering, NodeRecord}
use Rattle.protocol.specs.Views.{replaced}
use Rattle.protocol.specs.Invariant.Configurations.{told_config, role_configs, probed_configs, gathered_configs, configs_of}
use Rattle.protocol.specs.Invariant.Time.{StandsIn}
use Rattle.protocol.proofs.Lists.{StandsIn-append}
use Rattle.protocol_laws.specs.Effect.{Sees, Hears, GoesOn, Effect}
use Rattle.protocol_laws.specs.Effect.GoesOn.{Waiting, Decides}
use Rattle.protocol_laws.specs.Effect.Sees.{Replaces, Keeps as KeepsView}
use Rattle.protocol_laws.specs.Effect.Hears.{Waits, ProbesLast, ProbesLower, IsDone}
use Rattle.protocol_laws.specs.Effect.Effect.{Rests, Moves, Lowers, Votes, Acknowledges, Changes, Learns, Promises, Chooses, FindsLow, Leads, Follows, Gathers, FollowsPieces}
use Rattle.protocol_laws.proofs.Standing.{StandsIn-left, StandsIn-right}

-- the places that a node keeps: its role, its views, its stage and what it gathers
pub record Had (node : NodeRecord) (c : Membership) : Type 0 where
  pub views : StandsIn c node.coordinator.views → StandsIn c (configs_of node)
  pub role : StandsIn c (role_configs node.role) → StandsIn c (configs_of node)
  pub prober : StandsIn c (probed_configs node.prober) → StandsIn c (configs_of node)
  pub gathering : StandsIn c (gathered_configs node.gathering) → StandsIn c (configs_of node)

pub had : (node : NodeRecord) (c : Membership) → Had node c
had node c =
    let v : List Membership = node.coordinator.views in
    let r : List Membership = role_configs node.role in
    let p : List Membership = probed_configs node.prober in
    let g : List Membership = gathered_configs node.gathering in
    record {
      views = λ s. StandsIn-left (v ++ r ++ p) g c (StandsIn-left (v ++ r) p c (StandsIn-left v r c s));
      role = λ s. StandsIn-left (v ++ r ++ p) g c (StandsIn-left (v ++ r) p c (StandsIn-right v r c s));
      prober = λ s. StandsIn-left (v ++ r ++ p) g c (StandsIn-right (v ++ r) p c s);
      gathering = λ s. StandsIn-right (v ++ r ++ p) g c s;
    }

-- P of each of a node's configurations, from P of each place
each_config : (P : Membership → Type 0) (node : NodeRecord) → ((c : Membership) → StandsIn c node.coordinator.views → P c) → ((c : Membership) → StandsIn c (role_configs node.role) → P c)
    → ((c : Membership) → StandsIn c (probed_configs node.prober) → P c) → ((c : Membership) → StandsIn c (gathered_configs node.gathering) → P c) → (c : Membership) → StandsIn c (configs_of node) → P c
each_config P node fv fr fp fg c s = elim (StandsIn-append (node.coordinator.views ++ role_configs node.role ++ probed_configs node.prober) (gathered_configs node.gathering) c s) [
  | inr g ↦ fg c g
  | inl r ↦ elim (StandsIn-append (node.coordinator.views ++ role_configs node.role) (probed_configs node.prober) c r) [
    | inr p ↦ fp c p
    | inl q ↦ elim (StandsIn-append node.coordinator.views (role_configs node.role) c q) [ inl v ↦ fv c v | inr o ↦ fr c o ]
  ]
]

-- the input told the configuration
pub record Heard (input : Input) (c : Membership) : Type 0 where
  pub from : ℕ
  pub message : Message
  pub is : input ≡ inputs.Deliver from message
  pub told : told_config message ≡ Some c

pub goes_on-views : (c : Coordinator) (txn : _) (case : _) (sends : List Outgoing) (out : Out Coordinator) → GoesOn c txn case sends out → out.kept.views ≡ c.views
goes_on-views c txn case sends out (Waiting i) = refl
goes_on-views c txn case sends out (Decides i) = refl

replaced-StandsIn : (views : List Membership) (config c : Membership) → StandsIn c (replaced views config) → StandsIn c views ⊎ (c ≡ config)
replaced-StandsIn [] config c s = absurd s
replaced-StandsIn (v ∷ vs) config c s = go (v.shard == config.shard) s (replaced-StandsIn vs config c)
  where
    go : (b : Bool) → (c ≡ cond b config v) ⊎ StandsIn c (replaced vs config) → (StandsIn c (replaced vs config) → StandsIn c vs ⊎ (c ≡ config)) → StandsIn c (v ∷ vs) ⊎ (c ≡ config)
    go true (inl e) ih = inr e
    go false (inl e) ih = inl (inl e)
    go b (inr r) ih = elim (ih r) [ inl q ↦ inl (inr q) | inr e ↦ inr e ]

pub replaced-shards : (views : List Membership) (config : Membership) → map (λ v. v.shard) (replaced views config) ≡ map (λ v. v.shard) views
replaced-shards [] config = refl
replaced-shards (v ∷ vs) config = go (v.shard == config.shard) refl (replaced-shards vs config)
  where
    go : (b : Bool) → (v.shard == config.shard) ≡ b → map (λ v. v.shard) (replaced vs config) ≡ map (λ v. v.shard) vs → (cond b config v).shard ∷ map (λ v. v.shard) (replaced vs config) ≡ v.shard ∷ map (λ v. v.shard) vs
    go true e ih = cc (eqb-true v.shard config.shard e, ih)
    go false e ih = cc ih

pub change_view-views : (k : Coordinator) (config : Membership) → (change_view k config).views ≡ replaced k.views config
unfolding change_view
change_view-views k config = refl

only : (c config : Membership) → (c ≡ config) ⊎ ⊥ → c ≡ config
only c config (inl e) = e
only c config (inr e) = absurd e

-- a configuration that the input told
is_heard : (from : ℕ) (message : Message) (config c : Membership) → told_config message ≡ Some config → c ≡ config → Heard (inputs.Deliver from message) c
is_heard from message config c t e = record { from = from; message = message; is = refl; told = t ∙ ap (λ m. Some m) (sym e) }

changed_view-had : (k : Coordinator) (from : ℕ) (message : Message) (config c : Membership) → told_config message ≡ Some config → StandsIn c (change_view k config).views → StandsIn c k.views ⊎ Heard (inputs.Deliver from message) c
changed_view-had k from message config c t s = elim (replaced-StandsIn k.views config c (subst (λ vs. StandsIn c vs) (change_view-views k config) s)) [ inl q ↦ inl q | inr e ↦ inr (is_heard from message config c t e) ]

sees-had : (k : Coordinator) (from : ℕ) (config c : Membership) (seen : Coordinator) (sends : List Outgoing) → Sees k config seen sends → StandsIn c seen.views → StandsIn c k.views ⊎ Heard (inputs.Deliver from (Stored config)) c
sees-had k from config c seen sends (Replaces n) s = changed_view-had k from (Stored config) config c refl s
sees-had k from config c seen sends (KeepsView n) s = inl s

-- the views after an event
views_had : (tests : Tests) (version : ℕ) (node : NodeRecord) (input : Input) (out : Out NodeRecord) → Effect tests version node input out
    → (c : Membership) → StandsIn c out.kept.coordinator.views → StandsIn c node.coordinator.views ⊎ Heard input c
views_had tests version node input out (Rests i answer notices n) c s = inl s
views_had tests version node input out (Votes from shard epoch entry case part view p e l f o g) c s = inl (subst (λ vs. StandsIn c vs) (goes_on-views _ _ _ _ o g) s)
views_had tests version node input out (Acknowledges from shard epoch slot txn case part view p e l f o g) c s = inl (subst (λ vs. StandsIn c vs) (goes_on-views _ _ _ _ o g) s)
views_had tests version node input out (Changes from config n) c s = changed_view-had node.coordinator from (ConfigChange config) config c refl s
views_had tests version node input out (Learns from config coordinator sent stage asked y h) c s = sees-had node.coordinator from config c coordinator sent y s
views_had tests version node input out _ c s = inl s

-- the configuration of the role after an event
role_had : (tests : Tests) (version : ℕ) (node : NodeRecord) (input : Input) (out : Out NodeRecord) → Effect tests version node input out
    → (c : Membership) → StandsIn c (role_configs out.kept.role) → StandsIn c (role_configs node.role) ⊎ Heard input c
role_had tests version node input out (Rests i answer notices n) c s = inl s
role_had tests version node input out (Promises from epoch l) c s = absurd s
role_had tests version node input out (Leads from config q r p l) c s = inr (is_heard from (NewConfig config) config c refl (only c config s))
role_had tests version node input out (Follows from config rows v m) c s = inr (is_heard from (NewState config rows) config c refl (only c config s))
role_had tests version node input out (FollowsPieces from config number pieces rows gathering v m t g w) c s = inr (is_heard from (StatePiece config number pieces rows) config c refl (only c config s))
role_had tests version node input out _ c s = inl s

hears-had : (from me : ℕ) (config c : Membership) (view : ℕ) (old new : Stage) (sends : List Outgoing) → Hears me config view old new sends → StandsIn c (probed_configs new) → StandsIn c (probed_configs old) ⊎ Heard (inputs.Deliver from (Stored config)) c
hears-had from me config c view old new sends (Waits stage) s = inl s
hears-had from me config c view old new sends (ProbesLast shard want h v m) s = inr (is_heard from (Stored config) config c refl (only c config s))
hears-had from me config c view old new sends (ProbesLower shard want epoch asked h e) s = inr (is_heard from (Stored config) config c refl (only c config s))
hears-had from me config c view old new sends (IsDone k h e) s = absurd s

-- the configuration that is probed after an event
prober_had : (tests : Tests) (version : ℕ) (node : NodeRecord) (input : Input) (out : Out NodeRecord) → Effect tests version node input out
    → (c : Membership) → StandsIn c (probed_configs out.kept.prober) → StandsIn c (probed_configs node.prober) ⊎ Heard input c
prober_had tests version node input out (Rests i answer notices n) c s = inl s
prober_had tests version node input out (Moves shard want) c s = absurd s
prober_had tests version node input out (Lowers shard want epoch probed low e l p) c s = absurd s
prober_had tests version node input out (Learns from config coordinator sent stage asked y h) c s = hears-had from node.name config c _ node.prober stage asked h s
prober_had tests version node input out (Chooses from told shard want epoch probed low e a l) c s = absurd s
prober_had tests version node input out (FindsLow from told shard want epoch probed low e a l) c s = inl (subst (λ p. StandsIn c (probed_configs p)) (sym e) s)
prober_had tests version node input out _ c s = inl s

gathered_from-had : (epoch : ℕ) (g : Option Gathering) (c : Membership) → StandsIn c (gathered_configs (gathered_from epoch g)) → StandsIn c (gathered_configs g)
gathered_from-had epoch None c s = s
gathered_from-had epoch (Some g) c s = go (nat_lt g.config.epoch epoch) s
  where
    go : (b : Bool) → StandsIn c (gathered_configs (cond b None (Some g))) → StandsIn c (g.config ∷ [])
    go true s = absurd s
    go false s = s

with_one_more-config : (g : Gathering) (piece : Piece) → (with_one_more g piece).config ≡ g.config
with_one_more-config g piece = go (is_kept g.kept piece.number)
  where
    go : (b : Bool) → (cond b g (record { config = g.config; pieces = g.pieces; kept = with_piece g.kept piece })).config ≡ g.config
    go true = refl
    go false = refl

-- what is gathered for a configuration is of that one, or was gathered
gathering_for-config : (g : Option Gathering) (config : Membership) (pieces : ℕ) → ((gathering_for g config pieces).config ≡ config) ⊎ StandsIn (gathering_for g config pieces).config (gathered_configs g)
gathering_for-config None config pieces = inl refl
gathering_for-config (Some g) config pieces = go (is_gathering_of g config)
  where
    go : (b : Bool) → ((cond b g (begun config pieces)).config ≡ config) ⊎ StandsIn (cond b g (begun config pieces)).config (g.config ∷ [])
    go true = inr (inl refl)
    go false = inl refl

gathers-had : (from number : ℕ) (rows : List Row) (g : Option Gathering) (config c : Membership) (pieces : ℕ) (more : Gathering) → more ≡ with_one_more (gathering_for g config pieces) (record { number = number; rows = rows })
    → (c ≡ more.config) ⊎ ⊥ → StandsIn c (gathered_configs g) ⊎ Heard (inputs.Deliver from (StatePiece config number pieces rows)) c
gathers-had from number rows g config c pieces more e s =
    let k : c ≡ (gathering_for g config pieces).config = only c more.config s ∙ ap (λ m. m.config) e ∙ with_one_more-config (gathering_for g config pieces) (record { number = number; rows = rows }) in
    elim (gathering_for-config g config pieces) [
      | inl q ↦ inr (is_heard from (StatePiece config number pieces rows) config c refl (k ∙ q))
      | inr q ↦ inl (subst (λ m. StandsIn m (gathered_configs g)) (sym k) q)
    ]

-- the configuration that is gathered for after an event
gathering_had : (tests : Tests) (version : ℕ) (node : NodeRecord) (input : Input) (out : Out NodeRecord) → Effect tests version node input out
    → (c : Membership) → StandsIn c (gathered_configs out.kept.gathering) → StandsIn c (gathered_configs node.gathering) ⊎ Heard input c
gathering_had tests version node input out (Rests i answer notices n) c s = inl s
gathering_had tests version node input out (Promises from epoch l) c s = inl (gathered_from-had epoch node.gathering c s)
gathering_had tests version node input out (Follows from config rows v m) c s = inl (gathered_from-had config.epoch node.gathering c s)
gathering_had tests version node input out (Gathers from config number pieces rows gathering v m t g w) c s = gathers-had from number rows node.gathering config c pieces gathering g s
gathering_had tests version node input out (FollowsPieces from config number pieces rows gathering v m t g w) c s = absurd s
gathering_had tests version node input out _ c s = inl s

-- A configuration that a node has after an event it had, or was told.
pub configs_had : (tests : Tests) (version : ℕ) (node : NodeRecord) (input : Input) (out : Out NodeRecord) → Effect tests version node input out
    → (c : Membership) → StandsIn c (configs_of out.kept) → StandsIn c (configs_of node) ⊎ Heard input c
configs_had tests version node input out e = each_config (λ c. StandsIn c (configs_of node) ⊎ Heard input c) out.kept
    (λ c s. elim (views_had tests version node input out e c s) [ inl q ↦ inl ((had node c).views q) | inr h ↦ inr h ])
    (λ c s. elim (role_had tests version node input out e c s) [ inl q ↦ inl ((had node c).role q) | inr h ↦ inr h ])
    (λ c s. elim (prober_had tests version node input out e c s) [ inl q ↦ inl ((had node c).prober q) | inr h ↦ inr h ])
    (λ c s. elim (gathering_had tests version node input out e c s) [ inl q ↦ inl ((had node c).gathering q) | inr h ↦ inr h ])
