-- How a node comes to a new epoch: it leads one with the rows that it has, or follows one with the initial entries.
use Rattle.std.proofs.Common.{◌≡◌, ℕ, ◌<◌, ◌≤◌, true, List, Option, None, ◌⊎◌, inl, inr, sym, ◌∙◌, ap, subst, refl, arith}
use Rattle.tcs_terms.specs.declared.inputs.Event.{Event}
use Rattle.tcs_terms.specs.declared.inputs.Input.{Input}
use Rattle.tcs_terms.specs.declared.inputs.Input.TheVariants.{Deliver}
use Rattle.tcs_terms.specs.declared.logs.Row.{Row}
use Rattle.tcs_terms.specs.declared.messages.Message.TheVariants.{NewConfig, NewState, StatePiece}
use Rattle.tcs_terms.specs.Places.{Membership}
use Rattle.tcs_terms.specs.Setups.{Deployment}
use Rattle.tcs_laws.specs.Certification.{Tests}
use Rattle.protocol.specs.Invariant.Logs.{entries_of, Initial}
use Rattle.protocol.specs.Invariant.Promises.{FitsRole}
use Rattle.protocol.specs.Invariant.Time.{Moment, goes_to, IsNode, IsStored, WasSent}
use Rattle.protocol.specs.Outcomes.{Out}
use Rattle.protocol.specs.Pieces.{rows_of, with_one_more, is_whole, takes_piece, gathering_for}
use Rattle.protocol.specs.Records.{Role, Gathering, NodeRecord}
use Rattle.protocol.specs.Records.Role.{Fenced, Leader, Follower}
use Rattle.protocol.specs.ShardRules.{follows}
use Rattle.protocol.specs.World.{Happening}
use Rattle.protocol_laws.specs.Effect.{Effect, MayFollow}
use Rattle.protocol_laws.specs.Effect.Effect.{Rests, Leads, Follows, FollowsPieces}
use Rattle.protocol_laws.specs.Turn.{Turn}
use Rattle.protocol_laws.proofs.ConfigurationsInputs.{delivered}
use Rattle.protocol_laws.proofs.Stored.{stored-some}
use Rattle.protocol_laws.proofs.Came.{Acting, effect_name, effect_shard}
use Rattle.protocol_laws.proofs.TransferGathering.{gathered, whole-Initial}

-- a node becomes leader of a configuration
pub record BecomesLeader (node : NodeRecord) (input : Input) (new : NodeRecord) : Type 0 where
  pub from : ℕ
  pub config : Membership
  pub delivers : input ≡ Deliver from (NewConfig config)
  pub shard : config.shard ≡ node.shard
  pub role : node.role ≡ Fenced
  pub promised : node.promised ≡ config.epoch
  pub leader : config.leader ≡ node.name
  pub is : new ≡ record node { role = Leader config; state = config.epoch }

-- all pieces of some rows are there
record TookWhole (node : NodeRecord) (input : Input) (config : Membership) (rows : List Row) : Type 0 where
  from : ℕ
  number : ℕ
  pieces : ℕ
  piece : List Row
  delivers : input ≡ Deliver from (StatePiece config number pieces piece)
  takes : takes_piece node.gathering config pieces (record { number = number; rows = piece }) ≡ true
  whole : is_whole (with_one_more (gathering_for node.gathering config pieces) (record { number = number; rows = piece })) ≡ true
  is : rows ≡ rows_of (with_one_more (gathering_for node.gathering config pieces) (record { number = number; rows = piece })).kept

-- a node becomes follower of a configuration, with rows that came whole or in pieces
record BecomesFollower (node : NodeRecord) (input : Input) (new : NodeRecord) : Type 0 where
  config : Membership
  may : MayFollow node config
  rows : List Row
  gathering : Option Gathering
  is : new ≡ follows node config rows gathering
  came : ((from : ℕ) × (input ≡ Deliver from (NewState config rows))) ⊎ TookWhole node input config rows

-- a node stays in its state epoch, or becomes leader or follower
state_by : (tests : Tests) (version : ℕ) (node : NodeRecord) (input : Input) (out : Out NodeRecord) → Effect tests version node input out
    → (out.kept.state ≡ node.state) ⊎ BecomesLeader node input out.kept ⊎ BecomesFollower node input out.kept
state_by tests version node input out (Leads from config shard role promised leader) =
    inr (inl (record { from = from; config = config; delivers = refl; shard = shard; role = role; promised = promised; leader = leader; is = refl }))
state_by tests version node input out (Follows from config rows v may) =
    inr (inr (record { config = config; may = may; rows = rows; gathering = _; is = refl; came = inl (from, refl) }))
state_by tests version node input out (FollowsPieces from config number pieces rows new v may takes e whole) =
    inr (inr (record {
      config = config;
      may = may;
      rows = rows_of new.kept;
      gathering = None;
      is = refl;
      came = inr (record {
        from = from;
        number = number;
        pieces = pieces;
        piece = rows;
        delivers = refl;
        takes = takes;
        whole = subst (λ g. is_whole g ≡ true) e whole;
        is = ap (λ (g : Gathering). rows_of g.kept) e;
      });
    }))
state_by tests version node input out (Rests i answer notices n) = inl refl
state_by tests version node input out _ = inl refl

-- a node that becomes leader of a stored configuration, with the rows that it has
pub record Leading (t u : Moment) (c : Membership) : Type 0 where
  pub node : NodeRecord
  pub is : IsNode t node
  pub shard : c.shard ≡ node.shard
  pub role : node.role ≡ Fenced
  pub promised : node.promised ≡ c.epoch
  pub leader : c.leader ≡ node.name
  pub stored : IsStored t c
  pub below : node.state < c.epoch
  pub there : IsNode u (record node { role = Leader c; state = c.epoch })

-- a node that becomes follower of a stored configuration, with its initial entries
pub record Following (t u : Moment) (c : Membership) (new : NodeRecord) : Type 0 where
  pub node : NodeRecord
  pub is : IsNode t node
  pub named : node.name ≡ new.name
  pub shard : c.shard ≡ new.shard
  pub may : MayFollow node c
  pub stored : IsStored t c
  pub role : new.role ≡ Follower c
  pub state : new.state ≡ c.epoch
  pub initial : Initial t c (entries_of new.rows)

-- a node enters a configuration, as its leader or as a follower
pub record LeadsAs (t u : Moment) (c : Membership) (new : NodeRecord) : Type 0 where
  pub leading : Leading t u c
  pub is : new ≡ record leading.node { role = Leader c; state = c.epoch }

pub record EntersAs (t u : Moment) (new : NodeRecord) : Type 0 where
  pub config : Membership
  pub how : LeadsAs t u config new ⊎ Following t u config new

fenced_below : (node : NodeRecord) (role : Role) (epoch : ℕ) → node.role ≡ role → role ≡ Fenced → FitsRole node role → node.promised ≡ epoch → 1 ≤ epoch → node.state < epoch
fenced_below node role epoch is e f p one = go (subst (λ r. FitsRole node r) e f)
  where
    go : (node.state < node.promised) ⊎ ((node.state ≡ 0) × (node.promised ≡ 0)) → node.state < epoch
    go (inl l) = omega (arith, l, p)
    go (inr z) = absurd (omega (arith, z.1, p, one))

pub leading_of : (tests : Tests) (setup : Deployment) (t : Moment) (event : Event) (h : Happening) → Turn tests setup t event h → (a : Acting tests setup t event h) (b : BecomesLeader a.node a.input a.out.kept) → LeadsAs t (goes_to t h.after) b.config a.out.kept
leading_of tests setup t event h turn a b =
    let told : WasSent t b.from a.node.name (NewConfig b.config) = delivered setup t a.node.name event a.input a.comes turn.fits b.from (NewConfig b.config) b.delivers in
    let stored : IsStored t b.config = turn.before.configurations.in_messages b.from a.node.name (NewConfig b.config) b.config told refl in
    record {
      leading = record {
        node = a.node;
        is = a.is;
        shard = b.shard;
        role = b.role;
        promised = b.promised;
        leader = b.leader;
        stored = stored;
        below = fenced_below a.node a.node.role b.config.epoch refl b.role (turn.before.promises.roles a.node a.is) b.promised (stored-some setup t b.config turn.before.configurations stored);
        there = subst (λ (n : NodeRecord). IsNode (goes_to t h.after) n) b.is a.there;
      };
      is = b.is;
    }

followed : (tests : Tests) (setup : Deployment) (t : Moment) (event : Event) (h : Happening) → Turn tests setup t event h → (a : Acting tests setup t event h) (config : Membership) (rows : List Row)
    → ((from : ℕ) × (a.input ≡ Deliver from (NewState config rows))) ⊎ TookWhole a.node a.input config rows → IsStored t config × Initial t config (entries_of rows)
followed tests setup t event h turn a config rows (inl w) =
    let sent : WasSent t w.0 a.node.name (NewState config rows) = delivered setup t a.node.name event a.input a.comes turn.fits w.0 (NewState config rows) w.1 in
    (turn.before.configurations.in_messages w.0 a.node.name (NewState config rows) config sent refl, turn.before.transfer.whole w.0 a.node.name config rows sent)
followed tests setup t event h turn a config rows (inr w) =
    let sent : WasSent t w.from a.node.name (StatePiece config w.number w.pieces w.piece)
    = delivered setup t a.node.name event a.input a.comes turn.fits w.from (StatePiece config w.number w.pieces w.piece) w.delivers in
    let g : Gathering = with_one_more (gathering_for a.node.gathering config w.pieces) (record { number = w.number; rows = w.piece }) in
    let all : Initial t config (entries_of (rows_of g.kept))
    = whole-Initial t turn.before.transfer a.node.name w.from a.node.name config w.number w.pieces w.piece g (gathered t turn.before.transfer a.node w.from config w.number w.pieces w.piece a.is sent w.takes) sent w.whole in
    (turn.before.configurations.in_messages w.from a.node.name (StatePiece config w.number w.pieces w.piece) config sent refl, subst (λ rows. Initial t config (entries_of rows)) (sym w.is) all)

following_of : (tests : Tests) (setup : Deployment) (t : Moment) (event : Event) (h : Happening) → Turn tests setup t event h → (a : Acting tests setup t event h) (b : BecomesFollower a.node a.input a.out.kept) → Following t (goes_to t h.after) b.config a.out.kept
following_of tests setup t event h turn a b =
    let f = followed tests setup t event h turn a b.config b.rows b.came in
    record {
      node = a.node;
      is = a.is;
      named = sym (effect_name tests setup.version a.node a.input a.out a.effect);
      shard = b.may.shard ∙ sym (effect_shard tests setup.version a.node a.input a.out a.effect);
      may = b.may;
      stored = f.0;
      role = ap (λ (n : NodeRecord). n.role) b.is;
      state = ap (λ (n : NodeRecord). n.state) b.is;
      initial = subst (λ rows. Initial t b.config (entries_of rows)) (sym (ap (λ (n : NodeRecord). n.rows) b.is)) f.1;
    }

-- a node that acted stays in its state epoch, or enters a configuration
pub enters : (tests : Tests) (setup : Deployment) (t : Moment) (event : Event) (h : Happening) → Turn tests setup t event h → (a : Acting tests setup t event h) → (a.out.kept.state ≡ a.node.state) ⊎ EntersAs t (goes_to t h.after) a.out.kept
enters tests setup t event h turn a = elim (state_by tests setup.version a.node a.input a.out a.effect) [
  | inl e ↦ inl e
  | inr (inl b) ↦ inr (record { config = b.config; how = inl (leading_of tests setup t event h turn a b) })
  | inr (inr b) ↦ inr (record { config = b.config; how = inr (following_of tests setup t event h turn a b) })
]
