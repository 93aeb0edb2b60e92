-- What stays so, once it is: what a node reached and held, what is listed, accepted and skipped, and initial entries.
use Rattle.std.proofs.Common.{◌≡◌, ℕ, ◌<◌, ◌≤◌, List, [], ◌∷◌, ◌++◌, length, ◌⊎◌, inl, inr, sym, ◌∙◌, ap, subst, refl, arith}
use Rattle.tcs_terms.specs.declared.logs.Row.{Row}
use Rattle.tcs_terms.specs.declared.messages.Message.{Message}
use Rattle.tcs_terms.specs.Places.{Membership}
use Rattle.tcs_terms.specs.Preparations.{Preparation}
use Rattle.tcs_terms.specs.Setups.{Deployment}
use Rattle.protocol.specs.Invariant.Configurations.{ConfigurationsHold}
use Rattle.protocol.specs.Invariant.Logs.{entries_of, Reached, Held, BecameLeader, Initial, HasInitial, Listed, Accepted, Skipped, HoldsNoMore}
use Rattle.protocol.specs.Invariant.Time.{Moment, worlds, StandsIn, IsNode, WasIn, WasSent}
use Rattle.protocol.specs.Records.{NodeRecord}
use Rattle.protocol.specs.ShardRules.{least}
use Rattle.protocol.specs.World.{World}
use Rattle.protocol_laws.specs.Turn.{Onward, Grows, GrewTo}
use Rattle.protocol_laws.proofs.Numbered.{numbered-one}

-- two nodes of one name are one
pub one_node : (setup : Deployment) (t : Moment) (a b : NodeRecord) → ConfigurationsHold setup t → IsNode t a → IsNode t b → a.name ≡ b.name → a ≡ b
one_node setup t a b c p q e = numbered-one (λ n. n.name) t.now.nodes 1 (length setup.nodes) a b c.names p q e

pub sent-on : (t u : Moment) (from to : ℕ) (m : Message) → Onward t u → WasSent t from to m → WasSent u from to m
sent-on t u from to m o s = record { sent = o.messages (record { from = from; to = to; message = m }) s.sent }

was_in-on : (t u : Moment) (epoch name : ℕ) (node : NodeRecord) → Onward t u → WasIn t epoch name node → WasIn u epoch name node
was_in-on t u epoch name node o w =
    record { moment = w.moment; past = inr (subst (λ ws. StandsIn w.moment ws) (sym o.past) w.past); there = w.there; named = w.named; in_epoch = w.in_epoch }

-- a record of the past is one of the earlier past, or a node of this moment
was_in-back : (t u : Moment) (epoch name : ℕ) (node : NodeRecord) → Onward t u → WasIn u epoch name node
    → WasIn t epoch name node ⊎ (IsNode u node × (node.name ≡ name) × (node.state ≡ epoch))
was_in-back t u epoch name node o w = go w.past
  where
    go : (w.moment ≡ u.now) ⊎ StandsIn w.moment u.before → WasIn t epoch name node ⊎ (IsNode u node × (node.name ≡ name) × (node.state ≡ epoch))
    go (inl e) = inr (subst (λ m. StandsIn node m.nodes) e w.there, w.named, w.in_epoch)
    go (inr s) = inl (record { moment = w.moment; past = subst (λ ws. StandsIn w.moment ws) o.past s; there = w.there; named = w.named; in_epoch = w.in_epoch })

pub reached-on : (t u : Moment) (epoch name : ℕ) → Onward t u → Reached t epoch name → Reached u epoch name
reached-on t u epoch name o r = record { node = r.node; was = was_in-on t u epoch name r.node o r.was; some = r.some }

pub held-on : (t u : Moment) (epoch name : ℕ) (x : Preparation) → Onward t u → Held t epoch name x → Held u epoch name x
held-on t u epoch name x o h = record { node = h.node; was = was_in-on t u epoch name h.node o h.was; some = h.some; holds = h.holds }

-- a node of this moment that is in the epoch
pub record IsIn (u : Moment) (epoch name : ℕ) : Type 0 where
  pub node : NodeRecord
  pub is : IsNode u node
  pub named : node.name ≡ name
  pub in_epoch : node.state ≡ epoch

pub reached-back : (t u : Moment) (epoch name : ℕ) → Onward t u → Reached u epoch name → Reached t epoch name ⊎ IsIn u epoch name
reached-back t u epoch name o r = elim (was_in-back t u epoch name r.node o r.was) [
  | inl w ↦ inl (record { node = r.node; was = w; some = r.some })
  | inr n ↦ inr (record { node = r.node; is = n.0; named = n.1; in_epoch = n.2 })
]

-- a node of this moment that is in the epoch, and holds the entry
pub record HoldsNow (u : Moment) (epoch name : ℕ) (x : Preparation) : Type 0 where
  pub node : NodeRecord
  pub is : IsNode u node
  pub named : node.name ≡ name
  pub in_epoch : node.state ≡ epoch
  pub holds : StandsIn x (entries_of node.rows)

pub held-back : (t u : Moment) (epoch name : ℕ) (x : Preparation) → Onward t u → Held u epoch name x → Held t epoch name x ⊎ HoldsNow u epoch name x
held-back t u epoch name x o h = elim (was_in-back t u epoch name h.node o h.was) [
  | inl w ↦ inl (record { node = h.node; was = w; some = h.some; holds = h.holds })
  | inr n ↦ inr (record { node = h.node; is = n.0; named = n.1; in_epoch = n.2; holds = h.holds })
]

-- the state epoch of a node does not fall
pub grows-state : (old new : NodeRecord) → Grows old new → old.state ≤ new.state
grows-state old new g = elim g.state [ inl e ↦ omega (arith, e) | inr l ↦ omega (arith, l) ]

-- a node that comes to an epoch below its promise was in it before
grows-from : (old new : NodeRecord) (epoch : ℕ) → Grows old new → epoch < old.promised → new.state ≡ epoch → old.state ≡ epoch
grows-from old new epoch g h e = go g.state
  where
    go : (new.state ≡ old.state) ⊎ (least old ≤ new.state) → old.state ≡ epoch
    go (inl k) = sym k ∙ e
    go (inr k) = absurd (omega (arith, h, e, k))

-- a node is in its state epoch
pub is_in-now : (t : Moment) (epoch name : ℕ) (node : NodeRecord) → IsNode t node → node.name ≡ name → node.state ≡ epoch → WasIn t epoch name node
is_in-now t epoch name node n e s = record { moment = t.now; past = inl refl; there = n; named = e; in_epoch = s }

-- where a node's promise is above an epoch that it did not reach, it never will
pub never-on : (setup : Deployment) (t u : Moment) (epoch : ℕ) (node : NodeRecord) → ConfigurationsHold setup u → Onward t u → IsNode t node
    → epoch < node.promised → (Reached t epoch node.name → ⊥) → Reached u epoch node.name → ⊥
never-on setup t u epoch node c o p h n r = elim (reached-back t u epoch node.name o r) [
  | inl s ↦ n s
  | inr i ↦ (
      let g : GrewTo u node = o.forth node p in
      let same : g.new ≡ i.node = one_node setup u g.new i.node c g.is i.is (g.grows.name ∙ sym i.named) in
      let e : node.state ≡ epoch = grows-from node g.new epoch g.grows h (ap (λ m. m.state) same ∙ i.in_epoch) in
      n (record { node = node; was = is_in-now t epoch node.name node p refl e; some = r.some }))
]

pub skipped-on : (setup : Deployment) (t u : Moment) (shard epoch : ℕ) → ConfigurationsHold setup u → Onward t u → Skipped t shard epoch → Skipped u shard epoch
skipped-on setup t u shard epoch c o s =
    let g : GrewTo u s.node = o.forth s.node s.is in
    record {
      config = s.config;
      stored = o.stored s.config s.stored;
      of_shard = s.of_shard;
      of_epoch = s.of_epoch;
      node = g.new;
      is = g.is;
      member = subst (λ n. StandsIn n s.config.members) (sym g.grows.name) s.member;
      promised = let p : s.node.promised ≤ g.new.promised = g.grows.promised in let q : epoch < s.node.promised = s.promised in omega (arith, p, q);
      never = λ r. never-on setup t u epoch s.node c o s.is s.promised s.never (subst (λ n. Reached u epoch n) g.grows.name r);
    }

-- a node that will hold no more in an epoch, one event later
pub record HoldsNoMoreThen (u : Moment) (epoch : ℕ) (old : NodeRecord) : Type 0 where
  pub new : NodeRecord
  pub is : IsNode u new
  pub named : new.name ≡ old.name
  pub no_more : HoldsNoMore u epoch new

pub no_more-on : (setup : Deployment) (t u : Moment) (epoch : ℕ) (node : NodeRecord) → ConfigurationsHold setup u → Onward t u → IsNode t node → HoldsNoMore t epoch node → HoldsNoMoreThen u epoch node
no_more-on setup t u epoch node c o n h = let g : GrewTo u node = o.forth node n in record { new = g.new; is = g.is; named = g.grows.name; no_more = still g h }
  where
    still : (g : GrewTo u node) → (epoch < node.state) ⊎ ((epoch < node.promised) × (Reached t epoch node.name → ⊥)) → HoldsNoMore u epoch g.new
    still g (inl l) = inl (let r : node.state ≤ g.new.state = grows-state node g.new g.grows in omega (arith, l, r))
    still g (inr p) = inr (
      let r : node.promised ≤ g.new.promised = g.grows.promised in let l : epoch < node.promised = p.0 in omega (arith, l, r),
      λ r. never-on setup t u epoch node c o n p.0 p.1 (subst (λ m. Reached u epoch m) g.grows.name r),
    )

-- what such a node held is what it will have held
pub no_more-held : (setup : Deployment) (t u : Moment) (epoch : ℕ) (node : NodeRecord) (x : Preparation) → ConfigurationsHold setup u → Onward t u → IsNode t node → HoldsNoMore t epoch node
    → Held u epoch node.name x → Held t epoch node.name x
no_more-held setup t u epoch node x c o n h k = elim (held-back t u epoch node.name x o k) [
  | inl s ↦ s
  | inr i ↦ absurd (
      let g : GrewTo u node = o.forth node n in
      let same : g.new ≡ i.node = one_node setup u g.new i.node c g.is i.is (g.grows.name ∙ sym i.named) in
      never g (ap (λ m. m.state) same ∙ i.in_epoch) h)
]
  where
    never : (g : GrewTo u node) → g.new.state ≡ epoch → (epoch < node.state) ⊎ ((epoch < node.promised) × (Reached t epoch node.name → ⊥)) → ⊥
    never g e (inl l) = let r : node.state ≤ g.new.state = grows-state node g.new g.grows in omega (arith, l, r, e)
    never g e (inr p) = p.1 (record { node = node; was = is_in-now t epoch node.name node n refl (grows-from node g.new epoch g.grows p.0 e); some = k.some })

-- the worlds of the later moment are one more
worlds-on : (t u : Moment) (later rest : List World) → Onward t u → worlds t ≡ later ++ rest → worlds u ≡ (u.now ∷ later) ++ rest
worlds-on t u later rest o e = ap (λ ws. u.now ∷ ws) (o.past ∙ e)

became-on : (t u : Moment) (c : Membership) (rows : List Row) → Onward t u → BecameLeader t c rows → BecameLeader u c rows
became-on t u c rows o b = record {
  later = u.now ∷ b.later;
  after = b.after;
  before = b.before;
  earlier = b.earlier;
  moments = worlds-on t u b.later (b.after ∷ b.before ∷ b.earlier) o b.moments;
  old = b.old;
  old_node = b.old_node;
  old_name = b.old_name;
  old_state = b.old_state;
  node = b.node;
  new_node = b.new_node;
  new_name = b.new_name;
  leads = b.leads;
  state = b.state;
  rows_then = b.rows_then;
}

pub initial-on : (t u : Moment) (c : Membership) (xs : List Preparation) → Onward t u → Initial t c xs → Initial u c xs
initial-on t u c xs o i = record { stored = o.stored c i.stored; begun = go i.begun }
  where
    go : ((c.epoch ≡ 1) × (xs ≡ [])) ⊎ ((rows : List Row) × BecameLeader t c rows × (xs ≡ entries_of rows)) → ((c.epoch ≡ 1) × (xs ≡ [])) ⊎ ((rows : List Row) × BecameLeader u c rows × (xs ≡ entries_of rows))
    go (inl p) = inl p
    go (inr p) = inr (p.0, became-on t u c p.0 o p.1, p.2)

pub has_initial-on : (t u : Moment) (c : Membership) → Onward t u → HasInitial t c → HasInitial u c
has_initial-on t u c o i = (i.0, initial-on t u c i.0 o i.1)

pub listed-on : (t u : Moment) (c : Membership) (x : Preparation) → Onward t u → Listed t c x → Listed u c x
listed-on t u c x o l = record { initial = has_initial-on t u c o l.initial; held = held-on t u c.epoch c.leader x o l.held }

pub accepted-on : (t u : Moment) (c : Membership) (x : Preparation) → Onward t u → Accepted t c x → Accepted u c x
accepted-on t u c x o a = record { stored = o.stored c a.stored; held = λ name m. held-on t u c.epoch name x o (a.held name m) }
