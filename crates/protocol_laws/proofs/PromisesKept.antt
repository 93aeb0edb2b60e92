-- One event keeps the promises.
use Rattle.std.proofs.Common.{◌≡◌, ℕ, ◌≤◌, true, ◌⊎◌, inl, inr, sym, ◌∙◌, ap, subst, refl, arith}
use Rattle.tcs_terms.specs.declared.inputs.Event.{Event}
use Rattle.tcs_terms.specs.declared.inputs.Input.{Input}
use Rattle.tcs_terms.specs.declared.messages.Message.TheVariants.{Accept, NewState, StatePiece}
use Rattle.tcs_terms.specs.Events.{event_fits}
use Rattle.tcs_terms.specs.Logs.{AreRows}
use Rattle.tcs_terms.specs.Places.{Membership}
use Rattle.tcs_terms.specs.Preparations.{Preparation}
use Rattle.tcs_terms.specs.Setups.{Deployment}
use Rattle.tcs_laws.specs.Certification.{Tests}
use Rattle.protocol.specs.Outcomes.{Out}
use Rattle.protocol.specs.Records.{NodeRecord}
use Rattle.protocol.specs.ShardRules.{least}
use Rattle.protocol.specs.World.{Happening}
use Rattle.protocol.specs.Invariant.{InvariantHolds}
use Rattle.protocol.specs.Invariant.Configurations.{ConfigurationsHold, HasMembers}
use Rattle.protocol.specs.Invariant.Logs.{entries_of, Reached, Held}
use Rattle.protocol.specs.Invariant.Promises.{PromisesHold, FitsRole, IsMemberAt}
use Rattle.protocol.specs.Invariant.Time.{Moment, StandsIn, IsNode, IsStored, WasIn, goes_to}
use Rattle.protocol_laws.specs.Change.{Comes, Change}
use Rattle.protocol_laws.specs.Effect.{Effect}
use Rattle.protocol_laws.specs.Turn.{Turn, GrewFrom, Onward}
use Rattle.protocol_laws.proofs.Lasting.{one_node, reached-back, held-back, grows-state}
use Rattle.protocol_laws.proofs.OnwardOf.{onward_of}
use Rattle.protocol_laws.proofs.ConfigurationsHad.{Heard}
use Rattle.protocol_laws.proofs.ConfigurationsInputs.{delivered}
use Rattle.protocol_laws.proofs.ConfigurationsKept.{heard_is_stored}
use Rattle.protocol_laws.proofs.PromisesNode.{BringsRows, GathersRows, role_fits, member_as, member_kept, rows_kept, gathered_kept}
use Rattle.protocol_laws.proofs.PromisesSent.{past-rows, state-rows, sent_piece-rows, accepting-fits}
use Rattle.protocol_laws.proofs.Came.{Acting, node_by}

-- what is said of one node, apart from its past
record NodeKeeps (u : Moment) (node : NodeRecord) : Type 0 where
  pub fits : FitsRole node node.role
  pub member : 1 ≤ node.state → IsMemberAt u node
  pub rows : AreRows node.rows
  pub gathers : GathersRows node

old_keeps : (t u : Moment) → PromisesHold t → ((c : Membership) → IsStored t c → IsStored u c) → (node : NodeRecord) → IsNode t node → NodeKeeps u node
old_keeps t u p on node n = record {
  fits = p.roles node n;
  member = λ some. member_as t u node node on refl refl refl (p.members node n some);
  rows = p.rows node n;
  gathers = λ g e. p.gathered node g n e;
}

-- what an input brings to a node may stand in a log
brings : (tests : Tests) (setup : Deployment) (t : Moment) (event : Event) (node : NodeRecord) (input : Input) → InvariantHolds tests setup t → event_fits setup event ≡ true → IsNode t node → Comes t.now node.name event input → BringsRows input
brings tests setup t event node input v f n k = record {
  state = λ from c rows e. state-rows t v.promises v.transfer from node.name c rows (delivered setup t node.name event input k f from (NewState c rows) e);
  piece = λ from number pieces c rows e. sent_piece-rows t v.promises v.transfer from node.name number pieces c rows (delivered setup t node.name event input k f from (StatePiece c number pieces rows) e);
  accept = λ from epoch x e. accepting-fits tests t v.promises v.entries from epoch node x n (delivered setup t node.name event input k f from (Accept epoch x) e);
}

new_keeps : (tests : Tests) (setup : Deployment) (t u : Moment) (event : Event) (node : NodeRecord) (input : Input) (out : Out NodeRecord) → InvariantHolds tests setup t → event_fits setup event ≡ true → ((c : Membership) → IsStored t c → IsStored u c)
    → IsNode t node → Comes t.now node.name event input → Effect tests setup.version node input out → NodeKeeps u out.kept
new_keeps tests setup t u event node input out v f on n k e =
    let b : BringsRows input = brings tests setup t event node input v f n k in
    record {
      fits = role_fits tests setup.version node input out e (v.promises.roles node n);
      member = member_kept setup t u tests setup.version node input out e on known (v.promises.members node n);
      rows = rows_kept tests setup.version node input out e b (λ g q. v.promises.gathered node g n q) (v.promises.rows node n);
      gathers = gathered_kept tests setup.version node input out e b (λ g q. v.promises.gathered node g n q);
    }
  where
    known : (c : Membership) → Heard input c → IsStored u c × HasMembers setup c
    known c h = let s : IsStored t c = heard_is_stored setup t node.name event input v.configurations k f c h in (on c s, v.configurations.members c s)

change_keeps : (tests : Tests) (setup : Deployment) (t : Moment) (event : Event) (h : Happening) → InvariantHolds tests setup t → event_fits setup event ≡ true → ((c : Membership) → IsStored t c → IsStored (goes_to t h.after) c) → Change tests setup.version t.now event h
    → (node : NodeRecord) → IsNode (goes_to t h.after) node → NodeKeeps (goes_to t h.after) node
change_keeps tests setup t event h v f on change node n = elim (node_by tests setup t event h change node n) [
  | inl k ↦ old_keeps t _ v.promises on node k
  | inr o ↦ (let a : Acting tests setup t event h = o.acting in
      subst (λ m. NodeKeeps (goes_to t h.after) m) (sym o.is) (new_keeps tests setup t _ event a.node a.input a.out v f on a.is a.comes a.effect))
]

-- what a node reached is no later than its state epoch
reached_kept : (setup : Deployment) (t u : Moment) → ConfigurationsHold setup u → Onward t u → PromisesHold t → (node : NodeRecord) (epoch : ℕ) → IsNode u node → Reached u epoch node.name → epoch ≤ node.state
reached_kept setup t u c o p node epoch n r = elim (reached-back t u epoch node.name o r) [
  | inl q ↦ (let g : GrewFrom t node = o.back node n in
      let l : epoch ≤ g.old.state = p.reached g.old epoch g.is (subst (λ m. Reached t epoch m) g.grows.name q) in
      omega (arith, l, grows-state g.old node g.grows))
  | inr q ↦ (let s : q.node ≡ node = one_node setup u q.node node c q.is n q.named in
      let e : node.state ≡ epoch = ap (λ m. m.state) (sym s) ∙ q.in_epoch in
      omega (arith, e))
]

-- what a node held in its state epoch is in its rows
held_kept : (setup : Deployment) (t u : Moment) → ConfigurationsHold setup u → Onward t u → PromisesHold t → (node : NodeRecord) (x : Preparation) → IsNode u node → Held u node.state node.name x → StandsIn x (entries_of node.rows)
held_kept setup t u c o p node x n h = elim (held-back t u node.state node.name x o h) [
  | inl q ↦ (let g : GrewFrom t node = o.back node n in earlier g q g.grows.state)
  | inr q ↦ (let s : q.node ≡ node = one_node setup u q.node node c q.is n q.named in subst (λ m. StandsIn x (entries_of m.rows)) s q.holds)
]
  where
    earlier : (g : GrewFrom t node) → Held t node.state node.name x → (node.state ≡ g.old.state) ⊎ (least g.old ≤ node.state) → StandsIn x (entries_of node.rows)
    earlier g q (inl e) = g.grows.entries e x (p.held g.old x g.is (subst (λ k. Held t k g.old.name x) e (subst (λ m. Held t node.state m x) g.grows.name q)))
    earlier g q (inr l) =
        let r : Reached t node.state g.old.name = record { node = q.node; was = subst (λ m. WasIn t node.state m q.node) g.grows.name q.was; some = q.some } in
        let m : node.state ≤ g.old.state = p.reached g.old node.state g.is r in
        absurd (omega (arith, l, m))

-- One event keeps the promises.
pub promises_kept : (tests : Tests) (setup : Deployment) (t : Moment) (event : Event) (h : Happening) → Turn tests setup t event h → ConfigurationsHold setup (goes_to t h.after) → PromisesHold (goes_to t h.after)
promises_kept tests setup t event h turn c =
    let u : Moment = goes_to t h.after in
    let o : Onward t u = onward_of tests setup t event h turn in
    let p : PromisesHold t = turn.before.promises in
    let keeps : ((node : NodeRecord) → IsNode u node → NodeKeeps u node) = change_keeps tests setup t event h turn.before turn.fits o.stored turn.change in
    record {
      roles = λ node n. (keeps node n).fits;
      members = λ node n some. (keeps node n).member some;
      reached = reached_kept setup t u c o p;
      held = held_kept setup t u c o p;
      rows = λ node n. (keeps node n).rows;
      rows_before = past-rows t p;
      gathered = λ node g n e. (keeps node n).gathers g e;
    }
