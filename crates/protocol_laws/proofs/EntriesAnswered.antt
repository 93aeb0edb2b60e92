-- What is answered, sent to be accepted and acknowledged is listed, or held, at the epoch that is stated.
use Rattle.std.proofs.Common.{◌≡◌, ℕ, ◌≤◌, true, ◌==◌, List, Option, Some, None, ◌⊎◌, inl, inr, sym, ◌∙◌, ap, subst, subst₂, refl, eqb-true}
use Rattle.tcs_terms.specs.declared.ids.TxId.{TxId}
use Rattle.tcs_terms.specs.declared.inputs.Event.{Event}
use Rattle.tcs_terms.specs.declared.inputs.Input.{Input}
use Rattle.tcs_terms.specs.declared.messages.Message.TheVariants.{PrepareAck, Accept, AcceptAck}
use Rattle.tcs_terms.specs.Places.{Membership}
use Rattle.tcs_terms.specs.Preparations.{Preparation}
use Rattle.tcs_terms.specs.Setups.{Deployment}
use Rattle.tcs_laws.specs.Certification.{Tests}
use Rattle.protocol.specs.Coordination.{first_entry}
use Rattle.protocol.specs.Invariant.Configurations.{ConfigurationsHold, role_configs}
use Rattle.protocol.specs.Invariant.Entries.{ListedAt, HeldAt, PartHolds, CaseHolds}
use Rattle.protocol.specs.Invariant.Logs.{entries_of, Reached, Listed}
use Rattle.protocol.specs.Invariant.Promises.{FitsRole, PromisesHold}
use Rattle.protocol.specs.Invariant.Time.{Moment, goes_to, StandsIn, IsNode, IsStored, WasSent}
use Rattle.protocol.specs.Records.{Part, Case, Role, NodeRecord}
use Rattle.protocol.specs.Records.Role.{Fenced, Leader, Follower}
use Rattle.protocol.specs.ShardRules.{is_leader, is_following}
use Rattle.protocol.specs.Views.{view_of, followers}
use Rattle.protocol.specs.World.{Happening}
use Rattle.protocol.proofs.Lists.{find-StandsIn}
use Rattle.protocol_laws.specs.Turn.{Turn, Onward, GrewFrom}
use Rattle.protocol_laws.proofs.ConfigurationsInputs.{delivered}
use Rattle.protocol_laws.proofs.Lasting.{is_in-now, held-on, has_initial-on, listed-on}
use Rattle.protocol_laws.proofs.Stored.{one_config, stored-some, member_shard, follower_member}
use Rattle.protocol_laws.proofs.Came.{Acting, effect_name}
use Rattle.protocol_laws.proofs.TransferHeld.{leads_it}
use Rattle.protocol_laws.proofs.TransferSending.{Sending, VotesNow, HasEntry}
use Rattle.protocol_laws.proofs.TransferSending.Sending.{Says, Answers, AsksVoted, AsksAgain, Holds}
use Rattle.protocol_laws.proofs.TransferSent.{SentNow, sent_why}
use Rattle.protocol_laws.proofs.ViewsStored.{IsView, view_is}
use Rattle.protocol_laws.proofs.ByTransaction.{lookup-StandsIn}
use Rattle.protocol_laws.proofs.ConfigurationsHad.{had}

listed_at-on : (t u : Moment) (shard epoch : ℕ) (x : Preparation) → Onward t u → ListedAt t shard epoch x → ListedAt u shard epoch x
listed_at-on t u shard epoch x onward l = record { config = l.config; stored = onward.stored l.config l.stored; of_shard = l.of_shard; of_epoch = l.of_epoch; listed = listed-on t u l.config x onward l.listed }

pub held_at-on : (t u : Moment) (epoch name slot : ℕ) (txn : TxId) → Onward t u → HeldAt t epoch name slot txn → HeldAt u epoch name slot txn
held_at-on t u epoch name slot txn onward k = record { entry = k.entry; held = held-on t u epoch name k.entry onward k.held; at_slot = k.at_slot; of_txn = k.of_txn }

-- what is listed in the configuration of a shard and epoch is listed in whichever stored one is of them
pub listed_at-Listed : (setup : Deployment) (t : Moment) (shard epoch : ℕ) (x : Preparation) (v : Membership) → ConfigurationsHold setup t → ListedAt t shard epoch x → IsStored t v → v.shard ≡ shard → v.epoch ≡ epoch → Listed t v x
listed_at-Listed setup t shard epoch x v k l s p q =
    let same : l.config ≡ v = one_config setup t l.config v k l.stored s (l.of_shard ∙ sym p) (l.of_epoch ∙ sym q) in
    subst (λ (d : Membership). Listed t d x) same l.listed

-- what holds of a voted part, at its view
voted_part : (t : Moment) (txn : TxId) (views : List Membership) (part : Part) (view : Membership) (entry : Preparation) → PartHolds t txn (view_of views part.shard) part.entry part.acks → view_of views part.shard ≡ Some view → part.entry ≡ Some entry
    → PartHolds t txn (Some view) (Some entry) part.acks
voted_part t txn views part view entry p v e = subst₂ (λ (a : Option Membership) (b : Option Preparation). PartHolds t txn a b part.acks) v e p

record AnswersBy (node : NodeRecord) (new : NodeRecord) (shard epoch : ℕ) (x : Preparation) : Type 0 where
  of_shard : node.shard ≡ shard
  of_epoch : node.state ≡ epoch
  leads : is_leader node.role ≡ true
  still : new.state ≡ node.state
  there : StandsIn x (entries_of new.rows)

answers_by : (node : NodeRecord) (input : Input) (new : NodeRecord) (dest shard epoch : ℕ) (x : Preparation) → Sending node input new dest (PrepareAck shard epoch x) → AnswersBy node new shard epoch x
answers_by node input new dest shard epoch x (Says m h) = absurd h
answers_by node input new dest shard epoch x (Answers entry leads still there) = record { of_shard = refl; of_epoch = refl; leads = leads; still = still; there = there }

pub record Again (node : NodeRecord) (view : Membership) (x : Preparation) : Type 0 where
  pub txn : TxId
  pub case : Case
  pub part : Part
  pub opened : StandsIn (txn, case) node.coordinator.cases
  pub has : StandsIn part case.parts
  pub entry : part.entry ≡ Some x
  pub sees : view_of node.coordinator.views part.shard ≡ Some view

record AsksBy (node : NodeRecord) (input : Input) (dest epoch : ℕ) (x : Preparation) : Type 0 where
  view : Membership
  of_epoch : view.epoch ≡ epoch
  follower : StandsIn dest (followers view)
  why : VotesNow node input view x ⊎ Again node view x

asks_by : (node : NodeRecord) (input : Input) (new : NodeRecord) (dest epoch : ℕ) (x : Preparation) → Sending node input new dest (Accept epoch x) → AsksBy node input dest epoch x
asks_by node input new dest epoch x (Says m h) = absurd h
asks_by node input new dest epoch x (AsksVoted view entry follower votes) = record { view = view; of_epoch = refl; follower = follower; why = inl votes }
asks_by node input new dest epoch x (AsksAgain txn case part view entry opened has e sees follower) = record { view = view; of_epoch = refl; follower = follower; why = inr (record { txn = txn; case = case; part = part; opened = opened; has = has; entry = e; sees = sees }) }

record HoldsBy (node : NodeRecord) (new : NodeRecord) (epoch slot : ℕ) (txn : TxId) : Type 0 where
  of_epoch : node.state ≡ epoch
  follows : is_following node.role ≡ true
  still : new.state ≡ node.state
  has : HasEntry new.rows slot txn

holds_by : (node : NodeRecord) (input : Input) (new : NodeRecord) (dest shard epoch slot : ℕ) (txn : TxId) → Sending node input new dest (AcceptAck shard epoch slot txn) → HoldsBy node new epoch slot txn
holds_by node input new dest shard epoch slot txn (Says m h) = absurd h
holds_by node input new dest shard epoch slot txn (Holds s x follows still has) = record { of_epoch = refl; follows = follows; still = still; has = has }

-- a follower is in an epoch of at least 1
follows_some : (setup : Deployment) (t : Moment) → ConfigurationsHold setup t → PromisesHold t → (node : NodeRecord) → IsNode t node → is_following node.role ≡ true → 1 ≤ node.state
follows_some setup t ct pt node n f = go node.role refl f
  where
    go : (role : Role) → node.role ≡ role → is_following role ≡ true → 1 ≤ node.state
    go Fenced e k = absurd (cc k)
    go (Leader c) e k = absurd (cc k)
    go (Follower c) e k =
        let of : FitsRole node (Follower c) = subst (λ (r : Role). FitsRole node r) e (pt.roles node n) in
        let among : StandsIn c (role_configs node.role) = subst (λ (r : Role). StandsIn c (role_configs r)) (sym e) (inl refl) in
        let stored : IsStored t c = ct.in_nodes node c n ((had node c).role among) in
        subst (λ k. 1 ≤ k) of.0.epoch (stored-some setup t c ct stored)

module _ (tests : Tests) (setup : Deployment) (t : Moment) (event : Event) (h : Happening) (turn : Turn tests setup t event h) (cu : ConfigurationsHold setup (goes_to t h.after)) (onward : Onward t (goes_to t h.after)) where
  abbrev u : Moment
  u = goes_to t h.after

  now_listed : (a : Acting tests setup t event h) (shard epoch : ℕ) (x : Preparation) → AnswersBy a.node a.out.kept shard epoch x → ListedAt u shard epoch x
  now_listed a shard epoch x b =
      let d = leads_it setup t turn.before.configurations a.node a.is turn.before.promises b.leads in
      let one : 1 ≤ d.0.epoch = stored-some setup t d.0 turn.before.configurations d.2 in
      let r : Reached t d.0.epoch d.0.leader = record { node = a.node; was = is_in-now t d.0.epoch d.0.leader a.node a.is (sym d.4) (sym d.3.epoch); some = one } in
      record {
        config = d.0;
        stored = onward.stored d.0 d.2;
        of_shard = d.3.shard ∙ b.of_shard;
        of_epoch = d.3.epoch ∙ b.of_epoch;
        listed = record {
          initial = has_initial-on t u d.0 onward (turn.before.transfer.led d.0 d.2 r);
          held = record { node = a.out.kept; was = is_in-now u d.0.epoch d.0.leader a.out.kept a.there (effect_name tests setup.version a.node a.input a.out a.effect ∙ sym d.4) (b.still ∙ sym d.3.epoch); some = one; holds = b.there };
        };
      }

  pub answered_then : (from dest shard epoch : ℕ) (x : Preparation) → WasSent u from dest (PrepareAck shard epoch x) → ListedAt u shard epoch x
  answered_then from dest shard epoch x s = elim (sent_why tests setup t event h turn from dest (PrepareAck shard epoch x) (λ k. k) s) [
    | inl k ↦ listed_at-on t u shard epoch x onward (turn.before.entries.answered from dest shard epoch x k)
    | inr k ↦ now_listed k.acting shard epoch x (answers_by k.acting.node k.acting.input k.acting.out.kept dest shard epoch x k.why)
  ]

  -- an entry that is asked to be accepted now is listed at the view
  pub asked_listed : (a : Acting tests setup t event h) (view : Membership) (x : Preparation) → VotesNow a.node a.input view x ⊎ Again a.node view x → IsStored t view × Listed t view x
  asked_listed a view x (inr g) =
      let c : CaseHolds t a.node.coordinator.views g.txn g.case = turn.before.entries.cases a.node g.txn g.case a.is g.opened in
      ((view_is setup t a.node g.part.shard view turn.before.configurations a.is g.sees).stored, (voted_part t g.txn a.node.coordinator.views g.part view x (c.parts g.part g.has) g.sees g.entry).0)
  asked_listed a view x (inl v) = by v.part.entry refl
    where
      seen : IsView t v.shard view
      seen = view_is setup t a.node v.shard view turn.before.configurations a.is v.is_open.sees

      found : StandsIn v.part v.case.parts × ((v.part.shard == v.shard) ≡ true)
      found = find-StandsIn (λ (p : Part). p.shard == v.shard) v.case.parts v.part v.is_open.has

      by : (o : Option Preparation) → v.part.entry ≡ o → IsStored t view × Listed t view x
      by None e =
          let sent : WasSent t v.from a.node.name (PrepareAck v.shard view.epoch v.answered) = delivered setup t a.node.name event a.input a.comes turn.fits v.from (PrepareAck v.shard view.epoch v.answered) v.delivers in
          let l : ListedAt t v.shard view.epoch v.answered = turn.before.entries.answered v.from a.node.name v.shard view.epoch v.answered sent in
          let is : v.answered ≡ x = sym (v.is ∙ ap (λ (o : Option Preparation). first_entry o v.answered) e) in
          (seen.stored, subst (λ (y : Preparation). Listed t view y) is (listed_at-Listed setup t v.shard view.epoch v.answered view turn.before.configurations l seen.stored seen.of_shard refl))
      by (Some kept) e =
          let c : CaseHolds t a.node.coordinator.views v.answered.txn v.case = turn.before.entries.cases a.node v.answered.txn v.case a.is (lookup-StandsIn v.answered.txn a.node.coordinator.cases v.case v.is_open.opened) in
          let sees : view_of a.node.coordinator.views v.part.shard ≡ Some view = ap (λ n. view_of a.node.coordinator.views n) (eqb-true v.part.shard v.shard found.1) ∙ v.is_open.sees in
          let is : kept ≡ x = sym (v.is ∙ ap (λ (o : Option Preparation). first_entry o v.answered) e) in
          (seen.stored, subst (λ (y : Preparation). Listed t view y) is (voted_part t v.answered.txn a.node.coordinator.views v.part view kept (c.parts v.part found.0) sees e).0)

  pub accepting_then : (from epoch : ℕ) (node : NodeRecord) (x : Preparation) → IsNode u node → WasSent u from node.name (Accept epoch x) → ListedAt u node.shard epoch x
  accepting_then from epoch node x n s = elim (sent_why tests setup t event h turn from node.name (Accept epoch x) (λ k. k) s) [
    | inl k ↦ before k
    | inr k ↦ now k (asks_by k.acting.node k.acting.input k.acting.out.kept node.name epoch x k.why)
  ]
    where
      before : WasSent t from node.name (Accept epoch x) → ListedAt u node.shard epoch x
      before k =
          let g : GrewFrom t node = onward.back node n in
          subst (λ s. ListedAt u s epoch x) (sym g.grows.shard) (listed_at-on t u g.old.shard epoch x onward (turn.before.entries.accepting from epoch g.old x g.is (subst (λ n. WasSent t from n (Accept epoch x)) g.grows.name k)))

      now : (k : SentNow tests setup t event h from node.name (Accept epoch x)) → AsksBy k.acting.node k.acting.input node.name epoch x → ListedAt u node.shard epoch x
      now k b =
          let l = asked_listed k.acting b.view x b.why in
          record {
            config = b.view;
            stored = onward.stored b.view l.0;
            of_shard = sym (member_shard setup u cu b.view node (onward.stored b.view l.0) n (follower_member b.view node.name b.follower));
            of_epoch = b.of_epoch;
            listed = listed-on t u b.view x onward l.1;
          }

  pub acknowledged_then : (from dest shard epoch slot : ℕ) (txn : TxId) → WasSent u from dest (AcceptAck shard epoch slot txn) → HeldAt u epoch from slot txn
  acknowledged_then from dest shard epoch slot txn s = elim (sent_why tests setup t event h turn from dest (AcceptAck shard epoch slot txn) (λ k. k) s) [
    | inl k ↦ held_at-on t u epoch from slot txn onward (turn.before.entries.acknowledged from dest shard epoch slot txn k)
    | inr k ↦ now k (holds_by k.acting.node k.acting.input k.acting.out.kept dest shard epoch slot txn k.why)
  ]
    where
      now : (k : SentNow tests setup t event h from dest (AcceptAck shard epoch slot txn)) → HoldsBy k.acting.node k.acting.out.kept epoch slot txn → HeldAt u epoch from slot txn
      now k b = record {
        entry = b.has.entry;
        held = record {
          node = k.acting.out.kept;
          was = is_in-now u epoch from k.acting.out.kept k.acting.there (effect_name tests setup.version k.acting.node k.acting.input k.acting.out k.acting.effect ∙ sym k.sender) (b.still ∙ b.of_epoch);
          some = subst (λ n. 1 ≤ n) b.of_epoch (follows_some setup t turn.before.configurations turn.before.promises k.acting.node k.acting.is b.follows);
          holds = b.has.there;
        };
        at_slot = b.has.at_slot;
        of_txn = b.has.of_txn;
      }
