-- One event keeps the cases of each node.
use Rattle.std.proofs.Common.{◌≡◌, ℕ, ◌<◌, List, inl, inr, sym, ap, subst, refl, arith}
use Rattle.tcs_terms.specs.declared.ids.TxId.{TxId}
use Rattle.tcs_terms.specs.declared.inputs.Event.{Event}
use Rattle.tcs_terms.specs.declared.inputs.Input.{Input}
use Rattle.tcs_terms.specs.declared.inputs.Input.TheVariants.{Deliver}
use Rattle.tcs_terms.specs.declared.messages.Message.TheVariants.{PrepareAck, AcceptAck}
use Rattle.tcs_terms.specs.declared.messages.Outgoing.{Outgoing}
use Rattle.tcs_terms.specs.Places.{Membership}
use Rattle.tcs_terms.specs.Preparations.{Preparation}
use Rattle.tcs_terms.specs.Setups.{Deployment}
use Rattle.tcs_laws.specs.Certification.{Tests}
use Rattle.protocol.specs.ClientRules.{next_txn}
use Rattle.protocol.specs.Coordination.{first_entry}
use Rattle.protocol.specs.Invariant.Configurations.{ConfigurationsHold}
use Rattle.protocol.specs.Invariant.Entries.{HeldAt, CaseHolds}
use Rattle.protocol.specs.Invariant.Logs.{Listed}
use Rattle.protocol.specs.Invariant.Time.{Moment, goes_to, StandsIn, IsNode}
use Rattle.protocol.specs.Invariant.Transactions.{CaseFits}
use Rattle.protocol.specs.Outcomes.{Out}
use Rattle.protocol.specs.Records.{Case, Coordinator, NodeRecord}
use Rattle.protocol.specs.World.{Happening}
use Rattle.protocol_laws.specs.Effect.{Effect, Sees}
use Rattle.protocol_laws.specs.Effect.Effect.{Rests, Certifies, TakesOver, Votes, Acknowledges, Changes, Learns}
use Rattle.protocol_laws.specs.Effect.Sees.{Replaces, Keeps}
use Rattle.protocol_laws.specs.Turn.{Turn, Onward}
use Rattle.protocol_laws.proofs.ConfigurationsInputs.{delivered}
use Rattle.protocol_laws.proofs.EntriesAnswered.{asked_listed}
use Rattle.protocol_laws.proofs.EntriesCases.{CasesHold, cases-on, new_case-holds, begins-holds, goes_on-holds, change_view-holds, voted_case-holds, acknowledged_case-holds}
use Rattle.protocol_laws.proofs.ByTransaction.{keys, lookup-none-StandsIn}
use Rattle.protocol_laws.proofs.Standing.{map-StandsIn, IsMapped}
use Rattle.protocol_laws.proofs.Came.{node_back, Acting}
use Rattle.protocol_laws.proofs.TransferSending.{VotesNow}

-- what cases rest on, at the moment of an event
record Ready (t : Moment) (node : NodeRecord) (input : Input) : Type 0 where
  cases : CasesHold t node.coordinator
  fresh : StandsIn (next_txn node) (keys node.coordinator.cases) → ⊥
  votes : (view : Membership) (x : Preparation) → VotesNow node input view x → Listed t view x
  acks : (from shard epoch slot : ℕ) (txn : TxId) → input ≡ Deliver from (AcceptAck shard epoch slot txn) → HeldAt t epoch from slot txn

cases_by : (tests : Tests) (version : ℕ) (t : Moment) (node : NodeRecord) (input : Input) (out : Out NodeRecord) → Effect tests version node input out → Ready t node input → CasesHold t out.kept.coordinator
cases_by tests version t node input out (Certifies payload l case e) r =
    begins-holds t node.coordinator (next_txn node) case r.cases (subst (λ (c : Case). CaseHolds t node.coordinator.views (next_txn node) c) (sym e) (new_case-holds t node.coordinator.views (next_txn node) _ _)) r.fresh
cases_by tests version t node input out (TakesOver txn row found unknown none may case e) r =
    begins-holds t node.coordinator txn case r.cases (subst (λ (c : Case). CaseHolds t node.coordinator.views txn c) (sym e) (new_case-holds t node.coordinator.views txn _ _)) (lookup-none-StandsIn txn node.coordinator.cases none)
cases_by tests version t node input out (Votes from shard epoch entry case part view opened at leads fits coordinator goes) r =
    let listed : Listed t view (first_entry part.entry entry) = r.votes view (first_entry part.entry entry)
    (record { from = from; shard = shard; answered = entry; case = case; part = part; delivers = ap (λ n. Deliver from (PrepareAck shard n entry)) (sym at); is_open = opened; is = refl }) in
    goes_on-holds t node.coordinator entry.txn _ _ coordinator r.cases
    (voted_case-holds t node.coordinator shard entry case part view r.cases opened (λ none. subst (λ k. Listed t view (first_entry k entry)) none listed)) goes
cases_by tests version t node input out (Acknowledges from shard epoch slot txn case part view opened at follows votes coordinator goes) r =
    let held : HeldAt t view.epoch from slot txn = subst (λ n. HeldAt t n from slot txn) (sym at) (r.acks from shard epoch slot txn refl) in
    goes_on-holds t node.coordinator txn _ _ coordinator r.cases (acknowledged_case-holds t node.coordinator from shard slot txn case part view r.cases opened votes held) goes
cases_by tests version t node input out (Changes from config newer) r = change_view-holds t node.coordinator config r.cases
cases_by tests version t node input out (Learns from config coordinator sent stage asked sees hears) r = sees-holds coordinator sent sees
  where
    sees-holds : (new : Coordinator) (os : List Outgoing) → Sees node.coordinator config new os → CasesHold t new
    sees-holds new os (Replaces n) = change_view-holds t node.coordinator config r.cases
    sees-holds new os (Keeps n) = r.cases
cases_by tests version t node input out (Rests i answer notices n) r = r.cases
cases_by tests version t node input out _ r = r.cases

module _ (tests : Tests) (setup : Deployment) (t : Moment) (event : Event) (h : Happening) (turn : Turn tests setup t event h) (cu : ConfigurationsHold setup (goes_to t h.after)) (onward : Onward t (goes_to t h.after)) where
  abbrev u : Moment
  u = goes_to t h.after

  -- the cases of a node before the event
  before : (node : NodeRecord) → IsNode t node → CasesHold t node.coordinator
  before node n = record { each = λ txn case s. turn.before.entries.cases node txn case n s; one = turn.before.entries.one_case node n }

  -- a node has no case of the number that it gives next
  not_yet : (node : NodeRecord) → IsNode t node → StandsIn (next_txn node) (keys node.coordinator.cases) → ⊥
  not_yet node n s =
      let m : IsMapped (λ (e : TxId × Case). e.0) node.coordinator.cases (next_txn node) = map-StandsIn (λ (e : TxId × Case). e.0) node.coordinator.cases (next_txn node) s in
      let fits : CaseFits setup.shards t m.from.0 m.from.1 = turn.before.transactions.cases node m.from.0 m.from.1 n m.there in
      let low : m.from.0.seq < node.next = fits.begun.given node n (ap (λ (x : TxId). x.home) m.is) in
      let e : node.next ≡ m.from.0.seq = ap (λ (x : TxId). x.seq) m.is in
      omega (arith, low, e)

  ready : (a : Acting tests setup t event h) → Ready t a.node a.input
  ready a = record {
    cases = before a.node a.is;
    fresh = not_yet a.node a.is;
    votes = λ view x v. (asked_listed tests setup t event h turn cu onward a view x (inl v)).1;
    acks = λ from shard epoch slot txn e. turn.before.entries.acknowledged from a.node.name shard epoch slot txn
        (delivered setup t a.node.name event a.input a.comes turn.fits from (AcceptAck shard epoch slot txn) e);
  }

  pub cases_then : (node : NodeRecord) → IsNode u node → CasesHold u node.coordinator
  cases_then node n = elim (node_back tests setup t event h turn node n) [
    | inl k ↦ cases-on t u onward node.coordinator (before node k)
    | inr o ↦ cases-on t u onward node.coordinator (subst (λ (m : NodeRecord). CasesHold t m.coordinator) (sym o.is) (cases_by tests setup.version t o.acting.node o.acting.input o.acting.out o.acting.effect (ready o.acting)))
  ]
