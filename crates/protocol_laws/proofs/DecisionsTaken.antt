-- A case that goes on to its decision: accepted entries stand behind it, and what is told agrees with it.
use Rattle.std.proofs.Common.{◌≡◌, ℕ, true, List, Some, inl, inr, sym, ◌∙◌, subst, refl, le_refl}
use Rattle.tcs_terms.specs.declared.ids.TxId.{TxId}
use Rattle.tcs_terms.specs.declared.inputs.Input.{Input}
use Rattle.tcs_terms.specs.declared.inputs.Note.{Note}
use Rattle.tcs_terms.specs.declared.inputs.Note.TheVariants as notes
use Rattle.tcs_terms.specs.declared.logs.Row.{Row}
use Rattle.tcs_terms.specs.declared.messages.Message.{Message}
use Rattle.tcs_terms.specs.declared.messages.Message.TheVariants.{Prepare, PrepareAck, Accept, AcceptAck, DecisionFor, Probe, ProbeAck, NewConfig, NewState, ConfigChange, Last, At, Cas, Stored, OutcomeOf, Refused, StatePiece}
use Rattle.tcs_terms.specs.declared.messages.Outgoing.{Outgoing}
use Rattle.tcs_terms.specs.declared.votes.Decision.{Decision}
use Rattle.tcs_terms.specs.Setups.{Deployment}
use Rattle.tcs_laws.specs.Certification.{Tests}
use Rattle.protocol.specs.Cases.{is_complete_by, is_complete, decision_of, commits, tell_decision}
use Rattle.protocol.specs.Outcomes.{Out}
use Rattle.protocol.specs.Records.{Part, Case, Coordinator, NodeRecord}
use Rattle.protocol.specs.Views.{view_of}
use Rattle.protocol.specs.Invariant.Decisions.{IsDecidedBy, IsBehind, RowHolds}
use Rattle.protocol.specs.Invariant.Logs.{Accepted}
use Rattle.protocol.specs.Invariant.Time.{Moment, StandsIn, IsNode, WasNoted}
use Rattle.protocol.specs.Invariant.Transactions.{CaseFits}
use Rattle.protocol.proofs.Lists.{all-StandsIn}
use Rattle.protocol_laws.specs.Effect.{GoesOn}
use Rattle.protocol_laws.specs.Effect.GoesOn.{Waiting, Decides}
use Rattle.protocol_laws.proofs.Lasting.{accepted-on}
use Rattle.protocol_laws.proofs.DecisionsAccepted.{IsAcceptedPart, complete_part}
use Rattle.protocol_laws.proofs.ViewsStored.{view_is, IsView}
use Rattle.protocol.specs.Invariant.Entries.{CaseHolds}
use Rattle.protocol_laws.proofs.TransactionsActing.{IsActing}
use Rattle.protocol_laws.proofs.Sends.{Each, each-decision, each-goes_on}
use Rattle.tcs_terms.specs.Preparations.{Preparation}
use Rattle.tcs_terms.specs.Places.{Membership}
use Rattle.protocol_laws.proofs.Stored.{member_shard}

-- what a message to a node tells of decisions agrees with decisions that were taken
abbrev pub MessageAgrees : Moment → ℕ → Message → Type 0
MessageAgrees t name (Prepare epoch txn shards part) = Unit {0}
MessageAgrees t name (PrepareAck shard epoch entry) = Unit {0}
MessageAgrees t name (Accept epoch entry) = Unit {0}
MessageAgrees t name (AcceptAck shard epoch slot txn) = Unit {0}
MessageAgrees t name (DecisionFor epoch slot txn commit) = (node : NodeRecord) → IsNode t node → node.name ≡ name → IsBehind t node.shard epoch slot txn commit
MessageAgrees t name (Probe epoch) = Unit {0}
MessageAgrees t name (ProbeAck epoch state) = Unit {0}
MessageAgrees t name (NewConfig config) = Unit {0}
MessageAgrees t name (NewState config rows) = (r : Row) → StandsIn r rows → RowHolds t config.shard config.epoch r
MessageAgrees t name (ConfigChange config) = Unit {0}
MessageAgrees t name (Last shard) = Unit {0}
MessageAgrees t name (At shard epoch) = Unit {0}
MessageAgrees t name (Cas config) = Unit {0}
MessageAgrees t name (Stored config) = Unit {0}
MessageAgrees t name (OutcomeOf txn decision) = WasNoted t (notes.Decide txn decision)
MessageAgrees t name (Refused kind why mark) = Unit {0}
MessageAgrees t name (StatePiece config number pieces rows) = (r : Row) → StandsIn r rows → RowHolds t config.shard config.epoch r

-- the same of a message as it is sent
abbrev pub Agrees : Moment → Outgoing → Type 0
Agrees t o = MessageAgrees t o.to o.message

-- A case that went on, whose parts hold: all that is known when it is complete.
pub record IsReady (setup : Deployment) (t u : Moment) (node : NodeRecord) (txn : TxId) (case : Case) : Type 0 where
  pub fits : CaseFits setup.shards u txn case
  pub holds : CaseHolds t node.coordinator.views txn case

-- each part of a complete case has its accepted entry
ready_part : (tests : Tests) (setup : Deployment) (t u : Moment) (node : NodeRecord) (input : Input) (out : Out NodeRecord) (txn : TxId) (case : Case) (p : Part) → IsActing tests setup t u node input out → IsReady setup t u node txn case
    → is_complete node.coordinator.views case ≡ true → StandsIn p case.parts → IsAcceptedPart t node.coordinator.views txn p
ready_part tests setup t u node input out txn case p a r complete s =
    complete_part tests setup t node.coordinator.views txn p a.before (λ v e. (view_is setup t node p.shard v a.before.configurations a.is e).stored) (r.holds.parts p s)
    (all-StandsIn (λ (q : Part). is_complete_by q.entry q.acks (view_of node.coordinator.views q.shard)) case.parts p complete s)

ready_decided : (tests : Tests) (setup : Deployment) (t u : Moment) (node : NodeRecord) (input : Input) (out : Out NodeRecord) (txn : TxId) (case : Case) → IsActing tests setup t u node input out → IsReady setup t u node txn case
    → is_complete node.coordinator.views case ≡ true → IsDecidedBy setup.shards u txn (decision_of case.parts)
ready_decided tests setup t u node input out txn case a r complete = record {
  payload = r.fits.payload;
  begun = r.fits.begun;
  parts = case.parts;
  shards = r.holds.shards ∙ r.fits.shards;
  accepted = λ p s. (
      let q : IsAcceptedPart t node.coordinator.views txn p = ready_part tests setup t u node input out txn case p a r complete s in
      let v : IsView t p.shard q.view = view_is setup t node p.shard q.view a.before.configurations a.is q.sees in
      (q.entry, q.voted, record { config = q.view; of_shard = v.of_shard; accepted = accepted-on t u q.view q.entry a.goes.onward q.accepted; of_txn = q.of_txn }));
  gives = refl;
}

-- what a member of a part's view is told
told_member : (tests : Tests) (setup : Deployment) (t u : Moment) (node : NodeRecord) (input : Input) (out : Out NodeRecord) (txn : TxId) (decision : Decision) (p : Part) (x : Preparation) (v : Membership) (name : ℕ) → IsActing tests setup t u node input out
    → IsAcceptedPart t node.coordinator.views txn p → WasNoted u (notes.Decide txn decision) → p.entry ≡ Some x → view_of node.coordinator.views p.shard ≡ Some v → StandsIn name v.members → MessageAgrees u name (DecisionFor v.epoch x.slot txn (commits decision))
told_member tests setup t u node input out txn decision p x v name a q noted voted sees member at i e =
    let same : q.entry ≡ x = cc (q.voted, voted) in
    let view : q.view ≡ v = cc (q.sees, sees) in
    let accepted : Accepted u v x = accepted-on t u v x a.goes.onward (subst (λ w. Accepted t w x) view (subst (λ y. Accepted t q.view y) same q.accepted)) in
    record {
      decision = decision;
      noted = noted;
      sense = refl;
      entry = x;
      config = v;
      of_shard = sym (member_shard setup u a.configurations v at accepted.stored i (subst (λ n. StandsIn n v.members) (sym e) member));
      until = le_refl v.epoch;
      accepted = accepted;
      at_slot = refl;
      of_txn = subst (λ (y : Preparation). y.txn ≡ txn) same q.of_txn;
    }

ready_told : (tests : Tests) (setup : Deployment) (t u : Moment) (node : NodeRecord) (input : Input) (out : Out NodeRecord) (txn : TxId) (case : Case) → IsActing tests setup t u node input out → IsReady setup t u node txn case
    → is_complete node.coordinator.views case ≡ true → WasNoted u (notes.Decide txn (decision_of case.parts)) → Each (Agrees u) (tell_decision node.coordinator.views txn case.parts (decision_of case.parts))
ready_told tests setup t u node input out txn case a r complete noted = each-decision (Agrees u) node.coordinator.views txn case.parts (decision_of case.parts)
    (λ p x v name there voted sees member. told_member tests setup t u node input out txn (decision_of case.parts) p x v name a (ready_part tests setup t u node input out txn case p a r complete there) noted voted sees member) noted

-- what a case that goes on notes is decided
pub goes_on_decided : (tests : Tests) (setup : Deployment) (t u : Moment) (node : NodeRecord) (input : Input) (new : Out NodeRecord) (txn : TxId) (case : Case) (sends : List Outgoing) (out : Out Coordinator) (other : TxId) (decision : Decision)
    → IsActing tests setup t u node input new → IsReady setup t u node txn case → GoesOn node.coordinator txn case sends out → StandsIn (notes.Decide other decision) out.notes → IsDecidedBy setup.shards u other decision
goes_on_decided tests setup t u node input new txn case sends _ other decision a r (Waiting h) s = absurd s
goes_on_decided tests setup t u node input new txn case sends _ other decision a r (Decides h) (inl e) =
    let x : txn ≡ other = cc e in
    let d : decision_of case.parts ≡ decision = cc e in
    subst (λ y. IsDecidedBy setup.shards u y decision) x (subst (λ y. IsDecidedBy setup.shards u txn y) d (ready_decided tests setup t u node input new txn case a r h))
goes_on_decided tests setup t u node input new txn case sends _ other decision a r (Decides h) (inr s) = absurd s

-- what a case that goes on tells agrees
pub goes_on_told : (tests : Tests) (setup : Deployment) (t u : Moment) (node : NodeRecord) (input : Input) (new : Out NodeRecord) (txn : TxId) (case : Case) (sends : List Outgoing) (out : Out Coordinator)
    → IsActing tests setup t u node input new → IsReady setup t u node txn case → GoesOn node.coordinator txn case sends out → ((note : Note) → StandsIn note out.notes → WasNoted u note) → Each (Agrees u) sends → Each (Agrees u) out.sends
goes_on_told tests setup t u node input new txn case sends out a r g noted k = each-goes_on (Agrees u) node.coordinator txn case sends out g k (λ complete told.
    ready_told tests setup t u node input new txn case a r complete (noted (notes.Decide txn (decision_of case.parts)) (subst (λ ns. StandsIn (notes.Decide txn (decision_of case.parts)) ns) (sym told) (inl refl))))
