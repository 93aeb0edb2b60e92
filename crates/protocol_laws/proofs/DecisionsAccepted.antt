-- A part of a complete case has an entry that every member of its view held, and cases hold as they go on.
use Rattle.std.proofs.Common.{◌≡◌, ℕ, Bool, true, false, not, List, Option, Some, None, ◌==◌, sym, ap, subst, refl, eqb-true}
use Rattle.tcs_terms.specs.declared.ids.TxId.{TxId}
use Rattle.tcs_terms.specs.declared.inputs.Input.{Input}
use Rattle.tcs_terms.specs.declared.inputs.Input.TheVariants as inputs
use Rattle.tcs_terms.specs.declared.messages.Message.TheVariants.{PrepareAck, AcceptAck}
use Rattle.tcs_terms.specs.Places.{Membership, is_among}
use Rattle.tcs_terms.specs.Preparations.{Preparation}
use Rattle.tcs_terms.specs.Setups.{Deployment}
use Rattle.tcs_laws.specs.Certification.{Tests}
use Rattle.protocol.specs.Cases.{all_acknowledge, is_complete_by}
use Rattle.protocol.specs.Coordination.{with_part, voted, voted_at, acknowledged}
use Rattle.protocol.specs.Outcomes.{Out}
use Rattle.protocol.specs.Records.{Part, Case, NodeRecord}
use Rattle.protocol.specs.Views.{view_of, followers}
use Rattle.protocol.specs.Invariant.{InvariantHolds}
use Rattle.protocol.specs.Invariant.Entries.{ListedAt, HeldAt, PartHolds, CaseHolds}
use Rattle.protocol.specs.Invariant.Logs.{Held, Listed, Accepted}
use Rattle.protocol.specs.Invariant.Time.{Moment, StandsIn, IsStored}
use Rattle.protocol.proofs.Lists.{all-StandsIn, among-StandsIn}
use Rattle.protocol_laws.specs.Effect.{OpenPart}
use Rattle.protocol_laws.proofs.Standing.{StandsIn-filter}
use Rattle.protocol_laws.proofs.ViewsStored.{view_is, IsView}
use Rattle.protocol_laws.proofs.TransactionsActing.{IsActing}
use Rattle.protocol_laws.proofs.EntriesCases.{voted_case-holds, acknowledged_case-holds, CasesHold}
use Rattle.protocol_laws.proofs.EntriesAnswered.{listed_at-Listed}

-- whoever acknowledged a listed entry held that entry; where all followers did, it is accepted
all_held : (tests : Tests) (setup : Deployment) (t : Moment) (txn : TxId) (v : Membership) (entry : Preparation) (acks : List ℕ) → InvariantHolds tests setup t → IsStored t v → Listed t v entry
    → ((name : ℕ) → StandsIn name acks → HeldAt t v.epoch name entry.slot txn) → all_acknowledge (Some v) acks ≡ true → Accepted t v entry
all_held tests setup t txn v entry acks i stored listed acknowledges all = record { stored = stored; held = λ name member. held name (name == v.leader) member refl }
  where
    followed : (name : ℕ) → StandsIn name v.members → HeldAt t v.epoch name entry.slot txn → Held t v.epoch name entry
    followed name member a =
        let same : a.entry ≡ entry = i.entries.slots v a.entry entry (i.transfer.at_most v name a.entry stored member a.held) listed a.at_slot in
        subst (λ x. Held t v.epoch name x) same a.held

    held : (name : ℕ) (b : Bool) → StandsIn name v.members → (name == v.leader) ≡ b → Held t v.epoch name entry
    held name true member e = subst (λ x. Held t v.epoch x entry) (sym (eqb-true name v.leader e)) listed.held
    held name false member e =
        let follows : StandsIn name (followers v) = StandsIn-filter (λ m. not (m == v.leader)) v.members name member (ap not e) in
        let among : is_among acks name ≡ true = all-StandsIn (λ node. is_among acks node) (followers v) name all follows in
        followed name member (acknowledges name (among-StandsIn acks name among))

-- a part with its view and its accepted entry
pub record IsAcceptedPart (t : Moment) (views : List Membership) (txn : TxId) (p : Part) : Type 0 where
  pub entry : Preparation
  pub view : Membership
  pub voted : p.entry ≡ Some entry
  pub sees : view_of views p.shard ≡ Some view
  pub accepted : Accepted t view entry
  pub of_txn : entry.txn ≡ txn

pub complete_part : (tests : Tests) (setup : Deployment) (t : Moment) (views : List Membership) (txn : TxId) (p : Part) → InvariantHolds tests setup t → ((v : Membership) → view_of views p.shard ≡ Some v → IsStored t v)
    → PartHolds t txn (view_of views p.shard) p.entry p.acks → is_complete_by p.entry p.acks (view_of views p.shard) ≡ true → IsAcceptedPart t views txn p
complete_part tests setup t views txn p i stored = go (view_of views p.shard) p.entry refl refl
  where
    go : (view : Option Membership) (entry : Option Preparation) → view_of views p.shard ≡ view → p.entry ≡ entry → PartHolds t txn view entry p.acks → is_complete_by entry p.acks view ≡ true → IsAcceptedPart t views txn p
    go None None a b k c = absurd (cc c)
    go (Some v) None a b k c = absurd (cc c)
    go None (Some entry) a b k c = absurd k
    go (Some v) (Some entry) a b k c = record {
      entry = entry;
      view = v;
      voted = b;
      sees = a;
      accepted = all_held tests setup t txn v entry p.acks i (stored v a) k.0 k.2 c;
      of_txn = k.1;
    }

-- the cases of a node, as they were
old_cases : (tests : Tests) (setup : Deployment) (t u : Moment) (node : NodeRecord) (input : Input) (out : Out NodeRecord) → IsActing tests setup t u node input out → CasesHold t node.coordinator
old_cases tests setup t u node input out a = record { each = λ txn case s. a.before.entries.cases node txn case a.is s; one = a.before.entries.one_case node a.is }

pub votes_hold : (tests : Tests) (setup : Deployment) (t u : Moment) (node : NodeRecord) (input : Input) (out : Out NodeRecord) (from shard epoch : ℕ) (entry : Preparation) (case : Case) (part : Part) (view : Membership)
    → IsActing tests setup t u node input out → input ≡ inputs.Deliver from (PrepareAck shard epoch entry) → OpenPart node.coordinator entry.txn shard case part view → view.epoch ≡ epoch
    → CaseHolds t node.coordinator.views entry.txn (with_part case (voted part entry))
votes_hold tests setup t u node input out from shard epoch entry case part view a e o at =
    let l : ListedAt t shard epoch entry = a.before.entries.answered from node.name shard epoch entry (a.received from (PrepareAck shard epoch entry) e) in
    let v : IsView t shard view = view_is setup t node shard view a.before.configurations a.is o.sees in
    voted_case-holds t node.coordinator shard entry case part view (old_cases tests setup t u node input out a) o (λ none. listed_at-Listed setup t shard epoch entry view a.before.configurations l v.stored v.of_shard at)

pub acknowledges_hold : (tests : Tests) (setup : Deployment) (t u : Moment) (node : NodeRecord) (input : Input) (out : Out NodeRecord) (from shard epoch slot : ℕ) (txn : TxId) (case : Case) (part : Part) (view : Membership)
    → IsActing tests setup t u node input out → input ≡ inputs.Deliver from (AcceptAck shard epoch slot txn) → OpenPart node.coordinator txn shard case part view → view.epoch ≡ epoch → voted_at part.entry slot ≡ true
    → CaseHolds t node.coordinator.views txn (with_part case (acknowledged part from))
acknowledges_hold tests setup t u node input out from shard epoch slot txn case part view a e o at voted =
    let h : HeldAt t epoch from slot txn = a.before.entries.acknowledged from node.name shard epoch slot txn (a.received from (AcceptAck shard epoch slot txn) e) in
    acknowledged_case-holds t node.coordinator from shard slot txn case part view (old_cases tests setup t u node input out a) o voted (subst (λ x. HeldAt t x from slot txn) (sym at) h)
