-- What a coordinator sends of a case that fits says what is so.
use Rattle.std.proofs.Common.{◌≡◌, ℕ, List, find, length, Option, Some, None, is_some, option_and_then, ◌⊎◌, inl, inr, sym, ◌∙◌, ap, subst, refl}
use Rattle.tcs_terms.specs.declared.ids.TxId.{TxId}
use Rattle.tcs_terms.specs.declared.messages.Message.TheVariants.{Prepare, Accept}
use Rattle.tcs_terms.specs.declared.messages.Outgoing.{Outgoing}
use Rattle.tcs_terms.specs.declared.votes.Cause.{Cause}
use Rattle.tcs_terms.specs.declared.votes.Cause.TheVariants as causes
use Rattle.tcs_terms.specs.declared.votes.Vote.{Vote}
use Rattle.tcs_terms.specs.declared.votes.Vote.TheVariants as votes
use Rattle.tcs_terms.specs.Payloads.{Accesses}
use Rattle.tcs_terms.specs.Places.{Membership}
use Rattle.tcs_terms.specs.Preparations.{Preparation}
use Rattle.tcs_terms.specs.Setups.{Deployment}
use Rattle.tcs_terms.specs.Shards.{restricted}
use Rattle.protocol.specs.Cases.{send_case, cause_by, cause_of, decision_at, decision_by, decision_of, tell_decision}
use Rattle.protocol.specs.Coordination.{resend, ask_leader}
use Rattle.protocol.specs.Outcomes.{to}
use Rattle.protocol.specs.Records.{Part, Case, Coordinator, NodeRecord}
use Rattle.protocol.specs.Views.{view_of, followers}
use Rattle.protocol.specs.Invariant.Configurations.{ConfigurationsHold}
use Rattle.protocol.specs.Invariant.Time.{Moment, StandsIn, IsNode, IsStored}
use Rattle.protocol.specs.Invariant.Transactions.{WasTaken, IsPart, VoteNames, CauseNames, DecisionNames, EntryFits, PrepareFits, MessageFits, CaseFits}
use Rattle.protocol.proofs.Lists.{find-StandsIn}
use Rattle.protocol_laws.proofs.TransactionsCases.{CasesFit}
use Rattle.protocol_laws.proofs.ViewsStored.{IsView}
use Rattle.protocol_laws.proofs.Sends.{Each, each-case, each-resend, each-ask_leader, each-decision}
use Rattle.protocol_laws.proofs.Stored.{member_shard, leads_member, follower_member}

-- a message that is sent says what is so, to whichever node it goes
abbrev pub Fits : ℕ → Moment → Outgoing → Type 0
Fits n t o = (node : NodeRecord) → IsNode t node → node.name ≡ o.to → MessageFits n t node.shard o.message

-- views of which each is a stored configuration of its shard
abbrev pub AreViews : Moment → List Membership → Type 0
AreViews t views = (shard : ℕ) (v : Membership) → view_of views shard ≡ Some v → IsView t shard v

whole_part : (n : ℕ) (t : Moment) (shard : ℕ) (txn : TxId) (payload : Accesses) (kept : Option Accesses) → (kept ≡ Some payload) ⊎ ((kept ≡ None) × WasTaken t txn) → IsPart t n shard txn payload (option_and_then (restricted n shard) kept)
whole_part n t shard txn payload kept (inl e) = inl (ap (λ o. option_and_then (restricted n shard) o) e)
whole_part n t shard txn payload kept (inr p) = inr (ap (λ o. option_and_then (restricted n shard) o) p.0, p.1)

-- PREPARE of a case to the leader of a stored configuration
prepare_fits : (setup : Deployment) (t : Moment) (n : ℕ) (txn : TxId) (case : Case) (v : Membership) → ConfigurationsHold setup t → n ≡ setup.shards → CaseFits setup.shards t txn case → IsStored t v
    → Fits setup.shards t (to v.leader (Prepare v.epoch txn case.shards (option_and_then (restricted n v.shard) case.payload)))
prepare_fits setup t n txn case v k l f is node i e =
    let at : node.shard ≡ v.shard = member_shard setup t k v node is i (subst (λ x. StandsIn x v.members) (sym e) (leads_member setup t k v is)) in
    subst (λ m. PrepareFits setup.shards t node.shard txn case.shards (option_and_then (restricted m v.shard) case.payload)) (sym l)
    (subst (λ shard. PrepareFits setup.shards t shard txn case.shards (option_and_then (restricted setup.shards v.shard) case.payload)) (sym at) (record {
      payload = f.payload;
      begun = f.begun;
      of_shards = f.shards;
      is_part = whole_part setup.shards t v.shard txn f.payload case.payload f.whole;
    }))

-- ACCEPT of an entry of a shard to a follower of a stored configuration of it
pub accept_fits : (setup : Deployment) (t : Moment) (shard : ℕ) (entry : Preparation) (v : Membership) (name : ℕ) → ConfigurationsHold setup t → EntryFits setup.shards t shard entry → IsView t shard v → StandsIn name (followers v)
    → Fits setup.shards t (to name (Accept v.epoch entry))
accept_fits setup t shard entry v name k f is follower node i e =
    let at : node.shard ≡ shard = member_shard setup t k v node is.stored i (subst (λ x. StandsIn x v.members) (sym e) (follower_member v name follower)) ∙ is.of_shard in
    subst (λ x. EntryFits setup.shards t x entry) (sym at) f

-- what is sent of a case
pub case_sends : (setup : Deployment) (t : Moment) (views : List Membership) (txn : TxId) (case : Case) → ConfigurationsHold setup t → length views ≡ setup.shards → AreViews t views → CaseFits setup.shards t txn case
    → Each (Fits setup.shards t) (send_case views txn case)
case_sends setup t views txn case k l stored f = each-case (Fits setup.shards t) views txn case (λ shard v e. prepare_fits setup t (length views) txn case v k l f (stored shard v e).stored)
    (λ p x v name there voted sees follower. accept_fits setup t p.shard x v name k (f.voted p x there voted) (stored p.shard v sees) follower)

-- what is sent again
pub resends : (setup : Deployment) (t : Moment) (c : Coordinator) → ConfigurationsHold setup t → length c.views ≡ setup.shards → AreViews t c.views → CasesFit setup.shards t c → Each (Fits setup.shards t) (resend c)
resends setup t c k l stored f = each-resend (Fits setup.shards t) c (λ txn case s. case_sends setup t c.views txn case k l stored (f txn case s))

-- what a new leader is asked
pub leader_asked : (setup : Deployment) (t : Moment) (c : Coordinator) (config : Membership) → ConfigurationsHold setup t → length c.views ≡ setup.shards → IsStored t config → CasesFit setup.shards t c → Each (Fits setup.shards t) (ask_leader c config)
leader_asked setup t c config k l stored f = each-ask_leader (Fits setup.shards t) c config (λ txn case s. prepare_fits setup t (length c.views) txn case config k l (f txn case s) stored)

-- the decision of parts that fit names what has begun
cause_names : (t : Moment) (vote : Vote) (cause : Cause) → VoteNames t vote → cause_by vote ≡ Some cause → CauseNames t cause
cause_names t votes.Commit cause v e = absurd (cc e)
cause_names t (votes.Clash txn) cause v e = let q : causes.Clash txn ≡ cause = cc e in subst (λ x. CauseNames t x) q v
cause_names t votes.Lost cause v e = let q : causes.Lost ≡ cause = cc e in subst (λ x. CauseNames t x) q tt

entry_cause : (t : Moment) (entry : Option Preparation) (cause : Cause) → ((x : Preparation) → entry ≡ Some x → VoteNames t x.vote) → cause_of entry ≡ Some cause → CauseNames t cause
entry_cause t None cause f e = absurd (cc e)
entry_cause t (Some x) cause f e = cause_names t x.vote cause (f x refl) e

decision_names : (t : Moment) (parts : List Part) → ((p : Part) (x : Preparation) → StandsIn p parts → p.entry ≡ Some x → VoteNames t x.vote) → DecisionNames t (decision_of parts)
unfolding decision_of
decision_names t parts f = go (find (λ (p : Part). is_some (cause_of p.entry)) parts) refl
  where
    at : (shard : ℕ) (cause : Option Cause) → ((x : Cause) → cause ≡ Some x → CauseNames t x) → DecisionNames t (decision_at shard cause)
    at shard None k = tt
    at shard (Some cause) k = k cause refl

    go : (p : Option Part) → find (λ (p : Part). is_some (cause_of p.entry)) parts ≡ p → DecisionNames t (decision_by p)
    go None e = tt
    go (Some p) e = at p.shard (cause_of p.entry) (λ cause q. entry_cause t p.entry cause (λ x r. f p x (find-StandsIn (λ (p : Part). is_some (cause_of p.entry)) parts p e).0 r) q)

-- what is told of a decision
pub decision_told : (n : ℕ) (t : Moment) (views : List Membership) (txn : TxId) (case : Case) → CaseFits n t txn case → Each (Fits n t) (tell_decision views txn case.parts (decision_of case.parts))
decision_told n t views txn case f = each-decision (Fits n t) views txn case.parts (decision_of case.parts) (λ p x v name a b c d node i e. (f.payload, f.begun))
    (λ node i e. ((f.payload, f.begun), decision_names t case.parts (λ p x s q. (f.voted p x s q).vote)))
