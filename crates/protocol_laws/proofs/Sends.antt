-- What a node sends, list by list: what holds of each message that a list is made of holds of every message in it.
use Rattle.std.proofs.Common.{◌≡◌, ℕ, Bool, true, false, cond, not, ◌==◌, List, [], ◌∷◌, ◌++◌, map, flat_map, filter, length, Option, Some, None, option_and_then, inl, inr, sym, subst, refl}
use Rattle.std.specs.List.{range_with_len}
use Rattle.tcs_terms.specs.declared.ids.TxId.{TxId}
use Rattle.tcs_terms.specs.declared.inputs.Handled.{Handled}
use Rattle.tcs_terms.specs.declared.inputs.Handled.TheVariants.{Acted, Stale, Held, Full}
use Rattle.tcs_terms.specs.declared.inputs.Input.{Input}
use Rattle.tcs_terms.specs.declared.inputs.Input.TheVariants as inputs
use Rattle.tcs_terms.specs.declared.inputs.Note.TheVariants as notes
use Rattle.tcs_terms.specs.declared.logs.Row.{Row}
use Rattle.tcs_terms.specs.declared.messages.Message.TheVariants.{Prepare, Accept, DecisionFor, Probe, NewConfig, NewState, Last, At, Cas, OutcomeOf, Refused, StatePiece}
use Rattle.tcs_terms.specs.declared.messages.Outgoing.{Outgoing}
use Rattle.tcs_terms.specs.declared.messages.Why.{Why}
use Rattle.tcs_terms.specs.declared.messages.Why.TheVariants as why
use Rattle.tcs_terms.specs.declared.votes.Decision.{Decision}
use Rattle.tcs_terms.specs.Places.{Membership, is_among}
use Rattle.tcs_terms.specs.Preparations.{Preparation}
use Rattle.tcs_terms.specs.Shards.{restricted}
use Rattle.protocol.specs.Cases.{prepare, accept, send_part, send_case, is_complete, decision_of, tell_members, tell_decision, commits}
use Rattle.protocol.specs.Choices.{when}
use Rattle.protocol.specs.Coordination.{resend, ask_leader, has_part}
use Rattle.protocol.specs.Notices.{notice_of}
use Rattle.protocol.specs.Outcomes.{Out, to}
use Rattle.protocol.specs.Pieces.{piece_count, piece_of}
use Rattle.protocol.specs.Probing.{probe, ask_stage, tell_leader}
use Rattle.protocol.specs.Records.{Part, Case, Coordinator, Stage}
use Rattle.protocol.specs.Records.Stage.{Idle, AskedLast, Probing, AskedLower, CasSent}
use Rattle.protocol.specs.ShardRules.{state_to}
use Rattle.protocol.specs.Views.{view_of, followers}
use Rattle.protocol.specs.Invariant.Time.{StandsIn}
use Rattle.protocol.proofs.Lists.{StandsIn-append}
use Rattle.wire_frame.specs.Spelling.{kind_of}
use Rattle.protocol_laws.specs.Effect.{is_answered, notices_for, IsRefusal, Sees, Hears, GoesOn}
use Rattle.protocol_laws.specs.Effect.Sees.{Replaces, Keeps}
use Rattle.protocol_laws.specs.Effect.Hears.{Waits, ProbesLast, ProbesLower, IsDone}
use Rattle.protocol_laws.specs.Effect.GoesOn.{Waiting, Decides}
use Rattle.protocol_laws.proofs.Standing.{IsMapped, map-StandsIn, filter-StandsIn, IsPiece, flat_map-StandsIn}

abbrev pub Each : (Outgoing → Type 0) → List Outgoing → Type 0
Each P os = (o : Outgoing) → StandsIn o os → P o

pub each-none : (P : Outgoing → Type 0) → Each P []
each-none P o s = absurd s

pub each-one : (P : Outgoing → Type 0) (one : Outgoing) → P one → Each P (one ∷ [])
each-one P one h o (inl e) = subst P (sym e) h
each-one P one h o (inr s) = absurd s

pub each-both : (P : Outgoing → Type 0) (xs ys : List Outgoing) → Each P xs → Each P ys → Each P (xs ++ ys)
each-both P xs ys p q o s = elim (StandsIn-append xs ys o s) [ inl a ↦ p o a | inr b ↦ q o b ]

pub each-map : {A : Type 0} (P : Outgoing → Type 0) (f : A → Outgoing) (xs : List A) → ((a : A) → StandsIn a xs → P (f a)) → Each P (map f xs)
each-map P f xs h o s = let m : IsMapped f xs o = map-StandsIn f xs o s in subst P (sym m.is) (h m.from m.there)

pub each-flat_map : {A : Type 0} (P : Outgoing → Type 0) (f : A → List Outgoing) (xs : List A) → ((a : A) → StandsIn a xs → Each P (f a)) → Each P (flat_map f xs)
each-flat_map P f xs h o s = let i : IsPiece f xs o = flat_map-StandsIn f xs o s in h i.source i.among o i.within

pub each-when : (P : Outgoing → Type 0) (b : Bool) (xs ys : List Outgoing) → Each P xs → Each P ys → Each P (when b xs ys)
unfolding when
each-when P true xs ys p q = p
each-when P false xs ys p q = q

-- PREPARE of a case to the leader of a view
pub each-prepare : (P : Outgoing → Type 0) (n : ℕ) (txn : TxId) (case : Case) (view : Option Membership)
    → ((v : Membership) → view ≡ Some v → P (to v.leader (Prepare v.epoch txn case.shards (option_and_then (restricted n v.shard) case.payload)))) → Each P (prepare n txn case view)
unfolding prepare
each-prepare P n txn case None h = each-none P
each-prepare P n txn case (Some v) h = each-one P _ (h v refl)

-- ACCEPT of an entry to followers of a view
pub each-accept : (P : Outgoing → Type 0) (entry : Preparation) (acks : List ℕ) (v : Membership) → ((node : ℕ) → StandsIn node (followers v) → P (to node (Accept v.epoch entry))) → Each P (accept entry acks (Some v))
unfolding accept
each-accept P entry acks v h =
    each-map P (λ node. to node (Accept v.epoch entry)) (filter (λ node. not (is_among acks node)) (followers v)) (λ node s. h node (filter-StandsIn (λ node. not (is_among acks node)) (followers v) node s).0)

each-accept_in : (P : Outgoing → Type 0) (entry : Preparation) (acks : List ℕ) (view : Option Membership) → ((v : Membership) (node : ℕ) → view ≡ Some v → StandsIn node (followers v) → P (to node (Accept v.epoch entry))) → Each P (accept entry acks view)
unfolding accept
each-accept_in P entry acks None h = each-none P
each-accept_in P entry acks (Some v) h = each-accept P entry acks v (λ node s. h v node refl s)

pub each-part : (P : Outgoing → Type 0) (n : ℕ) (txn : TxId) (case : Case) (entry : Option Preparation) (acks : List ℕ) (view : Option Membership)
    → ((v : Membership) → view ≡ Some v → P (to v.leader (Prepare v.epoch txn case.shards (option_and_then (restricted n v.shard) case.payload))))
    → ((x : Preparation) (v : Membership) (node : ℕ) → entry ≡ Some x → view ≡ Some v → StandsIn node (followers v) → P (to node (Accept v.epoch x))) → Each P (send_part n txn case entry acks view)
unfolding send_part
each-part P n txn case None acks view p a = each-prepare P n txn case view p
each-part P n txn case (Some x) acks view p a = each-accept_in P x acks view (λ v node e s. a x v node refl e s)

-- what is sent of a case: PREPARE, and ACCEPT for its voted parts
pub each-case : (P : Outgoing → Type 0) (views : List Membership) (txn : TxId) (case : Case)
    → ((shard : ℕ) (v : Membership) → view_of views shard ≡ Some v → P (to v.leader (Prepare v.epoch txn case.shards (option_and_then (restricted (length views) v.shard) case.payload))))
    → ((p : Part) (x : Preparation) (v : Membership) (node : ℕ) → StandsIn p case.parts → p.entry ≡ Some x → view_of views p.shard ≡ Some v → StandsIn node (followers v) → P (to node (Accept v.epoch x))) → Each P (send_case views txn case)
unfolding send_case
each-case P views txn case f g = each-flat_map P (λ p. send_part (length views) txn case p.entry p.acks (view_of views p.shard)) case.parts (λ p s.
    each-part P (length views) txn case p.entry p.acks (view_of views p.shard) (λ v e. f p.shard v e) (λ x v node a b c. g p x v node s a b c))

-- what is sent again, and what a new leader is asked
pub each-resend : (P : Outgoing → Type 0) (c : Coordinator) → ((txn : TxId) (case : Case) → StandsIn (txn, case) c.cases → Each P (send_case c.views txn case)) → Each P (resend c)
unfolding resend
each-resend P c h = each-flat_map P (λ e. send_case c.views e.0 e.1) c.cases (λ e s. h e.0 e.1 s)

pub each-ask_leader : (P : Outgoing → Type 0) (c : Coordinator) (v : Membership)
    → ((txn : TxId) (case : Case) → StandsIn (txn, case) c.cases → P (to v.leader (Prepare v.epoch txn case.shards (option_and_then (restricted (length c.views) v.shard) case.payload)))) → Each P (ask_leader c v)
unfolding ask_leader
each-ask_leader P c v h = each-flat_map P (λ e. prepare (length c.views) e.0 e.1 (Some v)) (filter (λ e. has_part e.1 v.shard) c.cases) (λ e s.
    each-prepare P (length c.views) e.0 e.1 (Some v) (λ w q. (let same : v ≡ w = cc q in
    subst (λ w. P (to w.leader (Prepare w.epoch e.0 e.1.shards (option_and_then (restricted (length c.views) w.shard) e.1.payload)))) same
    (h e.0 e.1 (filter-StandsIn (λ (e : TxId × Case). has_part e.1 v.shard) c.cases e s).0))))

pub each-sees : (P : Outgoing → Type 0) (c : Coordinator) (config : Membership) (new : Coordinator) (os : List Outgoing) → Sees c config new os → Each P (ask_leader c config) → Each P os
each-sees P c config _ _ (Replaces n) h = h
each-sees P c config _ _ (Keeps n) h = each-none P

-- what is told of a decision: DECISION to the members of each voted part's view, and the outcome
each-member : (P : Outgoing → Type 0) (txn : TxId) (commit : Bool) (entry : Option Preparation) (view : Option Membership)
    → ((x : Preparation) (v : Membership) (node : ℕ) → entry ≡ Some x → view ≡ Some v → StandsIn node v.members → P (to node (DecisionFor v.epoch x.slot txn commit))) → Each P (tell_members txn commit entry view)
each-member P txn commit None view h = each-none P
each-member P txn commit (Some x) None h = each-none P
each-member P txn commit (Some x) (Some v) h = each-map P (λ node. to node (DecisionFor v.epoch x.slot txn commit)) v.members (λ node s. h x v node refl refl s)

pub each-decision : (P : Outgoing → Type 0) (views : List Membership) (txn : TxId) (parts : List Part) (decision : Decision)
    → ((p : Part) (x : Preparation) (v : Membership) (node : ℕ) → StandsIn p parts → p.entry ≡ Some x → view_of views p.shard ≡ Some v → StandsIn node v.members → P (to node (DecisionFor v.epoch x.slot txn (commits decision))))
    → P (to txn.home (OutcomeOf txn decision)) → Each P (tell_decision views txn parts decision)
unfolding tell_decision
each-decision P views txn parts decision f g =
    each-both P (flat_map (λ p. tell_members txn (commits decision) p.entry (view_of views p.shard)) parts) (to txn.home (OutcomeOf txn decision) ∷ [])
    (each-flat_map P (λ p. tell_members txn (commits decision) p.entry (view_of views p.shard)) parts (λ p s. each-member P txn (commits decision) p.entry (view_of views p.shard) (λ x v node a b c. f p x v node s a b c)))
    (each-one P _ g)

-- what a case sends as it goes on: what is given, and its decision once it is complete
pub each-goes_on : (P : Outgoing → Type 0) (c : Coordinator) (txn : TxId) (case : Case) (sends : List Outgoing) (out : Out Coordinator) → GoesOn c txn case sends out → Each P sends
    → (is_complete c.views case ≡ true → out.notes ≡ notes.Decide txn (decision_of case.parts) ∷ [] → Each P (tell_decision c.views txn case.parts (decision_of case.parts))) → Each P out.sends
each-goes_on P c txn case sends _ (Waiting h) f g = f
each-goes_on P c txn case sends _ (Decides h) f g = each-both P sends (tell_decision c.views txn case.parts (decision_of case.parts)) f (g h refl)

-- what a prober sends
each-probe : (P : Outgoing → Type 0) (epoch : ℕ) (members : List ℕ) → ((node epoch : ℕ) → P (to node (Probe epoch))) → Each P (probe epoch members)
unfolding probe
each-probe P epoch members h = each-map P (λ node. to node (Probe epoch)) members (λ node s. h node epoch)

pub each-stage : (P : Outgoing → Type 0) (stage : Stage) → ((node epoch : ℕ) → P (to node (Probe epoch))) → ((shard : ℕ) → P (to 0 (Last shard))) → ((shard epoch : ℕ) → P (to 0 (At shard epoch)))
    → ((config : Membership) → stage ≡ CasSent config → P (to 0 (Cas config))) → Each P (ask_stage stage)
unfolding ask_stage
each-stage P Idle f g h k = each-none P
each-stage P (AskedLast shard want) f g h k = each-one P _ (g shard)
each-stage P (Probing shard want epoch probed low) f g h k = each-probe P epoch probed.members f
each-stage P (AskedLower shard want epoch asked) f g h k = each-one P _ (h shard asked)
each-stage P (CasSent config) f g h k = each-one P _ (k config refl)

each-tell_leader : (P : Outgoing → Type 0) (me : ℕ) (config : Membership) → P (to config.leader (NewConfig config)) → Each P (tell_leader me config)
unfolding tell_leader
each-tell_leader P me config h = each-when P (config.by == me) (to config.leader (NewConfig config) ∷ []) [] (each-one P _ h) (each-none P)

pub each-hears : (P : Outgoing → Type 0) (me : ℕ) (config : Membership) (view : ℕ) (stage new : Stage) (os : List Outgoing) → Hears me config view stage new os → ((node epoch : ℕ) → P (to node (Probe epoch)))
    → P (to config.leader (NewConfig config)) → Each P os
each-hears P me config view _ _ _ (Waits s) f g = each-none P
each-hears P me config view _ _ _ (ProbesLast shard want a b c) f g = each-probe P _ config.members f
each-hears P me config view _ _ _ (ProbesLower shard want epoch asked a b) f g = each-probe P epoch config.members f
each-hears P me config view _ _ _ (IsDone kept a b) f g = each-tell_leader P me config g

-- a leader's rows to its followers, whole or in pieces
pub each-state : (P : Outgoing → Type 0) (version : ℕ) (config : Membership) (rows : List Row) → ((node : ℕ) → P (to node (NewState config rows)))
    → ((node k : ℕ) → StandsIn k (range_with_len 1 (piece_count rows)) → P (to node (StatePiece config k (piece_count rows) (piece_of rows k)))) → Each P (flat_map (state_to version config rows) (followers config))
unfolding state_to
each-state P version config rows f g = each-flat_map P (state_to version config rows) (followers config) (λ node s.
    each-when P (version == 2) (map (λ k. to node (StatePiece config k (piece_count rows) (piece_of rows k))) (range_with_len 1 (piece_count rows))) (to node (NewState config rows) ∷ [])
    (each-map P (λ k. to node (StatePiece config k (piece_count rows) (piece_of rows k))) (range_with_len 1 (piece_count rows)) (λ k s. g node k s))
    (each-one P _ (f node)))

-- notices that a message was not acted on
pub each-notice : {Mark : ℕ → Type 0} {input : Input} {full_mark : ℕ} {answer : Handled} (P : Outgoing → Type 0) (os : List Outgoing) → IsRefusal Mark input full_mark answer os
    → ((node kind mark : ℕ) (why : Why) → P (to node (Refused kind why mark))) → Each P os
each-notice {input = input} {full_mark = full_mark} {answer = answer} P os r h = subst (Each P) (sym r.only) (of_input input)
  where
    of_answer : (from kind : ℕ) (answer : Handled) → Each P (notice_of answer from kind full_mark)
    of_answer from kind Acted = each-none P
    of_answer from kind (Stale mark) = each-one P _ (h from kind mark why.Stale)
    of_answer from kind (Held mark) = each-one P _ (h from kind mark why.Held)
    of_answer from kind Full = each-one P _ (h from kind full_mark why.Full)

    of_message : (b : Bool) (notices : List Outgoing) → Each P notices → Each P (cond b notices [])
    of_message true notices k = k
    of_message false notices k = each-none P

    of_input : (input : Input) → Each P (notices_for input answer full_mark)
    of_input (inputs.Certify payload) = each-none P
    of_input (inputs.Take txn) = each-none P
    of_input inputs.Nudge = each-none P
    of_input (inputs.Move shard want) = each-none P
    of_input inputs.Lower = each-none P
    of_input (inputs.ReadName name) = each-none P
    of_input (inputs.Ask shard) = each-none P
    of_input (inputs.Deliver from message) = of_message (is_answered message) (notice_of answer from (kind_of message) full_mark) (of_answer from (kind_of message) answer)
