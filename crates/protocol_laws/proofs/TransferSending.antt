-- Why a node sends each message that speaks of entries.
use Rattle.std.proofs.Common.{◌≡◌, ℕ, ◌≤◌, Bool, true, false, cond, ◌==◌, nat_lt, List, [], ◌∷◌, ◌++◌, filter, Option, Some, None, inl, sym, ◌∙◌, ap, subst, refl, eqb-true, arith, ◌<◌, ◌+◌}
use Rattle.tcs_terms.specs.declared.ids.TxId.{TxId}
use Rattle.tcs_terms.specs.declared.inputs.Input.{Input}
use Rattle.tcs_terms.specs.declared.inputs.Input.TheVariants.{Deliver, Nudge}
use Rattle.tcs_terms.specs.declared.logs.Row.{Row}
use Rattle.tcs_terms.specs.declared.messages.Message.{Message}
use Rattle.tcs_terms.specs.declared.messages.Message.TheVariants.{Prepare, PrepareAck, Accept, AcceptAck, ProbeAck, NewConfig, NewState, Last, At, Cas, StatePiece, DecisionFor, Probe, ConfigChange, Stored, OutcomeOf, Refused}
use Rattle.tcs_terms.specs.declared.messages.Outgoing.{Outgoing}
use Rattle.tcs_terms.specs.Logs.{same_txn}
use Rattle.tcs_terms.specs.Places.{Membership}
use Rattle.tcs_terms.specs.Preparations.{Preparation}
use Rattle.tcs_laws.specs.Certification.{Tests}
use Rattle.protocol.specs.Cases.{asked, new_case, send_case, decision_of}
use Rattle.protocol.specs.Coordination.{first_entry, resend, ask_leader}
use Rattle.protocol.specs.Invariant.Logs.{entries_of}
use Rattle.protocol.specs.Invariant.Time.{StandsIn}
use Rattle.protocol.specs.Log.{row_at, holds_txn, has_at, put_entry, accepted, undecided}
use Rattle.protocol.specs.Outcomes.{Out}
use Rattle.protocol.specs.Pieces.{piece_count, piece_of}
use Rattle.protocol.specs.Probing.{ask_stage}
use Rattle.protocol.specs.Records.{Part, Case, NodeRecord, Coordinator}
use Rattle.protocol.specs.ShardRules.{is_leader, is_following}
use Rattle.protocol.specs.Views.{view_of, followers}
use Rattle.protocol.proofs.Lists.{find-StandsIn}
use Rattle.protocol_laws.specs.Effect.{Effect, OpenPart, GoesOn}
use Rattle.protocol_laws.specs.Effect.Effect.{Rests, Certifies, TakesOver, Nudges, Moves, Lowers, Asks, AnswersAgain, Appends, Votes, Acknowledges, Changes, Learns, Accepts, Promises, Chooses, Leads}
use Rattle.protocol_laws.proofs.Standing.{StandsIn-right, StandsIn-map, IsMapped, map-StandsIn, range-StandsIn}
use Rattle.protocol_laws.proofs.TransferEnters.{BecomesLeader}
use Rattle.protocol_laws.proofs.SameTxn.{same_txn-eq}
use Rattle.protocol_laws.proofs.Sends.{Each, each-one, each-both, each-case, each-accept, each-resend, each-ask_leader, each-sees, each-decision, each-goes_on, each-stage, each-hears, each-state, each-notice}
use Rattle.tcs_terms.specs.Payloads.{Accesses}
use Rattle.protocol.specs.Records.Role.{Leader}

-- a message that says nothing of entries in a log
abbrev pub SaysNothing : Message → Type 0
SaysNothing (Prepare epoch txn shards payload) = Unit {0}
SaysNothing (PrepareAck shard epoch entry) = ⊥
SaysNothing (Accept epoch entry) = ⊥
SaysNothing (AcceptAck shard epoch slot txn) = ⊥
SaysNothing (DecisionFor epoch slot txn commit) = Unit {0}
SaysNothing (Probe epoch) = Unit {0}
SaysNothing (ProbeAck epoch state) = Unit {0}
SaysNothing (NewConfig config) = Unit {0}
SaysNothing (NewState config rows) = ⊥
SaysNothing (ConfigChange config) = Unit {0}
SaysNothing (Last shard) = Unit {0}
SaysNothing (At shard epoch) = Unit {0}
SaysNothing (Cas config) = Unit {0}
SaysNothing (Stored config) = Unit {0}
SaysNothing (OutcomeOf txn decision) = Unit {0}
SaysNothing (Refused kind why mark) = Unit {0}
SaysNothing (StatePiece config piece pieces rows) = ⊥

-- a part takes the vote of a PREPARE_ACK, or keeps the one that it has
pub record VotesNow (node : NodeRecord) (input : Input) (view : Membership) (entry : Preparation) : Type 0 where
  pub from : ℕ
  pub shard : ℕ
  pub answered : Preparation
  pub case : Case
  pub part : Part
  pub delivers : input ≡ Deliver from (PrepareAck shard view.epoch answered)
  pub is_open : OpenPart node.coordinator answered.txn shard case part view
  pub is : entry ≡ first_entry part.entry answered

-- entries of a slot and transaction among those of rows
pub record HasEntry (rows : List Row) (slot : ℕ) (txn : TxId) : Type 0 where
  pub entry : Preparation
  pub there : StandsIn entry (entries_of rows)
  pub at_slot : entry.slot ≡ slot
  pub of_txn : entry.txn ≡ txn

-- why a node sends a message
pub data Sending (node : NodeRecord) (input : Input) (new : NodeRecord) (dest : ℕ) : Message → Type 0 where
  Says : (m : Message) → SaysNothing m → Sending node input new dest m
  Answers : (entry : Preparation) → is_leader node.role ≡ true → new.state ≡ node.state → StandsIn entry (entries_of new.rows) → Sending node input new dest (PrepareAck node.shard node.state entry)
  AsksVoted : (view : Membership) (entry : Preparation) → StandsIn dest (followers view) → VotesNow node input view entry → Sending node input new dest (Accept view.epoch entry)
  AsksAgain : (txn : TxId) (case : Case) (part : Part) (view : Membership) (entry : Preparation) → StandsIn (txn, case) node.coordinator.cases → StandsIn part case.parts → part.entry ≡ Some entry → view_of node.coordinator.views part.shard ≡ Some view → StandsIn dest (followers view)
      → Sending node input new dest (Accept view.epoch entry)
  Holds : (slot : ℕ) (txn : TxId) → is_following node.role ≡ true → new.state ≡ node.state → HasEntry new.rows slot txn → Sending node input new dest (AcceptAck node.shard node.state slot txn)
  SendsWhole : (b : BecomesLeader node input new) → Sending node input new dest (NewState b.config node.rows)
  SendsPiece : (b : BecomesLeader node input new) (number : ℕ) → 1 ≤ number → number ≤ piece_count node.rows → Sending node input new dest (StatePiece b.config number (piece_count node.rows) (piece_of node.rows number))

-- a row that a slot is found to hold
held_at : (rows : List Row) (slot : ℕ) (txn : TxId) (o : Option Row) → row_at rows slot ≡ o → holds_txn o txn ≡ true → HasEntry rows slot txn
held_at rows slot txn None e h = absurd (cc h)
held_at rows slot txn (Some r) e h =
    let f = find-StandsIn (λ (r : Row). r.entry.slot == slot) rows r e in
    record { entry = r.entry; there = StandsIn-map (λ (r : Row). r.entry) rows r f.0; at_slot = eqb-true r.entry.slot slot f.1; of_txn = same_txn-eq r.entry.txn txn h }

-- what was accepted is there
accepted-has : (rows : List Row) (entry : Preparation) → HasEntry (accepted rows entry) entry.slot entry.txn
accepted-has rows entry = by (has_at rows entry.slot entry.txn) refl
  where
    by : (b : Bool) → has_at rows entry.slot entry.txn ≡ b → HasEntry (cond b rows (put_entry rows entry)) entry.slot entry.txn
    by true e = held_at rows entry.slot entry.txn (row_at rows entry.slot) refl e
    by false e = record {
      entry = entry;
      there = StandsIn-map (λ (r : Row). r.entry) (put_entry rows entry) (undecided entry)
          (StandsIn-right (filter (λ (r : Row). nat_lt r.entry.slot entry.slot) rows) (undecided entry ∷ filter (λ (r : Row). nat_lt entry.slot r.entry.slot) rows) (undecided entry) (inl refl));
      at_slot = refl;
      of_txn = refl;
    }

-- the same of a message as it is sent
abbrev Why : NodeRecord → Input → NodeRecord → Outgoing → Type 0
Why node input new o = Sending node input new o.to o.message

-- a new case has no voted part
none_voted : (case : Case) (shards : List ℕ) (payload : Option Accesses) (p : Part) (x : Preparation) → case ≡ new_case shards payload → StandsIn p case.parts → p.entry ≡ Some x → ⊥
none_voted case shards payload p x e s voted =
    let m : IsMapped asked shards p = map-StandsIn asked shards p (subst (λ (c : Case). StandsIn p c.parts) e s) in
    let none : None ≡ Some x = ap (λ (q : Part). q.entry) (sym m.is) ∙ voted in
    cc none

-- what is sent of a new case, of an old one, and to a new leader
new_case-why : (node : NodeRecord) (input : Input) (new : NodeRecord) (txn : TxId) (case : Case) (shards : List ℕ) (payload : Option Accesses) → case ≡ new_case shards payload → Each (Why node input new) (send_case node.coordinator.views txn case)
new_case-why node input new txn case shards payload e =
    each-case (Why node input new) node.coordinator.views txn case (λ shard v q. Says _ tt) (λ p x v name s voted sees follower. absurd (none_voted case shards payload p x e s voted))

old_case-why : (node : NodeRecord) (input : Input) (new : NodeRecord) (txn : TxId) (case : Case) → StandsIn (txn, case) node.coordinator.cases → Each (Why node input new) (send_case node.coordinator.views txn case)
old_case-why node input new txn case open_case =
    each-case (Why node input new) node.coordinator.views txn case (λ shard v q. Says _ tt) (λ p x v name s voted sees follower. AsksAgain txn case p v x open_case s voted sees follower)

ask_leader-why : (node : NodeRecord) (input : Input) (new : NodeRecord) (c : Coordinator) (config : Membership) → Each (Why node input new) (ask_leader c config)
ask_leader-why node input new c config = each-ask_leader (Why node input new) c config (λ txn case s. Says _ tt)

-- what a case sends as it goes on
goes_on-why : (node : NodeRecord) (input : Input) (new : NodeRecord) (c : Coordinator) (txn : TxId) (case : Case) (sends : List Outgoing) (out : Out Coordinator) → GoesOn c txn case sends out → Each (Why node input new) sends → Each (Why node input new) out.sends
goes_on-why node input new c txn case sends out g a = each-goes_on (Why node input new) c txn case sends out g a (λ complete noted.
    each-decision (Why node input new) c.views txn case.parts (decision_of case.parts) (λ p x v name b d e f. Says _ tt) (Says _ tt))

-- why a node sends each message that it sends
pub sending_by : (tests : Tests) (version : ℕ) (node : NodeRecord) (input : Input) (out : Out NodeRecord) → Effect tests version node input out → Each (Why node input out.kept) out.sends
sending_by tests version node input out (Rests i answer notices n) = each-notice (Why node i node) notices n (λ name kind mark why. Says _ tt)
sending_by tests version node input out (Certifies payload l case e) = new_case-why node _ _ _ case _ _ e
sending_by tests version node input out (TakesOver txn row found undecided_yet none may case e) = new_case-why node _ _ txn case _ _ e
sending_by tests version node input out Nudges =
    each-both (Why node Nudge node) (resend node.coordinator) (ask_stage node.prober) (each-resend (Why node Nudge node) node.coordinator (λ txn case s. old_case-why node Nudge node txn case s))
    (each-stage (Why node Nudge node) node.prober (λ name epoch. Says _ tt) (λ shard. Says _ tt) (λ shard epoch. Says _ tt) (λ config e. Says _ tt))
sending_by tests version node input out (Moves shard want) = each-one (Why node _ _) _ (Says _ tt)
sending_by tests version node input out (Lowers shard want epoch probed low e p q) = each-one (Why node _ _) _ (Says _ tt)
sending_by tests version node input out (Asks shard) = each-one (Why node _ _) _ (Says _ tt)
sending_by tests version node input out (AnswersAgain from epoch txn shards part row leads at among found) = each-one (Why node _ _) _
    (subst (λ n. Sending node (Deliver from (Prepare epoch txn shards part)) node from (PrepareAck node.shard n row.entry)) at
    (Answers row.entry leads refl (StandsIn-map (λ (r : Row). r.entry) node.rows row (find-StandsIn (λ (r : Row). same_txn r.entry.txn txn) node.rows row found).0)))
sending_by tests version node input out (Appends from epoch txn shards part leads at among found full entry e) = each-one (Why node _ _) _
    (subst (λ n. Sending node (Deliver from (Prepare epoch txn shards part)) (record node { rows = node.rows ++ undecided entry ∷ [] }) from (PrepareAck node.shard n entry)) at
    (Answers entry leads refl (StandsIn-map (λ (r : Row). r.entry) (node.rows ++ undecided entry ∷ []) (undecided entry) (StandsIn-right node.rows (undecided entry ∷ []) (undecided entry) (inl refl)))))
sending_by tests version node input out (Votes from shard epoch entry case part view opened at leads fits coordinator goes) =
    goes_on-why node _ _ node.coordinator entry.txn _ _ coordinator goes (each-accept (Why node _ _) (first_entry part.entry entry) part.acks view (λ name follower. AsksVoted view (first_entry part.entry entry) follower
    (record { from = from; shard = shard; answered = entry; case = case; part = part; delivers = ap (λ n. Deliver from (PrepareAck shard n entry)) (sym at); is_open = opened; is = refl })))
sending_by tests version node input out (Acknowledges from shard epoch slot txn case part view opened at follows voted coordinator goes) = goes_on-why node _ _ node.coordinator txn _ _ coordinator goes (λ o s. absurd s)
sending_by tests version node input out (Changes from config newer) = ask_leader-why node _ _ node.coordinator config
sending_by tests version node input out (Learns from config coordinator sent stage asked sees hears) =
    each-both (Why node _ _) sent asked (each-sees (Why node _ _) node.coordinator config coordinator sent sees (ask_leader-why node _ _ node.coordinator config))
    (each-hears (Why node _ _) node.name config _ node.prober stage asked hears (λ name epoch. Says _ tt) (Says _ tt))
sending_by tests version node input out (Accepts from epoch entry follows at taken) = each-one (Why node _ _) _
    (subst (λ n. Sending node (Deliver from (Accept epoch entry)) (record node { rows = accepted node.rows entry }) from (AcceptAck node.shard n entry.slot entry.txn)) at
    (Holds entry.slot entry.txn follows refl (accepted-has node.rows entry)))
sending_by tests version node input out (Promises from epoch l) = each-one (Why node _ _) _ (Says _ tt)
sending_by tests version node input out (Chooses from state shard want epoch probed low e a l) = each-one (Why node _ _) _ (Says _ tt)
sending_by tests version node input out (Leads from config shard role promised leader) =
    each-state (Why node _ _) version config node.rows (λ name. SendsWhole becomes) (λ name k s. (let r : (1 ≤ k) × (k < 1 + piece_count node.rows) = range-StandsIn 1 (piece_count node.rows) k s in SendsPiece becomes k r.0 (omega (arith, r.1))))
  where
    becomes : BecomesLeader node (Deliver from (NewConfig config)) (record node { role = Leader config; state = config.epoch })
    becomes = record { from = from; config = config; delivers = refl; shard = shard; role = role; promised = promised; leader = leader; is = refl }
sending_by tests version node input out _ = λ o s. absurd s
