-- Every DECISION that was sent, to whomever, tells a decision that was taken: it is sent by the event that notes it.
use Rattle.std.proofs.Common.{◌≡◌, ℕ, List, [], ◌∷◌, ◌++◌, length, inl, inr, sym, subst, refl}
use Rattle.tcs_terms.specs.declared.ids.TxId.{TxId}
use Rattle.tcs_terms.specs.declared.inputs.Event.{Event}
use Rattle.tcs_terms.specs.declared.inputs.Input.{Input}
use Rattle.tcs_terms.specs.declared.inputs.Note.{Note}
use Rattle.tcs_terms.specs.declared.inputs.Note.TheVariants as notes
use Rattle.tcs_terms.specs.declared.messages.Message.{Message}
use Rattle.tcs_terms.specs.declared.messages.Message.TheVariants.{Prepare, PrepareAck, Accept, AcceptAck, DecisionFor, Probe, ProbeAck, NewConfig, NewState, ConfigChange, Last, At, Cas, Stored, OutcomeOf, Refused, StatePiece}
use Rattle.tcs_terms.specs.declared.messages.Outgoing.{Outgoing}
use Rattle.tcs_terms.specs.declared.votes.Decision.{Decision}
use Rattle.tcs_terms.specs.Places.{Membership}
use Rattle.tcs_laws.specs.Certification.{Tests}
use Rattle.protocol.specs.Cases.{commits, decision_of, send_case}
use Rattle.protocol.specs.ClientRules.{next_txn}
use Rattle.protocol.specs.Coordination.{ask_leader, resend}
use Rattle.protocol.specs.Invariant.Time.{StandsIn}
use Rattle.protocol.specs.Outcomes.{Out}
use Rattle.protocol.specs.Probing.{ask_stage}
use Rattle.protocol.specs.Records.{Case, Coordinator, NodeRecord}
use Rattle.protocol.specs.World.{Happening, Sent, World, sent_by}
use Rattle.protocol_laws.specs.Change.{Change, Passes, Stops, Acts, AtService}
use Rattle.protocol_laws.specs.Effect.{GoesOn, Effect, Rests, Certifies, TakesOver, Nudges, Moves, Lowers, Reads, Asks, AnswersAgain, Appends, Votes, Acknowledges, Changes, Learns, Accepts, Promises, Chooses, Leads}
use Rattle.protocol_laws.proofs.After.{sent-back}
use Rattle.protocol_laws.proofs.Standing.{StandsIn-left, StandsIn-right}
use Rattle.protocol_laws.proofs.ServiceSays.{ServiceSays, service_says}
use Rattle.protocol_laws.proofs.ServiceSays.ServiceSays.{TellsStored, TellsChange, Refuses}
use Rattle.protocol_laws.proofs.Sends.{Each, each-none, each-one, each-both, each-case, each-accept, each-resend, each-ask_leader, each-sees, each-decision, each-goes_on, each-stage, each-hears, each-state, each-notice}

-- a message, where it is a DECISION, tells one that is noted
abbrev TellsNoted : List Note → Message → Type 0
TellsNoted ns (Prepare epoch txn shards part) = Unit {0}
TellsNoted ns (PrepareAck shard epoch entry) = Unit {0}
TellsNoted ns (Accept epoch entry) = Unit {0}
TellsNoted ns (AcceptAck shard epoch slot txn) = Unit {0}
TellsNoted ns (DecisionFor epoch slot txn commit) = (decision : Decision) × StandsIn (notes.Decide txn decision) ns × (commits decision ≡ commit)
TellsNoted ns (Probe epoch) = Unit {0}
TellsNoted ns (ProbeAck epoch state) = Unit {0}
TellsNoted ns (NewConfig config) = Unit {0}
TellsNoted ns (NewState config rows) = Unit {0}
TellsNoted ns (ConfigChange config) = Unit {0}
TellsNoted ns (Last shard) = Unit {0}
TellsNoted ns (At shard epoch) = Unit {0}
TellsNoted ns (Cas config) = Unit {0}
TellsNoted ns (Stored config) = Unit {0}
TellsNoted ns (OutcomeOf txn decision) = Unit {0}
TellsNoted ns (Refused kind why mark) = Unit {0}
TellsNoted ns (StatePiece config number pieces rows) = Unit {0}

-- the same of a message as it is sent
abbrev IsTold : List Note → Outgoing → Type 0
IsTold ns o = TellsNoted ns o.message

case-tells : (ns : List Note) (views : List Membership) (txn : TxId) (case : Case) → Each (IsTold ns) (send_case views txn case)
case-tells ns views txn case = each-case (IsTold ns) views txn case (λ shard v e. tt) (λ p x v node a b c d. tt)

ask_leader-tells : (ns : List Note) (c : Coordinator) (config : Membership) → Each (IsTold ns) (ask_leader c config)
ask_leader-tells ns c config = each-ask_leader (IsTold ns) c config (λ txn case s. tt)

goes_on-tells : (c : Coordinator) (txn : TxId) (case : Case) (sends : List Outgoing) (out : Out Coordinator) → GoesOn c txn case sends out → Each (IsTold out.notes) sends → Each (IsTold out.notes) out.sends
goes_on-tells c txn case sends out g a = each-goes_on (IsTold out.notes) c txn case sends out g a (λ complete noted.
    each-decision (IsTold out.notes) c.views txn case.parts (decision_of case.parts)
    (λ p x v node b d e f. (decision_of case.parts, subst (λ ns. StandsIn (notes.Decide txn (decision_of case.parts)) ns) (sym noted) (inl refl), refl)) tt)

effect-tells : (tests : Tests) (version : ℕ) (node : NodeRecord) (input : Input) (out : Out NodeRecord) → Effect tests version node input out → Each (IsTold out.notes) out.sends
effect-tells tests version node i o (Rests input answer notices h) = each-notice (IsTold []) notices h (λ node kind mark why. tt)
effect-tells tests version node i o (Certifies payload h case e) = case-tells (notes.Begin (next_txn node) payload ∷ []) node.coordinator.views _ case
effect-tells tests version node i o (TakesOver txn row a b c d case e) = case-tells (notes.Take txn ∷ []) node.coordinator.views txn case
effect-tells tests version node i o Nudges =
    each-both (IsTold []) (resend node.coordinator) (ask_stage node.prober) (each-resend (IsTold []) node.coordinator (λ txn case s. case-tells [] node.coordinator.views txn case))
    (each-stage (IsTold []) node.prober (λ node epoch. tt) (λ shard. tt) (λ shard epoch. tt) (λ config e. tt))
effect-tells tests version node i o (Moves shard want) = each-one (IsTold []) _ tt
effect-tells tests version node i o (Lowers shard want epoch probed low a b c) = each-one (IsTold []) _ tt
effect-tells tests version node i o (Reads name a) = λ q s. absurd s
effect-tells tests version node i o (Asks shard) = each-one (IsTold []) _ tt
effect-tells tests version node i o (AnswersAgain from epoch txn shards part row a b c d) = each-one (IsTold []) _ tt
effect-tells tests version node i o (Appends from epoch txn shards part a b c d g entry e) = each-one (IsTold []) _ tt
effect-tells tests version node i o (Votes from shard epoch entry case part view a b c d out g) = goes_on-tells _ _ _ _ out g (each-accept (IsTold out.notes) _ _ view (λ node s. tt))
effect-tells tests version node i o (Acknowledges from shard epoch slot txn case part view a b c d out g) = goes_on-tells _ _ _ _ out g (each-none (IsTold out.notes))
effect-tells tests version node i o (Changes from config a) = ask_leader-tells [] node.coordinator config
effect-tells tests version node i o (Learns from config coordinator sent stage asked a b) =
    each-both (IsTold []) sent asked (each-sees (IsTold []) node.coordinator config coordinator sent a (ask_leader-tells [] node.coordinator config)) (each-hears (IsTold []) node.name config _ node.prober stage asked b (λ node epoch. tt) tt)
effect-tells tests version node i o (Accepts from epoch entry a b t) = each-one (IsTold []) _ tt
effect-tells tests version node i o (Promises from epoch a) = each-one (IsTold []) _ tt
effect-tells tests version node i o (Chooses from state shard want epoch probed low a b c) = each-one (IsTold []) _ tt
effect-tells tests version node i o (Leads from config a b c d) = each-state (IsTold []) version config node.rows (λ node. tt) (λ node k s. tt)
effect-tells tests version node i o _ = λ q s. absurd s

served-tells : (ns : List Note) (kept : List Membership) (m : Message) → ServiceSays kept m → TellsNoted ns m
served-tells ns kept _ (TellsStored c k) = tt
served-tells ns kept _ (TellsChange c k) = tt
served-tells ns kept _ (Refuses kind why mark) = tt

tells-more : (ns ms : List Note) (m : Message) → ((n : Note) → StandsIn n ns → StandsIn n ms) → TellsNoted ns m → TellsNoted ms m
tells-more ns ms (DecisionFor epoch slot txn commit) h t = (t.0, h (notes.Decide txn t.0) t.1, t.2)
tells-more ns ms _ h t = tt

-- every message of a world, where it is a DECISION, tells one of its history
abbrev pub MessagesTell : World → Type 0
MessagesTell w = (s : Sent) → StandsIn s w.messages → TellsNoted w.history s.message

grown-tell : (messages : List Sent) (history : List Note) (from : ℕ) (sends : List Outgoing) (noted : List Note) → ((s : Sent) → StandsIn s messages → TellsNoted history s.message) → Each (IsTold noted) sends
    → (s : Sent) → StandsIn s (messages ++ sent_by from sends) → TellsNoted (history ++ noted) s.message
grown-tell messages history from sends noted old new s h = elim (sent-back messages from sends s h) [
  | inl a ↦ tells-more history (history ++ noted) s.message (λ n k. StandsIn-left history noted n k) (old s a)
  | inr b ↦ subst (λ (x : Sent). TellsNoted (history ++ noted) x.message) (sym b.is) (tells-more noted (history ++ noted) b.outgoing.message (λ n k. StandsIn-right history noted n k) (new b.outgoing b.among))
]

pub messages-tell : (tests : Tests) (version : ℕ) (w : World) (event : Event) (h : Happening) → Change tests version w event h → MessagesTell w → MessagesTell h.after
messages-tell tests version w e h (Passes event result a) m = m
messages-tell tests version w e h (Stops name) m = m
messages-tell tests version w e h (Acts event name node input out comes found s named up effect) m = grown-tell w.messages w.history name out.sends out.notes m (effect-tells tests version node input out effect)
messages-tell tests version w e h (AtService number from message sent out is found s serves) m = grown-tell w.messages w.history 0 out.sends out.notes m (λ o k. served-tells out.notes out.kept o.message (service_says (length w.nodes) w.configs from message out serves o k))
