-- A run of version 2 sends the rows of a leader in pieces, any other whole.
use Rattle.std.proofs.Common.{◌≡◌, ℕ, true, false, ◌==◌, List, [], flat_map, inl, inr}
use Rattle.std.specs.List.{range_with_len}
use Rattle.tcs_terms.specs.declared.ids.TxId.{TxId}
use Rattle.tcs_terms.specs.declared.inputs.Event.{Event}
use Rattle.tcs_terms.specs.declared.inputs.Input.{Input}
use Rattle.tcs_terms.specs.declared.logs.Row.{Row}
use Rattle.tcs_terms.specs.declared.messages.Message.{Message}
use Rattle.tcs_terms.specs.declared.messages.Message.TheVariants.{Prepare, PrepareAck, Accept, AcceptAck, DecisionFor, Probe, ProbeAck, NewConfig, NewState, ConfigChange, Last, At, Cas, Stored, OutcomeOf, Refused, StatePiece}
use Rattle.tcs_terms.specs.declared.messages.Outgoing.{Outgoing}
use Rattle.tcs_terms.specs.Places.{Membership}
use Rattle.tcs_terms.specs.Runs.{AreEventsOf}
use Rattle.tcs_terms.specs.Setups.{Deployment}
use Rattle.tcs_laws.specs.Certification.{Tests}
use Rattle.protocol.specs.Cases.{send_case, decision_of}
use Rattle.protocol.specs.Coordination.{first_entry, resend, ask_leader}
use Rattle.protocol.specs.Outcomes.{Out, to}
use Rattle.protocol.specs.Pieces.{piece_count, piece_of}
use Rattle.protocol.specs.Probing.{ask_stage}
use Rattle.protocol.specs.Records.{Case, Coordinator, NodeRecord}
use Rattle.protocol.specs.ShardRules.{state_to}
use Rattle.protocol.specs.Views.{followers}
use Rattle.protocol.specs.World.{first_world}
use Rattle.protocol.specs.Invariant.Time.{Moment, WasSent, time_after}
use Rattle.protocol_laws.specs.Effect.{Effect, GoesOn}
use Rattle.protocol_laws.specs.Effect.Effect.{Rests, Certifies, TakesOver, Nudges, Moves, Lowers, Asks, AnswersAgain, Appends, Votes, Acknowledges, Changes, Learns, Accepts, Promises, Chooses, Leads}
use Rattle.protocol_laws.proofs.Came.{message_back}
use Rattle.protocol_laws.proofs.Guards.{by_guard}
use Rattle.protocol_laws.proofs.RunInduction.{IsKept, run_induction}
use Rattle.protocol_laws.proofs.Sends.{Each, each-none, each-one, each-both, each-map, each-flat_map, each-case, each-accept, each-resend, each-ask_leader, each-sees, each-decision, each-goes_on, each-stage, each-hears, each-notice}
use Rattle.protocol_laws.proofs.ServiceSays.{ServiceSays}
use Rattle.protocol_laws.proofs.ServiceSays.ServiceSays.{TellsStored, TellsChange, Refuses}

-- whether a run of the version may send a message of its kind
abbrev pub IsOfVersion : ℕ → Message → Type 0
IsOfVersion version (Prepare epoch txn shards payload) = Unit {0}
IsOfVersion version (PrepareAck shard epoch entry) = Unit {0}
IsOfVersion version (Accept epoch entry) = Unit {0}
IsOfVersion version (AcceptAck shard epoch slot txn) = Unit {0}
IsOfVersion version (DecisionFor epoch slot txn commit) = Unit {0}
IsOfVersion version (Probe epoch) = Unit {0}
IsOfVersion version (ProbeAck epoch state) = Unit {0}
IsOfVersion version (NewConfig config) = Unit {0}
IsOfVersion version (NewState config rows) = (version == 2) ≡ false
IsOfVersion version (ConfigChange config) = Unit {0}
IsOfVersion version (Last shard) = Unit {0}
IsOfVersion version (At shard epoch) = Unit {0}
IsOfVersion version (Cas config) = Unit {0}
IsOfVersion version (Stored config) = Unit {0}
IsOfVersion version (OutcomeOf txn decision) = Unit {0}
IsOfVersion version (Refused kind why mark) = Unit {0}
IsOfVersion version (StatePiece config piece pieces rows) = (version == 2) ≡ true

-- the same of a message as it is sent
abbrev Goes : ℕ → Outgoing → Type 0
Goes version o = IsOfVersion version o.message

-- the rows of a leader
state-goes : (version : ℕ) (config : Membership) (rows : List Row) → Each (Goes version) (flat_map (state_to version config rows) (followers config))
unfolding state_to
state-goes version config rows = each-flat_map (Goes version) (state_to version config rows) (followers config) (λ node s.
    by_guard {A = List Outgoing} (Each (Goes version)) (version == 2)
    (λ pieces. each-map (Goes version) (λ k. to node (StatePiece config k (piece_count rows) (piece_of rows k))) (range_with_len 1 (piece_count rows)) (λ k m. pieces))
    (λ whole. each-one (Goes version) (to node (NewState config rows)) whole))

-- a case
case-goes : (version : ℕ) (c : Coordinator) (txn : TxId) (case : Case) → Each (Goes version) (send_case c.views txn case)
case-goes version c txn case = each-case (Goes version) c.views txn case (λ shard v e. tt) (λ p x v node s e q m. tt)

on-goes : (version : ℕ) (c : Coordinator) (txn : TxId) (case : Case) (sends : List Outgoing) (out : Out Coordinator) → GoesOn c txn case sends out → Each (Goes version) sends → Each (Goes version) out.sends
on-goes version c txn case sends out g a =
    each-goes_on (Goes version) c txn case sends out g a (λ complete noted. each-decision (Goes version) c.views txn case.parts (decision_of case.parts) (λ p x v node s e q m. tt) tt)

asks-goes : (version : ℕ) (c : Coordinator) (config : Membership) → Each (Goes version) (ask_leader c config)
asks-goes version c config = each-ask_leader (Goes version) c config (λ txn case s. tt)

-- whatever a node sends
sends-go : (tests : Tests) (version : ℕ) (node : NodeRecord) (input : Input) (out : Out NodeRecord) → Effect tests version node input out → Each (Goes version) out.sends
sends-go tests version node input out (Rests i answer notices n) = each-notice (Goes version) notices n (λ node kind mark why. tt)
sends-go tests version node input out (Certifies payload l case e) = case-goes version node.coordinator _ case
sends-go tests version node input out (TakesOver txn row found undecided none may case e) = case-goes version node.coordinator txn case
sends-go tests version node input out Nudges =
    each-both (Goes version) (resend node.coordinator) (ask_stage node.prober) (each-resend (Goes version) node.coordinator (λ txn case s. case-goes version node.coordinator txn case))
    (each-stage (Goes version) node.prober (λ name epoch. tt) (λ shard. tt) (λ shard epoch. tt) (λ config e. tt))
sends-go tests version node input out (Moves shard want) = each-one (Goes version) _ tt
sends-go tests version node input out (Lowers shard want epoch probed low e p q) = each-one (Goes version) _ tt
sends-go tests version node input out (Asks shard) = each-one (Goes version) _ tt
sends-go tests version node input out (AnswersAgain from epoch txn shards part row leads at among found) = each-one (Goes version) _ tt
sends-go tests version node input out (Appends from epoch txn shards part leads at among found full entry e) = each-one (Goes version) _ tt
sends-go tests version node input out (Votes from shard epoch entry case part view opened at leads fits after g) =
    on-goes version node.coordinator entry.txn _ _ after g (each-accept (Goes version) (first_entry part.entry entry) part.acks view (λ name follower. tt))
sends-go tests version node input out (Acknowledges from shard epoch slot txn case part view opened at follows voted after g) = on-goes version node.coordinator txn _ _ after g (each-none (Goes version))
sends-go tests version node input out (Changes from config newer) = asks-goes version node.coordinator config
sends-go tests version node input out (Learns from config coordinator sent stage asked sees hears) =
    each-both (Goes version) sent asked (each-sees (Goes version) node.coordinator config coordinator sent sees (asks-goes version node.coordinator config))
    (each-hears (Goes version) node.name config _ node.prober stage asked hears (λ name epoch. tt) tt)
sends-go tests version node input out (Accepts from epoch entry follows at taken) = each-one (Goes version) _ tt
sends-go tests version node input out (Promises from epoch l) = each-one (Goes version) _ tt
sends-go tests version node input out (Chooses from state shard want epoch probed low e a l) = each-one (Goes version) _ tt
sends-go tests version node input out (Leads from config shard role promised leader) = state-goes version config node.rows
sends-go tests version node input out _ = each-none (Goes version)

served-goes : (version : ℕ) (kept : List Membership) (m : Message) → ServiceSays kept m → IsOfVersion version m
served-goes version kept _ (TellsStored c s) = tt
served-goes version kept _ (TellsChange c s) = tt
served-goes version kept _ (Refuses kind why mark) = tt

-- all messages of a moment
abbrev pub AllOfVersion : ℕ → Moment → Type 0
AllOfVersion version t = (from dest : ℕ) (m : Message) → WasSent t from dest m → IsOfVersion version m

kinds-kept : (tests : Tests) (setup : Deployment) → IsKept tests setup (AllOfVersion setup.version)
kinds-kept tests setup t event h turn after may k from dest m s = elim (message_back tests setup t event h turn from dest m s) [
  | inl old ↦ k from dest m old
  | inr (inl b) ↦ sends-go tests setup.version b.acting.node b.acting.input b.acting.out b.acting.effect (to dest m) b.among
  | inr (inr says) ↦ served-goes setup.version h.after.configs m says
]

nothing-sent : (setup : Deployment) → AllOfVersion setup.version (record { now = first_world setup; before = [] })
unfolding first_world
nothing-sent setup from dest m s = absurd s.sent

pub sent-of_version : (tests : Tests) (setup : Deployment) (events : List Event) → AreEventsOf setup events → AllOfVersion setup.version (time_after tests setup events)
sent-of_version tests setup events a = run_induction tests setup (AllOfVersion setup.version) (kinds-kept tests setup) (nothing-sent setup) events a
