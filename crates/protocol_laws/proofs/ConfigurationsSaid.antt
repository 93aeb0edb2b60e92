-- What a node says of places in one event, rule by rule.
use Rattle.std.proofs.Common.{◌≡◌, ℕ, Bool, true, false, List, Some, refl, ◌≤◌, None}
use Rattle.tcs_terms.specs.declared.inputs.Input.{Input}
use Rattle.tcs_terms.specs.declared.inputs.Input.TheVariants as inputs
use Rattle.tcs_terms.specs.declared.messages.Message.{Message}
use Rattle.tcs_terms.specs.declared.messages.Message.TheVariants.{Probe, ProbeAck, NewConfig, NewState, Cas, Stored, StatePiece, Prepare, PrepareAck, Accept, AcceptAck, DecisionFor, ConfigChange, Last, At, OutcomeOf, Refused}
use Rattle.tcs_terms.specs.declared.messages.Outgoing.{Outgoing}
use Rattle.tcs_terms.specs.Places.{Membership}
use Rattle.tcs_laws.specs.Certification.{Tests}
use Rattle.protocol.specs.Outcomes.{Out}
use Rattle.protocol.specs.Probing.{ask_stage}
use Rattle.protocol.specs.Records.{Coordinator, NodeRecord, Case}
use Rattle.protocol.specs.Records.Stage.{CasSent}
use Rattle.protocol.specs.ShardRules.{least}
use Rattle.protocol.specs.Invariant.Configurations.{told_config}
use Rattle.protocol_laws.specs.Effect.{Effect, GoesOn}
use Rattle.protocol_laws.specs.Effect.Effect.{Rests, Certifies, TakesOver, Nudges, Moves, Lowers, Asks, AnswersAgain, Appends, Votes, Acknowledges, Changes, Learns, Accepts, Promises, Chooses, Leads}
use Rattle.tcs_terms.specs.declared.ids.TxId.{TxId}
use Rattle.protocol.specs.Cases.{send_case, decision_of}
use Rattle.protocol.specs.Coordination.{resend, ask_leader}
use Rattle.protocol_laws.proofs.Sends.{Each, each-one, each-both, each-case, each-accept, each-resend, each-ask_leader, each-sees, each-decision, each-goes_on, each-stage, each-hears, each-state, each-notice}

-- a message that tells no configuration, proposes none, and answers no probe
abbrev pub is_plain : Message → Bool
is_plain (Prepare epoch txn shards payload) = true
is_plain (PrepareAck shard epoch entry) = true
is_plain (Accept epoch entry) = true
is_plain (AcceptAck shard epoch slot txn) = true
is_plain (DecisionFor epoch slot txn commit) = true
is_plain (Probe epoch) = true
is_plain (ProbeAck epoch state) = false
is_plain (NewConfig config) = false
is_plain (NewState config rows) = false
is_plain (ConfigChange config) = false
is_plain (Last shard) = true
is_plain (At shard epoch) = true
is_plain (Cas config) = false
is_plain (Stored config) = false
is_plain (OutcomeOf txn decision) = true
is_plain (Refused kind why mark) = true
is_plain (StatePiece config piece pieces rows) = false

pub plain-tells : (m : Message) → is_plain m ≡ true → told_config m ≡ None
plain-tells (ProbeAck epoch state) h = absurd (cc h)
plain-tells (NewConfig config) h = absurd (cc h)
plain-tells (NewState config rows) h = absurd (cc h)
plain-tells (ConfigChange config) h = absurd (cc h)
plain-tells (Cas config) h = absurd (cc h)
plain-tells (Stored config) h = absurd (cc h)
plain-tells (StatePiece config piece pieces rows) h = absurd (cc h)
plain-tells _ h = refl

-- What a node says with an input, after which it is `kept`: something plain; its state epoch, to a probe that it promises; a configuration
-- that the input told; or a configuration that it proposes and keeps.
pub data Says (node kept : NodeRecord) (input : Input) : Message → Type 0 where
  Plainly : (m : Message) → is_plain m ≡ true → Says node kept input m
  Answers : (from epoch : ℕ) → input ≡ inputs.Deliver from (Probe epoch) → least node ≤ epoch → kept.state ≡ node.state → kept.promised ≡ epoch → Says node kept input (ProbeAck epoch node.state)
  Tells : (m : Message) (from : ℕ) (heard : Message) (c : Membership) → input ≡ inputs.Deliver from heard → told_config heard ≡ Some c → told_config m ≡ Some c → Says node kept input m
  Proposes : (c : Membership) → kept.prober ≡ CasSent c → Says node kept input (Cas c)

-- the same of a message as it is sent
abbrev Said : NodeRecord → NodeRecord → Input → Outgoing → Type 0
Said node kept input o = Says node kept input o.message

case-said : (node kept : NodeRecord) (input : Input) (views : List Membership) (txn : TxId) (case : Case) → Each (Said node kept input) (send_case views txn case)
case-said node kept input views txn case = each-case (Said node kept input) views txn case (λ shard v e. Plainly _ refl) (λ p x v name a b c d. Plainly _ refl)

ask_leader-said : (node kept : NodeRecord) (input : Input) (c : Coordinator) (config : Membership) → Each (Said node kept input) (ask_leader c config)
ask_leader-said node kept input c config = each-ask_leader (Said node kept input) c config (λ txn case s. Plainly _ refl)

goes_on-said : (node kept : NodeRecord) (input : Input) (c : Coordinator) (txn : TxId) (case : Case) (sends : List Outgoing) (out : Out Coordinator) → GoesOn c txn case sends out → Each (Said node kept input) sends → Each (Said node kept input) out.sends
goes_on-said node kept input c txn case sends out g a = each-goes_on (Said node kept input) c txn case sends out g a (λ complete noted.
    each-decision (Said node kept input) c.views txn case.parts (decision_of case.parts) (λ p x v name b d e f. Plainly _ refl) (Plainly _ refl))

pub says : (tests : Tests) (version : ℕ) (node : NodeRecord) (input : Input) (out : Out NodeRecord) → Effect tests version node input out → Each (Said node out.kept input) out.sends
says tests version node input out (Rests i answer notices n) = each-notice (Said node node i) notices n (λ name kind mark why. Plainly _ refl)
says tests version node input out (Certifies payload n case e) = case-said node out.kept _ node.coordinator.views _ case
says tests version node input out (TakesOver txn row r u n m case e) = case-said node _ _ node.coordinator.views txn case
says tests version node input out Nudges =
    each-both (Said node node inputs.Nudge) (resend node.coordinator) (ask_stage node.prober)
    (each-resend (Said node node inputs.Nudge) node.coordinator (λ txn case s. case-said node node inputs.Nudge node.coordinator.views txn case))
    (each-stage (Said node node inputs.Nudge) node.prober (λ name epoch. Plainly _ refl) (λ shard. Plainly _ refl) (λ shard epoch. Plainly _ refl) (λ config e. Proposes config e))
says tests version node input out (Moves shard want) = each-one (Said node _ _) _ (Plainly _ refl)
says tests version node input out (Lowers shard want epoch probed low e l p) = each-one (Said node _ _) _ (Plainly _ refl)
says tests version node input out (Asks shard) = each-one (Said node _ _) _ (Plainly _ refl)
says tests version node input out (AnswersAgain from epoch txn shards part row l e a r) = each-one (Said node _ _) _ (Plainly _ refl)
says tests version node input out (Appends from epoch txn shards part l e a r f entry n) = each-one (Said node _ _) _ (Plainly _ refl)
says tests version node input out (Votes from shard epoch entry case part view p e l f o g) = goes_on-said node _ _ _ _ _ _ o g (each-accept (Said node _ _) _ _ view (λ name s. Plainly _ refl))
says tests version node input out (Acknowledges from shard epoch slot txn case part view p e l f o g) = goes_on-said node _ _ _ _ _ _ o g (λ q s. absurd s)
says tests version node input out (Changes from config n) = ask_leader-said node _ _ node.coordinator config
says tests version node input out (Learns from config coordinator sent stage asked s h) =
    each-both (Said node _ _) sent asked (each-sees (Said node _ _) node.coordinator config coordinator sent s (ask_leader-said node _ _ node.coordinator config))
    (each-hears (Said node _ _) node.name config _ node.prober stage asked h (λ name epoch. Plainly _ refl) (Tells _ from (Stored config) config refl refl refl))
says tests version node input out (Accepts from epoch entry f e t) = each-one (Said node _ _) _ (Plainly _ refl)
says tests version node input out (Promises from epoch l) = each-one (Said node _ _) _ (Answers from epoch refl l refl refl)
says tests version node input out (Chooses from state shard want epoch probed low e a l) = each-one (Said node _ _) _ (Proposes _ refl)
says tests version node input out (Leads from config s r p l) =
    each-state (Said node _ _) version config node.rows (λ name. Tells _ from (NewConfig config) config refl refl refl) (λ name k s. Tells _ from (NewConfig config) config refl refl refl)
says tests version node input out _ = λ o s. absurd s
