-- One event keeps leader choice.
use Rattle.std.proofs.Common.{◌≡◌, ℕ, true, Some, ◌⊎◌, inl, inr, sym, ◌∙◌, ap, subst, refl}
use Rattle.tcs_terms.specs.declared.inputs.Event.{Event}
use Rattle.tcs_terms.specs.declared.inputs.Input.{Input}
use Rattle.tcs_terms.specs.declared.messages.Message.{Message}
use Rattle.tcs_terms.specs.declared.messages.Message.TheVariants.{Cas}
use Rattle.tcs_terms.specs.Events.{event_fits}
use Rattle.tcs_terms.specs.Places.{Membership}
use Rattle.tcs_terms.specs.Setups.{Deployment}
use Rattle.tcs_laws.specs.Certification.{Tests}
use Rattle.protocol.specs.Records.{NodeRecord}
use Rattle.protocol.specs.World.{Happening}
use Rattle.protocol.specs.Invariant.{InvariantHolds}
use Rattle.protocol.specs.Invariant.Answers.{AnswersHold}
use Rattle.protocol.specs.Invariant.Choice.{IsChosen, StageHolds, ChoiceHolds}
use Rattle.protocol.specs.Invariant.Configurations.{ConfigurationsHold, told_config}
use Rattle.protocol.specs.Invariant.Promises.{PromisesHold}
use Rattle.protocol.specs.Invariant.Time.{Moment, StandsIn, IsNode, IsStored, WasSent, goes_to}
use Rattle.protocol_laws.specs.Change.{Change}
use Rattle.protocol_laws.specs.Change.Change.{Passes, Stops, Acts, AtService}
use Rattle.protocol_laws.specs.Turn.{Turn, Onward}
use Rattle.protocol_laws.proofs.OnwardOf.{onward_of}
use Rattle.protocol_laws.proofs.ConfigurationsInputs.{delivered}
use Rattle.protocol_laws.proofs.ConfigurationsSaid.{Says, is_plain}
use Rattle.protocol_laws.proofs.ConfigurationsSaid.Says.{Plainly, Answers, Tells, Proposes}
use Rattle.protocol_laws.proofs.ConfigurationsStored.{service_stored}
use Rattle.protocol_laws.proofs.ServiceSays.ServiceSays.{TellsStored, TellsChange, Refuses}
use Rattle.protocol_laws.proofs.ProbeAnswersSent.{SentHow, sent_how}
use Rattle.protocol_laws.proofs.ProbeAnswersSent.SentHow.{ByNode, ByService}
use Rattle.protocol_laws.proofs.ChoiceOn.{chosen-on, stage-on}
use Rattle.protocol_laws.proofs.ChoiceStage.{stage_holds}
use Rattle.protocol_laws.proofs.ServiceSays.{ServiceSays}
use Rattle.protocol_laws.proofs.Came.{Acting, node_by}

-- each prober's stage held already, as of the moment before
stages_held : (tests : Tests) (setup : Deployment) (t : Moment) (event : Event) (h : Happening) → InvariantHolds tests setup t → event_fits setup event ≡ true → Change tests setup.version t.now event h
    → (node : NodeRecord) → IsNode (goes_to t h.after) node → StageHolds t node.prober
stages_held tests setup t event h v f change node n = elim (node_by tests setup t event h change node n) [
  | inl k ↦ v.choice.stages node k
  | inr o ↦ (let a : Acting tests setup t event h = o.acting in
      subst (λ m. StageHolds t m.prober) (sym o.is)
      (stage_holds setup t tests setup.version a.node a.input a.out a.effect v.configurations v.answers a.is (λ from m i. delivered setup t a.node.name event a.input a.comes f from m i) (v.choice.stages a.node a.is)))
]

-- each configuration that is stored was stored before, or proposed
stored_how : (tests : Tests) (setup : Deployment) (t : Moment) (event : Event) (h : Happening) → Change tests setup.version t.now event h
    → (c : Membership) → IsStored (goes_to t h.after) c → IsStored t c ⊎ ((from : ℕ) × WasSent t from 0 (Cas c))
stored_how tests setup t event h (Passes e result a) c s = inl s
stored_how tests setup t event h (Stops name) c s = inl s
stored_how tests setup t event h (Acts e name old input out k o there named g x) c s = inl s
stored_how tests setup t event h (AtService number from message sent out e o n x) c s = elim (service_stored _ t.now.configs from message out x c s) [
  | inl q ↦ inl q
  | inr q ↦ inr (from, record { sent = subst (λ m. StandsIn m t.now.messages) (e ∙ ap (λ m. record { from = from; to = 0; message = m }) q) n })
]

said-chosen : (u : Moment) (node kept : NodeRecord) (input : Input) (m : Message) (c : Membership) → StageHolds u kept.prober → Says node kept input m → m ≡ Cas c → IsChosen u c
said-chosen u node kept input m c h (Plainly w p) e = absurd (let x : is_plain (Cas c) ≡ true = subst (λ v. is_plain v ≡ true) e p in cc x)
said-chosen u node kept input m c h (Answers f told i l s r) e = absurd (cc e)
said-chosen u node kept input m c h (Tells w f heard d i k j) e = absurd (let x : told_config (Cas c) ≡ Some d = subst (λ v. told_config v ≡ Some d) e j in cc x)
said-chosen u node kept input m c h (Proposes d p) e = let x : d ≡ c = cc e in subst (λ k. IsChosen u k) x (subst (λ s. StageHolds u s) p h)

how-chosen : (u t : Moment) (from : ℕ) (c : Membership) → ((node : NodeRecord) → IsNode u node → StageHolds u node.prober) → SentHow t u from (Cas c) → IsChosen u c
how-chosen u t from c h (ByNode node kept input n k f s w) = said-chosen u node kept input (Cas c) c (h kept k) w refl
how-chosen u t from c h (ByService w) = absurd (none w refl)
  where
    none : {m : Message} → ServiceSays u.now.configs m → m ≡ Cas c → ⊥
    none (TellsStored d k) e = cc e
    none (TellsChange d k) e = cc e
    none (Refuses kind why mark) e = cc e

-- One event keeps leader choice.
pub choice_kept : (tests : Tests) (setup : Deployment) (t : Moment) (event : Event) (h : Happening) → Turn tests setup t event h → ConfigurationsHold setup (goes_to t h.after) → PromisesHold (goes_to t h.after) → AnswersHold (goes_to t h.after)
    → ChoiceHolds (goes_to t h.after)
choice_kept tests setup t event h turn c p a =
    let u : Moment = goes_to t h.after in
    let o : Onward t u = onward_of tests setup t event h turn in
    let v : ChoiceHolds t = turn.before.choice in
    let stages : ((node : NodeRecord) → IsNode u node → StageHolds u node.prober) = λ node n. stage-on setup t u node.prober c o (stages_held tests setup t event h turn.before turn.fits turn.change node n) in
    record {
      stages = stages;
      stored = λ k s above. elim (stored_how tests setup t event h turn.change k s) [
        | inl q ↦ chosen-on setup t u k c o (v.stored k q above)
        | inr q ↦ chosen-on setup t u k c o (v.proposed q.0 0 k q.1)
      ];
      proposed = λ from to k s. elim (sent_how tests setup t event h turn.change from to (Cas k) s) [
        | inl q ↦ chosen-on setup t u k c o (v.proposed from to k q)
        | inr q ↦ how-chosen u t from k stages q
      ];
    }
