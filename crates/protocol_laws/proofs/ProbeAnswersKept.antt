-- One event keeps the answers to probes.
use Rattle.std.proofs.Common.{◌≡◌, ℕ, ◌<◌, ◌≤◌, true, Some, ◌⊎◌, inl, inr, sym, ◌∙◌, ap, subst, refl, arith}
use Rattle.tcs_terms.specs.declared.inputs.Event.{Event}
use Rattle.tcs_terms.specs.declared.messages.Message.{Message}
use Rattle.tcs_terms.specs.declared.messages.Message.TheVariants.{ProbeAck}
use Rattle.tcs_terms.specs.Setups.{Deployment}
use Rattle.tcs_laws.specs.Certification.{Tests}
use Rattle.protocol.specs.Records.{Role, NodeRecord}
use Rattle.protocol.specs.Records.Role.{Fenced}
use Rattle.protocol.specs.ShardRules.{least}
use Rattle.protocol.specs.World.{Happening}
use Rattle.protocol.specs.Invariant.Answers.{AnswerHolds, AnswersHold}
use Rattle.protocol.specs.Invariant.Configurations.{ConfigurationsHold, told_config}
use Rattle.protocol.specs.Invariant.Logs.{Reached}
use Rattle.protocol.specs.Invariant.Promises.{PromisesHold, FitsRole}
use Rattle.protocol.specs.Invariant.Time.{Moment, IsNode, goes_to}
use Rattle.protocol_laws.specs.Turn.{Turn, Grows, GrewTo, Onward}
use Rattle.protocol_laws.proofs.Lasting.{one_node, reached-back}
use Rattle.protocol_laws.proofs.OnwardOf.{onward_of}
use Rattle.protocol_laws.proofs.ConfigurationsSaid.{Says, is_plain}
use Rattle.protocol_laws.proofs.ConfigurationsSaid.Says.{Plainly, Answers, Tells, Proposes}
use Rattle.protocol_laws.proofs.ServiceSays.ServiceSays.{TellsStored, TellsChange, Refuses}
use Rattle.protocol_laws.proofs.ProbeAnswersSent.{SentHow, sent_how}
use Rattle.protocol_laws.proofs.ProbeAnswersSent.SentHow.{ByNode, ByService}
use Rattle.protocol_laws.proofs.ServiceSays.{ServiceSays}

-- a fenced node's state epoch is below its promise, unless it promised nothing
fenced-low : (node : NodeRecord) (role : Role) → FitsRole node role → role ≡ Fenced → (node.state < node.promised) ⊎ (node.promised ≡ 0)
fenced-low node role f e = elim (subst (λ r. FitsRole node r) e f) [ inl l ↦ inl l | inr z ↦ inr z.1 ]

-- where the node that answered is afterwards
after_epoch : (old new : NodeRecord) (epoch state : ℕ) → Grows old new → epoch ≤ old.promised → (old.state ≡ state) ⊎ (epoch ≤ old.state) → (new.state ≡ state) ⊎ (epoch ≤ new.state)
after_epoch old new epoch state g p a = elim g.state [
  | inl e ↦ elim a [ inl s ↦ inl (e ∙ s) | inr l ↦ inr (omega (arith, e, l)) ]
  | inr l ↦ inr (omega (arith, l, p))
]

-- an earlier answer holds still
answer-on : (setup : Deployment) (t u : Moment) (from epoch state : ℕ) → ConfigurationsHold setup u → PromisesHold u → Onward t u → AnswerHolds t from epoch state → AnswerHolds u from epoch state
answer-on setup t u from epoch state c p o a =
    let g : GrewTo u a.node = o.forth a.node a.is in
    let after : (g.new.state ≡ state) ⊎ (epoch ≤ g.new.state) = after_epoch a.node g.new epoch state g.grows a.promised a.after in
    record {
      node = g.new;
      is = g.is;
      named = g.grows.name ∙ a.named;
      lower = a.lower;
      promised = omega (arith, a.promised, g.grows.promised);
      between = λ q l m r. elim (reached-back t u q from o r) [
        | inl x ↦ a.between q l m x
        | inr x ↦ (let s : x.node ≡ g.new = one_node setup u x.node g.new c x.is g.is (x.named ∙ sym (g.grows.name ∙ a.named)) in
            let e : g.new.state ≡ q = ap (λ n. n.state) (sym s) ∙ x.in_epoch in
            apart q g.new after e l m)
      ];
      after = after;
      fenced = λ f e. elim after [
        | inl s ↦ s
        | inr l ↦ elim (fenced-low g.new g.new.role (p.roles g.new g.is) f) [
          | inl k ↦ absurd (omega (arith, k, l, e))
          | inr z ↦ absurd (let low : state < epoch = a.lower in omega (arith, z, e, low))
        ]
      ];
    }
  where
    apart : (q : ℕ) (new : NodeRecord) → (new.state ≡ state) ⊎ (epoch ≤ new.state) → new.state ≡ q → state < q → q < epoch → ⊥
    apart q new (inl s) e l m = omega (arith, s, e, l)
    apart q new (inr k) e l m = omega (arith, k, e, m)

-- a new answer holds
answer-new : (u : Moment) (from epoch state : ℕ) (node kept : NodeRecord) → PromisesHold u → IsNode u kept → kept.name ≡ from → least node ≤ epoch → kept.state ≡ node.state → kept.promised ≡ epoch → state ≡ node.state → AnswerHolds u from epoch state
answer-new u from epoch state node kept p k n l s e m = record {
  node = kept;
  is = k;
  named = n;
  lower = omega (arith, l, m);
  promised = omega (arith, e);
  between = λ q a b r. absurd (let z : q ≤ kept.state = p.reached kept q k (subst (λ x. Reached u q x) (sym n) r) in omega (arith, z, s, m, a));
  after = inl (s ∙ sym m);
  fenced = λ f x. s ∙ sym m;
}

said-answers : (u : Moment) (from epoch state : ℕ) (node kept : NodeRecord) (input : _) (m : Message) → PromisesHold u → IsNode u kept → kept.name ≡ from → Says node kept input m → m ≡ ProbeAck epoch state → AnswerHolds u from epoch state
said-answers u from epoch state node kept input m p k n (Plainly w h) e = absurd (let x : is_plain (ProbeAck epoch state) ≡ true = subst (λ v. is_plain v ≡ true) e h in cc x)
said-answers u from epoch state node kept input m p k n (Answers f told i l s r) e = answer-new u from epoch state node kept p k n (omega (arith, l, (let x : told ≡ epoch = cc e in x))) s (r ∙ (let x : told ≡ epoch = cc e in x)) (cc e)
said-answers u from epoch state node kept input m p k n (Tells w f heard c i h j) e = absurd (let x : told_config (ProbeAck epoch state) ≡ Some c = subst (λ v. told_config v ≡ Some c) e j in cc x)
said-answers u from epoch state node kept input m p k n (Proposes c h) e = absurd (cc e)

how-answers : (t u : Moment) (from epoch state : ℕ) → PromisesHold u → SentHow t u from (ProbeAck epoch state) → AnswerHolds u from epoch state
how-answers t u from epoch state p (ByNode node kept input n k f s w) = said-answers u from epoch state node kept input (ProbeAck epoch state) p k (s ∙ f) w refl
how-answers t u from epoch state p (ByService w) = absurd (none w refl)
  where
    none : {m : Message} → ServiceSays u.now.configs m → m ≡ ProbeAck epoch state → ⊥
    none (TellsStored c k) e = cc e
    none (TellsChange c k) e = cc e
    none (Refuses kind why mark) e = cc e

-- One event keeps the answers to probes.
pub answers_kept : (tests : Tests) (setup : Deployment) (t : Moment) (event : Event) (h : Happening) → Turn tests setup t event h → ConfigurationsHold setup (goes_to t h.after) → PromisesHold (goes_to t h.after) → AnswersHold (goes_to t h.after)
answers_kept tests setup t event h turn c p =
    let u : Moment = goes_to t h.after in
    let o : Onward t u = onward_of tests setup t event h turn in
    record {
      each = λ from to epoch state s. elim (sent_how tests setup t event h turn.change from to (ProbeAck epoch state) s) [
        | inl q ↦ answer-on setup t u from epoch state c p o (turn.before.answers.each from to epoch state q)
        | inr q ↦ how-answers t u from epoch state p q
      ];
    }
