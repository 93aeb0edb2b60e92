-- What was accepted in an earlier epoch is handed on to a new leader.
use Rattle.std.proofs.Common.{◌≡◌, ℕ, ◌<◌, ◌≤◌, List, ◌⊎◌, inl, inr, sym, ◌∙◌, ap, subst, refl, arith}
use Rattle.tcs_terms.specs.declared.inputs.Event.{Event}
use Rattle.tcs_terms.specs.Places.{Membership}
use Rattle.tcs_terms.specs.Preparations.{Preparation}
use Rattle.tcs_terms.specs.Setups.{Deployment}
use Rattle.tcs_laws.specs.Certification.{Tests}
use Rattle.protocol.specs.Invariant.Answers.{AnswerHolds}
use Rattle.protocol.specs.Invariant.Choice.{IsChosen}
use Rattle.protocol.specs.Invariant.Configurations.{ConfigurationsHold}
use Rattle.protocol.specs.Invariant.Logs.{entries_of, Reached, Held, Initial, HasInitial, Skipped}
use Rattle.protocol.specs.Invariant.Promises.{IsMemberAt}
use Rattle.protocol.specs.Invariant.Time.{Moment, goes_to, StandsIn, IsStored}
use Rattle.protocol.specs.Invariant.Transfer.{IsHandedOn}
use Rattle.protocol.specs.Records.{NodeRecord}
use Rattle.protocol.specs.Records.Role.{Leader}
use Rattle.protocol.specs.World.{Happening}
use Rattle.protocol_laws.specs.Turn.{Turn, Onward}
use Rattle.protocol_laws.proofs.Lasting.{one_node, is_in-now, no_more-on, no_more-held, HoldsNoMoreThen, held-back, HoldsNow}
use Rattle.protocol_laws.proofs.Stored.{one_config, stored-some, next_above}
use Rattle.protocol_laws.proofs.Came.{config_back}
use Rattle.protocol_laws.proofs.TransferEnters.{Leading}
use Rattle.protocol_laws.proofs.TransferInitial.{initial_back}

-- what is handed on stays so
handed_still : (setup : Deployment) (t u : Moment) → ConfigurationsHold setup u → Onward t u → (earlier : Membership) (entries : List Preparation) → IsHandedOn t earlier entries → IsHandedOn u earlier entries
handed_still setup t u cu onward earlier entries k =
    let then : HoldsNoMoreThen u earlier.epoch k.node = no_more-on setup t u earlier.epoch k.node cu onward k.is k.no_more in
    record {
      node = then.new;
      is = then.is;
      member = subst (λ n. StandsIn n earlier.members) (sym then.named) k.member;
      no_more = then.no_more;
      inside = λ x held. k.inside x (no_more-held setup t u earlier.epoch k.node x cu onward k.is k.no_more (subst (λ n. Held u earlier.epoch n x) then.named held));
    }

tri : (a b : ℕ) → (a < b) ⊎ (a ≡ b) ⊎ (b < a)
tri a b = grind arith

-- an earlier configuration was stored before
earlier_stored : (tests : Tests) (setup : Deployment) (t : Moment) (event : Event) (h : Happening) → Turn tests setup t event h → (c earlier : Membership) → IsStored t c → IsStored (goes_to t h.after) earlier → earlier.shard ≡ c.shard → earlier.epoch < c.epoch → IsStored t earlier
earlier_stored tests setup t event h turn c earlier cs s e l = elim (config_back tests setup t event h turn earlier s) [
  | inl k ↦ k
  | inr next ↦ absurd (let above : c.epoch < earlier.epoch = next_above setup t turn.before.configurations c earlier cs next (sym e) in omega (arith, above, l))
]

-- a skipped epoch: a member will hold no more there, and held nothing
handed_by_skipped : (setup : Deployment) (t : Moment) → ConfigurationsHold setup t → (earlier : Membership) (entries : List Preparation) → IsStored t earlier → Skipped t earlier.shard earlier.epoch → IsHandedOn t earlier entries
handed_by_skipped setup t ct earlier entries s k =
    let is : k.config ≡ earlier = one_config setup t k.config earlier ct k.stored s k.of_shard k.of_epoch in
    record {
      node = k.node;
      is = k.is;
      member = subst (λ (c : Membership). StandsIn k.node.name c.members) is k.member;
      no_more = inr (k.promised, k.never);
      inside = λ x held. absurd (k.never (record { node = held.node; was = held.was; some = held.some }));
    }

-- what the leader has and is, before it leads
module _ (tests : Tests) (setup : Deployment) (t : Moment) (event : Event) (h : Happening) (turn : Turn tests setup t event h) (cu : ConfigurationsHold setup (goes_to t h.after)) (onward : Onward t (goes_to t h.after)) (c : Membership) (l : Leading t (goes_to t h.after) c) where
  -- the leader answered with its state epoch
  pub leader_state : (k : IsChosen t c) → l.node.state ≡ k.state
  leader_state k =
      let a : AnswerHolds t c.leader c.epoch k.state = turn.before.answers.each c.leader k.to c.epoch k.state k.answered in
      let same : a.node ≡ l.node = one_node setup t a.node l.node turn.before.configurations a.is l.is (a.named ∙ l.leader) in
      ap (λ (n : NodeRecord). n.state) (sym same) ∙ a.fenced (ap (λ (n : NodeRecord). n.role) same ∙ l.role) (ap (λ (n : NodeRecord). n.promised) same ∙ l.promised)

  -- what it held in its state epoch is in its rows
  held_in_rows : (x : Preparation) → Held t l.node.state l.node.name x → StandsIn x (entries_of l.node.rows)
  held_in_rows x held = turn.before.promises.held l.node x l.is held

  -- of its own state epoch, it will hold no more now
  handed_by_leader : (earlier : Membership) → IsStored t earlier → earlier.shard ≡ c.shard → earlier.epoch ≡ l.node.state → IsHandedOn (goes_to t h.after) earlier (entries_of l.node.rows)
  handed_by_leader earlier s e q =
      let one : 1 ≤ l.node.state = subst (λ n. 1 ≤ n) q (stored-some setup t earlier turn.before.configurations s) in
      let m : IsMemberAt t l.node = turn.before.promises.members l.node l.is one in
      let is : m.config ≡ earlier = one_config setup t m.config earlier turn.before.configurations m.stored s (m.shard ∙ sym (e ∙ l.shard)) (m.epoch ∙ sym q) in
      record {
        node = record l.node { role = Leader c; state = c.epoch };
        is = l.there;
        member = subst (λ (d : Membership). StandsIn l.node.name d.members) is m.member;
        no_more = inl (omega (arith, q, l.below));
        inside = λ x held. elim (held-back t (goes_to t h.after) earlier.epoch l.node.name x onward held) [
          | inl k ↦ held_in_rows x (subst (λ n. Held t n l.node.name x) q k)
          | inr k ↦ absurd (not_now k)
        ];
      }
    where
      not_now : {x : Preparation} → HoldsNow (goes_to t h.after) earlier.epoch l.node.name x → ⊥
      not_now k =
          let same : k.node ≡ record l.node { role = Leader c; state = c.epoch } = one_node setup (goes_to t h.after) k.node (record l.node { role = Leader c; state = c.epoch }) cu k.is l.there k.named in
          let state : c.epoch ≡ earlier.epoch = sym (ap (λ (n : NodeRecord). n.state) same) ∙ k.in_epoch in
          omega (arith, state, q, l.below)

  -- of an epoch before that, what was handed on to that epoch is among what the leader has of it
  handed_below : (earlier : Membership) → IsStored t earlier → earlier.shard ≡ c.shard → earlier.epoch < l.node.state → IsHandedOn t earlier (entries_of l.node.rows)
  handed_below earlier s e q =
      let one : 1 ≤ l.node.state = omega (arith, q) in
      let m : IsMemberAt t l.node = turn.before.promises.members l.node l.is one in
      let reached : Reached t m.config.epoch l.node.name = record { node = l.node; was = is_in-now t m.config.epoch l.node.name l.node l.is refl (sym m.epoch); some = subst (λ n. 1 ≤ n) (sym m.epoch) one } in
      let i : HasInitial t m.config = turn.before.transfer.reached_has_initial m.config l.node.name m.stored m.member reached in
      let k : IsHandedOn t earlier i.0 = turn.before.transfer.handed_on m.config earlier i.0 i.1 s (e ∙ (l.shard ∙ sym m.shard)) (subst (λ n. earlier.epoch < n) (sym m.epoch) q) in
      record {
        node = k.node;
        is = k.is;
        member = k.member;
        no_more = k.no_more;
        inside = λ x held. held_in_rows x (subst (λ n. Held t n l.node.name x) m.epoch (turn.before.transfer.at_least m.config l.node.name i.0 x i.1 m.member reached (k.inside x held)));
      }

  pub leads_handed_on : (earlier : Membership) → IsStored (goes_to t h.after) earlier → earlier.shard ≡ c.shard → earlier.epoch < c.epoch → IsHandedOn (goes_to t h.after) earlier (entries_of l.node.rows)
  leads_handed_on earlier su e q = by (tri chosen.state earlier.epoch)
    where
      s : IsStored t earlier
      s = earlier_stored tests setup t event h turn c earlier l.stored su e q

      chosen : IsChosen t c
      chosen = turn.before.choice.stored c l.stored (let one : 1 ≤ earlier.epoch = stored-some setup t earlier turn.before.configurations s in omega (arith, one, q))

      by : (chosen.state < earlier.epoch) ⊎ (chosen.state ≡ earlier.epoch) ⊎ (earlier.epoch < chosen.state) → IsHandedOn (goes_to t h.after) earlier (entries_of l.node.rows)
      by (inl a) = handed_still setup t (goes_to t h.after) cu onward earlier (entries_of l.node.rows)
          (handed_by_skipped setup t turn.before.configurations earlier (entries_of l.node.rows) s (subst (λ n. Skipped t n earlier.epoch) (sym e) (chosen.between earlier.epoch a q)))
      by (inr (inl a)) = handed_by_leader earlier s e (sym a ∙ sym (leader_state chosen))
      by (inr (inr a)) = handed_still setup t (goes_to t h.after) cu onward earlier (entries_of l.node.rows) (handed_below earlier s e (subst (λ n. earlier.epoch < n) (sym (leader_state chosen)) a))

-- each earlier configuration is handed on to one that has its initial entries
pub handed_on_then : (tests : Tests) (setup : Deployment) (t : Moment) (event : Event) (h : Happening) → Turn tests setup t event h → ConfigurationsHold setup (goes_to t h.after) → Onward t (goes_to t h.after)
    → (c earlier : Membership) (entries : List Preparation) → Initial (goes_to t h.after) c entries → IsStored (goes_to t h.after) earlier → earlier.shard ≡ c.shard → earlier.epoch < c.epoch → IsHandedOn (goes_to t h.after) earlier entries
handed_on_then tests setup t event h turn cu onward c earlier entries i s e q = elim (initial_back tests setup t event h turn cu onward c entries i) [
  | inl k ↦ handed_still setup t (goes_to t h.after) cu onward earlier entries (turn.before.transfer.handed_on c earlier entries k (earlier_stored tests setup t event h turn c earlier k.stored s e q) e q)
  | inr k ↦ subst (λ xs. IsHandedOn (goes_to t h.after) earlier xs) (sym k.is) (leads_handed_on tests setup t event h turn cu onward c k.leading earlier s e q)
]
