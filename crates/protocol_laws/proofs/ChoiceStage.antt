-- A prober's next stage holds, by what held before.
use Rattle.std.proofs.Common.{◌≡◌, ℕ, ◌<◌, ◌≤◌, ◌-◌, Bool, true, false, cond, List, [], ◌∷◌, ◌++◌, length, ◌⊎◌, inl, inr, sym, subst, refl, arith, ◌==◌, eqb-true}
use Rattle.std.proofs.lemmas.Bool.{eqb-false}
use Rattle.tcs_terms.specs.declared.inputs.Input.{Input}
use Rattle.tcs_terms.specs.declared.inputs.Input.TheVariants as inputs
use Rattle.tcs_terms.specs.declared.messages.Message.{Message}
use Rattle.tcs_terms.specs.declared.messages.Message.TheVariants.{ProbeAck, Stored}
use Rattle.tcs_terms.specs.declared.messages.Outgoing.{Outgoing}
use Rattle.tcs_terms.specs.Places.{Membership, is_among}
use Rattle.tcs_terms.specs.Setups.{Deployment}
use Rattle.tcs_laws.specs.Certification.{Tests}
use Rattle.protocol.specs.Coordination.{add_once}
use Rattle.protocol.specs.Outcomes.{Out}
use Rattle.protocol.specs.Probing.{proposed}
use Rattle.protocol.specs.Records.{Stage, NodeRecord}
use Rattle.protocol.specs.Records.Stage.{Probing}
use Rattle.protocol.specs.Invariant.Answers.{AnswerHolds, AnswersHold}
use Rattle.protocol.specs.Invariant.Choice.{StandsAt, IsLow, IsChosen, StageHolds}
use Rattle.protocol.specs.Invariant.Configurations.{ConfigurationsHold, probed_configs}
use Rattle.protocol.specs.Invariant.Logs.{Reached, Skipped}
use Rattle.protocol.specs.Invariant.Time.{Moment, StandsIn, IsNode, IsStored, WasSent}
use Rattle.protocol.proofs.Lists.{StandsIn-append, among-StandsIn}
use Rattle.protocol_laws.specs.Effect.{Hears, Effect}
use Rattle.protocol_laws.specs.Effect.Hears.{Waits, ProbesLast, ProbesLower, IsDone}
use Rattle.protocol_laws.specs.Effect.Effect.{Rests, Moves, Lowers, Learns, Chooses, FindsLow}
use Rattle.protocol_laws.proofs.ConfigurationsHad.{had}
use Rattle.protocol_laws.proofs.Stored.{stored-some}

-- what a probing stage holds
record ProbesWell (t : Moment) (shard epoch : ℕ) (probed : Membership) (low : List ℕ) : Type 0 where
  stored : IsStored t probed
  of_shard : probed.shard ≡ shard
  at : StandsAt t shard epoch probed.epoch
  lows : (name : ℕ) → StandsIn name low → IsLow t epoch probed name

probes-well : (setup : Deployment) (t : Moment) (node : NodeRecord) (shard : ℕ) (want : List ℕ) (epoch : ℕ) (probed : Membership) (low : List ℕ) → ConfigurationsHold setup t → IsNode t node → StageHolds t node.prober → node.prober ≡ Probing shard want epoch probed low
    → ProbesWell t shard epoch probed low
probes-well setup t node shard want epoch probed low c n h e =
    let k : StageHolds t (Probing shard want epoch probed low) = subst (λ p. StageHolds t p) e h in
    record {
      stored = c.in_nodes node probed n ((had node probed).prober (subst (λ p. StandsIn probed (probed_configs p)) (sym e) (inl refl)));
      of_shard = k.0;
      at = k.1;
      lows = k.2;
    }

-- a low member skips the probed epoch
low-skips : (t : Moment) (shard epoch : ℕ) (probed : Membership) (low : List ℕ) (name : ℕ) → ProbesWell t shard epoch probed low → IsLow t epoch probed name → Skipped t shard probed.epoch
low-skips t shard epoch probed low name w l = record {
  config = probed;
  stored = w.stored;
  of_shard = w.of_shard;
  of_epoch = refl;
  node = l.node;
  is = l.is;
  member = subst (λ m. StandsIn m probed.members) (sym l.named) l.member;
  promised = let below : probed.epoch < epoch = w.at.below in omega (arith, below, l.promised);
  never = λ r. l.never (subst (λ m. Reached t probed.epoch m) l.named r);
}

same_or_above : (p q : ℕ) → p - 1 < q → (q ≡ p) ⊎ (p < q)
same_or_above p q a = go (q == p) refl
  where
    go : (b : Bool) → (q == p) ≡ b → (q ≡ p) ⊎ (p < q)
    go true e = inl (eqb-true q p e)
    go false e = let n : q ≡ p → ⊥ = eqb-false q p e in inr (omega (arith, a, n))

-- one epoch lower, once a member is low
lowers-stands : (t : Moment) (shard epoch : ℕ) (probed : Membership) (low : List ℕ) → ProbesWell t shard epoch probed low → 0 < length low → 1 < probed.epoch → StandsAt t shard epoch (probed.epoch - 1)
lowers-stands t shard epoch probed [] w l p = absurd (omega (arith, l))
lowers-stands t shard epoch probed (name ∷ low) w l p = record {
  some = omega (arith, p);
  below = let below : probed.epoch < epoch = w.at.below in omega (arith, below);
  between = λ q a b. go q a b;
}
  where
    go : (q : ℕ) → probed.epoch - 1 < q → q < epoch → Skipped t shard q
    go q a b = elim (same_or_above probed.epoch q a) [
      | inl e ↦ subst (λ k. Skipped t shard k) (sym e) (low-skips t shard epoch probed (name ∷ low) name w (w.lows name (inl refl)))
      | inr k ↦ w.at.between q k b
    ]

hears-holds : (setup : Deployment) (t : Moment) (me : ℕ) (config : Membership) (view : ℕ) (old new : Stage) (sends : List Outgoing) → ConfigurationsHold setup t → IsStored t config → Hears me config view old new sends → StageHolds t old → StageHolds t new
hears-holds setup t me config view old new sends c s (Waits stage) h = h
hears-holds setup t me config view old new sends c s (ProbesLast shard want e v m) h =
    (e, record { some = stored-some setup t config c s; below = omega arith; between = λ q a b. absurd (omega (arith, a, b)) }, λ name k. absurd k)
hears-holds setup t me config view old new sends c s (ProbesLower shard want epoch asked e q) h =
    (e, subst (λ p. StandsAt t shard epoch p) (sym q) h, λ name k. absurd k)
hears-holds setup t me config view old new sends c s (IsDone kept e q) h = tt

-- a member that answered low is low
answers-low : (t : Moment) (shard epoch : ℕ) (probed : Membership) (low : List ℕ) (from state : ℕ) → ProbesWell t shard epoch probed low → AnswerHolds t from epoch state → is_among probed.members from ≡ true → state < probed.epoch → IsLow t epoch probed from
answers-low t shard epoch probed low from state w a m l = record {
  member = among-StandsIn probed.members from m;
  node = a.node;
  is = a.is;
  named = a.named;
  promised = a.promised;
  never = λ r. a.between probed.epoch l w.at.below r;
}

once-StandsIn : (nodes : List ℕ) (node name : ℕ) → StandsIn name (add_once nodes node) → (name ≡ node) ⊎ StandsIn name nodes
once-StandsIn nodes node name s = go (is_among nodes node) s
  where
    go : (b : Bool) → StandsIn name (cond b nodes (nodes ++ node ∷ [])) → (name ≡ node) ⊎ StandsIn name nodes
    go true k = inr k
    go false k = elim (StandsIn-append nodes (node ∷ []) name k) [ inl a ↦ inr a | inr (inl e) ↦ inl e | inr (inr e) ↦ absurd e ]

finds-low : (t : Moment) (shard : ℕ) (want : List ℕ) (epoch : ℕ) (probed : Membership) (low : List ℕ) (from state : ℕ) → ProbesWell t shard epoch probed low → AnswerHolds t from epoch state → is_among probed.members from ≡ true → state < probed.epoch
    → StageHolds t (Probing shard want epoch probed (add_once low from))
finds-low t shard want epoch probed low from state w a m l = (
  w.of_shard,
  w.at,
  λ name s. elim (once-StandsIn low from name s) [
    | inl e ↦ subst (λ n. IsLow t epoch probed n) (sym e) (answers-low t shard epoch probed low from state w a m l)
    | inr r ↦ w.lows name r
  ],
)

chooses : (t : Moment) (me shard : ℕ) (want : List ℕ) (epoch : ℕ) (probed : Membership) (low : List ℕ) (from state : ℕ) → ProbesWell t shard epoch probed low → WasSent t from me (ProbeAck epoch state) → probed.epoch ≤ state → IsChosen t (proposed me shard epoch want from)
chooses t me shard want epoch probed low from state w s l = record {
  state = state;
  to = me;
  some = let some : 1 ≤ probed.epoch = w.at.some in omega (arith, some, l);
  answered = s;
  between = λ q a b. w.at.between q (omega (arith, l, a)) b;
}

-- the stage after an event holds, as of the moment before it
pub stage_holds : (setup : Deployment) (old : Moment) (tests : Tests) (version : ℕ) (node : NodeRecord) (input : Input) (out : Out NodeRecord) → Effect tests version node input out
    → ConfigurationsHold setup old → AnswersHold old → IsNode old node → ((from : ℕ) (m : Message) → input ≡ inputs.Deliver from m → WasSent old from node.name m) → StageHolds old node.prober → StageHolds old out.kept.prober
stage_holds setup old tests version node input out (Rests i answer notices n) c answers is heard k = k
stage_holds setup old tests version node input out (Moves shard want) c answers is heard k = tt
stage_holds setup old tests version node input out (Lowers shard want epoch probed low e l p) c answers is heard k = lowers-stands old shard epoch probed low (probes-well setup old node shard want epoch probed low c is k e) l p
stage_holds setup old tests version node input out (Learns from config coordinator sent stage asked y h) c answers is heard k = hears-holds setup old node.name config _ node.prober stage asked c (c.in_messages from node.name (Stored config) config (heard from (Stored config) refl) refl) h k
stage_holds setup old tests version node input out (Chooses from told shard want epoch probed low e a l) c answers is heard k = chooses old node.name shard want epoch probed low from told (probes-well setup old node shard want epoch probed low c is k e) (heard from (ProbeAck epoch told) refl) l
stage_holds setup old tests version node input out (FindsLow from told shard want epoch probed low e a l) c answers is heard k = finds-low old shard want epoch probed low from told (probes-well setup old node shard want epoch probed low c is k e) (answers.each from node.name epoch told (heard from (ProbeAck epoch told) refl)) a l
stage_holds setup old tests version node input out _ c answers is heard k = k
