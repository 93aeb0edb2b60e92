-- At the end of each run, whatever tells a decision tells one that was taken.
use Rattle.std.proofs.Common.{◌≡◌, ℕ, Bool, true, false, cond, List, [], ◌∷◌, Some, inl, inr, sym, subst, refl}
use Rattle.std.specs.Map.{lookup}
use Rattle.tcs_terms.specs.declared.ids.TxId.{TxId}
use Rattle.tcs_terms.specs.declared.inputs.Event.{Event}
use Rattle.tcs_terms.specs.declared.inputs.Note.TheVariants.{Decide}
use Rattle.tcs_terms.specs.declared.votes.Decision.{Decision}
use Rattle.tcs_terms.specs.Logs.{same_txn}
use Rattle.tcs_terms.specs.Runs.{AreEventsOf}
use Rattle.tcs_terms.specs.Setups.{Deployment}
use Rattle.tcs_laws.specs.Certification.{Tests}
use Rattle.protocol.specs.Cases.{commits}
use Rattle.protocol.specs.Invariant.{InvariantHolds}
use Rattle.protocol.specs.Invariant.Decisions.{IsBehind}
use Rattle.protocol.specs.Invariant.Time.{Moment, StandsIn, time_after}
use Rattle.protocol.specs.Run.{run}
use Rattle.protocol.specs.World.{first_world}
use Rattle.protocol.proofs.Moments.{time_after-now}
use Rattle.protocol_laws.specs.Told.{ToldRightly, WasDecided}
use Rattle.protocol_laws.proofs.RunInduction.{invariant_at, run_induction}
use Rattle.protocol_laws.proofs.SameTxn.{same_txn-eq}
use Rattle.protocol_laws.proofs.ToldDecisions.{MessagesTell, messages-tell}

nothing_told : (setup : Deployment) → MessagesTell (first_world setup)
unfolding first_world
nothing_told setup s k = absurd k

told_at : (tests : Tests) (setup : Deployment) (events : List Event) → AreEventsOf setup events → MessagesTell (time_after tests setup events).now
told_at tests setup events a =
    run_induction tests setup (λ t. MessagesTell t.now) (λ t event h turn after q m. messages-tell tests setup.version t.now event h turn.change m) (nothing_told setup) events a

behind-decided : (t : Moment) (shard epoch slot : ℕ) (txn : TxId) (commit : Bool) → IsBehind t shard epoch slot txn commit → WasDecided t.now txn commit
behind-decided t shard epoch slot txn commit b = record { decision = b.decision; noted = b.noted; sense = b.sense }

-- an outcome that is found when it is looked up is kept
lookup-StandsIn : (outcomes : List (TxId × Decision)) (txn : TxId) (decision : Decision) → lookup (same_txn txn) outcomes ≡ Some decision → StandsIn (txn, decision) outcomes
lookup-StandsIn [] txn decision h = absurd (cc h)
lookup-StandsIn (o ∷ os) txn decision h = go (same_txn txn o.0) refl h (lookup-StandsIn os txn decision)
  where
    go : (b : Bool) → same_txn txn o.0 ≡ b → cond b (Some o.1) (lookup (same_txn txn) os) ≡ Some decision → (lookup (same_txn txn) os ≡ Some decision → StandsIn (txn, decision) os) → StandsIn (txn, decision) (o ∷ os)
    go true e k ih = let t : txn ≡ o.0 = same_txn-eq txn o.0 e in let d : o.1 ≡ decision = cc k in inl (λ i. (t i, sym d i))
    go false e k ih = inr (ih k)

pub run_tells_rightly : (tests : Tests) (setup : Deployment) (events : List Event) → AreEventsOf setup events → ToldRightly (run tests setup events)
run_tells_rightly tests setup events a = subst ToldRightly (time_after-now tests setup events) (record {
  decisions = λ from dest epoch slot txn commit s.
      let d : (decision : Decision) × StandsIn (Decide txn decision) t.now.history × (commits decision ≡ commit) = told_at tests setup events a _ s in
      record { decision = d.0; noted = d.1; sense = d.2 };
  outcomes = λ from dest txn decision s. i.decisions.outcomes from dest txn decision (record { sent = s });
  marks = λ node r commit n s e. behind-decided t _ _ _ _ commit (i.decisions.rows node r n s commit e);
  sent = λ from dest c rows r commit s k e. behind-decided t _ _ _ _ commit (i.decisions.state from dest c rows r (record { sent = s }) k commit e);
  pieces = λ from dest number pieces c rows r commit s k e. behind-decided t _ _ _ _ commit (i.decisions.pieces from dest number pieces c rows r (record { sent = s }) k commit e);
  kept = λ node txn decision n s. i.decisions.kept node txn decision n s;
  found = λ node txn decision n e. i.decisions.kept node txn decision n (lookup-StandsIn node.outcomes txn decision e);
})
  where
    t : Moment
    t = time_after tests setup events

    i : InvariantHolds tests setup (time_after tests setup events)
    i = invariant_at tests setup events a
