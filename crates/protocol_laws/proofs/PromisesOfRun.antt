-- A run under the limit keeps its promises, whether it goes on or has ended.
use Rattle.std.proofs.Common.{◌≡◌, ◌+◌, Bool, true, List, [], ◌∷◌, ◌++◌, append_assoc, nat_lt, sym, ◌∙◌, ap, subst}
use Rattle.tcs_terms.specs.declared.ids.TxId.{TxId}
use Rattle.tcs_terms.specs.declared.inputs.Event.{Event}
use Rattle.tcs_terms.specs.declared.inputs.Note.{Note}
use Rattle.tcs_terms.specs.declared.inputs.Note.TheVariants.{Decide}
use Rattle.tcs_terms.specs.declared.votes.Cause.TheVariants.{Lost}
use Rattle.tcs_terms.specs.declared.votes.Decision.TheVariants.{Abort}
use Rattle.tcs_terms.specs.Runs.{AreEventsOf}
use Rattle.tcs_terms.specs.Setups.{Deployment}
use Rattle.tcs_terms.proofs.RunLaws.{front_stands}
use Rattle.tcs_laws.specs.Certification.{Tests}
use Rattle.tcs_laws.specs.Laws.{IsLawful}
use Rattle.protocol.proofs.Moments.{time_after-now}
use Rattle.protocol.specs.CorrectHistory.{IsCorrect}
use Rattle.protocol.specs.Invariant.Time.{StandsIn}
use Rattle.protocol.specs.Limit.{Progress, Step, frame_bytes, frame_limit, remains, limited_step, limited_run}
use Rattle.protocol.specs.Limit.Progress.{Live, Ended}
use Rattle.protocol.specs.OneCopy.{is_honest, is_one_copy}
use Rattle.protocol.specs.Run.{run}
use Rattle.protocol.specs.World.{World, Happening, world_step}
use Rattle.protocol_laws.specs.Limits.{LimitHolds}
use Rattle.protocol_laws.specs.Promises.{noted, LossesWereFound, KeepsItsPromises}
use Rattle.protocol_laws.specs.Rising.{VersionsRise}
use Rattle.protocol_laws.specs.Told.{ToldRightly, WasDecided}
use Rattle.protocol_laws.proofs.ChangeOf.{change_of}
use Rattle.protocol_laws.proofs.CopyLaws.{run_is_one_copy, run_versions_rise}
use Rattle.protocol_laws.proofs.Guards.{by_guard}
use Rattle.protocol_laws.proofs.HistoryLaws.{run_is_correct, run_found_nothing}
use Rattle.protocol_laws.proofs.LimitedRuns.{limit_holds, history_grows, run_on}
use Rattle.protocol_laws.proofs.RunInduction.{invariant_at}
use Rattle.protocol_laws.proofs.Standing.{StandsIn-right}
use Rattle.protocol_laws.proofs.ToldAt.{run_tells_rightly}

-- what a step under the limit notes stands in the history of the run with one more event
noted-stands : (tests : Tests) (setup : Deployment) (front : List Event) (event : Event) (n : Note) (p : Progress) → LimitHolds tests setup front p
    → StandsIn n (noted (limited_step tests setup.version p event).answer) → StandsIn n (run tests setup (front ++ event ∷ [])).history
unfolding limited_step
noted-stands tests setup front event n (Live w count bytes) l =
    by_guard {A = Step} (λ step. StandsIn n (noted step.answer) → StandsIn n (run tests setup (front ++ event ∷ [])).history) (nat_lt frame_limit (bytes + frame_bytes (world_step tests setup.version w event).sent))
    (λ passes s. absurd s)
    (λ goes s.
    let h : Happening = world_step tests setup.version w event in
    let there : StandsIn n h.after.history = subst (λ ns. StandsIn n ns) (sym (history_grows tests setup.version w event h (change_of tests setup.version w event))) (StandsIn-right w.history h.notes n s) in
    subst (λ x. StandsIn n x.history) (ap (λ x. (world_step tests setup.version x event).after) l.world ∙ sym (run_on tests setup front event)) there)
noted-stands tests setup front event n (Ended w count bytes) l = λ s. absurd s

losses_found : (tests : Tests) (setup : Deployment) (events : List Event) → AreEventsOf setup events → LossesWereFound tests setup events
losses_found tests setup events a front event back txn shard split s =
    let up_to : AreEventsOf setup (front ++ event ∷ []) = front_stands setup (front ++ event ∷ []) back (subst (λ es. AreEventsOf setup es) (split ∙ sym (append_assoc front (event ∷ []) back)) a) in
    run_found_nothing tests setup (front ++ event ∷ []) up_to txn shard
    (noted-stands tests setup front event (Decide txn (Abort shard Lost)) (limited_run tests setup front) (limit_holds tests setup front) s)

still_decided : (w : World) (txn : TxId) (commit : Bool) → WasDecided w txn commit → WasDecided (remains w) txn commit
still_decided w txn commit d = record { decision = d.decision; noted = d.noted; sense = d.sense }

-- what remains of a world has its messages and its history
what_remains_tells : (w : World) → ToldRightly w → ToldRightly (remains w)
what_remains_tells w t = record {
  decisions = λ from dest epoch slot txn commit s. still_decided w txn commit (t.decisions from dest epoch slot txn commit s);
  outcomes = t.outcomes;
  marks = λ node r commit n s e. absurd n;
  sent = λ from dest c rows r commit s k e. still_decided w r.entry.txn commit (t.sent from dest c rows r commit s k e);
  pieces = λ from dest number pieces c rows r commit s k e. still_decided w r.entry.txn commit (t.pieces from dest number pieces c rows r commit s k e);
  kept = λ node txn decision n s. absurd n;
  found = λ node txn decision n e. absurd n;
}

keeps_promises : (tests : Tests) (setup : Deployment) (events : List Event) → IsLawful tests → AreEventsOf setup events → (p : Progress) → LimitHolds tests setup events p → KeepsItsPromises tests setup events p
keeps_promises tests setup events lawful a (Live w count bytes) l = record {
  correct = subst (λ x. IsCorrect tests setup.shards x.history) (sym l.world) (run_is_correct tests setup events lawful a);
  told = subst ToldRightly (sym l.world) (run_tells_rightly tests setup events a);
  losses = losses_found tests setup events a;
  versions = λ orders. subst (λ x. VersionsRise x.history) (sym l.world) (run_versions_rise tests setup events lawful orders a);
  one_copy = λ checks honest.
      subst (λ x. is_one_copy x.history ≡ true) (sym l.world) (run_is_one_copy tests setup events lawful checks a (subst (λ x. is_honest x.history ≡ true) l.world honest));
  invariant = record { now = time_after-now tests setup events ∙ sym l.world; holds = invariant_at tests setup events a };
}
keeps_promises tests setup events lawful a (Ended w count bytes) l = record {
  correct = subst (λ x. IsCorrect tests setup.shards x.history) (sym l.world) (run_is_correct tests setup l.before lawful before);
  told = subst ToldRightly (sym l.world) (what_remains_tells (run tests setup l.before) (run_tells_rightly tests setup l.before before));
  losses = losses_found tests setup events a;
  versions = λ orders. subst (λ x. VersionsRise x.history) (sym l.world) (run_versions_rise tests setup l.before lawful orders before);
  one_copy = λ checks honest.
      subst (λ x. is_one_copy x.history ≡ true) (sym l.world) (run_is_one_copy tests setup l.before lawful checks before (subst (λ x. is_honest x.history ≡ true) l.world honest));
  invariant = tt;
}
  where
    before : AreEventsOf setup l.before
    before = front_stands setup l.before (l.event ∷ l.after) (subst (λ es. AreEventsOf setup es) l.split a)

pub run_keeps_promises : (tests : Tests) (setup : Deployment) (events : List Event) → IsLawful tests → AreEventsOf setup events → KeepsItsPromises tests setup events (limited_run tests setup events)
run_keeps_promises tests setup events lawful a = keeps_promises tests setup events lawful a (limited_run tests setup events) (limit_holds tests setup events)
