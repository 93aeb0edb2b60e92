-- The laws of histories, at the end of a run.
use Rattle.std.proofs.Common.{◌≡◌, true, List, subst, sym, ℕ}
use Rattle.tcs_terms.specs.declared.inputs.Event.{Event}
use Rattle.tcs_terms.specs.declared.ids.TxId.{TxId}
use Rattle.tcs_terms.specs.declared.inputs.Note.{Note}
use Rattle.tcs_terms.specs.declared.inputs.Note.TheVariants.{Decide}
use Rattle.tcs_terms.specs.declared.votes.Cause.TheVariants.{Lost}
use Rattle.tcs_terms.specs.declared.votes.Decision.TheVariants.{Abort}
use Rattle.tcs_terms.specs.Runs.{AreEventsOf}
use Rattle.tcs_terms.specs.Setups.{Deployment}
use Rattle.tcs_laws.specs.Certification.{Tests}
use Rattle.tcs_laws.specs.Laws.{IsLawful}
use Rattle.protocol.proofs.Moments.{time_after-now}
use Rattle.protocol.specs.CorrectHistory.{agrees, is_legal, keeps_time, names_clashes, names_losses, IsCorrect}
use Rattle.protocol.specs.Invariant.Time.{StandsIn, time_after}
use Rattle.protocol.specs.FoundNothing.{found_nothing}
use Rattle.protocol.specs.Run.{run}
use Rattle.protocol_laws.proofs.AgreesOf.{agrees-of}
use Rattle.protocol_laws.proofs.BegunFirst.{begun_first}
use Rattle.protocol_laws.proofs.CorrectNotes.{history-clashes, history-loses}
use Rattle.protocol_laws.proofs.CorrectOrder.{history-legal}
use Rattle.protocol_laws.proofs.HistoryAt.{formed_at, remembers_at}
use Rattle.protocol_laws.proofs.KeepsTime.{keeps_time-of}
use Rattle.protocol_laws.proofs.RunMoments.{run-found_nothing}

-- what holds of the history at the last moment holds of the run's
pub of_run : (tests : Tests) (setup : Deployment) (events : List Event) (P : List Note → Type 0) → P (time_after tests setup events).now.history → P (run tests setup events).history
of_run tests setup events P p = subst (λ w. P w.history) (time_after-now tests setup events) p

pub run_agrees : (tests : Tests) (setup : Deployment) (events : List Event) → AreEventsOf setup events → agrees (run tests setup events).history ≡ true
run_agrees tests setup events a =
    of_run tests setup events (λ h. agrees h ≡ true) (agrees-of tests setup.shards (time_after tests setup events).now.history (remembers_at tests setup events a).history)

pub run_keeps_time : (tests : Tests) (setup : Deployment) (events : List Event) → AreEventsOf setup events → keeps_time (run tests setup events).history ≡ true
run_keeps_time tests setup events a =
    of_run tests setup events (λ h. keeps_time h ≡ true) (keeps_time-of (time_after tests setup events).now.history (begun_first tests setup.shards (time_after tests setup events).now.history (remembers_at tests setup events a).history))

pub run_names_clashes : (tests : Tests) (setup : Deployment) (events : List Event) → IsLawful tests → AreEventsOf setup events → names_clashes tests setup.shards (run tests setup events).history ≡ true
run_names_clashes tests setup events lawful a =
    of_run tests setup events (λ h. names_clashes tests setup.shards h ≡ true) (history-clashes tests setup.shards (time_after tests setup events).now.history lawful (formed_at tests setup events a) (remembers_at tests setup events a).history)

pub run_names_losses : (tests : Tests) (setup : Deployment) (events : List Event) → AreEventsOf setup events → names_losses (run tests setup events).history ≡ true
run_names_losses tests setup events a =
    of_run tests setup events (λ h. names_losses h ≡ true) (history-loses tests setup.shards (time_after tests setup events).now.history (remembers_at tests setup events a).history)

-- of whatever is lost, an event of the run found nothing in the named shard
pub run_found_nothing : (tests : Tests) (setup : Deployment) (events : List Event) → AreEventsOf setup events → (txn : TxId) (shard : ℕ) → StandsIn (Decide txn (Abort shard Lost)) (run tests setup events).history
    → found_nothing tests setup events txn shard ≡ true
run_found_nothing tests setup events a txn shard s =
    run-found_nothing tests setup events txn shard a (subst (λ w. StandsIn (Decide txn (Abort shard Lost)) w.history) (sym (time_after-now tests setup events)) s)

pub run_is_legal : (tests : Tests) (setup : Deployment) (events : List Event) → IsLawful tests → AreEventsOf setup events → is_legal tests (run tests setup events).history ≡ true
run_is_legal tests setup events lawful a =
    of_run tests setup events (λ h. is_legal tests h ≡ true)
    (history-legal tests setup.shards (time_after tests setup events).now.history lawful (formed_at tests setup events a) (remembers_at tests setup events a).history)

pub run_is_correct : (tests : Tests) (setup : Deployment) (events : List Event) → IsLawful tests → AreEventsOf setup events → IsCorrect tests setup.shards (run tests setup events).history
run_is_correct tests setup events lawful a = record {
  agreement = run_agrees tests setup events a;
  legality = run_is_legal tests setup events lawful a;
  real_time = run_keeps_time tests setup events a;
  clash_cause = run_names_clashes tests setup events lawful a;
  lost_cause = run_names_losses tests setup events a;
}
