-- What follows of versions and of one copy of the data, at the end of a run.
use Rattle.std.proofs.Common.{◌≡◌, true, List, ◌∷◌, ◌++◌, inl, sym, subst, refl}
use Rattle.tcs_terms.specs.declared.inputs.Event.{Event}
use Rattle.tcs_terms.specs.declared.inputs.Note.{Note}
use Rattle.tcs_terms.specs.Runs.{AreEventsOf}
use Rattle.tcs_terms.specs.Setups.{Deployment}
use Rattle.tcs_laws.specs.Certification.{Tests}
use Rattle.tcs_laws.specs.Laws.{ChecksReads, IsLawful, OrdersWrites}
use Rattle.protocol.specs.History.{payloads_of}
use Rattle.protocol.specs.Invariant.Time.{StandsIn, time_after}
use Rattle.protocol.specs.OneCopy.{is_honest, is_one_copy}
use Rattle.protocol.specs.Run.{run}
use Rattle.protocol.specs.World.{first_world}
use Rattle.protocol_laws.specs.Rising.{VersionsRise}
use Rattle.protocol_laws.proofs.CausesNow.{HaveFormed}
use Rattle.protocol_laws.proofs.BegunFirst.{BegunFirst, begun_first}
use Rattle.protocol_laws.proofs.HistoryAt.{formed_at, remembers_at}
use Rattle.protocol_laws.proofs.CopyTells.{TellsWritten}
use Rattle.protocol_laws.proofs.HistoryLaws.{of_run, run_is_legal}
use Rattle.protocol_laws.proofs.LegalOrder.{payloads-append, payloads-first}
use Rattle.protocol_laws.proofs.OneCopyOf.{one_copy-of}
use Rattle.protocol_laws.proofs.RunInduction.{invariant_at}
use Rattle.protocol_laws.proofs.Standing.{StandsIn-right}
use Rattle.protocol_laws.proofs.WritersRise.{IsLegal, rise-in-order}

-- the history of a run is legal, and its payloads are well formed
legal_at : (tests : Tests) (setup : Deployment) (events : List Event) → IsLawful tests → AreEventsOf setup events → IsLegal tests (run tests setup events).history
legal_at tests setup events lawful a = record {
  legal = run_is_legal tests setup events lawful a;
  payloads = of_run tests setup events HaveFormed (formed_at tests setup events a);
}

pub run_versions_rise : (tests : Tests) (setup : Deployment) (events : List Event) → IsLawful tests → OrdersWrites tests → AreEventsOf setup events → VersionsRise (run tests setup events).history
unfolding first_world
run_versions_rise tests setup events lawful o a front x between y back old new name e q r =
    let h : List Note = (run tests setup events).history in
    let there : StandsIn new (payloads_of h (between ++ (y ∷ back))) =
    subst (λ ps. StandsIn new ps) (sym (payloads-append h between (y ∷ back)))
    (StandsIn-right (payloads_of h between) (payloads_of h (y ∷ back)) new (subst (λ ps. StandsIn new ps) (sym (payloads-first h y back new r)) (inl refl))) in
    rise-in-order tests h front x (between ++ (y ∷ back)) old new name o (legal_at tests setup events lawful a) e q there

pub run_is_one_copy : (tests : Tests) (setup : Deployment) (events : List Event) → IsLawful tests → ChecksReads tests → AreEventsOf setup events
    → is_honest (run tests setup events).history ≡ true → is_one_copy (run tests setup events).history ≡ true
run_is_one_copy tests setup events lawful c a honest =
    one_copy-of tests (run tests setup events).history (legal_at tests setup events lawful a)
    (of_run tests setup events BegunFirst (begun_first tests setup.shards (time_after tests setup events).now.history (remembers_at tests setup events a).history))
    (of_run tests setup events TellsWritten (invariant_at tests setup events a).readings.each) c honest
