-- At the end of each run: what the past worlds say, what stands behind each decision, and that payloads began.
use Rattle.std.proofs.Common.{◌≡◌, List, [], ◌∷◌, ◌++◌, refl}
use Rattle.tcs_terms.specs.declared.ids.TxId.{TxId}
use Rattle.tcs_terms.specs.declared.inputs.Event.{Event}
use Rattle.tcs_terms.specs.declared.inputs.Note.{Note}
use Rattle.tcs_terms.specs.declared.inputs.Note.TheVariants.{Decide}
use Rattle.tcs_terms.specs.declared.votes.Decision.{Decision}
use Rattle.tcs_terms.specs.Runs.{AreEventsOf}
use Rattle.tcs_terms.specs.Setups.{Deployment}
use Rattle.tcs_laws.specs.Certification.{Tests}
use Rattle.protocol.specs.Invariant.{InvariantHolds}
use Rattle.protocol.specs.Invariant.Time.{Moment, goes_to, time_after}
use Rattle.protocol.specs.World.{first_world}
use Rattle.protocol_laws.proofs.CausesNow.{HaveFormed}
use Rattle.protocol_laws.proofs.HistoryKept.{ArePayloads, HistoryHolds, history_kept, payload-begun}
use Rattle.protocol_laws.proofs.OnwardOf.{onward_of}
use Rattle.protocol_laws.proofs.PastKept.{PastHolds, past_kept, past_starts}
use Rattle.protocol_laws.proofs.PayloadsKept.{payloads_kept}
use Rattle.protocol_laws.proofs.RunInduction.{IsKept, invariant_at, run_induction}

-- a moment whose past worlds hold, with what stands behind its decisions
pub record Remembers (tests : Tests) (setup : Deployment) (t : Moment) : Type 0 where
  pub past : PastHolds setup t
  pub history : HistoryHolds tests setup.shards t.now.history

remembers_on : (tests : Tests) (setup : Deployment) → IsKept tests setup (Remembers tests setup)
remembers_on tests setup t event h turn after q r =
    let past : PastHolds setup (goes_to t h.after) = past_kept setup t (goes_to t h.after) (onward_of tests setup t event h turn) after.configurations after.transactions r.past in
    record { past = past; history = history_kept tests setup t event h turn after r.past past r.history }

nothing_decided : (earlier later : List Note) (txn : TxId) (decision : Decision) → [] ≡ earlier ++ (Decide txn decision ∷ later) → ⊥
nothing_decided [] later txn decision e = cc e
nothing_decided (n ∷ ns) later txn decision e = cc e

starts_well : (tests : Tests) (setup : Deployment) → InvariantHolds tests setup (time_after tests setup []) → Remembers tests setup (record { now = first_world setup; before = [] })
unfolding time_after first_world
starts_well tests setup i = record {
  past = past_starts setup (record { now = first_world setup; before = [] }) refl i.configurations i.transactions;
  history = record { each = λ earlier later txn decision e. absurd (nothing_decided earlier later txn decision e) };
}

pub remembers_at : (tests : Tests) (setup : Deployment) (events : List Event) → AreEventsOf setup events → Remembers tests setup (time_after tests setup events)
remembers_at tests setup events a =
    run_induction tests setup (Remembers tests setup) (remembers_on tests setup) (starts_well tests setup (invariant_at tests setup [] (record { deployment = a.deployment; events = tt }))) events a

starts_empty : (setup : Deployment) → ArePayloads (first_world setup).history
unfolding first_world
starts_empty setup = λ txn payload s. absurd s

-- whatever clients began is well formed
pub formed_at : (tests : Tests) (setup : Deployment) (events : List Event) → AreEventsOf setup events → HaveFormed (time_after tests setup events).now.history
formed_at tests setup events a =
    let formed : ArePayloads (time_after tests setup events).now.history =
    run_induction tests setup (λ t. ArePayloads t.now.history)
    (λ t event h turn after stands so_far. payloads_kept tests setup.version t.now event h turn.change stands.event so_far) (starts_empty setup) events a in
    λ txn q e. formed (payload-begun (time_after tests setup events).now.history txn q e).0 q (payload-begun (time_after tests setup events).now.history txn q e).1
