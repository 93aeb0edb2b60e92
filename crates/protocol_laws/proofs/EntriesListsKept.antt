-- One event keeps the entry lists.
use Rattle.tcs_terms.specs.declared.inputs.Event.{Event}
use Rattle.tcs_terms.specs.Setups.{Deployment}
use Rattle.tcs_laws.specs.Certification.{Tests}
use Rattle.protocol.specs.Invariant.Answers.{AnswersHold}
use Rattle.protocol.specs.Invariant.Choice.{ChoiceHolds}
use Rattle.protocol.specs.Invariant.Configurations.{ConfigurationsHold}
use Rattle.protocol.specs.Invariant.Entries.{EntriesHold}
use Rattle.protocol.specs.Invariant.Promises.{PromisesHold}
use Rattle.protocol.specs.Invariant.Time.{Moment, goes_to}
use Rattle.protocol.specs.Invariant.Transfer.{TransferHolds}
use Rattle.protocol.specs.World.{Happening}
use Rattle.protocol_laws.specs.Turn.{Turn, Onward}
use Rattle.protocol_laws.proofs.EntriesAnswered.{answered_then, accepting_then, acknowledged_then}
use Rattle.protocol_laws.proofs.EntriesAppended.{appended_then}
use Rattle.protocol_laws.proofs.EntriesCasesKept.{cases_then}
use Rattle.protocol_laws.proofs.EntriesListed.{slots_then, txns_then}
use Rattle.protocol_laws.proofs.OnwardOf.{onward_of}

pub entries_kept : (tests : Tests) (setup : Deployment) (t : Moment) (event : Event) (h : Happening) → Turn tests setup t event h
    → ConfigurationsHold setup (goes_to t h.after) → PromisesHold (goes_to t h.after) → AnswersHold (goes_to t h.after) → ChoiceHolds (goes_to t h.after) → TransferHolds (goes_to t h.after) → EntriesHold tests (goes_to t h.after)
entries_kept tests setup t event h turn cu pu answers choice transfer =
    let onward : Onward t (goes_to t h.after) = onward_of tests setup t event h turn in
    record {
      slots = slots_then tests setup t event h turn cu onward pu;
      txns = txns_then tests setup t event h turn cu onward pu;
      appended = appended_then tests setup t event h turn cu onward pu;
      answered = answered_then tests setup t event h turn cu onward;
      accepting = accepting_then tests setup t event h turn cu onward;
      acknowledged = acknowledged_then tests setup t event h turn cu onward;
      cases = λ node txn case n s. (cases_then tests setup t event h turn cu onward node n).each txn case s;
      one_case = λ node n. (cases_then tests setup t event h turn cu onward node n).one;
    }
