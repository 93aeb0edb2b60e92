-- One event keeps the whole invariant: each part, given those before it.
use Rattle.tcs_terms.specs.declared.inputs.Event.{Event}
use Rattle.tcs_terms.specs.Setups.{Deployment}
use Rattle.tcs_laws.specs.Certification.{Tests}
use Rattle.protocol.specs.World.{Happening}
use Rattle.protocol.specs.Invariant.{InvariantHolds}
use Rattle.protocol.specs.Invariant.Answers.{AnswersHold}
use Rattle.protocol.specs.Invariant.Choice.{ChoiceHolds}
use Rattle.protocol.specs.Invariant.Configurations.{ConfigurationsHold}
use Rattle.protocol.specs.Invariant.Decisions.{DecisionsHold}
use Rattle.protocol.specs.Invariant.Entries.{EntriesHold}
use Rattle.protocol.specs.Invariant.Promises.{PromisesHold}
use Rattle.protocol.specs.Invariant.Time.{Moment, goes_to}
use Rattle.protocol.specs.Invariant.Transactions.{TransactionsHold}
use Rattle.protocol.specs.Invariant.Transfer.{TransferHolds}
use Rattle.protocol_laws.specs.Turn.{Turn}
use Rattle.protocol_laws.proofs.ChoiceKept.{choice_kept}
use Rattle.protocol_laws.proofs.ConfigurationsKept.{configurations_kept}
use Rattle.protocol_laws.proofs.Decisions.{decisions_kept}
use Rattle.protocol_laws.proofs.EntriesListsKept.{entries_kept}
use Rattle.protocol_laws.proofs.ProbeAnswersKept.{answers_kept}
use Rattle.protocol_laws.proofs.PromisesKept.{promises_kept}
use Rattle.protocol_laws.proofs.Readings.{readings_kept}
use Rattle.protocol_laws.proofs.Transactions.{transactions_kept}
use Rattle.protocol_laws.proofs.TransferKept.{transfer_kept}

pub invariant_kept : (tests : Tests) (setup : Deployment) (t : Moment) (event : Event) (h : Happening) → Turn tests setup t event h → InvariantHolds tests setup (goes_to t h.after)
invariant_kept tests setup t event h turn =
    let configurations : ConfigurationsHold setup (goes_to t h.after) = configurations_kept tests setup t event h turn in
    let promises : PromisesHold (goes_to t h.after) = promises_kept tests setup t event h turn configurations in
    let answers : AnswersHold (goes_to t h.after) = answers_kept tests setup t event h turn configurations promises in
    let choice : ChoiceHolds (goes_to t h.after) = choice_kept tests setup t event h turn configurations promises answers in
    let transfer : TransferHolds (goes_to t h.after) = transfer_kept tests setup t event h turn configurations promises answers choice in
    let entries : EntriesHold tests (goes_to t h.after) = entries_kept tests setup t event h turn configurations promises answers choice transfer in
    let transactions : TransactionsHold setup (goes_to t h.after) = transactions_kept tests setup t event h turn configurations promises answers choice transfer entries in
    let decisions : DecisionsHold setup (goes_to t h.after) = decisions_kept tests setup t event h turn configurations promises answers choice transfer entries transactions in
    record {
      configurations = configurations;
      promises = promises;
      answers = answers;
      choice = choice;
      transfer = transfer;
      entries = entries;
      transactions = transactions;
      decisions = decisions;
      readings = readings_kept tests setup t event h turn configurations promises answers choice transfer entries transactions decisions;
    }
