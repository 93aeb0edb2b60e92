-- What holds at each moment of each run. It is the inductive fact behind agreement and legality (after Bravo and
-- Gotsman, PODC 2019, in outline).
pub mod Time
pub mod Logs
pub mod Configurations
pub mod Promises
pub mod Answers
pub mod Choice
pub mod Transfer
pub mod Entries
pub mod Transactions
pub mod Decisions
pub mod Readings
use Rattle.std.specs.Prelude.{ℕ}
use Rattle.tcs_terms.specs.Setups.{Deployment}
use Rattle.tcs_laws.specs.Certification.{Tests}
use Rattle.protocol.specs.Invariant.Time.{Moment}
use Rattle.protocol.specs.Invariant.Configurations.{ConfigurationsHold}
use Rattle.protocol.specs.Invariant.Promises.{PromisesHold}
use Rattle.protocol.specs.Invariant.Answers.{AnswersHold}
use Rattle.protocol.specs.Invariant.Choice.{ChoiceHolds}
use Rattle.protocol.specs.Invariant.Transfer.{TransferHolds}
use Rattle.protocol.specs.Invariant.Entries.{EntriesHold}
use Rattle.protocol.specs.Invariant.Transactions.{TransactionsHold}
use Rattle.protocol.specs.Invariant.Decisions.{DecisionsHold}
use Rattle.protocol.specs.Invariant.Readings.{ReadingsHold}

-- All eight parts, and what readings tell, at a moment of a run of the setup.
pub record InvariantHolds (tests : Tests) (setup : Deployment) (t : Moment) : Type 0 where
  pub configurations : ConfigurationsHold setup t
  pub promises : PromisesHold t
  pub answers : AnswersHold t
  pub choice : ChoiceHolds t
  pub transfer : TransferHolds t
  pub entries : EntriesHold tests t
  pub transactions : TransactionsHold setup t
  pub decisions : DecisionsHold setup t
  pub readings : ReadingsHold t
