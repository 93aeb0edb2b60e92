-- Each entry that was lost, wherever it stands, was appended by a PREPARE that found nothing.
use Rattle.std.specs.Prelude.{◌≡◌, ℕ, true, List, Some}
use Rattle.tcs_terms.specs.declared.ids.TxId.{TxId}
use Rattle.tcs_terms.specs.declared.inputs.Event.{Event}
use Rattle.tcs_terms.specs.declared.logs.Row.{Row}
use Rattle.tcs_terms.specs.declared.messages.Message.TheVariants.{PrepareAck, Accept, NewState, StatePiece}
use Rattle.tcs_terms.specs.declared.votes.Vote.TheVariants.{Lost}
use Rattle.tcs_terms.specs.Places.{Membership}
use Rattle.tcs_terms.specs.Preparations.{Preparation}
use Rattle.tcs_terms.specs.Setups.{Deployment}
use Rattle.tcs_laws.specs.Certification.{Tests}
use Rattle.protocol.specs.FoundNothing.{found_nothing}
use Rattle.protocol.specs.Invariant.Time.{StandsIn}
use Rattle.protocol.specs.Records.{Part, Case, NodeRecord}
use Rattle.protocol.specs.World.{World}

-- where the entry was lost, an event delivered a take-over's PREPARE that found nothing of its transaction in the shard
abbrev pub IsFoundMissing : Tests → Deployment → List Event → ℕ → Preparation → Type 0
IsFoundMissing tests setup events shard entry = entry.vote ≡ Lost → found_nothing tests setup events entry.txn shard ≡ true

-- the entries of rows and of cases, and those that messages to nodes tell
pub record LossesWereCaused (tests : Tests) (setup : Deployment) (events : List Event) (w : World) : Type 0 where
  pub rows : (node : NodeRecord) (r : Row) → StandsIn node w.nodes → StandsIn r node.rows → IsFoundMissing tests setup events node.shard r.entry
  pub cases : (node : NodeRecord) (txn : TxId) (case : Case) (p : Part) (entry : Preparation) → StandsIn node w.nodes → StandsIn (txn, case) node.coordinator.cases → StandsIn p case.parts → p.entry ≡ Some entry
      → IsFoundMissing tests setup events p.shard entry
  pub answers : (from : ℕ) (node : NodeRecord) (shard epoch : ℕ) (entry : Preparation) → StandsIn node w.nodes → StandsIn (record { from = from; to = node.name; message = PrepareAck shard epoch entry }) w.messages
      → IsFoundMissing tests setup events shard entry
  pub accepts : (from : ℕ) (node : NodeRecord) (epoch : ℕ) (entry : Preparation) → StandsIn node w.nodes → StandsIn (record { from = from; to = node.name; message = Accept epoch entry }) w.messages
      → IsFoundMissing tests setup events node.shard entry
  pub states : (from : ℕ) (node : NodeRecord) (config : Membership) (rows : List Row) (r : Row) → StandsIn node w.nodes → StandsIn (record { from = from; to = node.name; message = NewState config rows }) w.messages → StandsIn r rows
      → IsFoundMissing tests setup events config.shard r.entry
  pub pieces : (from : ℕ) (node : NodeRecord) (config : Membership) (number pieces : ℕ) (rows : List Row) (r : Row) → StandsIn node w.nodes
      → StandsIn (record { from = from; to = node.name; message = StatePiece config number pieces rows }) w.messages → StandsIn r rows → IsFoundMissing tests setup events config.shard r.entry
