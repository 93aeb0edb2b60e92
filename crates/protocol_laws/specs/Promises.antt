-- What a run under the limit promises, whether it goes on or has ended.
use Rattle.std.specs.Prelude.{◌≡◌, ℕ, true, List, [], ◌∷◌, ◌++◌}
use Rattle.tcs_terms.specs.declared.ids.TxId.{TxId}
use Rattle.tcs_terms.specs.declared.inputs.Event.{Event}
use Rattle.tcs_terms.specs.declared.inputs.Note.{Note}
use Rattle.tcs_terms.specs.declared.inputs.Note.TheVariants.{Decide}
use Rattle.tcs_terms.specs.declared.votes.Cause.TheVariants.{Lost}
use Rattle.tcs_terms.specs.declared.votes.Decision.TheVariants.{Abort}
use Rattle.tcs_terms.specs.Setups.{Deployment}
use Rattle.tcs_laws.specs.Certification.{Tests}
use Rattle.tcs_laws.specs.Laws.{ChecksReads, OrdersWrites}
use Rattle.protocol.specs.CorrectHistory.{IsCorrect}
use Rattle.protocol.specs.FoundNothing.{found_nothing}
use Rattle.protocol.specs.Invariant.{InvariantHolds}
use Rattle.protocol.specs.Invariant.Time.{StandsIn, time_after}
use Rattle.protocol.specs.Limit.{Progress, Answer, limited_run, limited_step}
use Rattle.protocol.specs.Limit.Answer.{Happens, SoupFull}
use Rattle.protocol.specs.Limit.Progress.{Live, Ended}
use Rattle.protocol.specs.OneCopy.{is_honest, is_one_copy}
use Rattle.protocol.specs.World.{World}
use Rattle.protocol_laws.specs.Rising.{VersionsRise}
use Rattle.protocol_laws.specs.Told.{ToldRightly}

-- the world of a run: while it is live the whole of it, afterwards what remains
abbrev pub world_of : Progress → World
world_of (Live w count bytes) = w
world_of (Ended w count bytes) = w

-- what a step notes
abbrev pub noted : Answer → List Note
noted (Happens result notes sent) = notes
noted (SoupFull bytes) = []

-- Where the step of an event notes the decision to abort a transaction as lost in a shard, some event before it, or it
-- itself, delivered a take-over's PREPARE that found nothing of the transaction there.
abbrev pub LossesWereFound : Tests → Deployment → List Event → Type 0
LossesWereFound tests setup events = (front : List Event) (event : Event) (back : List Event) (txn : TxId) (shard : ℕ) → events ≡ front ++ (event ∷ back)
    → StandsIn (Decide txn (Abort shard Lost)) (noted (limited_step tests setup.version (limited_run tests setup front) event).answer)
    → found_nothing tests setup (front ++ event ∷ []) txn shard ≡ true

-- a world is that of the run after these events, and the invariant holds there
pub record HoldsAfter (tests : Tests) (setup : Deployment) (events : List Event) (w : World) : Type 0 where
  pub now : (time_after tests setup events).now ≡ w
  pub holds : InvariantHolds tests setup (time_after tests setup events)

-- the invariant holds while the run is live
abbrev pub HoldsWhileLive : Tests → Deployment → List Event → Progress → Type 0
HoldsWhileLive tests setup events (Live w count bytes) = HoldsAfter tests setup events w
HoldsWhileLive tests setup events (Ended w count bytes) = Unit {0}

-- The history is correct; whatever tells a decision tells one that was taken; what was lost had been found missing by
-- then; commit versions rise, by a certifier that orders writes; there is one copy of the data, by one that checks reads,
-- where reads were honest; and the invariant holds while the run is live.
pub record KeepsItsPromises (tests : Tests) (setup : Deployment) (events : List Event) (progress : Progress) : Type 0 where
  pub correct : IsCorrect tests setup.shards (world_of progress).history
  pub told : ToldRightly (world_of progress)
  pub losses : LossesWereFound tests setup events
  pub versions : OrdersWrites tests → VersionsRise (world_of progress).history
  pub one_copy : ChecksReads tests → is_honest (world_of progress).history ≡ true → is_one_copy (world_of progress).history ≡ true
  pub invariant : HoldsWhileLive tests setup events progress
