-- Leader choice: what a prober passes over can never be accepted, and whoever is to lead has what was accepted.
use Rattle.std.specs.Prelude.{◌≡◌, ℕ, ◌<◌, ◌≤◌}
use Rattle.tcs_terms.specs.declared.messages.Message.TheVariants.{ProbeAck, Cas}
use Rattle.tcs_terms.specs.Places.{Membership}
use Rattle.protocol.specs.Records.{Stage, NodeRecord}
use Rattle.protocol.specs.Records.Stage.{Idle, AskedLast, Probing, AskedLower, CasSent}
use Rattle.protocol.specs.Invariant.Time.{Moment, StandsIn, IsNode, IsStored, WasSent}
use Rattle.protocol.specs.Invariant.Logs.{Reached, Skipped}

-- a prober at a place, for an epoch to come: the place is below it, and every epoch in between is skipped
pub record StandsAt (t : Moment) (shard epoch place : ℕ) : Type 0 where
  pub some : 1 ≤ place
  pub below : place < epoch
  pub between : (q : ℕ) → place < q → q < epoch → Skipped t shard q

-- a member that is marked low: it is a member of the probed configuration, promised the epoch to come, and never
-- reached the probed one
pub record IsLow (t : Moment) (epoch : ℕ) (probed : Membership) (name : ℕ) : Type 0 where
  pub member : StandsIn name probed.members
  pub node : NodeRecord
  pub is : IsNode t node
  pub named : node.name ≡ name
  pub promised : epoch ≤ node.promised
  pub never : Reached t probed.epoch name → ⊥

-- the leader of a configuration of a later epoch answered with an epoch that it reached, and all in between are skipped
pub record IsChosen (t : Moment) (c : Membership) : Type 0 where
  pub state : ℕ
  pub to : ℕ
  pub some : 1 ≤ state
  pub answered : WasSent t c.leader to (ProbeAck c.epoch state)
  pub between : (q : ℕ) → state < q → q < c.epoch → Skipped t c.shard q

-- while it probes, a prober stands at the probed epoch, and whoever is marked low is; while it asks, at the epoch that
-- it asked for
abbrev pub StageHolds : Moment → Stage → Type 0
StageHolds t Idle = Unit {0}
StageHolds t (AskedLast shard want) = Unit {0}
StageHolds t (Probing shard want epoch probed low) =
    (probed.shard ≡ shard) × StandsAt t shard epoch probed.epoch × ((name : ℕ) → StandsIn name low → IsLow t epoch probed name)
StageHolds t (AskedLower shard want epoch asked) = StandsAt t shard epoch asked
StageHolds t (CasSent config) = IsChosen t config

-- Every prober's stage holds, and every configuration of an epoch above 1 that is stored or proposed is chosen well.
pub record ChoiceHolds (t : Moment) : Type 0 where
  pub stages : (node : NodeRecord) → IsNode t node → StageHolds t node.prober
  pub stored : (c : Membership) → IsStored t c → 1 < c.epoch → IsChosen t c
  pub proposed : (from to : ℕ) (c : Membership) → WasSent t from to (Cas c) → IsChosen t c
