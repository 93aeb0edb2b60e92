-- Whoever moves a shard to a new epoch does it where all epochs below are stored.
use Rattle.std.specs.Prelude.{◌≡◌, ℕ, ◌<◌, ◌≤◌}
use Rattle.tcs_terms.specs.Places.{Membership}
use Rattle.protocol.specs.Invariant.Time.{StandsIn}
use Rattle.protocol.specs.Records.{Stage}
use Rattle.protocol.specs.Records.Stage.{Idle, AskedLast, Probing, AskedLower, CasSent}
use Rattle.protocol.specs.World.{World}

-- a configuration of that epoch of the shard is stored
pub record IsStoredAt (w : World) (shard epoch : ℕ) : Type 0 where
  pub config : Membership
  pub stored : StandsIn config w.configs
  pub of_shard : config.shard ≡ shard
  pub of_epoch : config.epoch ≡ epoch

-- each epoch below is stored
abbrev pub AreStoredBelow : World → ℕ → ℕ → Type 0
AreStoredBelow w shard epoch = (q : ℕ) → 1 ≤ q → q < epoch → IsStoredAt w shard q

-- the epochs below the one that a stage is to make
abbrev pub StandsOnStored : World → Stage → Type 0
StandsOnStored w Idle = Unit {0}
StandsOnStored w (AskedLast shard want) = Unit {0}
StandsOnStored w (Probing shard want epoch probed low) = AreStoredBelow w shard epoch
StandsOnStored w (AskedLower shard want epoch asked) = AreStoredBelow w shard epoch
StandsOnStored w (CasSent config) = AreStoredBelow w config.shard config.epoch
