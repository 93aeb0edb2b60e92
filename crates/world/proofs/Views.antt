-- What a world keeps of its run, live or ended.
use Rattle.std.proofs.Common.{◌≡◌, ℕ, Option, Some, None, refl}
use Rattle.protocol.specs.World.{World}
use Rattle.protocol_laws.specs.Promises.{world_of}
use Rattle.world.specs.WorldState.{progress_of, events_of}

pub kept_messages : (full : Option ℕ) (w : World) (events bytes : ℕ) → (world_of (progress_of full w events bytes)).messages ≡ w.messages
kept_messages None w events bytes = refl
kept_messages (Some sum) w events bytes = refl

pub kept_history : (full : Option ℕ) (w : World) (events bytes : ℕ) → (world_of (progress_of full w events bytes)).history ≡ w.history
kept_history None w events bytes = refl
kept_history (Some sum) w events bytes = refl

pub kept_stopped : (full : Option ℕ) (w : World) (events bytes : ℕ) → (world_of (progress_of full w events bytes)).stopped ≡ w.stopped
kept_stopped None w events bytes = refl
kept_stopped (Some sum) w events bytes = refl

pub kept_events : (full : Option ℕ) (w : World) (events bytes : ℕ) → events_of (progress_of full w events bytes) ≡ events
kept_events None w events bytes = refl
kept_events (Some sum) w events bytes = refl
