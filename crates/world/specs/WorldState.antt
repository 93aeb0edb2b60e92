-- What a contract sees of a world, and of what its steps answer.
use Rattle.std.specs.Prelude.{◌≡◌, ℕ, Bool, true, false, length, Option, Some, None, Result, Ok, Err}
use Rattle.tcs_terms.specs.Setups.{Deployment}
use Rattle.protocol.specs.Limit.{Progress, Answer, remains}
use Rattle.protocol.specs.Limit.Progress.{Live, Ended}
use Rattle.protocol.specs.Limit.Answer.{Happens, SoupFull}
use Rattle.protocol.specs.World.{World}
use Rattle.world.specs.declared.happenings.Happening.{Happening}
use Rattle.world.specs.declared.happenings.Stop.{Stop}
use Rattle.world.specs.declared.happenings.Stop.TheVariants as stops

-- the setup, the definition's run under the limit so far, and whether memory ran out
pub record WorldState : Type 0 where
  pub setup : Deployment
  pub progress : Progress
  pub spent : Bool

-- the events of a run so far
abbrev pub events_of : Progress → ℕ
events_of (Live w events bytes) = events
events_of (Ended w events bytes) = events

-- the run: it goes on, or it ended with that sum of frame bytes
abbrev pub progress_of : Option ℕ → World → ℕ → ℕ → Progress
progress_of None w events bytes = Live w events bytes
progress_of (Some sum) w events bytes = Ended (remains w) events sum

-- A step answers what happened, by its result and how many notes and messages there are, or the sum of a full soup; want
-- of memory is free.
abbrev pub Tells : Result Happening Stop → Answer → Type 0
Tells (Ok h) (Happens result notes sent) = (h.result ≡ result) × (h.notes ≡ length notes) × (h.sent ≡ length sent)
Tells (Ok h) (SoupFull bytes) = ⊥
Tells (Err (stops.SoupFull sum)) (Happens result notes sent) = ⊥
Tells (Err (stops.SoupFull sum)) (SoupFull bytes) = sum ≡ bytes
Tells (Err stops.OutOfMemory) answer = Unit {0}

-- whether memory ran out
abbrev pub is_memory : Result Happening Stop → Bool
is_memory (Ok h) = false
is_memory (Err (stops.SoupFull sum)) = false
is_memory (Err stops.OutOfMemory) = true
