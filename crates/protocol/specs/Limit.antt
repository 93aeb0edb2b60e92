-- The limit on a run's messages: their frames have at most 268,435,456 bytes together.
use Rattle.std.specs.Prelude.{ℕ, ◌+◌, nat_lt, List, [], length, fold, sum_by}
use Rattle.tcs_terms.specs.declared.inputs.Event.{Event}
use Rattle.tcs_terms.specs.declared.inputs.Note.{Note}
use Rattle.tcs_terms.specs.declared.inputs.Result1.{Result1}
use Rattle.tcs_terms.specs.Setups.{Deployment}
use Rattle.tcs_laws.specs.Certification.{Tests}
use Rattle.wire_frame.specs.Spelling.{spell}
use Rattle.protocol.specs.Choices.{when}
use Rattle.protocol.specs.World.{World, Sent, Happening, first_world, world_step}

-- A world with the number of its events, the sum of its frame bytes, and whether it has ended. A world ends with the
-- event whose sends would bring the sum above the limit.
pub data Progress : Type 0 where
  Live : (world : World) → (events : ℕ) → (bytes : ℕ) → Progress
  Ended : (world : World) → (events : ℕ) → (bytes : ℕ) → Progress

-- what a step answers: what happened, or that the soup of messages is full, with the sum that would be
pub data Answer : Type 0 where
  Happens : (result : Result1) → (notes : List Note) → (sent : List Sent) → Answer
  SoupFull : (bytes : ℕ) → Answer

-- an answer, and the run after it
pub record Step : Type 0 where
  pub answer : Answer
  pub after : Progress

-- the bytes of these messages' frames
abbrev pub frame_bytes : List Sent → ℕ
frame_bytes sent = sum_by (λ s. length (spell s.message)) sent

-- an ended world keeps its messages, its history and its stopped nodes alone
abbrev pub remains : World → World
remains w = record { nodes = []; configs = []; messages = w.messages; stopped = w.stopped; history = w.history }

-- the run goes on
abbrev pub goes_on : Happening → ℕ → ℕ → Step
goes_on h events bytes = record { answer = Happens h.result h.notes h.sent; after = Live h.after (events + 1) bytes }

-- the run ends
abbrev pub ends : World → ℕ → ℕ → Step
ends w events bytes = record { answer = SoupFull bytes; after = Ended (remains w) events bytes }

-- the limit, opened only where a run comes near it
unfoldable pub frame_limit : ℕ
frame_limit = 268435456

-- the run goes on while the sum is within the limit
abbrev pub limited : World → ℕ → ℕ → Happening → Step
limited w events bytes h = when (nat_lt frame_limit bytes) (ends w events bytes) (goes_on h events bytes)

-- one event under the limit; in an ended world each event has the same answer
unfoldable pub limited_step : Tests → ℕ → Progress → Event → Step
limited_step tests version (Live w events bytes) event =
    let h = world_step tests version w event in
    limited w events (bytes + frame_bytes h.sent) h
limited_step tests version (Ended w events bytes) event =
    record { answer = SoupFull bytes; after = Ended w events bytes }

-- a run under the limit
unfoldable pub limited_run : Tests → Deployment → List Event → Progress
limited_run tests setup events =
    fold (λ p e. (limited_step tests setup.version p e).after) (Live (first_world setup) 0 0) events
