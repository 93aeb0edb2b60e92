-- What the command `replay` does.
use Rattle.std.specs.Prelude.{◌≡◌, ◌⊎◌, ℕ, List, IsTrue, Option}
use Rattle.tcs_terms.specs.declared.inputs.Event.{Event}
use Rattle.tcs_terms.specs.Setups.{Deployment}
use Rattle.text_words.specs.declared.words.Reason.{Reason}
use Rattle.schedule_text.specs.declared.reader.LineItem.{LineItem}
use Rattle.schedule_text.specs.Bytes.{IsText, FirstBad}
use Rattle.replay_core.specs.declared.stops.ReplayStop.{ReplayStop}
use Rattle.replay_core.specs.Replays.{Finishes, Ends, FirstFull, WithinOn}
use Rattle.replay_core.specs.Trace.{run_of, is_live}
use Rattle.tcs_run.specs.declared.status.Status.{Status}
use Rattle.tcs_run.specs.declared.status.Status.TheVariants as statuses
use Rattle.tcs_run.specs.Status.{status_of}

-- The source had these bytes, and the sink held those before; this is what they have by now, and the status. `quiet` says
-- that neither counted a fault.
pub record Replayed (bytes before : List ℕ) (left held : Option (List ℕ)) (quiet : Type 0) (status : Status) : Type 0 where
  -- With `Ok` the bytes are the text of a schedule, they were read to their end, the output took the trace of its run, and
  -- the run keeps its promises.
  pub whole : status ≡ statuses.Ok → Finishes bytes before left held
  -- With each other status: which line was in work, what was read and written by then, that at most 4,097 bytes were read
  -- from that line on, and that the run so far keeps its promises.
  pub stopped : (stop : ReplayStop) → status ≡ status_of stop → Ends bytes before left held stop
  -- Which status comes, where no fault is counted and memory does not run out: `Ok` for the text of a schedule whose run
  -- stays within the limit, the first bad line, or the first event that passes the limit.
  pub complete : quiet → (d : Deployment) (es : List Event) → IsText bytes d es → IsTrue (is_live (run_of d es))
      → (status ≡ statuses.Ok) ⊎ (status ≡ statuses.OutOfMemory)
  pub bad : quiet → (line : ℕ) (reason : Reason) (is : List LineItem) → FirstBad bytes line reason is → WithinOn is
      → (status ≡ statuses.Bad line reason) ⊎ (status ≡ statuses.OutOfMemory)
  pub full : quiet → (sum : ℕ) (is : List LineItem) → FirstFull bytes sum is
      → (status ≡ statuses.Full sum) ⊎ (status ≡ statuses.OutOfMemory)
