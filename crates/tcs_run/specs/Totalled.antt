-- What the command `totals` does.
use Rattle.std.specs.Prelude.{◌≡◌, ◌⊎◌, ℕ, List, IsTrue, Option}
use Rattle.tcs_terms.specs.declared.inputs.Event.{Event}
use Rattle.tcs_terms.specs.declared.setups.Rule.TheVariants as rules
use Rattle.tcs_terms.specs.Setups.{Deployment}
use Rattle.text_words.specs.declared.words.Reason.{Reason}
use Rattle.text_words.specs.declared.words.Reason.TheVariants as reasons
use Rattle.schedule_text.specs.declared.reader.LineItem.{LineItem}
use Rattle.schedule_text.specs.Bytes.{IsText, FirstBad}
use Rattle.replay_core.specs.declared.stops.ReplayStop.{ReplayStop}
use Rattle.replay_core.specs.Replays.{FirstFull, WithinOn}
use Rattle.replay_core.specs.Trace.{run_of, is_live}
use Rattle.totals_core.specs.Totalling.{Finishes, Ends, NamesOther}
use Rattle.tcs_run.specs.declared.status.Status.{Status}
use Rattle.tcs_run.specs.declared.status.Status.TheVariants as statuses
use Rattle.tcs_run.specs.Status.{status_of}

-- The source had these bytes, and the sink held those before; this is what they have by now, and the status. `quiet` says
-- that neither counted a fault.
pub record Totalled (bytes before : List ℕ) (left held : Option (List ℕ)) (quiet : Type 0) (status : Status) : Type 0 where
  -- With `Ok` the bytes are the text of a schedule by the rule in which additions commute, they were read to their end, its
  -- run keeps its promises, and the output took the lines of its counters.
  pub whole : status ≡ statuses.Ok → Finishes bytes before left held
  -- With each other status: what was read and written by then. Nothing is written before the input's end.
  pub stopped : (stop : ReplayStop) → status ≡ status_of stop → Ends bytes before left held stop
  -- Which status comes, where no fault is counted and memory does not run out: `Ok` for the text of such a schedule whose run
  -- stays within the limit; line 2 where it names another rule; else the first bad line, or the first event that passes the
  -- limit.
  pub complete : quiet → (d : Deployment) (es : List Event) → IsText bytes d es → d.rule ≡ rules.Commute → IsTrue (is_live (run_of d es))
      → (status ≡ statuses.Ok) ⊎ (status ≡ statuses.OutOfMemory)
  pub other : quiet → NamesOther bytes → (status ≡ statuses.Bad 2 reasons.Word) ⊎ (status ≡ statuses.OutOfMemory)
  pub bad : quiet → (line : ℕ) (reason : Reason) (is : List LineItem) → FirstBad bytes line reason is → WithinOn is
      → (NamesOther bytes → ⊥) → (status ≡ statuses.Bad line reason) ⊎ (status ≡ statuses.OutOfMemory)
  pub full : quiet → (sum : ℕ) (is : List LineItem) → FirstFull bytes sum is
      → (NamesOther bytes → ⊥) → (status ≡ statuses.Full sum) ⊎ (status ≡ statuses.OutOfMemory)
