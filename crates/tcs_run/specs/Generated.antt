-- What the commands `gen` and `soak` do: nothing is read.
use Rattle.std.specs.Prelude.{◌≡◌, ◌⊎◌, ℕ, List, Option}
use Rattle.generated_runs.specs.Runs.{KeepsWithin, IsFullAt}
use Rattle.workload.specs.declared.stops.GenStop.{GenStop}
use Rattle.workload.specs.Outcomes.{Writes, Stopped, Tells, SoakStopped}
use Rattle.tcs_run.specs.declared.status.Status.{Status}
use Rattle.tcs_run.specs.declared.status.Status.TheVariants as statuses
use Rattle.tcs_run.specs.Generations.{Seeded}
use Rattle.tcs_run.specs.Status.{status_of_generation}

-- which status comes: `Ok` where no step of the run passes the limit and the sink counts no fault (`quiet`), unless memory
-- runs out; the first step that passes the limit; and none but these and a write fault
pub record Answers (numbers : Seeded) (quiet : Type 0) (status : Status) : Type 0 where
  pub one_of : (status ≡ statuses.Ok) ⊎ ((stop : GenStop) × (status ≡ status_of_generation stop))
  pub complete : quiet → KeepsWithin numbers.seed numbers.count numbers.count → (status ≡ statuses.Ok) ⊎ (status ≡ statuses.OutOfMemory)
  pub full : quiet → (place sum : ℕ) → IsFullAt numbers.seed numbers.count place sum
      → (status ≡ statuses.Full sum) ⊎ (status ≡ statuses.OutOfMemory)

-- `gen`. The sink held these bytes before, and has those by now.
pub record Generated (numbers : Seeded) (before : List ℕ) (held : Option (List ℕ)) (status : Status) : Type 0 where
  -- With `Ok` the sink took the text of the generated schedule; its run keeps its promises, and reads as on one copy of the
  -- data.
  pub whole : status ≡ statuses.Ok → Writes numbers.seed numbers.count before held
  -- With each other status: which front of that text it took.
  pub stopped : (stop : GenStop) → status ≡ status_of_generation stop → Stopped numbers.seed numbers.count before held stop

-- `soak`
pub record Soaked (numbers : Seeded) (before : List ℕ) (held : Option (List ℕ)) (status : Status) : Type 0 where
  -- With `Ok` the sink took the five counts of the run of the generated schedule.
  pub whole : status ≡ statuses.Ok → Tells numbers.seed numbers.count before held
  -- With `Full` it took nothing; with each other status a front of that line, or nothing.
  pub stopped : (stop : GenStop) → status ≡ status_of_generation stop → SoakStopped numbers.seed numbers.count before held stop
