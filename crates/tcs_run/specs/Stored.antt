-- What the command `quorum` does.
use Rattle.std.specs.Prelude.{◌≡◌, ◌⊎◌, ℕ, List, Option}
use Rattle.quorum_protocol.specs.declared.terms.Event.{Event}
use Rattle.quorum_config.specs.declared.stops.QuorumStop.{QuorumStop}
use Rattle.quorum_config.specs.Runs.{Finishes, Ends, IsInput, FirstBad}
use Rattle.tcs_run.specs.declared.status.Status.{Status}
use Rattle.tcs_run.specs.declared.status.Status.TheVariants as statuses
use Rattle.tcs_run.specs.Status.{status_of_quorum}

-- The source had these bytes, and the sink held those before; this is what they have by now, and the status. `quiet` says
-- that neither counted a fault.
pub record Stored (bytes before : List ℕ) (left held : Option (List ℕ)) (quiet : Type 0) (status : Status) : Type 0 where
  -- With `Ok` the bytes are an input of the quorum store, they were read to their end, and the output took the text of its
  -- run. In that run any two stored notes of one shard and epoch have equal configurations, each of them was proposed
  -- before, and a proposer stores an epoch above 2 of a shard only after the one below.
  pub agreed : status ≡ statuses.Ok → Finishes bytes before left held
  -- With each other status: what was read and written by then; the run so far keeps these promises.
  pub cut_short : (stop : QuorumStop) → status ≡ status_of_quorum stop → Ends bytes before left held stop
  -- Which status comes, where no fault is counted and memory does not run out: `Ok` for an input, or the first bad line.
  pub carried_out : quiet → (acceptors : ℕ) (es : List Event) → IsInput bytes acceptors es
      → (status ≡ statuses.Ok) ⊎ (status ≡ statuses.OutOfMemory)
  pub refused : quiet → (line : ℕ) (es : List Event) → FirstBad bytes line es
      → (status ≡ statuses.BadQuorum line) ⊎ (status ≡ statuses.OutOfMemory)
