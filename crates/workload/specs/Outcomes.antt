-- What `generate` and `soak` answer, and what was written by then.
use Rattle.std.specs.Prelude.{◌≡◌, ◌⊎◌, ℕ, ◌≤◌, true, List, [], ◌++◌, Option, Some, Result, Ok, Err}
use Rattle.tcs_io.specs.Faults.{Rose}
use Rattle.cert_serial.specs.Serial.{serial}
use Rattle.tcs_terms.specs.Runs.{AreEventsOf}
use Rattle.protocol.specs.OneCopy.{is_one_copy}
use Rattle.protocol_laws.specs.Promises.{KeepsItsPromises, world_of}
use Rattle.generated_runs.specs.Setup.{setup}
use Rattle.generated_runs.specs.Runs.{generated, events_until, KeepsWithin, IsFullAt}
use Rattle.workload.specs.Counts.{soak_text}
use Rattle.workload.specs.Texts.{front_until, generated_text}
use Rattle.workload.specs.declared.stops.GenStop.{GenStop}
use Rattle.workload.specs.declared.stops.GenStop.TheVariants as stops

-- The first so many events may stand in a run of the setup; that run keeps within the limit and keeps its promises, and its
-- reads are those of one copy of the data.
pub record Kept (seed count place : ℕ) : Type 0 where
  pub fit : AreEventsOf setup (events_until seed count place)
  pub within : KeepsWithin seed count place
  pub promises : KeepsItsPromises serial setup (events_until seed count place) (generated seed count place).progress
  pub one_copy : is_one_copy (world_of (generated seed count place).progress).history ≡ true

-- ---- `generate`

-- Ok: the sink took the whole text.
pub record Writes (seed count : ℕ) (before : List ℕ) (held : Option (List ℕ)) : Type 0 where
  pub kept : Kept seed count count
  pub holds : held ≡ Some (before ++ generated_text seed count)

-- Full: it took the header and the lines of the events before the one with which the frames would pass the limit.
pub record StopsFull (seed count sum : ℕ) (before : List ℕ) (held : Option (List ℕ)) : Type 0 where
  pub place : ℕ
  pub full : IsFullAt seed count place sum
  pub kept : Kept seed count place
  pub holds : held ≡ Some (before ++ front_until seed count place)

-- this begins the text of a schedule whose run keeps within the limit up to this place
abbrev pub BeginsText : (seed count place : ℕ) → (written rest : List ℕ) → Type 0
BeginsText seed count place written rest =
    (front_until seed count place ≡ written ++ rest) ⊎ ((place ≡ count) × (generated_text seed count ≡ written ++ rest))

-- A failing sink, or want of memory: it took a front of that text.
pub record StopsWithin (seed count : ℕ) (before : List ℕ) (held : Option (List ℕ)) : Type 0 where
  pub place : ℕ
  pub few : place ≤ count
  pub within : KeepsWithin seed count place
  pub written : List ℕ
  pub rest : List ℕ
  pub begins : BeginsText seed count place written rest
  pub holds : held ≡ Some (before ++ written)

abbrev pub Stopped : (seed count : ℕ) (before : List ℕ) (held : Option (List ℕ)) → GenStop → Type 0
Stopped seed count before held stops.WriteFault = StopsWithin seed count before held
Stopped seed count before held (stops.Full sum) = StopsFull seed count sum before held
Stopped seed count before held stops.OutOfMemory = StopsWithin seed count before held

-- ---- which answer comes, whatever the sink tells

-- no fault was counted
abbrev pub Stayed : ℕ → ℕ → Type 0
Stayed before after = Rose before after → ⊥

-- all was written, or memory ran out
abbrev pub WritesFully : {X : Type 0} → Result X GenStop → Type 0
WritesFully (Ok done) = Unit {0}
WritesFully (Err told) = told ≡ stops.OutOfMemory

-- this stop came, or memory ran out
abbrev pub StopsBy : {X : Type 0} → GenStop → Result X GenStop → Type 0
StopsBy stop (Ok done) = ⊥
StopsBy stop (Err told) = (told ≡ stop) ⊎ (told ≡ stops.OutOfMemory)

-- ---- `soak`

-- Ok: the sink took the five counts of the whole run.
pub record Tells (seed count : ℕ) (before : List ℕ) (held : Option (List ℕ)) : Type 0 where
  pub kept : Kept seed count count
  pub holds : held ≡ Some (before ++ soak_text count (world_of (generated seed count count).progress))

-- Full: it took nothing. A failing sink, or want of memory: it took a front of that line, or nothing.
pub record TellsFront (seed count : ℕ) (before : List ℕ) (held : Option (List ℕ)) : Type 0 where
  pub written : List ℕ
  pub rest : List ℕ
  pub begins : (written ≡ []) ⊎ (KeepsWithin seed count count × (soak_text count (world_of (generated seed count count).progress) ≡ written ++ rest))
  pub holds : held ≡ Some (before ++ written)

abbrev pub SoakStopped : (seed count : ℕ) (before : List ℕ) (held : Option (List ℕ)) → GenStop → Type 0
SoakStopped seed count before held stops.WriteFault = TellsFront seed count before held
SoakStopped seed count before held (stops.Full sum) = held ≡ Some before
SoakStopped seed count before held stops.OutOfMemory = TellsFront seed count before held
