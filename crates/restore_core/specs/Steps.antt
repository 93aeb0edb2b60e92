-- What the steps of a restore answer. No clause of `restore` cites this module.
use Rattle.std.specs.Prelude.{◌≡◌, ℕ, ◌+◌, ◌≤◌, Bool, true, false, List, [], ◌∷◌, ◌++◌, length, map, All, Option, Some, None, Result, Ok, Err, IsTrue}
use Rattle.tcs_terms.specs.Order.{names_ascend}
use Rattle.backup_machine.specs.declared.objects.Kept.{Kept}
use Rattle.backup_machine.specs.declared.objects.TheConstants.{MAX_OBJECTS}
use Rattle.backup_text.specs.declared.items.BackupItem.{BackupItem}
use Rattle.backup_text.specs.declared.items.BackupItem.TheVariants as items
use Rattle.backup_text.specs.declared.limits.TheConstants.{MAX_CALLS, MAX_LINE}
use Rattle.backup_text.specs.declared.stages.Stage.{Stage}
use Rattle.backup_text.specs.declared.stages.Stage.TheVariants.{Start, Begun, AtPlace, NoPlace, Ended}
use Rattle.backup_text.specs.Lines.{Standing, at_start}
use Rattle.restore_core.specs.declared.reading.Reading.{Reading}
use Rattle.restore_core.specs.declared.stops.RestoreStop.{RestoreStop}
use Rattle.restore_core.specs.declared.stops.RestoreStop.TheVariants as stops
use Rattle.restore_core.specs.Files.{Answer, Restores, BadLine, answer_from, at_end, is_ended, IsPut}
use Rattle.long_lines.specs.Texts.{lines_of, is_too_long}

-- what a line says is kept
abbrev pub kept_with : List Kept → BackupItem → List Kept
kept_with kept items.Head = kept
kept_with kept items.Call = kept
kept_with kept (items.Place txn) = kept
kept_with kept (items.Object object) = kept ++ object ∷ []
kept_with kept items.End = kept

-- whether the last line came
abbrev pub ended_with : Bool → BackupItem → Bool
ended_with ended items.Head = ended
ended_with ended items.Call = ended
ended_with ended (items.Place txn) = ended
ended_with ended (items.Object object) = ended
ended_with ended items.End = true

-- no line was taken
pub record IsFresh (r : Reading) : Type 0 where
  pub nothing_held : r.texts ≡ []
  pub reader : r.reader ≡ at_start
  pub no_objects : r.kept.items ≡ []
  pub not_ended : r.ended ≡ false
  pub no_lines : r.lines ≡ 0

-- how many lines there are at least, beside those of calls and of objects
abbrev pub other_lines : Stage → ℕ
other_lines Start = 0
other_lines Begun = 1
other_lines AtPlace = 2
other_lines NoPlace = 2
other_lines Ended = 3

-- the name of the last object
abbrev pub last_name : List Kept → Option (List ℕ)
last_name [] = None
last_name (k ∷ []) = Some k.name
last_name (k ∷ l ∷ ks) = last_name (l ∷ ks)

-- what holds of the objects of lines that may stand: they are counted, the last name is known, names strictly ascend, and
-- each can be put back
pub record Behind (s : Standing) (kept : List Kept) : Type 0 where
  pub calls : s.calls ≤ MAX_CALLS
  pub counted : s.objects ≡ length kept
  pub few : s.objects ≤ MAX_OBJECTS
  pub last : s.last ≡ last_name kept
  pub ascend : IsTrue (names_ascend (map (λ (k : Kept). k.name) kept))
  pub each : All IsPut kept

-- behind so many lines
pub record IsBehind (r : Reading) : Type 0 where
  pub objects : Behind r.reader r.kept.items
  pub lines : r.lines ≡ other_lines r.reader.stage + (r.reader.calls + r.reader.objects)
  pub ended : r.ended ≡ is_ended r.reader.stage

-- the answer to these lines, and to what stands behind them, from here on
abbrev pub answer_behind : Reading → List (List ℕ) → List ℕ → Answer
answer_behind r texts rest = answer_from r.reader r.kept.items r.lines texts rest

-- the answer to these bytes, from here on
abbrev pub answer_here : Reading → List ℕ → Answer
answer_here r bytes = answer_behind r (lines_of bytes).whole (lines_of bytes).rest

-- the answer where the input ends with these bytes
abbrev pub ends_here : Reading → List ℕ → Answer
ends_here r bytes = at_end (is_ended r.reader.stage) r.kept.items r.lines bytes

-- a line was taken, and the answer stays
pub record GoesOn (answer : Answer) (new : Reading) (left : Option (List ℕ)) : Type 0 where
  pub rest : List ℕ
  pub told : left ≡ Some rest
  pub same : answer ≡ answer_here new (new.texts ++ rest)

abbrev pub Goes : Reading → (rest : List ℕ) → Reading → (left : Option (List ℕ)) → Result Bool RestoreStop → Type 0
Goes old rest new left (Ok true) = GoesOn (answer_here old (old.texts ++ rest)) new left
Goes old rest new left (Ok false) = (answer_here old (old.texts ++ rest) ≡ Restores new.kept.items) × (left ≡ Some [])
Goes old rest new left (Err (stops.BadBackup line)) = answer_here old (old.texts ++ rest) ≡ BadLine line
Goes old rest new left (Err stops.ReadFault) = Unit {0}
Goes old rest new left (Err stops.WriteFault) = Unit {0}
Goes old rest new left (Err stops.OutOfMemory) = Unit {0}

-- the line in work was taken, or it is bad, whatever stands behind it: the answer so far, by that
abbrev pub Takes : Reading → Reading → Result Unit RestoreStop → Type 0
Takes old new (Ok done) =
    is_too_long MAX_LINE old.text.items ≡ false → (texts : List (List ℕ)) (rest : List ℕ) → answer_behind old (old.text.items ∷ texts) rest ≡ answer_behind new texts rest
Takes old new (Err (stops.BadBackup line)) = (texts : List (List ℕ)) (rest : List ℕ) → answer_behind old (old.text.items ∷ texts) rest ≡ BadLine line
Takes old new (Err stops.ReadFault) = Unit {0}
Takes old new (Err stops.WriteFault) = Unit {0}
Takes old new (Err stops.OutOfMemory) = Unit {0}

-- the result tells this answer, which has these objects, unless it is another stop
abbrev pub Says : List Kept → Answer → Result Unit RestoreStop → Type 0
Says kept answer (Ok done) = answer ≡ Restores kept
Says kept answer (Err (stops.BadBackup line)) = answer ≡ BadLine line
Says kept answer (Err stops.ReadFault) = Unit {0}
Says kept answer (Err stops.WriteFault) = Unit {0}
Says kept answer (Err stops.OutOfMemory) = Unit {0}
