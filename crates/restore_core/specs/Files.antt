-- What is said of bytes that are to be a backup file: the objects that it has, or the number of the first bad line.
use Rattle.std.specs.Prelude.{◌≡◌, ℕ, ◌+◌, ◌<◌, ◌^◌, ◌≤◌, Bool, true, false, if◌then◌else◌, List, [], ◌∷◌, ◌++◌, length, filter_map, All, Option, Some, None}
use Rattle.std.specs.List.{flat_map}
use Rattle.tcs_terms.specs.Objects.{IsName, IsValue}
use Rattle.backup_machine.specs.declared.objects.Kept.{Kept}
use Rattle.backup_text.specs.declared.limits.TheConstants.{MAX_LINE}
use Rattle.backup_text.specs.declared.stages.Stage.{Stage}
use Rattle.backup_text.specs.declared.stages.Stage.TheVariants.{Start, Begun, AtPlace, NoPlace, Ended}
use Rattle.backup_text.specs.Lines.{Line, HeadLine, CallLine, PlaceLine, ObjectLine, EndLine, printed, Standing, MayStand, after, at_start}
use Rattle.backup_text.specs.Readings.{line_in}
use Rattle.restore_laws.specs.Schedules.{CanBeRestored}
use Rattle.long_lines.specs.Texts.{lines_of, is_too_long}

-- ---- files

-- the object of a line, if it has one
abbrev pub object_on : Line → Option Kept
object_on (HeadLine from upto) = None
object_on (CallLine event) = None
object_on (PlaceLine txn) = None
object_on (ObjectLine object) = Some object
object_on (EndLine count) = None

abbrev pub objects_on : List Line → List Kept
objects_on lines = filter_map object_on lines

-- one after the other, from here to there, these lines may stand
abbrev pub Stand : Standing → List Line → Standing → Type 0
Stand s [] t = s ≡ t
Stand s (line ∷ lines) t = MayStand s line × Stand (after s line) lines t

-- The bytes are the text of a file that has these objects: of its lines each may stand behind those before it, and the last
-- one is the end.
pub record IsFile (bytes : List ℕ) (kept : List Kept) : Type 0 where
  pub lines : List Line
  pub last : Standing
  pub stand : Stand at_start lines last
  pub ended : last.stage ≡ Ended
  pub text : bytes ≡ flat_map printed lines
  pub objects : kept ≡ objects_on lines

-- The line of this number, from 1, is the first bad one: before it stand lines that may stand there, and then come neither
-- a line that may stand behind them nor, where the last of them is the end, the end of the bytes.
pub record IsFirstBad (bytes : List ℕ) (number : ℕ) : Type 0 where
  pub lines : List Line
  pub last : Standing
  pub stand : Stand at_start lines last
  pub numbered : number ≡ length lines + 1
  pub rest : List ℕ
  pub front : bytes ≡ flat_map printed lines ++ rest
  pub no_line : (line : Line) (more : List ℕ) → MayStand last line → rest ≡ printed line ++ more → ⊥
  pub no_end : last.stage ≡ Ended → rest ≡ [] → ⊥

-- ---- the answer to bytes

-- The bytes are a file, which has these objects; or they are none, and this line is the first bad one.
pub data Answer : Type 0 where
  Restores : (kept : List Kept) → Answer
  BadLine : (number : ℕ) → Answer

abbrev pub is_ended : Stage → Bool
is_ended Start = false
is_ended Begun = false
is_ended AtPlace = false
is_ended NoPlace = false
is_ended Ended = true

-- behind the last whole line: a file ends with its last line, and nothing stands behind it
abbrev pub at_end : Bool → List Kept → ℕ → List ℕ → Answer
at_end true kept lines [] = Restores kept
at_end true kept lines (byte ∷ bytes) = BadLine (lines + 1)
at_end false kept lines rest = BadLine (lines + 1)

-- with the object of a line, if it has one
abbrev pub kept_on : List Kept → Line → List Kept
kept_on kept line = kept ++ objects_on (line ∷ [])

-- goes on with a line, if there is one
abbrev pub with_line : Option Line → ℕ → (Line → Answer) → Answer
with_line None number more = BadLine number
with_line (Some line) number more = more line

-- The answer behind so many lines, which had these objects: each further line is no longer than a line may be, and may stand
-- behind those before it.
abbrev pub answer_from : Standing → List Kept → ℕ → List (List ℕ) → List ℕ → Answer
answer_from s kept lines [] rest = at_end (is_ended s.stage) kept lines rest
answer_from s kept lines (text ∷ texts) rest =
    if is_too_long MAX_LINE text then BadLine (lines + 1)
    else with_line (line_in s text) (lines + 1) (λ line. answer_from (after s line) (kept_on kept line) (lines + 1) texts rest)

-- the answer to all bytes
abbrev pub answer_of : List ℕ → Answer
answer_of bytes = answer_from at_start [] 0 (lines_of bytes).whole (lines_of bytes).rest

-- ---- the objects of a file

-- an object that can be put back: a name, a version from 1 on, and a value
pub record IsPut (k : Kept) : Type 0 where
  pub name : IsName k.name
  pub positive : 1 ≤ k.version
  pub fits : k.version < 2 ^ 64
  pub value : IsValue k.value

-- the objects of a file: no more than may be, names strictly ascending, each of which can be put back
pub record AreRestored (kept : List Kept) : Type 0 where
  pub can_be : CanBeRestored kept
  pub each : All IsPut kept
