-- How a line is read: which line it is, if it is one that may stand there.
use Rattle.std.specs.Prelude.{◌≡◌, ℕ, ◌&&◌, ◌==◌, Bool, true, false, nat_le, nat_lt, if◌then◌else◌, List, codes, Option, Some, None, Result, Ok, Err}
use Rattle.std.specs.Option.{option_map}
use Rattle.tcs_terms.specs.declared.ids.TxId.{TxId}
use Rattle.tcs_terms.specs.Order.{name_before}
use Rattle.text_words.specs.HexWords.{value_in}
use Rattle.text_words.specs.PayloadWords.{name_in, number_in}
use Rattle.backup_machine.specs.declared.objects.Kept.{Kept}
use Rattle.backup_machine.specs.declared.objects.TheConstants.{MAX_OBJECTS}
use Rattle.backup_machine.specs.Objects.{comes_after}
use Rattle.backup_text.specs.declared.limits.TheConstants.{MAX_CALLS}
use Rattle.backup_text.specs.declared.items.BackupItem.{BackupItem}
use Rattle.backup_text.specs.declared.items.BackupLineFault.{BackupLineFault}
use Rattle.backup_text.specs.declared.items.BackupLineFault.TheVariants.{Bad, OutOfMemory}
use Rattle.backup_text.specs.declared.stages.Span.{Span}
use Rattle.backup_text.specs.declared.stages.Stage.{Stage}
use Rattle.backup_text.specs.declared.stages.Stage.TheVariants.{Start, Begun, AtPlace, NoPlace, Ended}
use Rattle.backup_text.specs.Words.{◌>>=◌, first_word, is_word, txn_in}
use Rattle.backup_text.specs.Lines.{Line, HeadLine, CallLine, PlaceLine, ObjectLine, EndLine, line_text, Standing, MayStand, after, item_of, in_span, has_place, is_call}

abbrev pub is_start : Stage → Bool
is_start Start = true
is_start Begun = false
is_start AtPlace = false
is_start NoPlace = false
is_start Ended = false

abbrev pub is_begun : Stage → Bool
is_begun Start = false
is_begun Begun = true
is_begun AtPlace = false
is_begun NoPlace = false
is_begun Ended = false

abbrev pub is_at_place : Stage → Bool
is_at_place Start = false
is_at_place Begun = false
is_at_place AtPlace = true
is_at_place NoPlace = false
is_at_place Ended = false

-- two names, of which the first stands before the second
unfoldable pub span_in : List ℕ → Option Span
span_in text = do
  names ← first_word text
  from ← name_in names.0
  upto ← name_in names.1
  if name_before from upto then Some (record { from = from; upto = upto }) else None

-- ---- lines, each behind its first word

unfoldable pub head_of : Standing → List ℕ → Option Line
head_of s text = do
  words ← first_word text
  span ← span_in words.1
  if is_start s.stage && is_word (codes "1") words.0 then Some (HeadLine span.from span.upto) else None

unfoldable pub call_of : Standing → List ℕ → Option Line
call_of s text = if is_begun s.stage && nat_lt s.calls MAX_CALLS && is_call text then Some (CallLine text) else None

-- a transaction, or none where there is a dash
unfoldable pub place_in : List ℕ → Option (Option TxId)
place_in text = if is_word (codes "-") text then Some None else option_map (λ txn. Some txn) (txn_in text)

unfoldable pub place_of : Standing → List ℕ → Option Line
place_of s text = do
  txn ← place_in text
  if is_begun s.stage then Some (PlaceLine txn) else None

-- a name, a version from 1 on, and a value
unfoldable pub object_in : List ℕ → Option Kept
object_in text = do
  words ← first_word text
  others ← first_word words.1
  name ← name_in words.0
  version ← number_in others.0
  value ← value_in others.1
  if nat_le 1 version then Some (record { name = name; version = version; value = value }) else None

-- whether an object of this name may come
abbrev pub takes_object : Standing → List ℕ → Bool
takes_object s name = is_at_place s.stage && nat_lt s.objects MAX_OBJECTS && in_span s.span name && comes_after s.last name

unfoldable pub object_of : Standing → List ℕ → Option Line
object_of s text = do
  object ← object_in text
  if takes_object s object.name then Some (ObjectLine object) else None

unfoldable pub end_of : Standing → List ℕ → Option Line
end_of s text = do
  count ← number_in text
  if has_place s.stage && (count == s.objects) then Some (EndLine count) else None

-- a line of the form that its first word says
unfoldable pub line_of : Standing → List ℕ → List ℕ → Option Line
line_of s word text =
    if is_word (codes "backup") word then head_of s text
    else if is_word (codes "did") word then call_of s text
    else if is_word (codes "cut") word then place_of s text
    else if is_word (codes "obj") word then object_of s text
    else if is_word (codes "end") word then end_of s text
    else None

-- the line that a text is, behind these lines
unfoldable pub line_in : Standing → List ℕ → Option Line
line_in s text = do
  words ← first_word text
  line_of s words.0 words.1

-- ---- what the code answers

-- where a reader stands that was given a line, or a text that is none
abbrev pub behind : Standing → Option Line → Standing
behind s None = s
behind s (Some line) = after s line

-- the item of the line that was read, and where the reader then stands
pub record Takes (old new : Standing) (item : Option BackupItem) (read : Option Line) : Type 0 where
  pub item_is : item ≡ option_map item_of read
  pub stands : new ≡ behind old read

-- a reader's answer is the item of the line that was read, or that there is none, unless memory ran out; what is not
-- taken leaves the reader where it stood
abbrev pub Answers : Standing → Standing → Result BackupItem BackupLineFault → Option Line → Type 0
Answers old new (Ok item) read = Takes old new (Some item) read
Answers old new (Err Bad) read = Takes old new None read
Answers old new (Err OutOfMemory) read = new ≡ old

-- a line that may stand there has this text, the item is its, and the reader stands behind it
pub record Accepts (old : Standing) (text : List ℕ) (new : Standing) (item : BackupItem) : Type 0 where
  pub line : Line
  pub stands : MayStand old line
  pub spelled : text ≡ line_text line
  pub item_is : item ≡ item_of line
  pub behind_it : new ≡ after old line

-- the answer is the item of this line, behind which the reader stands, unless memory ran out
abbrev pub IsMemoryOr : Standing → Line → Standing → Result BackupItem BackupLineFault → Type 0
IsMemoryOr old line new (Ok item) = (item ≡ item_of line) × (new ≡ after old line)
IsMemoryOr old line new (Err Bad) = ⊥
IsMemoryOr old line new (Err OutOfMemory) = Unit {0}
