-- The lines of a backup file, and which of them may stand where.
use Rattle.std.specs.Prelude.{ℕ, ◌+◌, ◌<◌, ◌≤◌, ◌≡◌, Bool, true, false, ◌&&◌, nat_le, List, ◌++◌, length, codes, decimal, Option, Some, None, IsTrue}
use Rattle.std.specs.List.{list_all}
use Rattle.tcs_terms.specs.declared.ids.TxId.{TxId}
use Rattle.tcs_terms.specs.Messages.{is_txn}
use Rattle.tcs_terms.specs.Objects.{IsName, IsValue}
use Rattle.tcs_terms.specs.Order.{name_before}
use Rattle.text_words.specs.PayloadText.{value_text}
use Rattle.text_words.specs.PayloadWords.{is_printable}
use Rattle.text_words.specs.Texts.{txn_text}
use Rattle.backup_machine.specs.declared.objects.Kept.{Kept}
use Rattle.backup_machine.specs.declared.objects.TheConstants.{MAX_OBJECTS}
use Rattle.backup_machine.specs.Objects.{in_range, comes_after}
use Rattle.backup_text.specs.declared.limits.TheConstants.{MAX_CALLS, MAX_CALL}
use Rattle.backup_text.specs.declared.stages.Stage.{Stage}
use Rattle.backup_text.specs.declared.stages.Stage.TheVariants.{Start, Begun, AtPlace, NoPlace, Ended}
use Rattle.backup_text.specs.declared.stages.Span.{Span}
use Rattle.backup_text.specs.declared.items.BackupItem.{BackupItem}
use Rattle.backup_text.specs.declared.items.BackupItem.TheVariants as items

-- A line of a backup file.
pub data Line : Type 0 where
  HeadLine : (from : List ℕ) → (upto : List ℕ) → Line
  CallLine : (event : List ℕ) → Line
  PlaceLine : (txn : Option TxId) → Line
  ObjectLine : (object : Kept) → Line
  EndLine : (count : ℕ) → Line

-- the place in the order, or a dash where there is none
abbrev pub place_text : Option TxId → List ℕ
place_text None = codes "-"
place_text (Some txn) = txn_text txn

-- the name and the version of an object
abbrev pub seen_text : Kept → List ℕ
seen_text object = object.name ++ codes " " ++ decimal object.version

-- its text, without its line feed
abbrev pub line_text : Line → List ℕ
line_text (HeadLine from upto) = codes "backup 1 " ++ from ++ codes " " ++ upto
line_text (CallLine event) = codes "did " ++ event
line_text (PlaceLine txn) = codes "cut " ++ place_text txn
line_text (ObjectLine object) = codes "obj " ++ seen_text object ++ codes " " ++ value_text object.value
line_text (EndLine count) = codes "end " ++ decimal count

-- as it is printed
abbrev pub printed : Line → List ℕ
printed line = line_text line ++ codes "\n"

-- what a line says
abbrev pub item_of : Line → BackupItem
item_of (HeadLine from upto) = items.Head
item_of (CallLine event) = items.Call
item_of (PlaceLine txn) = items.Place txn
item_of (ObjectLine object) = items.Object object
item_of (EndLine count) = items.End

-- Behind which lines a reader stands: how far it is, the range, the last name, and how many calls and objects there are.
pub record Standing : Type 0 where
  pub stage : Stage
  pub span : Option Span
  pub last : Option (List ℕ)
  pub calls : ℕ
  pub objects : ℕ

-- there are no more objects than may be
pub record IsStanding (s : Standing) : Type 0 where
  pub few : s.objects ≤ MAX_OBJECTS

-- behind no line
abbrev pub at_start : Standing
at_start = record { stage = Start; span = None; last = None; calls = 0; objects = 0 }

abbrev pub stage_behind : Option TxId → Stage
stage_behind None = NoPlace
stage_behind (Some txn) = AtPlace

-- behind a line more
abbrev pub after : Standing → Line → Standing
after s (HeadLine from upto) = record s { stage = Begun; span = Some (record { from = from; upto = upto }) }
after s (CallLine event) = record s { calls = s.calls + 1 }
after s (PlaceLine txn) = record s { stage = stage_behind txn }
after s (ObjectLine object) = record s { last = Some object.name; objects = s.objects + 1 }
after s (EndLine count) = record s { stage = Ended }

-- whether a name is one of the range that was read
abbrev pub in_span : Option Span → List ℕ → Bool
in_span None name = false
in_span (Some span) name = in_range span.from span.upto name

-- a transaction that can be
abbrev pub IsPlace : Option TxId → Type 0
IsPlace None = Unit {0}
IsPlace (Some txn) = IsTrue (is_txn txn)

-- whether objects or the end may come: behind the place, or the dash
abbrev pub has_place : Stage → Bool
has_place AtPlace = true
has_place NoPlace = true
has_place Start = false
has_place Begun = false
has_place Ended = false

-- the text of a call: 1 to 4,096 printable bytes
abbrev pub is_call : List ℕ → Bool
is_call event = nat_le 1 (length event) && nat_le (length event) MAX_CALL && list_all is_printable event

-- Which line may come next. The range is not empty; calls are no more than may be; there is an object only behind a
-- place in the order, its name one of the range and behind the last, its version at least 1, and no more than may be;
-- and the end says how many objects there are.
abbrev pub MayStand : Standing → Line → Type 0
MayStand s (HeadLine from upto) = (s.stage ≡ Start) × IsName from × IsName upto × IsTrue (name_before from upto)
MayStand s (CallLine event) = (s.stage ≡ Begun) × IsTrue (is_call event) × (s.calls < MAX_CALLS)
MayStand s (PlaceLine txn) = (s.stage ≡ Begun) × IsPlace txn
MayStand s (ObjectLine object) =
    (s.stage ≡ AtPlace) × IsName object.name × IsTrue (in_span s.span object.name) × IsTrue (comes_after s.last object.name) × (1 ≤ object.version) × (object.version < 18446744073709551616) × IsValue object.value
    × (s.objects < MAX_OBJECTS)
MayStand s (EndLine count) = IsTrue (has_place s.stage) × (count ≡ s.objects)
