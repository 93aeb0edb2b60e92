-- A backup, and why it refuses a call.
use Rattle.std.specs.Prelude.{ℕ, ◌-◌, ◌≤◌, Bool, true, false, not, ◌&&◌, ◌==◌, nat_le, nat_lt, if◌then◌else◌, List, [], ◌∷◌, ◌++◌, length, map, set, Option, Some, None, IsTrue}
use Rattle.std.specs.List.{list_all, slice_get}
use Rattle.tcs_terms.specs.Order.{name_before}
use Rattle.tcs_terms.specs.Payloads.{Accesses}
use Rattle.tcs_terms.specs.declared.votes.Decision.{Decision}
use Rattle.tcs_terms.specs.declared.votes.Decision.TheVariants.{Commit, Abort}
use Rattle.backup_machine.specs.declared.faults.BackupFault.{BackupFault}
use Rattle.backup_machine.specs.declared.faults.BackupFault.TheVariants.{Span, Width, NotActive, Outside, Order, VersionSpent, TooMany, NotWaiting}
use Rattle.backup_machine.specs.declared.objects.Kept.{Kept}
use Rattle.backup_machine.specs.declared.objects.TheConstants.{MAX_OBJECTS}
use Rattle.backup_machine.specs.Objects.{in_range, comes_after, AreOf, none_behind}
use Rattle.backup_machine.specs.Slices.{all_slices}

-- the range and the width of a slice, the last name that was given, what is kept, whether the payloads were handed out,
-- and the outcome of each, where it is known
pub record BackupRecord : Type 0 where
  pub from : List ℕ
  pub upto : List ℕ
  pub width : ℕ
  pub last : Option (List ℕ)
  pub kept : List Kept
  pub waiting : Bool
  pub outcomes : List (Option Decision)

-- a backup that was given nothing
abbrev pub empty : List ℕ → List ℕ → ℕ → BackupRecord
empty from upto width = record { from = from; upto = upto; width = width; last = None; kept = []; waiting = false; outcomes = [] }

-- why there is no backup of a range
abbrev pub new_fault : List ℕ → List ℕ → ℕ → Option BackupFault
new_fault from upto width =
    if not (name_before from upto) then Some Span
    else if not (nat_le 1 width && nat_le width 16) then Some Width
    else None

-- why a value is refused, the first reason
abbrev pub value_fault : BackupRecord → List ℕ → ℕ → Option BackupFault
value_fault b name version =
    if b.waiting then Some NotActive
    else if not (in_range b.from b.upto name) then Some Outside
    else if not (comes_after b.last name) then Some Order
    else if version == 18446744073709551615 then Some VersionSpent
    else if nat_lt 0 version && nat_le MAX_OBJECTS (length b.kept) then Some TooMany
    else None

-- an object more, where it is there
abbrev pub with_object : Kept → List Kept → List Kept
with_object k kept = if k.version == 0 then kept else kept ++ k ∷ []

abbrev pub with_value : BackupRecord → Kept → BackupRecord
with_value b k = record b { last = Some k.name; kept = with_object k b.kept }

-- why there are no payloads
abbrev pub payloads_fault : BackupRecord → Option BackupFault
payloads_fault b = if b.waiting then Some NotActive else None

-- the payload of each slice
abbrev pub payloads : BackupRecord → List Accesses
payloads b = all_slices b.width b.from b.upto b.kept

-- no outcome is known yet
abbrev pub no_outcome : Accesses → Option Decision
no_outcome p = None

abbrev pub handed_out : BackupRecord → BackupRecord
handed_out b = record b { waiting = true; outcomes = map no_outcome (payloads b) }

-- whether this is a place that has no outcome yet
abbrev pub is_open : Option (Option Decision) → Bool
is_open None = false
is_open (Some None) = true
is_open (Some (Some decision)) = false

-- whether a slice, numbered from 1, has no outcome yet
abbrev pub lacks_outcome : List (Option Decision) → ℕ → Bool
lacks_outcome outcomes slice = nat_le 1 slice && is_open (slice_get outcomes (slice - 1))

-- why an outcome is refused
abbrev pub outcome_fault : BackupRecord → ℕ → Option BackupFault
outcome_fault b slice = if b.waiting && lacks_outcome b.outcomes slice then None else Some NotWaiting

-- the slice has this outcome
abbrev pub with_outcome : BackupRecord → ℕ → Decision → BackupRecord
with_outcome b slice decision = record b { outcomes = set b.outcomes (slice - 1) (Some decision) }

abbrev pub is_commit : Option Decision → Bool
is_commit None = false
is_commit (Some Commit) = true
is_commit (Some (Abort shard cause)) = false

-- what is kept, once each slice is known to commit
abbrev pub file : BackupRecord → Option (List Kept)
file b = if b.waiting && list_all is_commit b.outcomes then Some b.kept else None

-- slices are 1 to 16 wide; no more objects are kept than may be, each of the range, and none behind the last name
pub record IsBackup (b : BackupRecord) : Type 0 where
  pub least : 1 ≤ b.width
  pub most : b.width ≤ 16
  pub few : length b.kept ≤ MAX_OBJECTS
  pub are : AreOf b.from b.upto b.kept
  pub behind : IsTrue (none_behind b.last b.kept)
