-- What an answer says, by what reading gives.
use Rattle.std.proofs.Common.{◌≡◌, ℕ, List, Option, Some, None, Result, Ok, Err, refl}
use Rattle.std.specs.Prelude.{IfOk}
use Rattle.backup_text.proofs.Steps.{some_is}
use Rattle.backup_text.specs.declared.items.BackupItem.{BackupItem}
use Rattle.backup_text.specs.declared.items.BackupLineFault.{BackupLineFault}
use Rattle.backup_text.specs.declared.items.BackupLineFault.TheVariants.{Bad, OutOfMemory}
use Rattle.backup_text.specs.Lines.{Line, Standing, IsStanding, MayStand, line_text, item_of}
use Rattle.backup_text.specs.Readings.{line_in, Takes, Answers, Accepts, IsMemoryOr}
use Rattle.backup_text.proofs.LineWords.{line_takes, line_again}

pub is_found : (old new : Standing) (text : List ℕ) (r : Result BackupItem BackupLineFault) → Answers old new r (line_in old text) → IfOk r (Accepts old text new)
is_found old new text (Ok item) h = go (line_in old text) refl h where
  go : (o : Option Line) → line_in old text ≡ o → Takes old new (Some item) o → Accepts old text new item
  go (Some line) e t =
      let read = line_takes old text line e in
      record { line = line; stands = read.0; spelled = read.1; item_is = some_is item (item_of line) t.item_is; behind_it = t.stands }
  go None e t = absurd (let none = t.item_is in cc)
is_found old new text (Err e) h = tt

pub is_only : (old new : Standing) (text : List ℕ) (r : Result BackupItem BackupLineFault) (line : Line) → IsStanding old → MayStand old line → text ≡ line_text line
    → Answers old new r (line_in old text) → IsMemoryOr old line new r
is_only old new text (Ok item) line i m e h =
    let t = rw (e, line_again old line i m) at h in
    (some_is item (item_of line) t.item_is, t.stands)
is_only old new text (Err Bad) line i m e h =
    let t = rw (e, line_again old line i m) at h in
    let some = t.item_is in absurd cc
is_only old new text (Err OutOfMemory) line i m e h = tt
