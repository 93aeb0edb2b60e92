-- The answer to bytes, line by line.
use Rattle.std.proofs.Common.{◌≡◌, ℕ, ◌+◌, ◌<◌, Bool, true, false, ◌==◌, List, [], ◌∷◌, ◌++◌, length, refl, sym, ap, ◌∙◌, subst, append-nil, arith}
use Rattle.std.specs.Prelude.{Option, Some, None}
use Rattle.std.specs.Option.{option_map}
use Rattle.std.proofs.lemmas.Bool.{cond_both, cond-true, cond-false}
use Rattle.schedule_text.specs.Lines.{line_feed, has_feed}
use Rattle.backup_machine.specs.declared.objects.Kept.{Kept}
use Rattle.backup_text.specs.declared.items.BackupItem.{BackupItem}
use Rattle.backup_text.specs.declared.limits.TheConstants.{MAX_LINE}
use Rattle.backup_text.specs.Lines.{Line, HeadLine, CallLine, PlaceLine, ObjectLine, EndLine, Standing, after, item_of}
use Rattle.backup_text.specs.Readings.{line_in, Takes}
use Rattle.restore_core.specs.Files.{Answer, Restores, BadLine, at_end, is_ended, kept_on, with_line, answer_from}
use Rattle.restore_core.specs.Steps.{kept_with}
use Rattle.long_lines.specs.Texts.{Lines, with_byte, lines_of, is_too_long}
use Rattle.long_lines.proofs.Lines.{both, put_before, lines_behind, line_then, no_line, still_long}

-- the answer to bytes, from here on
abbrev pub answer_bytes : Standing → List Kept → ℕ → List ℕ → Answer
answer_bytes s kept lines bytes = answer_from s kept lines (lines_of bytes).whole (lines_of bytes).rest

-- bytes behind the last whole line
left_over : (ended : Bool) (kept : List Kept) (lines : ℕ) (bytes : List ℕ) → 0 < length bytes → at_end ended kept lines bytes ≡ BadLine (lines + 1)
left_over true kept lines [] some = absurd (omega arith)
left_over true kept lines (b ∷ bs) some = refl
left_over false kept lines bytes some = refl

pub some_left : (ended : Bool) (kept : List Kept) (lines : ℕ) (bytes : List ℕ) → (length bytes ≡ 0 → ⊥) → at_end ended kept lines bytes ≡ BadLine (lines + 1)
some_left true kept lines [] some = absurd (some refl)
some_left true kept lines (b ∷ bs) some = refl
some_left false kept lines bytes some = refl

pub not_ended : (ended : Bool) (kept : List Kept) (lines : ℕ) (bytes : List ℕ) → ended ≡ false → at_end ended kept lines bytes ≡ BadLine (lines + 1)
not_ended ended kept lines bytes none = ap (λ b. at_end b kept lines bytes) none

pub has_ended : (ended : Bool) (kept : List Kept) (lines : ℕ) (bytes : List ℕ) → ended ≡ true → length bytes ≡ 0 → at_end ended kept lines bytes ≡ Restores kept
has_ended ended kept lines [] last none = ap (λ b. at_end b kept lines []) last
has_ended ended kept lines (b ∷ bs) last none = absurd (omega arith)

-- the input ends behind a text
pub answer_at_end : (s : Standing) (kept : List Kept) (lines : ℕ) (all text : List ℕ) → has_feed text ≡ false → all ≡ text
    → answer_bytes s kept lines all ≡ at_end (is_ended s.stage) kept lines text
answer_at_end s kept lines all text none is =
    ap (answer_bytes s kept lines) is ∙ ap (λ (l : Lines). answer_from s kept lines l.whole l.rest) (no_line text none)

-- a line feed ends a text
pub answer_behind_text : (s : Standing) (kept : List Kept) (lines : ℕ) (all text more : List ℕ) → has_feed text ≡ false → all ≡ text ++ line_feed ∷ more
    → answer_bytes s kept lines all ≡ answer_from s kept lines (text ∷ (lines_of more).whole) (lines_of more).rest
answer_behind_text s kept lines all text more none is =
    ap (answer_bytes s kept lines) is ∙ ap (λ (l : Lines). answer_from s kept lines l.whole l.rest) (line_then text more none)

-- bytes with no whole line are what stands behind the last one
unbroken : (bytes : List ℕ) → (lines_of bytes).whole ≡ [] → (lines_of bytes).rest ≡ bytes
unbroken [] e = refl
unbroken (b ∷ bs) e =
    cond_both (b == line_feed) (both ([] ∷ (lines_of bs).whole) (lines_of bs).rest) (with_byte b (lines_of bs).whole (lines_of bs).rest)
    (λ (l : Lines). l.whole ≡ [] → l.rest ≡ b ∷ bs) (λ _ k. absurd cc) (λ _ k. go (lines_of bs).whole (lines_of bs).rest (unbroken bs) k) e
  where
    go : (whole : List (List ℕ)) (rest : List ℕ) → (whole ≡ [] → rest ≡ bs) → (with_byte b whole rest).whole ≡ [] → (with_byte b whole rest).rest ≡ b ∷ bs
    go [] rest same k = ap (λ (ys : List ℕ). b ∷ ys) (same refl)
    go (line ∷ lines) rest same k = absurd cc

-- a text is too long
pub answer_long : (s : Standing) (kept : List Kept) (lines : ℕ) (all text more : List ℕ) → has_feed text ≡ false → all ≡ text ++ more
    → 0 < length all → is_too_long MAX_LINE text ≡ true → answer_bytes s kept lines all ≡ BadLine (lines + 1)
answer_long s kept lines all text more none is some long =
    ap (answer_bytes s kept lines) is ∙ ap (λ (l : Lines). answer_from s kept lines l.whole l.rest) (lines_behind text more none)
    ∙ go (lines_of more).whole (lines_of more).rest (unbroken more)
  where
    go : (whole : List (List ℕ)) (rest : List ℕ) → (whole ≡ [] → rest ≡ more)
        → answer_from s kept lines (put_before text whole rest).whole (put_before text whole rest).rest ≡ BadLine (lines + 1)
    go [] rest same = left_over (is_ended s.stage) kept lines (text ++ rest) (subst (λ (bs : List ℕ). 0 < length bs) (is ∙ ap (λ (bs : List ℕ). text ++ bs) (sym (same refl))) some)
    go (line ∷ others) rest same = cond-true (is_too_long MAX_LINE (text ++ line)) (BadLine (lines + 1))
        (with_line (line_in s (text ++ line)) (lines + 1) (λ l. answer_from (after s l) (kept_on kept l) (lines + 1) others rest))
        (still_long MAX_LINE text line long)

-- ---- one line

-- the line of an item that was taken
pub record Took (s s' : Standing) (text : List ℕ) (item : BackupItem) : Type 0 where
  pub line : Line
  pub read : line_in s text ≡ Some line
  pub item_is : item ≡ item_of line
  pub behind : s' ≡ after s line

pub took : (s s' : Standing) (text : List ℕ) (item : BackupItem) → Takes s s' (Some item) (line_in s text) → Took s s' text item
took s s' text item takes = go (line_in s text) refl takes
  where
    go : (o : Option Line) → line_in s text ≡ o → Takes s s' (Some item) o → Took s s' text item
    go None e t = absurd (let no : Some item ≡ None = t.item_is in cc)
    go (Some line) e t = record { line = line; read = e; item_is = (let one : Some item ≡ Some (item_of line) = t.item_is in cc); behind = t.stands }

-- the object of a line is that of its item
pub same_kept : (kept : List Kept) (line : Line) → kept_on kept line ≡ kept_with kept (item_of line)
same_kept kept (HeadLine from upto) = append-nil kept
same_kept kept (CallLine event) = append-nil kept
same_kept kept (PlaceLine txn) = append-nil kept
same_kept kept (ObjectLine object) = refl
same_kept kept (EndLine count) = append-nil kept

-- the answer goes on behind it
pub answer_on : (s s' : Standing) (kept : List Kept) (lines : ℕ) (text : List ℕ) (item : BackupItem) → is_too_long MAX_LINE text ≡ false
    → Took s s' text item → (texts : List (List ℕ)) (rest : List ℕ)
    → answer_from s kept lines (text ∷ texts) rest ≡ answer_from s' (kept_with kept item) (lines + 1) texts rest
answer_on s s' kept lines text item short t texts rest =
    let more : Line → Answer = λ l. answer_from (after s l) (kept_on kept l) (lines + 1) texts rest in
    cond-false (is_too_long MAX_LINE text) (BadLine (lines + 1)) (with_line (line_in s text) (lines + 1) more) short
    ∙ ap (λ o. with_line o (lines + 1) more) t.read
    ∙ ap (λ (u : Standing). answer_from u (kept_on kept t.line) (lines + 1) texts rest) (sym t.behind)
    ∙ ap (λ (ks : List Kept). answer_from s' ks (lines + 1) texts rest) (same_kept kept t.line ∙ ap (kept_with kept) (sym t.item_is))

-- no line was read: it is bad
pub answer_bad : (s s' : Standing) (kept : List Kept) (lines : ℕ) (text : List ℕ) → is_too_long MAX_LINE text ≡ false
    → Takes s s' None (line_in s text) → (texts : List (List ℕ)) (rest : List ℕ)
    → answer_from s kept lines (text ∷ texts) rest ≡ BadLine (lines + 1)
answer_bad s s' kept lines text short takes texts rest =
    let more : Line → Answer = λ l. answer_from (after s l) (kept_on kept l) (lines + 1) texts rest in
    cond-false (is_too_long MAX_LINE text) (BadLine (lines + 1)) (with_line (line_in s text) (lines + 1) more) short
    ∙ ap (λ o. with_line o (lines + 1) more) (none (line_in s text) takes.item_is)
  where
    none : (o : Option Line) → None ≡ option_map item_of o → o ≡ None
    none None e = refl
    none (Some line) e = absurd cc
