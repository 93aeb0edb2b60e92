-- Files, and the answer to their bytes.
use Rattle.std.proofs.Common.{◌≡◌, ℕ, ◌+◌, Bool, true, false, ◌==◌, cond, List, [], ◌∷◌, ◌++◌, refl, sym, ap, ◌∙◌, append_assoc, append-nil}
use Rattle.std.specs.Prelude.{Option, Some, None, codes}
use Rattle.std.specs.List.{flat_map}
use Rattle.std.proofs.lemmas.Bool.{cond_both, cond-false, eqb-true}
use Rattle.std.proofs.lemmas.List.Elements.{filter_map-append}
use Rattle.schedule_text.specs.Lines.{line_feed}
use Rattle.schedule_text.specs.Text.{with_feed}
use Rattle.backup_machine.specs.declared.objects.Kept.{Kept}
use Rattle.backup_text.specs.declared.stages.Stage.{Stage}
use Rattle.backup_text.specs.declared.stages.Stage.TheVariants.{Start, Begun, AtPlace, NoPlace, Ended}
use Rattle.backup_text.specs.declared.limits.TheConstants.{MAX_LINE}
use Rattle.backup_text.specs.Lines.{Line, Standing, after, at_start, line_text, printed}
use Rattle.backup_text.specs.Readings.{line_in}
use Rattle.backup_text.proofs.LineWords.{line_takes, line_again}
use Rattle.restore_core.specs.Files.{Answer, Restores, BadLine, IsFile, Stand, at_end, answer_from, answer_of, is_ended, kept_on, object_on, objects_on, with_line}
use Rattle.restore_core.specs.Steps.{Behind}
use Rattle.long_lines.specs.Texts.{Lines, lines_of, with_byte, is_too_long}
use Rattle.long_lines.proofs.Lines.{both}
use Rattle.restore_core.proofs.Answering.{answer_behind_text, answer_bytes}
use Rattle.restore_core.proofs.Objects.{behind_more, none_behind}
use Rattle.restore_core.proofs.PlainLines.{one_line, short_line}

objects_join : (kept : List Kept) (line : Line) (lines : List Line) → kept_on kept line ++ objects_on lines ≡ kept ++ objects_on (line ∷ lines)
objects_join kept line lines = append_assoc kept (objects_on (line ∷ [])) (objects_on lines) ∙ ap (λ (ks : List Kept). kept ++ ks) (sym (filter_map-append object_on (line ∷ []) lines))

-- ---- the bytes of a file are answered by its objects

stands_still : (s : Standing) (kept : List Kept) (n : ℕ) → s.stage ≡ Ended → at_end (is_ended s.stage) kept n [] ≡ Restores (kept ++ [])
stands_still s kept n ended = ap (λ (x : Stage). at_end (is_ended x) kept n []) ended ∙ ap Restores (sym (append-nil kept))

from_lines : (lines : List Line) (s t : Standing) (kept : List Kept) (n : ℕ) → Behind s kept → Stand s lines t → t.stage ≡ Ended
    → answer_bytes s kept n (flat_map printed lines) ≡ Restores (kept ++ objects_on lines)
from_lines [] s t kept n b same ended = stands_still s kept n (ap (λ (u : Standing). u.stage) same ∙ ended)
from_lines (line ∷ lines) s t kept n b (may, others) ended =
    let more : List ℕ = flat_map printed lines in
    let next : Line → Answer = λ l. answer_from (after s l) (kept_on kept l) (n + 1) (lines_of more).whole (lines_of more).rest in
    answer_behind_text s kept n (flat_map printed (line ∷ lines)) (line_text line) more (one_line s kept line b may) (append_assoc (line_text line) (codes "\n") more)
    ∙ cond-false (is_too_long MAX_LINE (line_text line)) (BadLine (n + 1)) (with_line (line_in s (line_text line)) (n + 1) next) (short_line s kept line b may)
    ∙ ap (λ (o : Option Line). with_line o (n + 1) next) (line_again s line (record { few = b.few }) may)
    ∙ from_lines lines (after s line) t (kept_on kept line) (n + 1) (behind_more s kept line b may) others ended
    ∙ ap Restores (objects_join kept line lines)

pub file_answers : (bytes : List ℕ) (kept : List Kept) → IsFile bytes kept → answer_of bytes ≡ Restores kept
file_answers bytes kept f =
    ap answer_of f.text ∙ from_lines f.lines at_start f.last [] 0 none_behind f.stand f.ended ∙ ap Restores (sym f.objects)

-- ---- bytes that are answered by objects are the text of a file that has them

-- the lines that line feeds end, and what stands behind them, are the bytes
pub whole_again : (bytes : List ℕ) → flat_map with_feed (lines_of bytes).whole ++ (lines_of bytes).rest ≡ bytes
whole_again [] = refl
whole_again (b ∷ bs) =
    cond_both (b == line_feed) (both ([] ∷ (lines_of bs).whole) (lines_of bs).rest) (with_byte b (lines_of bs).whole (lines_of bs).rest)
    (λ (l : Lines). flat_map with_feed l.whole ++ l.rest ≡ b ∷ bs)
    (λ yes. ap (λ (ys : List ℕ). line_feed ∷ ys) (whole_again bs) ∙ ap (λ x. x ∷ bs) (sym (eqb-true b line_feed yes)))
    (λ _. go (lines_of bs).whole (lines_of bs).rest (whole_again bs))
  where
    go : (whole : List (List ℕ)) (rest : List ℕ) → flat_map with_feed whole ++ rest ≡ bs
        → flat_map with_feed (with_byte b whole rest).whole ++ (with_byte b whole rest).rest ≡ b ∷ bs
    go [] rest same = ap (λ (ys : List ℕ). b ∷ ys) same
    go (line ∷ lines) rest same = ap (λ (ys : List ℕ). b ∷ ys) same

-- from here on, these are the lines of texts, and the bytes behind them are none
record HasLines (s : Standing) (kept : List Kept) (texts : List (List ℕ)) (rest : List ℕ) (objects : List Kept) : Type 0 where
  lines : List Line
  last : Standing
  stand : Stand s lines last
  ended : last.stage ≡ Ended
  text : flat_map with_feed texts ++ rest ≡ flat_map printed lines
  objects_are : objects ≡ kept ++ objects_on lines

has_ended : (stage : Stage) → is_ended stage ≡ true → stage ≡ Ended
has_ended Start h = absurd cc
has_ended Begun h = absurd cc
has_ended AtPlace h = absurd cc
has_ended NoPlace h = absurd cc
has_ended Ended h = refl

kept_of : (a b : List Kept) → Restores a ≡ Restores b → a ≡ b
kept_of a b same = cc

at_the_end : (s : Standing) (kept objects : List Kept) (n : ℕ) (rest : List ℕ) → at_end (is_ended s.stage) kept n rest ≡ Restores objects → HasLines s kept [] rest objects
at_the_end s kept objects n rest is = go (is_ended s.stage) rest refl is
  where
    go : (b : Bool) (bytes : List ℕ) → is_ended s.stage ≡ b → at_end b kept n bytes ≡ Restores objects → HasLines s kept [] bytes objects
    go true [] e same = record {
      lines = [];
      last = s;
      stand = refl;
      ended = has_ended s.stage e;
      text = refl;
      objects_are = sym (kept_of kept objects same) ∙ sym (append-nil kept);
    }
    go true (b ∷ bs) e same = absurd cc
    go false bytes e same = absurd cc

to_lines : (texts : List (List ℕ)) (s : Standing) (kept objects : List Kept) (n : ℕ) (rest : List ℕ) → answer_from s kept n texts rest ≡ Restores objects → HasLines s kept texts rest objects
to_lines [] s kept objects n rest is = at_the_end s kept objects n rest is
to_lines (text ∷ texts) s kept objects n rest is =
    short (λ line same. to_lines texts (after s line) (kept_on kept line) objects (n + 1) rest same) (is_too_long MAX_LINE text) is
  where
    next : Line → Answer
    next l = answer_from (after s l) (kept_on kept l) (n + 1) texts rest

    Behind : Type 0
    Behind = (line : Line) → next line ≡ Restores objects → HasLines (after s line) (kept_on kept line) texts rest objects

    read : Behind → (o : Option Line) → line_in s text ≡ o → with_line o (n + 1) next ≡ Restores objects → HasLines s kept (text ∷ texts) rest objects
    read behind None e same = absurd cc
    read behind (Some line) e same =
        let takes = line_takes s text line e in
        let more : HasLines (after s line) (kept_on kept line) texts rest objects = behind line same in
        record {
          lines = line ∷ more.lines;
          last = more.last;
          stand = (takes.0, more.stand);
          ended = more.ended;
          text = append_assoc (with_feed text) (flat_map with_feed texts) rest ∙ ap (λ (ys : List ℕ). with_feed text ++ ys) more.text
              ∙ ap (λ (t : List ℕ). with_feed t ++ flat_map printed more.lines) takes.1;
          objects_are = more.objects_are ∙ objects_join kept line more.lines;
        }

    short : Behind → (b : Bool) → cond b (BadLine (n + 1)) (with_line (line_in s text) (n + 1) next) ≡ Restores objects → HasLines s kept (text ∷ texts) rest objects
    short behind true same = absurd cc
    short behind false same = read behind (line_in s text) refl same

pub answers_file : (bytes : List ℕ) (kept : List Kept) → answer_of bytes ≡ Restores kept → IsFile bytes kept
answers_file bytes kept is =
    let h : HasLines at_start [] (lines_of bytes).whole (lines_of bytes).rest kept = to_lines (lines_of bytes).whole at_start [] kept 0 (lines_of bytes).rest is in
    record { lines = h.lines; last = h.last; stand = h.stand; ended = h.ended; text = sym (whole_again bytes) ∙ h.text; objects = h.objects_are }
