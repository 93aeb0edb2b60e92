-- The line that the answer names is the first bad one.
use Rattle.std.proofs.Common.{◌≡◌, ℕ, ◌+◌, Bool, true, false, ◌==◌, cond, List, [], ◌∷◌, ◌++◌, length, refl, sym, ap, ◌∙◌, append_assoc, arith}
use Rattle.std.specs.Prelude.{Option, Some, None, codes}
use Rattle.std.specs.List.{flat_map, AllByRecursion}
use Rattle.std.proofs.lemmas.Bool.{cond_both, or_parts}
use Rattle.std.proofs.lemmas.Bool.Decides.{nat_tests}
use Rattle.schedule_text.specs.Lines.{line_feed, has_feed}
use Rattle.schedule_text.specs.Text.{with_feed}
use Rattle.backup_machine.specs.declared.objects.Kept.{Kept}
use Rattle.backup_text.specs.declared.limits.TheConstants.{MAX_LINE}
use Rattle.backup_text.specs.declared.stages.Stage.{Stage}
use Rattle.backup_text.specs.declared.stages.Stage.TheVariants.{Ended}
use Rattle.backup_text.specs.Lines.{Line, Standing, MayStand, after, at_start, line_text, printed}
use Rattle.backup_text.specs.Readings.{line_in}
use Rattle.backup_text.proofs.LineWords.{line_takes, line_again}
use Rattle.long_lines.specs.Texts.{Lines, lines_of, with_byte, is_too_long}
use Rattle.long_lines.proofs.Lines.{both}
use Rattle.restore_core.specs.Files.{Answer, Restores, BadLine, IsFirstBad, Stand, at_end, answer_from, answer_of, is_ended, kept_on, with_line}
use Rattle.restore_core.specs.Steps.{Behind}
use Rattle.restore_core.proofs.Files.{whole_again}
use Rattle.restore_core.proofs.Objects.{behind_more, none_behind}
use Rattle.restore_core.proofs.PlainLines.{one_line, short_line}

abbrev Lacks : List ℕ → Type 0
Lacks text = has_feed text ≡ false

-- ---- where the first line feed stands

here : (b : ℕ) (bs : List ℕ) → line_feed ≡ b → Lacks (b ∷ bs) → ⊥
here b bs feed none = let parts = or_parts (b == line_feed) (has_feed bs) none in let no = parts.0 in absurd (grind (arith, nat_tests))

one_split : (a b x y : List ℕ) → Lacks a → Lacks b → a ++ line_feed ∷ x ≡ b ++ line_feed ∷ y → a ≡ b
one_split [] [] x y p q e = refl
one_split [] (c ∷ b) x y p q e = absurd (here c b (let same : line_feed ≡ c = cc in same) q)
one_split (c ∷ a) [] x y p q e = absurd (here c a (let same : line_feed ≡ c = cc in same) p)
one_split (c ∷ a) (d ∷ b) x y p q e =
    let first : c ≡ d = cc in
    let rest : a ++ line_feed ∷ x ≡ b ++ line_feed ∷ y = cc in
    let pa = or_parts (c == line_feed) (has_feed a) p in
    let qb = or_parts (d == line_feed) (has_feed b) q in
    ap (λ n. n ∷ a) first ∙ ap (λ (t : List ℕ). d ∷ t) (one_split a b x y pa.1 qb.1 rest)

no_feed_in : (a x rest : List ℕ) → Lacks rest → rest ≡ a ++ line_feed ∷ x → ⊥
no_feed_in [] x [] none e = absurd cc
no_feed_in [] x (b ∷ bs) none e = here b bs (let same : line_feed ≡ b = cc in same) none
no_feed_in (c ∷ a) x [] none e = absurd cc
no_feed_in (c ∷ a) x (b ∷ bs) none e = no_feed_in a x bs (or_parts (b == line_feed) (has_feed bs) none).1 (let rest : bs ≡ a ++ line_feed ∷ x = cc in rest)

-- no line feed stands in a line, nor behind the last one
record Split (l : Lines) : Type 0 where
  each : AllByRecursion Lacks l.whole
  last : Lacks l.rest

split : (bytes : List ℕ) → Split (lines_of bytes)
split [] = record { each = tt; last = refl }
split (b ∷ bs) =
    cond_both (b == line_feed) (both ([] ∷ (lines_of bs).whole) (lines_of bs).rest) (with_byte b (lines_of bs).whole (lines_of bs).rest) Split
    (λ _. record { each = (refl, (split bs).each); last = (split bs).last })
    (λ other. go other (lines_of bs).whole (lines_of bs).rest (split bs).each (split bs).last)
  where
    go : (b == line_feed) ≡ false → (whole : List (List ℕ)) (rest : List ℕ) → AllByRecursion Lacks whole → Lacks rest → Split (with_byte b whole rest)
    go other [] rest each last = record { each = tt; last = rw (other, last) refl }
    go other (line ∷ lines) rest each last = record { each = (rw (other, each.0) refl, each.1); last = last }

-- ---- the first bad line

-- from here on, behind so many lines
record HasBad (s : Standing) (texts : List (List ℕ)) (rest : List ℕ) (n number : ℕ) : Type 0 where
  lines : List Line
  last : Standing
  stand : Stand s lines last
  numbered : number ≡ n + length lines + 1
  behind : List ℕ
  front : flat_map with_feed texts ++ rest ≡ flat_map printed lines ++ behind
  no_line : (line : Line) (more : List ℕ) → MayStand last line → behind ≡ printed line ++ more → ⊥
  no_end : last.stage ≡ Ended → behind ≡ [] → ⊥

number_of : (m n : ℕ) → BadLine m ≡ BadLine n → m ≡ n
number_of m n same = cc

printed_is : (line : Line) (more : List ℕ) → printed line ++ more ≡ line_text line ++ line_feed ∷ more
printed_is line more = append_assoc (line_text line) (codes "\n") more

-- a line that is no line is the first bad one
bad_here : (s : Standing) (kept : List Kept) (text : List ℕ) (texts : List (List ℕ)) (rest : List ℕ) (n number : ℕ) → Behind s kept → Lacks text
    → ((line : Line) → MayStand s line → text ≡ line_text line → ⊥) → n + 1 ≡ number → HasBad s (text ∷ texts) rest n number
bad_here s kept text texts rest n number b none misfits same = record {
  lines = [];
  last = s;
  stand = refl;
  numbered = omega arith;
  behind = flat_map with_feed (text ∷ texts) ++ rest;
  front = refl;
  no_line = λ line more may e. misfits line may (one_split text (line_text line) (flat_map with_feed texts ++ rest) more none (one_line s kept line b may) (sym whole ∙ e ∙ printed_is line more));
  no_end = λ ended e. empty text (sym whole ∙ e);
}
  where
    whole : flat_map with_feed (text ∷ texts) ++ rest ≡ text ++ line_feed ∷ (flat_map with_feed texts ++ rest)
    whole = append_assoc (with_feed text) (flat_map with_feed texts) rest ∙ append_assoc text (line_feed ∷ []) (flat_map with_feed texts ++ rest)

    empty : (t : List ℕ) → t ++ line_feed ∷ (flat_map with_feed texts ++ rest) ≡ [] → ⊥
    empty [] e = absurd cc
    empty (c ∷ t) e = absurd cc

bad_at_end : (s : Standing) (kept : List Kept) (n number : ℕ) (rest : List ℕ) → Lacks rest → at_end (is_ended s.stage) kept n rest ≡ BadLine number → HasBad s [] rest n number
bad_at_end s kept n number rest none is = record {
  lines = [];
  last = s;
  stand = refl;
  numbered = number_is (is_ended s.stage) rest is;
  behind = rest;
  front = refl;
  no_line = λ line more may e. no_feed_in (line_text line) more rest none (e ∙ printed_is line more);
  no_end = λ ended e. ended_well (sym (ap (λ (x : Stage). at_end (is_ended x) kept n rest) ended ∙ ap (at_end true kept n) e) ∙ is);
}
  where
    number_is : (b : Bool) (bytes : List ℕ) → at_end b kept n bytes ≡ BadLine number → number ≡ n + 0 + 1
    number_is true [] e = absurd cc
    number_is true (c ∷ bytes) e = sym (number_of (n + 1) number e) ∙ omega arith
    number_is false bytes e = sym (number_of (n + 1) number e) ∙ omega arith

    ended_well : Restores kept ≡ BadLine number → ⊥
    ended_well e = absurd cc

to_bad : (texts : List (List ℕ)) (s : Standing) (kept : List Kept) (n number : ℕ) (rest : List ℕ) → Behind s kept → AllByRecursion Lacks texts → Lacks rest
    → answer_from s kept n texts rest ≡ BadLine number → HasBad s texts rest n number
to_bad [] s kept n number rest b each none is = bad_at_end s kept n number rest none is
to_bad (text ∷ texts) s kept n number rest b each none is =
    short (λ line may same. to_bad texts (after s line) (kept_on kept line) (n + 1) number rest (behind_more s kept line b may) each.1 none same)
    (is_too_long MAX_LINE text) refl is
  where
    next : Line → Answer
    next l = answer_from (after s l) (kept_on kept l) (n + 1) texts rest

    Onward : Type 0
    Onward = (line : Line) → MayStand s line → next line ≡ BadLine number → HasBad (after s line) texts rest (n + 1) number

    read : Onward → (o : Option Line) → line_in s text ≡ o → with_line o (n + 1) next ≡ BadLine number → HasBad s (text ∷ texts) rest n number
    read onward None e same =
        bad_here s kept text texts rest n number b each.0
        (λ line may t. let again : line_in s text ≡ Some line = ap (line_in s) t ∙ line_again s line (record { few = b.few }) may in absurd cc)
        (number_of (n + 1) number same)
    read onward (Some line) e same =
        let takes = line_takes s text line e in
        let more : HasBad (after s line) texts rest (n + 1) number = onward line takes.0 same in
        record {
          lines = line ∷ more.lines;
          last = more.last;
          stand = (takes.0, more.stand);
          numbered = let count = more.numbered in omega (arith, count);
          behind = more.behind;
          front = append_assoc (with_feed text) (flat_map with_feed texts) rest ∙ ap (λ (ys : List ℕ). with_feed text ++ ys) more.front
              ∙ ap (λ (t : List ℕ). with_feed t ++ (flat_map printed more.lines ++ more.behind)) takes.1
              ∙ sym (append_assoc (printed line) (flat_map printed more.lines) more.behind);
          no_line = more.no_line;
          no_end = more.no_end;
        }

    short : Onward → (long : Bool) → is_too_long MAX_LINE text ≡ long → cond long (BadLine (n + 1)) (with_line (line_in s text) (n + 1) next) ≡ BadLine number
        → HasBad s (text ∷ texts) rest n number
    short onward true e same =
        bad_here s kept text texts rest n number b each.0
        (λ line may t. let no : true ≡ false = sym e ∙ ap (is_too_long MAX_LINE) t ∙ short_line s kept line b may in absurd cc)
        (number_of (n + 1) number same)
    short onward false e same = read onward (line_in s text) refl same

pub first_bad : (bytes : List ℕ) (number : ℕ) → answer_of bytes ≡ BadLine number → IsFirstBad bytes number
first_bad bytes number is =
    let parts : Split (lines_of bytes) = split bytes in
    let h : HasBad at_start (lines_of bytes).whole (lines_of bytes).rest 0 number = to_bad (lines_of bytes).whole at_start [] 0 number (lines_of bytes).rest none_behind parts.each parts.last is in
    record { lines = h.lines; last = h.last; stand = h.stand; numbered = (let count = h.numbered in omega (arith, count)); rest = h.behind; front = sym (whole_again bytes) ∙ h.front; no_line = h.no_line; no_end = h.no_end }
