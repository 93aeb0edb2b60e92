-- The lines of bytes that begin with a text in which no line feed stands.
use Rattle.std.proofs.Common.{◌≡◌, ℕ, ◌≤◌, true, false, ◌==◌, List, [], ◌∷◌, ◌++◌, length, refl, sym, ap, ◌∙◌, append-nil, length-append, arith}
use Rattle.std.proofs.lemmas.Bool.{cond-false, or_parts, ltb-true, ltb-false, lt-ltb}
use Rattle.schedule_text.specs.Lines.{line_feed, has_feed}
use Rattle.long_lines.specs.Texts.{Lines, with_byte, lines_of, is_too_long}

abbrev pub both : List (List ℕ) → List ℕ → Lines
both whole rest = record { whole = whole; rest = rest }

-- lines with a text before them
abbrev pub put_before : List ℕ → List (List ℕ) → List ℕ → Lines
put_before text [] rest = record { whole = []; rest = text ++ rest }
put_before text (line ∷ lines) rest = record { whole = (text ++ line) ∷ lines; rest = rest }

pub lines_behind : (text more : List ℕ) → has_feed text ≡ false
    → lines_of (text ++ more) ≡ put_before text (lines_of more).whole (lines_of more).rest
lines_behind [] more none = go (lines_of more).whole (lines_of more).rest
  where
    go : (whole : List (List ℕ)) (rest : List ℕ) → both whole rest ≡ put_before [] whole rest
    go [] rest = refl
    go (line ∷ lines) rest = refl
lines_behind (b ∷ bs) more none =
    let parts = or_parts (b == line_feed) (has_feed bs) none in
    cond-false (b == line_feed) (both ([] ∷ (lines_of (bs ++ more)).whole) (lines_of (bs ++ more)).rest)
    (with_byte b (lines_of (bs ++ more)).whole (lines_of (bs ++ more)).rest) parts.0
    ∙ ap (λ (l : Lines). with_byte b l.whole l.rest) (lines_behind bs more parts.1)
    ∙ go (lines_of more).whole (lines_of more).rest
  where
    go : (whole : List (List ℕ)) (rest : List ℕ) → with_byte b (put_before bs whole rest).whole (put_before bs whole rest).rest ≡ put_before (b ∷ bs) whole rest
    go [] rest = refl
    go (line ∷ lines) rest = refl

-- a line feed ends the text: it is the first line
pub line_then : (text more : List ℕ) → has_feed text ≡ false
    → lines_of (text ++ line_feed ∷ more) ≡ both (text ∷ (lines_of more).whole) (lines_of more).rest
line_then text more none =
    lines_behind text (line_feed ∷ more) none
    ∙ ap (λ (t : List ℕ). both (t ∷ (lines_of more).whole) (lines_of more).rest) (append-nil text)

-- nothing stands behind the text: it is no whole line
pub no_line : (text : List ℕ) → has_feed text ≡ false → lines_of text ≡ both [] text
no_line text none =
    ap lines_of (sym (append-nil text)) ∙ lines_behind text [] none
    ∙ ap (λ (t : List ℕ). both [] t) (append-nil text)

-- what is too long stays so with more bytes
pub still_long : (most : ℕ) (text more : List ℕ) → is_too_long most text ≡ true → is_too_long most (text ++ more) ≡ true
still_long most text more long = lt-ltb most (length (text ++ more)) (omega (arith, ltb-true most (length text) long, length-append text more))

-- what is not too long has room
pub has_room : (most : ℕ) (text : List ℕ) → is_too_long most text ≡ false → length text ≤ most
has_room most text short = ltb-false most (length text) short
