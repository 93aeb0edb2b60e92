-- The lines of what is printed are the texts of the lines.
use Rattle.std.proofs.Common.{◌≡◌, ℕ, ◌+◌, false, List, [], ◌∷◌, ◌++◌, map, length, length-append, append_assoc, refl, ap, ◌∙◌, arith}
use Rattle.std.specs.List.{flat_map, AllByRecursion}
use Rattle.schedule_text.specs.Lines.{line_feed, has_feed}
use Rattle.trace_text.specs.Lines.{Line, line_text, printed}
use Rattle.audit_core.specs.Texts.{Lines, lines_of}
use Rattle.audit_core.proofs.Lines.{both, line_then}

-- no line feed stands in any of the texts
abbrev pub HaveNoFeed : List (List ℕ) → Type 0
HaveNoFeed texts = AllByRecursion (λ text. has_feed text ≡ false) texts

-- how many bytes texts have, with a line feed behind each
abbrev pub size_of : List (List ℕ) → ℕ
size_of [] = 0
size_of (text ∷ texts) = length text + 1 + size_of texts

-- the first line of what is printed
first-printed : (line : Line) (lines : List Line) → flat_map printed (line ∷ lines) ≡ line_text line ++ line_feed ∷ flat_map printed lines
first-printed line lines = append_assoc (line_text line) (line_feed ∷ []) (flat_map printed lines)

pub lines_printed : (lines : List Line) → HaveNoFeed (map line_text lines) → lines_of (flat_map printed lines) ≡ both (map line_text lines) []
lines_printed [] none = refl
lines_printed (line ∷ lines) none =
    ap lines_of (first-printed line lines)
    ∙ line_then (line_text line) (flat_map printed lines) none.0
    ∙ ap (λ (l : Lines). both (line_text line ∷ l.whole) l.rest) (lines_printed lines none.1)

pub size-printed : (lines : List Line) → length (flat_map printed lines) ≡ size_of (map line_text lines)
size-printed [] = refl
size-printed (line ∷ lines) =
    omega (arith, size-printed lines, ap length (first-printed line lines), length-append (line_text line) (line_feed ∷ flat_map printed lines))
