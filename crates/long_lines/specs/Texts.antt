-- Lines of bytes, of any length up to a limit.
use Rattle.std.specs.Prelude.{◌≡◌, ℕ, ◌<◌, Bool, false, true, ◌==◌, nat_lt, if◌then◌else◌, List, [], ◌∷◌, ◌++◌, length, Option, Some}
use Rattle.schedule_text.specs.declared.lines.Got.{Got}
use Rattle.schedule_text.specs.Lines.{line_feed, has_feed, Fits, HandsOut}
use Rattle.long_lines.specs.declared.texts.TextEnd.{TextEnd}
use Rattle.long_lines.specs.declared.texts.TextEnd.TheVariants.{Whole, Long, Ended}

-- the lines that line feeds end, without these, and what stands behind the last line feed
pub record Lines : Type 0 where
  pub whole : List (List ℕ)
  pub rest : List ℕ

-- lines with one byte before them
abbrev pub with_byte : ℕ → List (List ℕ) → List ℕ → Lines
with_byte byte [] rest = record { whole = []; rest = byte ∷ rest }
with_byte byte (line ∷ lines) rest = record { whole = (byte ∷ line) ∷ lines; rest = rest }

abbrev pub lines_of : List ℕ → Lines
lines_of [] = record { whole = []; rest = [] }
lines_of (byte ∷ bytes) =
    if byte == line_feed
    then (record { whole = [] ∷ (lines_of bytes).whole; rest = (lines_of bytes).rest })
    else with_byte byte (lines_of bytes).whole (lines_of bytes).rest

-- whether a line has too many bytes
abbrev pub is_too_long : ℕ → List ℕ → Bool
is_too_long most text = nat_lt most (length text)

-- What each answer says of all the bytes: those of the text, those held, and those left. Behind a text that is too long
-- nothing is told of the others.
abbrev pub Divides : (most : ℕ) → TextEnd → (all text held left : List ℕ) → Type 0
Divides most Whole all text held left = (all ≡ text ++ line_feed ∷ (held ++ left)) × (is_too_long most text ≡ false)
Divides most Long all text held left = (more : List ℕ) × (all ≡ text ++ more) × (0 < length all) × (is_too_long most text ≡ true)
Divides most Ended all text held left = (all ≡ text) × (held ≡ []) × (left ≡ [])

-- the source tells what it has left, and with it the bytes are divided so; no line feed is in the text
pub record Yields (most : ℕ) (end : TextEnd) (all text held : List ℕ) (left : Option (List ℕ)) : Type 0 where
  pub rest : List ℕ
  pub told : left ≡ Some rest
  pub one_line : has_feed text ≡ false
  pub divided : Divides most end all text held rest

-- ---- pieces

-- the next piece of a line was appended to those before it
pub record Appends (got : Got) (before after held held' : List ℕ) (left left' : Option (List ℕ)) : Type 0 where
  pub piece : List ℕ
  pub fits : Fits got piece
  pub joined : after ≡ before ++ piece
  pub hands : (rest : List ℕ) → left ≡ Some rest → HandsOut got (held ++ rest) piece held' left'

-- the pieces so far, and behind them what is held and what is left, are all the bytes
pub record Gathers (all text held : List ℕ) (left : Option (List ℕ)) : Type 0 where
  pub rest : List ℕ
  pub told : left ≡ Some rest
  pub whole : all ≡ text ++ (held ++ rest)
