-- The steps of the reader of lines. No public clause cites this module.
use Rattle.std.specs.Prelude.{◌≡◌, ℕ, ◌+◌, false, List, ◌∷◌, ◌++◌, length}
use Rattle.schedule_text.specs.declared.limits.TheConstants.{LINE_LIMIT}
use Rattle.schedule_text.specs.declared.lines.LineEnd.{LineEnd}
use Rattle.schedule_text.specs.declared.lines.LineEnd.TheVariants.{Feed, Full, End}
use Rattle.schedule_text.specs.Lines.{line_feed, has_feed, IsLine}

-- the first line feed of the bytes stands here
pub record FirstFeed (bytes : List ℕ) (at : ℕ) : Type 0 where
  pub line : List ℕ
  pub rest : List ℕ
  pub split : bytes ≡ line ++ line_feed ∷ rest
  pub no_feed : has_feed line ≡ false
  pub place : at ≡ length line

-- so many bytes were added at the end
pub record Grew (count : ℕ) (before after : List ℕ) : Type 0 where
  pub more : List ℕ
  pub many : length more ≡ count
  pub grown : after ≡ before ++ more

-- why no more bytes are read before a line is handed out
abbrev pub Ends : LineEnd → List ℕ → Type 0
Ends (Feed at) bytes = FirstFeed bytes at
Ends Full bytes = (has_feed bytes ≡ false) × (length bytes ≡ LINE_LIMIT + 1)
Ends End bytes = IsLine bytes
