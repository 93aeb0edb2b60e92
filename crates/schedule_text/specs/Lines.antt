-- What a call of the reader of lines hands out, what it holds, and what it leaves to the source.
use Rattle.std.specs.Prelude.{◌≡◌, ◌⊎◌, ℕ, ◌+◌, ◌≤◌, Bool, true, false, ◌==◌, List, [], ◌∷◌, ◌++◌, length, Option, Some}
use Rattle.std.specs.List.{list_any}
use Rattle.schedule_text.specs.declared.limits.TheConstants.{LINE_LIMIT}
use Rattle.schedule_text.specs.declared.lines.Got.{Got}
use Rattle.schedule_text.specs.declared.lines.Got.TheVariants.{Whole, Cut, Long, Nothing}

-- the byte that ends a line
abbrev pub line_feed : ℕ
line_feed = 10

-- one of these bytes is a line feed
abbrev pub has_feed : List ℕ → Bool
has_feed bytes = list_any (λ byte. byte == line_feed) bytes

-- the bytes of a line have no line feed, and are no more than a line may have
pub record IsLine (bytes : List ℕ) : Type 0 where
  pub no_feed : has_feed bytes ≡ false
  pub short : length bytes ≤ LINE_LIMIT

-- these bytes show already what the next line is: they have a line feed, or are too many for a line
abbrev pub Decided : List ℕ → Type 0
Decided bytes = (has_feed bytes ≡ true) ⊎ (length bytes ≡ LINE_LIMIT + 1)

-- the bytes that are handed out with each answer
abbrev pub Fits : Got → List ℕ → Type 0
Fits Whole bytes = IsLine bytes
Fits Cut bytes = IsLine bytes × (1 ≤ length bytes)
Fits Long bytes = (has_feed bytes ≡ false) × (length bytes ≡ LINE_LIMIT + 1)
Fits Nothing bytes = bytes ≡ []

-- all the bytes that there were, in order: those handed out, the line feed of a whole line, those held, those that are
-- left; and after a cut line, or nothing, the input has ended
abbrev pub Divides : Got → (all out held left : List ℕ) → Type 0
Divides Whole all out held left = all ≡ out ++ line_feed ∷ (held ++ left)
Divides Cut all out held left = (all ≡ out) × (held ≡ []) × (left ≡ [])
Divides Long all out held left = all ≡ out ++ (held ++ left)
Divides Nothing all out held left = (all ≡ []) × (held ≡ []) × (left ≡ [])

-- the source tells what it has left, and with it the bytes are divided so
pub record HandsOut (got : Got) (all out held : List ℕ) (left : Option (List ℕ)) : Type 0 where
  pub rest : List ℕ
  pub told : left ≡ Some rest
  pub divided : Divides got all out held rest

-- nothing is lost: what is held, and then what the source has left, are still all the bytes
pub record Keeps (all held : List ℕ) (left : Option (List ℕ)) : Type 0 where
  pub rest : List ℕ
  pub told : left ≡ Some rest
  pub whole : all ≡ held ++ rest

-- how many bytes a call used up
abbrev pub used : Got → List ℕ → ℕ
used Whole bytes = length bytes + 1
used Cut bytes = length bytes
used Long bytes = length bytes
used Nothing bytes = length bytes
