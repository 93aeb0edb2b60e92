-- How the words of a line are read.
use Rattle.std.specs.Prelude.{ℕ, ◌+◌, Bool, ◌&&◌, ◌==◌, nat_le, if◌then◌else◌, List, take, drop, position, Option, Some, None}
use Rattle.tcs_terms.specs.declared.limits.TheConstants.{MAX_NODES, MAX_SEQUENCE}
use Rattle.tcs_terms.specs.declared.ids.TxId.{TxId}
use Rattle.tcs_terms.specs.Payloads.{same_name}
use Rattle.text_words.specs.PayloadWords.{number_in}

-- the next step of reading, if this one gave something
infixl 10 ◌>>=◌
abbrev pub ◌>>=◌ : {A B : Type 0} → Option A → (A → Option B) → Option B
(Some x) >>= f = f x
None >>= f = None

abbrev pub halves : List ℕ → Option ℕ → Option (List ℕ × List ℕ)
halves text None = None
halves text (Some place) = Some (take place text, drop (place + 1) text)

-- what stands before and after the first of these bytes
unfoldable pub cut : ℕ → List ℕ → Option (List ℕ × List ℕ)
cut byte text = halves text (position (λ b. b == byte) text)

-- the first word of a text that has at least two, and what follows its space
abbrev pub first_word : List ℕ → Option (List ℕ × List ℕ)
first_word text = cut 32 text

-- whether a word is this one
abbrev pub is_word : List ℕ → List ℕ → Bool
is_word word text = same_name text word

-- a number in this range
unfoldable pub number_within : ℕ → ℕ → List ℕ → Option ℕ
number_within low high text = do
  n ← number_in text
  if nat_le low n && nat_le n high then Some n else None

-- a transaction: its home, a dot, its number
unfoldable pub txn_in : List ℕ → Option TxId
txn_in text = do
  parts ← cut 46 text
  home ← number_within 1 MAX_NODES parts.0
  seq ← number_within 1 MAX_SEQUENCE parts.1
  Some (record { home = home; seq = seq })
