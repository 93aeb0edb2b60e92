-- How the words of a payload are read, from left to right, and which word is the first that does not fit.
use Rattle.std.specs.Prelude.{◌≡◌, ℕ, zero, suc, ◌+◌, ◌-◌, ◌^◌, Bool, ◌&&◌, ◌||◌, not, ◌==◌, nat_le, nat_lt, if◌then◌else◌, is_none, List, [], ◌∷◌, length, slice_index, codes, Option, Some, None, Result, Ok, Err}
use Rattle.std.specs.List.{list_all}
use Rattle.std.specs.Char.{is_ascii_digit}
use Rattle.std.specs.Str.Parse.{digits_value}
use Rattle.tcs_terms.specs.declared.limits.TheConstants.{MAX_READS, MAX_RANGES, MAX_WRITES}
use Rattle.tcs_terms.specs.declared.payloads.ReadPart.{ReadPart}
use Rattle.tcs_terms.specs.declared.payloads.RangePart.{RangePart}
use Rattle.tcs_terms.specs.declared.payloads.WritePart.{WritePart}
use Rattle.text_words.specs.declared.words.Reason.{Reason}
use Rattle.text_words.specs.declared.words.Reason.TheVariants as reasons
use Rattle.text_words.specs.declared.words.WordFault.{WordFault}
use Rattle.text_words.specs.declared.words.WordFault.TheVariants as faults
use Rattle.text_words.specs.declared.words.Stop.{Stop}
use Rattle.text_words.specs.declared.words.Stop.TheVariants as stops
use Rattle.text_words.specs.Words.{words_of, begins, after}
use Rattle.text_words.specs.HexWords.{value_in}
use Rattle.tcs_terms.specs.ObjectFaults.{name_fault}
use Rattle.tcs_terms.specs.Order.{name_before}
use Rattle.tcs_terms.specs.Payloads.{Accesses, reads_name}

-- why a word does not fit, and how many words there are from it on; none where a word is missing
pub record Misfit : Type 0 where
  pub left : ℕ
  pub reason : Reason

-- the first of so many words does not fit
abbrev pub misfit : {A : Type 0} → Reason → ℕ → Result A Misfit
misfit reason left = Err (record { left = left; reason = reason })

-- the next step of reading, if this one did not fail
infixl 10 ◌>>=◌
abbrev pub ◌>>=◌ : {A B E : Type 0} → Result A E → (A → Result B E) → Result B E
(Ok x) >>= f = f x
(Err e) >>= f = Err e

-- ---- one word

-- whether a word has the form of a number: decimal digits, without a leading zero
abbrev pub is_numeral : List ℕ → Bool
is_numeral word = not (length word == 0) && (not (slice_index word 0 == 48) || (length word == 1)) && list_all is_ascii_digit word

-- the number that a word writes, which is at most 18,446,744,073,709,551,615
abbrev pub number_in : List ℕ → Option ℕ
number_in word = if is_numeral word && nat_lt (digits_value 10 word) (2 ^ 64) then Some (digits_value 10 word) else None

-- whether a byte may stand in a word that is no number
abbrev pub is_printable : ℕ → Bool
is_printable b = nat_le 32 b && nat_le b 126

-- the name that a word is
unfoldable pub name_in : List ℕ → Option (List ℕ)
name_in word = if is_none (name_fault word) then Some word else None

-- ---- a word, and the words after it

-- a word that is no number is wrong as a word where it is missing or has a byte that is not printable
abbrev pub number_or : Option ℕ → List ℕ → List (List ℕ) → Result (ℕ × List (List ℕ)) Misfit
number_or (Some n) w ws = Ok (n, ws)
number_or None w ws = if (length w == 0) || not (list_all is_printable w) then misfit reasons.Word (length (w ∷ ws)) else misfit reasons.Number (length (w ∷ ws))

-- a number
unfoldable pub number_word : List (List ℕ) → Result (ℕ × List (List ℕ)) Misfit
number_word [] = misfit reasons.Word 0
number_word (w ∷ ws) = number_or (number_in w) w ws

-- what was found in the first of so many words, which is wrong as a word where nothing was
abbrev pub found_or : Option (List ℕ) → ℕ → Result (List ℕ) Misfit
found_or (Some v) left = Ok v
found_or None left = misfit reasons.Word left

-- a name that stands after another one; every name stands after the empty one
unfoldable pub name_word : List ℕ → List (List ℕ) → Result (List ℕ × List (List ℕ)) Misfit
name_word before [] = misfit reasons.Word 0
name_word before (w ∷ ws) = do
  name ← found_or (name_in w) (length (w ∷ ws))
  if not (name_before before w) then misfit reasons.Order (length (w ∷ ws)) else Ok (name, ws)

-- the beginning of a range, which is not below the end of the one before
unfoldable pub from_word : List ℕ → List (List ℕ) → Result (List ℕ × List (List ℕ)) Misfit
from_word end [] = misfit reasons.Word 0
from_word end (w ∷ ws) = do
  name ← found_or (name_in w) (length (w ∷ ws))
  if name_before w end then misfit reasons.Order (length (w ∷ ws)) else Ok (name, ws)

-- a written name, which is also read
unfoldable pub written_word : List ReadPart → List ℕ → List (List ℕ) → Result (List ℕ × List (List ℕ)) Misfit
written_word reads before words = do
  name ← name_word before words
  if not (reads_name reads name.0) then misfit reasons.Unread (length words) else Ok name

-- a value
unfoldable pub value_word : List (List ℕ) → Result (List ℕ × List (List ℕ)) Misfit
value_word [] = misfit reasons.Word 0
value_word (w ∷ ws) = do
  value ← found_or (value_in w) (length (w ∷ ws))
  Ok (value, ws)

-- the commit version, which is not 0
unfoldable pub commit_word : List (List ℕ) → Result (ℕ × List (List ℕ)) Misfit
commit_word words = do
  n ← number_word words
  if n.0 == 0 then misfit reasons.Version (length words) else Ok n

-- a version that was read, which is below the commit version
unfoldable pub version_word : ℕ → List (List ℕ) → Result (ℕ × List (List ℕ)) Misfit
version_word commit words = do
  n ← number_word words
  if not (nat_lt n.0 commit) then misfit reasons.Version (length words) else Ok n

-- ---- parts

-- a read, after its r: a name above the one before, and a version
unfoldable pub read_at : ℕ → List ℕ → List (List ℕ) → Result (ReadPart × List (List ℕ)) Misfit
read_at commit before words = do
  name ← name_word before words
  version ← version_word commit name.1
  Ok (record { name = name.0; version = version.0 }, version.1)

-- a range, after its q: it begins at or after the end of the one before, and is not empty
unfoldable pub range_at : ℕ → List ℕ → List (List ℕ) → Result (RangePart × List (List ℕ)) Misfit
range_at commit end words = do
  from ← from_word end words
  upto ← name_word from.0 from.1
  version ← version_word commit upto.1
  Ok (record { from = from.0; upto = upto.0; version = version.0 }, version.1)

-- a write, after its w: a name that is read, above the one before, and a value
unfoldable pub write_at : List ReadPart → List ℕ → List (List ℕ) → Result (WritePart × List (List ℕ)) Misfit
write_at reads before words = do
  name ← written_word reads before words
  value ← value_word name.1
  Ok (record { name = name.0; value = value.0 }, value.1)

-- parts that each begin with the same word, as long as there is room for another; one more is one too many
unfoldable pub parts_at : {X : Type 0} → List ℕ → (X → List ℕ) → (List ℕ → List (List ℕ) → Result (X × List (List ℕ)) Misfit) → ℕ → List ℕ → List (List ℕ) → Result (List X × List (List ℕ)) Misfit
parts_at word last_name part_at zero before words = if begins word words then misfit reasons.Many (length words) else Ok ([], words)
parts_at word last_name part_at (suc room) before words =
    if begins word words
    then (part_at before (after words) >>= λ p. parts_at word last_name part_at room (last_name p.0) p.1 >>= λ ps. Ok (p.0 ∷ ps.0, ps.1))
    else Ok ([], words)

-- the reads
abbrev pub reads_at : ℕ → List (List ℕ) → Result (List ReadPart × List (List ℕ)) Misfit
reads_at commit words = parts_at (codes "r") (λ r. r.name) (read_at commit) MAX_READS [] words

-- the ranges
abbrev pub ranges_at : ℕ → List (List ℕ) → Result (List RangePart × List (List ℕ)) Misfit
ranges_at commit words = parts_at (codes "q") (λ q. q.upto) (range_at commit) MAX_RANGES [] words

-- version 1 of the texts has no ranges
abbrev pub ranges_in : ℕ → ℕ → List (List ℕ) → Result (List RangePart × List (List ℕ)) Misfit
ranges_in version commit words = if version == 1 then Ok ([], words) else ranges_at commit words

-- the writes
abbrev pub writes_at : List ReadPart → List (List ℕ) → Result (List WritePart × List (List ℕ)) Misfit
writes_at reads words = parts_at (codes "w") (λ w. w.name) (write_at reads) MAX_WRITES [] words

-- the words after one that is fixed
abbrev pub fixed_word : List ℕ → List (List ℕ) → Result (Unit {0} × List (List ℕ)) Misfit
fixed_word word words = if begins word words then Ok (tt, after words) else misfit reasons.Word (length words)

-- something must be read
abbrev pub some_read : List ReadPart → List RangePart → List (List ℕ) → Result (Unit {0} × List (List ℕ)) Misfit
some_read reads ranges words = if (length reads == 0) && (length ranges == 0) then misfit reasons.Word (length words) else Ok (tt, words)

-- no word may be left over
abbrev pub all_read : List (List ℕ) → Result (Unit {0} × List (List ℕ)) Misfit
all_read words = if length words == 0 then Ok (tt, words) else misfit reasons.Word (length words)

-- the payload that all of the words spell: the commit version, the reads, the ranges, the writes
unfoldable pub payload_at : ℕ → List (List ℕ) → Result Accesses Misfit
payload_at version words = do
  begun ← fixed_word (codes "v") words
  commit ← commit_word begun.1
  reads ← reads_at commit.0 commit.1
  ranges ← ranges_in version commit.0 reads.1
  some ← some_read reads.0 ranges.0 ranges.1
  writes ← writes_at reads.0 some.1
  end ← all_read writes.1
  Ok (record { reads = reads.0; ranges = ranges.0; writes = writes.0; version = commit.0 })

-- a payload of version 1 has no range
abbrev pub FitsVersion : ℕ → Accesses → Type 0
FitsVersion version p = version ≡ 1 → p.ranges ≡ []

-- the fault of a misfit among so many words: words are numbered from 1, and a missing word has the number that it would have
abbrev pub numbered : ℕ → Result Accesses Misfit → Result Accesses (ℕ × Reason)
numbered count (Ok p) = Ok p
numbered count (Err m) = Err (count + 1 - m.left, m.reason)

-- the payload that a text spells in a version, or the number of its first word that does not fit, and the reason
abbrev pub reading : ℕ → List ℕ → Result Accesses (ℕ × Reason)
reading version text = numbered (length (words_of text)) (payload_at version (words_of text))

-- ---- what the code answers

-- a reader's error is the misfit, unless memory ran out
abbrev pub Fails : {Y : Type 0} → Stop → Result Y Misfit → Type 0
Fails stops.OutOfMemory read = Unit {0}
Fails (stops.Misfit left reason) read = read ≡ Err (record { left = left; reason = reason })

-- a reader's answer, seen by view, and the words that it leaves are what reading gives, unless memory ran out
abbrev pub Tells : {X Y : Type 0} → (X → Y) → Result X Stop → List (List ℕ) → Result (Y × List (List ℕ)) Misfit → Type 0
Tells view (Ok x) left read = read ≡ Ok (view x, left)
Tells view (Err e) left read = Fails e read

-- the same of a reader that takes no word
abbrev pub Gives : {X Y : Type 0} → (X → Y) → Result X Stop → Result Y Misfit → Type 0
Gives view (Ok x) read = read ≡ Ok (view x)
Gives view (Err e) read = Fails e read

-- the fault that is answered is the one of the first word that does not fit, unless memory ran out
abbrev pub Faults : WordFault → Result Accesses (ℕ × Reason) → Type 0
Faults faults.OutOfMemory read = Unit {0}
Faults (faults.Bad word reason) read = read ≡ Err (word, reason)

-- an answer is what reading gives, unless memory ran out
abbrev pub Reads : Result Accesses WordFault → Result Accesses (ℕ × Reason) → Type 0
Reads (Ok p) read = read ≡ Ok p
Reads (Err e) read = Faults e read

-- the name of the last of these parts, or the empty one
abbrev pub last_of : {X : Type 0} → (X → List ℕ) → List X → List ℕ
last_of name [] = []
last_of name (x ∷ []) = name x
last_of name (x ∷ y ∷ zs) = last_of name (y ∷ zs)

-- the name of the last read
abbrev pub last_read : List ReadPart → List ℕ
last_read reads = last_of (λ r. r.name) reads

-- the end of the last range
abbrev pub last_end : List RangePart → List ℕ
last_end ranges = last_of (λ q. q.upto) ranges

-- the name of the last write
abbrev pub last_write : List WritePart → List ℕ
last_write writes = last_of (λ w. w.name) writes
