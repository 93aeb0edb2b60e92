-- The words of a text, and how reasons are printed.
use Rattle.std.specs.Prelude.{ℕ, ◌==◌, Bool, true, false, List, [], ◌∷◌, codes}
use Rattle.std.specs.List.{slice_split}
use Rattle.tcs_terms.specs.Payloads.{same_name}
use Rattle.text_words.specs.declared.words.Reason.{Reason}
use Rattle.text_words.specs.declared.words.Reason.TheVariants as reasons

-- the words of a text are what stands between its spaces; where two spaces stand together, or a space at an end, a word is empty
abbrev pub words_of : List ℕ → List (List ℕ)
words_of text = slice_split (λ b. b == 32) text

-- those words, or none once the last was taken
abbrev pub words_unless : Bool → List ℕ → List (List ℕ)
words_unless true text = []
words_unless false text = words_of text

-- whether the next word is this one
abbrev pub begins : List ℕ → List (List ℕ) → Bool
begins word [] = false
begins word (w ∷ ws) = same_name w word

-- the words after the next one
abbrev pub after : List (List ℕ) → List (List ℕ)
after [] = []
after (w ∷ ws) = ws

-- the word of a reason
abbrev pub reason_text : Reason → List ℕ
reason_text reasons.Extra = codes "extra"
reason_text reasons.Missing = codes "missing"
reason_text reasons.Long = codes "long"
reason_text reasons.Many = codes "many"
reason_text reasons.Word = codes "word"
reason_text reasons.Number = codes "number"
reason_text reasons.Range = codes "range"
reason_text reasons.Order = codes "order"
reason_text reasons.Version = codes "version"
reason_text reasons.Unread = codes "unread"
