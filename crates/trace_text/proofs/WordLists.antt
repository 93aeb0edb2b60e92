-- The words of a text, one after the other, as transactions.
use Rattle.std.proofs.Common.{◌≡◌, ℕ, true, List, [], ◌∷◌, ◌++◌, Option, Some, None, refl, sym, ◌∙◌, ap, append_assoc}
use Rattle.std.specs.Prelude.{◌==◌}
use Rattle.std.specs.Option.{option_map}
use Rattle.std.proofs.lemmas.List.Splits.{slice_split_at, slice_split_none}
use Rattle.tcs_terms.specs.declared.ids.TxId.{TxId}
use Rattle.text_words.specs.Words.{words_of}
use Rattle.trace_text.specs.Words.{◌>>=◌, cut, txn_in, each_txn}
use Rattle.trace_text.proofs.Cuts.{lacks, lacking_at, cut_takes, uncut_lacks}

pub words_of_two : (a b : List ℕ) → lacks 32 a ≡ true → words_of (a ++ 32 ∷ b) ≡ a ∷ words_of b
words_of_two a b h = slice_split_at (λ c. c == 32) a 32 b (lacking_at 32 a h) refl

pub words_of_one : (text : List ℕ) → lacks 32 text ≡ true → words_of text ≡ text ∷ []
words_of_one text h = slice_split_none (λ c. c == 32) text (lacking_at 32 text h)

-- transactions that were read, before those that are still to be
abbrev pub before : List TxId → Option (List TxId) → Option (List TxId)
before first others = option_map (λ ts. first ++ ts) others

pub before_none : (o : Option (List TxId)) → before [] o ≡ o
before_none None = refl
before_none (Some ts) = refl

-- one more word was read
pub one_more : (left : List ℕ) (x : List ℕ × List ℕ) (t : TxId) (first : List TxId) → cut 32 left ≡ Some x → txn_in x.0 ≡ Some t
    → before first (each_txn (words_of left)) ≡ before (first ++ t ∷ []) (each_txn (words_of x.1))
unfolding each_txn
one_more left x t first c r =
    let cutting = cut_takes 32 left x c in
    let words : words_of left ≡ x.0 ∷ words_of x.1 = ap words_of cutting.whole ∙ words_of_two x.0 x.1 cutting.lacking in
    rw (words, r) (shift (each_txn (words_of x.1))) where
      shift : (o : Option (List TxId)) → before first (o >>= λ ts. Some (t ∷ ts)) ≡ before (first ++ t ∷ []) o
      shift None = refl
      shift (Some ts) = ap Some (sym (append_assoc first (t ∷ []) ts))

-- the last word was read
pub last_one : (left : List ℕ) (t : TxId) (first : List TxId) → cut 32 left ≡ None → txn_in left ≡ Some t
    → before first (each_txn (words_of left)) ≡ Some (first ++ t ∷ [])
unfolding each_txn
last_one left t first c r = rw (words_of_one left (uncut_lacks 32 left c), r) refl

-- a word is none
pub none_of_two : (left : List ℕ) (x : List ℕ × List ℕ) (first : List TxId) → cut 32 left ≡ Some x → txn_in x.0 ≡ None
    → before first (each_txn (words_of left)) ≡ None
unfolding each_txn
none_of_two left x first c r =
    let cutting = cut_takes 32 left x c in
    let words : words_of left ≡ x.0 ∷ words_of x.1 = ap words_of cutting.whole ∙ words_of_two x.0 x.1 cutting.lacking in
    rw (words, r) refl

pub none_of_one : (left : List ℕ) (first : List TxId) → cut 32 left ≡ None → txn_in left ≡ None → before first (each_txn (words_of left)) ≡ None
unfolding each_txn
none_of_one left first c r = rw (words_of_one left (uncut_lacks 32 left c), r) refl
