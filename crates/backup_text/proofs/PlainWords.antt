-- Numbers, transactions and names: what is read is spelled so, and what is spelled so is read.
use Rattle.std.proofs.Common.{◌≡◌, ℕ, ◌^◌, ◌<◌, ◌≤◌, Bool, true, not, ◌&&◌, List, [], ◌∷◌, ◌++◌, Some, refl, ap, subst, ◌∙◌, arith}
use Rattle.std.specs.Prelude.{◌==◌, nat_le, decimal}
use Rattle.std.specs.List.{list_all}
use Rattle.std.specs.Char.{is_ascii_digit}
use Rattle.std.specs.Cmp.Lexicographic.{bytes_decides}
use Rattle.std.proofs.lemmas.Bool.Decides.{nat_tests}
use Rattle.std.proofs.lemmas.Fmt.{digits_decimal}
use Rattle.std.proofs.lemmas.List.Folds.{list_all-append}
use Rattle.tcs_terms.specs.declared.limits.TheConstants.{MAX_NODES, MAX_SEQUENCE}
use Rattle.tcs_terms.specs.declared.ids.TxId.{TxId}
use Rattle.tcs_terms.specs.Objects.{is_name_byte, IsName}
use Rattle.tcs_terms.specs.Places.{is_node}
use Rattle.tcs_terms.specs.Messages.{is_txn}
use Rattle.text_words.specs.PayloadWords.{number_in}
use Rattle.tcs_terms.proofs.BoolLaws.{both, left_of, right_of}
use Rattle.text_words.specs.Texts.{txn_text}
use Rattle.text_words.proofs.NumberLaws.{numerals}
use Rattle.text_words.proofs.WordReadings.{number_in_takes, number_in_again}
use Rattle.backup_text.specs.Words.{cut, is_word, number_within, txn_in}
use Rattle.backup_text.proofs.Steps.{bind_some, some_is, kept}
use Rattle.backup_text.proofs.Cuts.{lacks, cut_takes, cut_again}

pub word_is : (word text : List ℕ) → is_word word text ≡ true → text ≡ word
word_is word text h = (bytes_decides text word).0 h

-- ---- bytes that a word lacks

weaker : (f g : ℕ → Bool) → ((b : ℕ) → f b ≡ true → g b ≡ true) → (w : List ℕ) → list_all f w ≡ true → list_all g w ≡ true
weaker f g step [] h = refl
weaker f g step (b ∷ bs) h = both (g b) (list_all g bs) (step b (left_of (f b) (list_all f bs) h)) (weaker f g step bs (right_of (f b) (list_all f bs) h))

pub decimal_lacks : (byte n : ℕ) → byte < 48 → n < 2 ^ 64 → lacks byte (decimal n) ≡ true
decimal_lacks byte n low small = weaker is_ascii_digit (λ b. not (b == byte)) (λ b h. grind (arith, nat_tests)) (decimal n) (digits_decimal numerals n small)

name_bytes_lack : (byte : ℕ) (text : List ℕ) → byte < 48 → list_all is_name_byte text ≡ true → lacks byte text ≡ true
name_bytes_lack byte text low h = weaker is_name_byte (λ b. not (b == byte)) (λ b h. grind (arith, nat_tests)) text h

pub name_lacks : (byte : ℕ) (name : List ℕ) → byte < 48 → IsName name → lacks byte name ≡ true
name_lacks byte name low h = name_bytes_lack byte name low h.alphabet

-- ---- numbers

-- a number that was read, in its range
record Within (low high : ℕ) (text : List ℕ) (n : ℕ) : Type 0 where
  spelled : text ≡ decimal n
  fits : (nat_le low n && nat_le n high) ≡ true
  small : n < 2 ^ 64

within_takes : (low high : ℕ) (text : List ℕ) (n : ℕ) → number_within low high text ≡ Some n → Within low high text n
unfolding number_within
within_takes low high text n h =
    let a = bind_some (number_in text) _ n h in
    let t = number_in_takes text a.0 a.1 in
    let k = kept (nat_le low a.0 && nat_le a.0 high) a.0 n a.2 in
    subst (Within low high text) k.1 (record { spelled = t.0; fits = k.0; small = t.1 })

within_again : (low high n : ℕ) → (nat_le low n && nat_le n high) ≡ true → n < 2 ^ 64 → number_within low high (decimal n) ≡ Some n
unfolding number_within
within_again low high n fits small = rw (number_in_again n small, fits) refl

small_within : (low high n : ℕ) → (nat_le low n && nat_le n high) ≡ true → high < 2 ^ 64 → n < 2 ^ 64
small_within low high n fits below =
    let top = right_of (nat_le low n) (nat_le n high) fits in
    let le : n ≤ high = grind (arith, nat_tests) in
    omega arith

-- ---- transactions

pub txn_takes : (text : List ℕ) (t : TxId) → txn_in text ≡ Some t → (text ≡ txn_text t) × (is_txn t ≡ true)
unfolding txn_in
txn_takes text t h =
    let parts = bind_some (cut 46 text) _ t h in
    let home = bind_some (number_within 1 MAX_NODES parts.0.0) _ t parts.2 in
    let seq = bind_some (number_within 1 MAX_SEQUENCE parts.0.1) _ t home.2 in
    let c = cut_takes 46 text parts.0 parts.1 in
    let x = within_takes 1 MAX_NODES parts.0.0 home.0 home.1 in
    let y = within_takes 1 MAX_SEQUENCE parts.0.1 seq.0 seq.1 in
    let made : TxId = record { home = home.0; seq = seq.0 } in
    subst (λ (u : TxId). (text ≡ txn_text u) × (is_txn u ≡ true)) (some_is made t seq.2)
    (c.whole ∙ ap (λ (v : List ℕ). v ++ 46 ∷ parts.0.1) x.spelled ∙ ap (λ (v : List ℕ). decimal home.0 ++ 46 ∷ v) y.spelled, both (is_node home.0) (nat_le 1 seq.0 && nat_le seq.0 MAX_SEQUENCE) x.fits y.fits)

pub txn_again : (t : TxId) → is_txn t ≡ true → txn_in (txn_text t) ≡ Some t
unfolding txn_in
txn_again t h =
    let home = left_of (is_node t.home) (nat_le 1 t.seq && nat_le t.seq MAX_SEQUENCE) h in
    let seq = right_of (is_node t.home) (nat_le 1 t.seq && nat_le t.seq MAX_SEQUENCE) h in
    let home_small = small_within 1 MAX_NODES t.home home (omega arith) in
    let seq_small = small_within 1 MAX_SEQUENCE t.seq seq (omega arith) in
    rw (cut_again 46 (decimal t.home) (decimal t.seq) (decimal_lacks 46 t.home (omega arith) home_small), within_again 1 MAX_NODES t.home home home_small, within_again 1 MAX_SEQUENCE t.seq seq seq_small) refl

pub txn_lacks : (byte : ℕ) (t : TxId) → byte < 46 → is_txn t ≡ true → lacks byte (txn_text t) ≡ true
txn_lacks byte t low h =
    let home = small_within 1 MAX_NODES t.home (left_of (is_node t.home) (nat_le 1 t.seq && nat_le t.seq MAX_SEQUENCE) h) (omega arith) in
    let seq = small_within 1 MAX_SEQUENCE t.seq (right_of (is_node t.home) (nat_le 1 t.seq && nat_le t.seq MAX_SEQUENCE) h) (omega arith) in
    let dot : not (46 == byte) ≡ true = grind (arith, nat_tests) in
    list_all-append (λ b. not (b == byte)) (decimal t.home) (46 ∷ decimal t.seq)
    ∙ both (lacks byte (decimal t.home)) (not (46 == byte) && lacks byte (decimal t.seq)) (decimal_lacks byte t.home (omega arith) home)
    (both (not (46 == byte)) (lacks byte (decimal t.seq)) dot (decimal_lacks byte t.seq (omega arith) seq))
