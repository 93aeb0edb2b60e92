-- The text of a line that may stand has no line feed, and is not too long.
use Rattle.std.proofs.Common.{◌≡◌, ℕ, ◌+◌, ◌^◌, ◌<◌, ◌≤◌, true, false, not, List, [], ◌∷◌, ◌++◌, length, refl, ◌∙◌, length-append, arith}
use Rattle.std.specs.Prelude.{◌==◌, ◌&&◌, nat_le, nat_lt, codes, decimal, Option, Some, None}
use Rattle.std.specs.List.{list_all}
use Rattle.std.proofs.lemmas.Bool.Decides.{nat_tests}
use Rattle.std.proofs.lemmas.Fmt.{length-decimal-le}
use Rattle.std.proofs.lemmas.List.Folds.{list_all-append}
use Rattle.hex.specs.Hex.{encode_lower, lower_digits}
use Rattle.hex.proofs.HexLemmas.{length-encode_with}
use Rattle.tcs_terms.specs.declared.ids.TxId.{TxId}
use Rattle.tcs_terms.specs.declared.limits.TheConstants.{MAX_NODES, MAX_SEQUENCE}
use Rattle.tcs_terms.specs.Messages.{is_txn}
use Rattle.tcs_terms.specs.Objects.{IsName, IsValue}
use Rattle.tcs_terms.specs.Places.{is_node}
use Rattle.tcs_terms.proofs.BoolLaws.{both, left_of, right_of}
use Rattle.text_words.specs.HexWords.{is_lower_digit}
use Rattle.text_words.specs.PayloadText.{value_text}
use Rattle.text_words.specs.PayloadWords.{is_printable}
use Rattle.text_words.specs.Texts.{txn_text}
use Rattle.text_words.proofs.HexLaws.{bytes_everywhere, encoded_is_lower}
use Rattle.schedule_text.specs.Lines.{has_feed}
use Rattle.schedule_text.proofs.Spaces.{weaker}
use Rattle.backup_machine.specs.declared.objects.Kept.{Kept}
use Rattle.backup_text.specs.declared.limits.TheConstants.{MAX_CALL, MAX_LINE}
use Rattle.backup_text.specs.Lines.{Line, HeadLine, CallLine, PlaceLine, ObjectLine, EndLine, Standing, MayStand, IsPlace, is_call, line_text, place_text, seen_text}
use Rattle.backup_text.proofs.Cuts.{lacks}
use Rattle.backup_text.proofs.PlainWords.{decimal_lacks, name_lacks, txn_lacks}
use Rattle.long_lines.specs.Texts.{is_too_long}
use Rattle.restore_core.specs.Steps.{Behind}

-- at most so many bytes, without a line feed
record Plain (most : ℕ) (text : List ℕ) : Type 0 where
  free : lacks 10 text ≡ true
  short : length text ≤ most

plain_join : (m n : ℕ) (v w : List ℕ) → Plain m v → Plain n w → Plain (m + n) (v ++ w)
plain_join m n v w p q =
    let s = p.short in
    let t = q.short in
    record { free = list_all-append (λ b. not (b == 10)) v w ∙ both (lacks 10 v) (lacks 10 w) p.free q.free; short = omega (arith, length-append v w) }

plain_decimal : (n : ℕ) → n < 2 ^ 64 → Plain 20 (decimal n)
plain_decimal n small = record { free = decimal_lacks 10 n (omega arith) small; short = length-decimal-le 20 n (omega arith) (omega arith) small }

plain_name : (name : List ℕ) → IsName name → Plain 32 name
plain_name name is = record { free = name_lacks 10 name (omega arith) is; short = is.short }

digit_is_plain : (b : ℕ) → is_lower_digit b ≡ true → not (b == 10) ≡ true
digit_is_plain b h = grind (arith, nat_tests)

plain_value : (v : List ℕ) → IsValue v → Plain 128 (value_text v)
plain_value [] h = record { free = refl; short = omega arith }
plain_value (b ∷ bs) h =
    let twice = length-encode_with lower_digits (b ∷ bs) in
    let few = h.short in
    record {
      free = weaker is_lower_digit (λ c. not (c == 10)) digit_is_plain (encode_lower (b ∷ bs)) (encoded_is_lower (b ∷ bs) (bytes_everywhere (b ∷ bs) h.are_bytes));
      short = omega arith;
    }

-- a text that is read anew: at most so many bytes
short_txn : (t : TxId) → is_txn t ≡ true → length (txn_text t) ≤ 41
short_txn t h =
    let home_in = left_of (is_node t.home) (nat_le 1 t.seq && nat_le t.seq MAX_SEQUENCE) h in
    let seq_in = right_of (is_node t.home) (nat_le 1 t.seq && nat_le t.seq MAX_SEQUENCE) h in
    let home_most : t.home ≤ MAX_NODES = grind (arith, nat_tests) in
    let seq_most : t.seq ≤ MAX_SEQUENCE = grind (arith, nat_tests) in
    let home = length-decimal-le 20 t.home (omega arith) (omega arith) (omega arith) in
    let seq = length-decimal-le 20 t.seq (omega arith) (omega arith) (omega arith) in
    omega (arith, home, seq, length-append (decimal t.home) (codes "." ++ decimal t.seq))

plain_place : (place : Option TxId) → IsPlace place → Plain 41 (place_text place)
plain_place None h = record { free = refl; short = omega arith }
plain_place (Some t) h = record { free = txn_lacks 10 t (omega arith) h; short = short_txn t h }

printable_is_plain : (b : ℕ) → is_printable b ≡ true → not (b == 10) ≡ true
printable_is_plain b h = grind (arith, nat_tests)

plain_call : (event : List ℕ) → is_call event ≡ true → Plain 4096 event
plain_call event h =
    let front = left_of (nat_le 1 (length event) && nat_le (length event) MAX_CALL) (list_all is_printable event) h in
    let few = right_of (nat_le 1 (length event)) (nat_le (length event) MAX_CALL) front in
    record {
      free = weaker is_printable (λ b. not (b == 10)) printable_is_plain event (right_of (nat_le 1 (length event) && nat_le (length event) MAX_CALL) (list_all is_printable event) h);
      short = grind (arith, nat_tests);
    }

fixed : (most : ℕ) (w : List ℕ) → lacks 10 w ≡ true → length w ≤ most → Plain most w
fixed most w free short = record { free = free; short = short }

plain_more : (least most : ℕ) (text : List ℕ) → least ≤ most → Plain least text → Plain most text
plain_more least most text le p = let s = p.short in record { free = p.free; short = omega arith }

plain_line : (s : Standing) (kept : List Kept) (line : Line) → Behind s kept → MayStand s line → Plain 4200 (line_text line)
plain_line s kept (HeadLine from upto) b may =
    plain_more 74 4200 _ (omega arith)
    (plain_join 42 32 (codes "backup 1 " ++ from ++ codes " ") upto
    (plain_join 41 1 (codes "backup 1 " ++ from) (codes " ") (plain_join 9 32 (codes "backup 1 ") from (fixed 9 _ refl (omega arith)) (plain_name from may.1)) (fixed 1 _ refl (omega arith)))
    (plain_name upto may.2))
plain_line s kept (CallLine event) b may = plain_more 4100 4200 _ (omega arith) (plain_join 4 4096 (codes "did ") event (fixed 4 _ refl (omega arith)) (plain_call event may.1))
plain_line s kept (PlaceLine place) b may = plain_more 45 4200 _ (omega arith) (plain_join 4 41 (codes "cut ") (place_text place) (fixed 4 _ refl (omega arith)) (plain_place place may.1))
plain_line s kept (ObjectLine o) b (stage, name, within, behind, least, small, value, room) =
    plain_more 186 4200 _ (omega arith)
    (plain_join 58 128 (codes "obj " ++ seen_text o ++ codes " ") (value_text o.value)
    (plain_join 57 1 (codes "obj " ++ seen_text o) (codes " ")
    (plain_join 4 53 (codes "obj ") (seen_text o) (fixed 4 _ refl (omega arith))
    (plain_join 33 20 (o.name ++ codes " ") (decimal o.version) (plain_join 32 1 o.name (codes " ") (plain_name o.name name) (fixed 1 _ refl (omega arith))) (plain_decimal o.version (omega (arith, small)))))
    (fixed 1 _ refl (omega arith)))
    (plain_value o.value value))
plain_line s kept (EndLine count) b may =
    let few = b.few in
    let same = may.1 in
    plain_more 24 4200 _ (omega arith) (plain_join 4 20 (codes "end ") (decimal count) (fixed 4 _ refl (omega arith)) (plain_decimal count (omega (arith, few, same))))

without_feed : (text : List ℕ) → lacks 10 text ≡ true → has_feed text ≡ false
without_feed [] h = refl
without_feed (b ∷ bs) h =
    let first : (b == 10) ≡ false = (let f = left_of (not (b == 10)) (lacks 10 bs) h in grind (arith, nat_tests)) in
    rw (first, without_feed bs (right_of (not (b == 10)) (lacks 10 bs) h)) refl

pub one_line : (s : Standing) (kept : List Kept) (line : Line) → Behind s kept → MayStand s line → has_feed (line_text line) ≡ false
one_line s kept line b may = without_feed (line_text line) (plain_line s kept line b may).free

not_long : (most : ℕ) (text : List ℕ) → length text ≤ most → nat_lt most (length text) ≡ false
not_long most text short = grind (arith, nat_tests)

pub short_line : (s : Standing) (kept : List Kept) (line : Line) → Behind s kept → MayStand s line → is_too_long MAX_LINE (line_text line) ≡ false
short_line s kept line b may = not_long MAX_LINE (line_text line) (plain_line s kept line b may).short
