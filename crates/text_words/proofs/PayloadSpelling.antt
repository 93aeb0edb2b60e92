-- The text of a payload is its words with one space between them.
use Rattle.std.proofs.Common.{◌≡◌, ℕ, zero, suc, ◌^◌, ◌<◌, Bool, true, false, not, List, [], ◌∷◌, ◌++◌, All, Ok, refl, sym, ◌∙◌, ap, append_assoc, arith}
use Rattle.std.specs.Prelude.{◌==◌, decimal, codes}
use Rattle.std.specs.List.{list_all, flat_map, join_with_byte}
use Rattle.std.specs.Char.{is_ascii_digit}
use Rattle.std.proofs.lemmas.Bool.Decides.{nat_tests}
use Rattle.std.proofs.lemmas.List.{append-nil}
use Rattle.std.proofs.lemmas.List.Concat.{flat_map-append}
use Rattle.std.proofs.lemmas.List.Splits.{slice_split_none, slice_split_at, join_with_byte-slice_split}
use Rattle.std.proofs.lemmas.Fmt.{digits_decimal}
use Rattle.tcs_terms.specs.declared.payloads.ReadPart.{ReadPart}
use Rattle.tcs_terms.specs.declared.payloads.RangePart.{RangePart}
use Rattle.tcs_terms.specs.declared.payloads.WritePart.{WritePart}
use Rattle.tcs_terms.specs.Objects.{is_name_byte, IsName, IsValue}
use Rattle.tcs_terms.specs.Payloads.{Accesses, IsReadPart, IsRangePart, IsWritePart, IsPayload}
use Rattle.text_words.specs.PayloadText.{value_text, read_text, range_text, write_text, payload_text}
use Rattle.text_words.specs.PayloadWords.{payload_at, FitsVersion}
use Rattle.text_words.specs.HexWords.{is_lower_digit}
use Rattle.text_words.specs.Words.{words_of}
use Rattle.tcs_terms.proofs.BoolLaws.{both, left_of, right_of}
use Rattle.text_words.proofs.NumberLaws.{numerals}
use Rattle.text_words.proofs.HexLaws.{bytes_everywhere, encoded_is_lower}
use Rattle.text_words.proofs.PayloadReadings.{reads_words, ranges_words, writes_words, payload_words, payload_again}

-- ---- words without a space

abbrev is_solid : ℕ → Bool
is_solid b = not (b == 32)

abbrev AreSolid : List (List ℕ) → Type 0
AreSolid [] = Unit {0}
AreSolid (w ∷ ws) = (list_all is_solid w ≡ true) × AreSolid ws

solid_append : (vs ws : List (List ℕ)) → AreSolid vs → AreSolid ws → AreSolid (vs ++ ws)
solid_append [] ws p q = q
solid_append (v ∷ vs) ws p q = (p.0, solid_append vs ws p.1 q)

weaker : (f g : ℕ → Bool) → ((b : ℕ) → f b ≡ true → g b ≡ true) → (w : List ℕ) → list_all f w ≡ true → list_all g w ≡ true
weaker f g step [] h = refl
weaker f g step (b ∷ bs) h = both (g b) (list_all g bs) (step b (left_of (f b) (list_all f bs) h)) (weaker f g step bs (right_of (f b) (list_all f bs) h))

solid_at : (w : List ℕ) → list_all is_solid w ≡ true → All (λ b. (b == 32) ≡ false) w
solid_at [] h k d lt = absurd (omega arith)
solid_at (b ∷ bs) h zero d lt = let first = left_of (is_solid b) (list_all is_solid bs) h in grind (arith, nat_tests)
solid_at (b ∷ bs) h (suc k) d lt = solid_at bs (right_of (is_solid b) (list_all is_solid bs) h) k d (omega arith)

name_byte_is_solid : (b : ℕ) → is_name_byte b ≡ true → is_solid b ≡ true
name_byte_is_solid b h = grind (arith, nat_tests)

digit_is_solid : (b : ℕ) → is_ascii_digit b ≡ true → is_solid b ≡ true
digit_is_solid b h = grind (arith, nat_tests)

lower_digit_is_solid : (b : ℕ) → is_lower_digit b ≡ true → is_solid b ≡ true
lower_digit_is_solid b h = grind (arith, nat_tests)

solid_name : (w : List ℕ) → IsName w → list_all is_solid w ≡ true
solid_name w h = weaker is_name_byte is_solid name_byte_is_solid w h.alphabet

solid_decimal : (n : ℕ) → n < 2 ^ 64 → list_all is_solid (decimal n) ≡ true
solid_decimal n small = weaker is_ascii_digit is_solid digit_is_solid (decimal n) (digits_decimal numerals n small)

solid_value : (v : List ℕ) → IsValue v → list_all is_solid (value_text v) ≡ true
solid_value [] h = refl
solid_value (b ∷ bs) h = weaker is_lower_digit is_solid lower_digit_is_solid (value_text (b ∷ bs)) (encoded_is_lower (b ∷ bs) (bytes_everywhere (b ∷ bs) h.are_bytes))

solid_reads : (rs : List ReadPart) → All IsReadPart rs → AreSolid (reads_words rs)
solid_reads [] h = tt
solid_reads (r ∷ rs) h =
    let first = h 0 r (omega arith) in
    (refl, (solid_name r.name first.name, (solid_decimal r.version first.version, solid_reads rs (λ k d lt. h (suc k) d (omega arith)))))

solid_ranges : (qs : List RangePart) → All IsRangePart qs → AreSolid (ranges_words qs)
solid_ranges [] h = tt
solid_ranges (q ∷ qs) h =
    let first = h 0 q (omega arith) in
    (refl, (solid_name q.from first.from, (solid_name q.upto first.upto, (solid_decimal q.version first.version, solid_ranges qs (λ k d lt. h (suc k) d (omega arith))))))

solid_writes : (ws : List WritePart) → All IsWritePart ws → AreSolid (writes_words ws)
solid_writes [] h = tt
solid_writes (w ∷ ws) h =
    let first = h 0 w (omega arith) in
    (refl, (solid_name w.name first.name, (solid_value w.value first.value, solid_writes ws (λ k d lt. h (suc k) d (omega arith)))))

-- ---- words with a space before each

abbrev spaced : List (List ℕ) → List ℕ
spaced words = flat_map (λ w. 32 ∷ w) words

join_is : (w : List ℕ) (ws : List (List ℕ)) → join_with_byte 32 (w ∷ ws) ≡ w ++ spaced ws
join_is w [] = sym (append-nil w)
join_is w (v ∷ vs) = ap (λ (t : List ℕ). w ++ 32 ∷ t) (join_is v vs)

words_of_spaced : (w : List ℕ) (ws : List (List ℕ)) → list_all is_solid w ≡ true → AreSolid ws → words_of (w ++ spaced ws) ≡ w ∷ ws
words_of_spaced w [] h hs = ap words_of (append-nil w) ∙ slice_split_none (λ b. b == 32) w (solid_at w h)
words_of_spaced w (v ∷ vs) h hs =
    slice_split_at (λ b. b == 32) w 32 (v ++ spaced vs) (solid_at w h) refl ∙ ap (λ (us : List (List ℕ)). w ∷ us) (words_of_spaced v vs hs.0 hs.1)

-- ---- the parts of the text

read_spelled : (r : ReadPart) → spaced (codes "r" ∷ r.name ∷ decimal r.version ∷ []) ≡ read_text r
read_spelled r = simp (append_assoc, append-nil)

reads_spelled : (rs : List ReadPart) → spaced (reads_words rs) ≡ flat_map read_text rs
reads_spelled [] = refl
reads_spelled (r ∷ rs) =
    flat_map-append (λ w. 32 ∷ w) (codes "r" ∷ r.name ∷ decimal r.version ∷ []) (reads_words rs)
    ∙ ap (λ (t : List ℕ). t ++ spaced (reads_words rs)) (read_spelled r) ∙ ap (λ (t : List ℕ). read_text r ++ t) (reads_spelled rs)

range_spelled : (q : RangePart) → spaced (codes "q" ∷ q.from ∷ q.upto ∷ decimal q.version ∷ []) ≡ range_text q
range_spelled q = simp (append_assoc, append-nil)

ranges_spelled : (qs : List RangePart) → spaced (ranges_words qs) ≡ flat_map range_text qs
ranges_spelled [] = refl
ranges_spelled (q ∷ qs) =
    flat_map-append (λ w. 32 ∷ w) (codes "q" ∷ q.from ∷ q.upto ∷ decimal q.version ∷ []) (ranges_words qs)
    ∙ ap (λ (t : List ℕ). t ++ spaced (ranges_words qs)) (range_spelled q) ∙ ap (λ (t : List ℕ). range_text q ++ t) (ranges_spelled qs)

write_spelled : (w : WritePart) → spaced (codes "w" ∷ w.name ∷ value_text w.value ∷ []) ≡ write_text w
write_spelled w = simp (append_assoc, append-nil)

writes_spelled : (ws : List WritePart) → spaced (writes_words ws) ≡ flat_map write_text ws
writes_spelled [] = refl
writes_spelled (w ∷ ws) =
    flat_map-append (λ u. 32 ∷ u) (codes "w" ∷ w.name ∷ value_text w.value ∷ []) (writes_words ws)
    ∙ ap (λ (t : List ℕ). t ++ spaced (writes_words ws)) (write_spelled w) ∙ ap (λ (t : List ℕ). write_text w ++ t) (writes_spelled ws)

-- ---- the text

payload_spelled : (p : Accesses) → codes "v" ++ spaced (decimal p.version ∷ (reads_words p.reads ++ (ranges_words p.ranges ++ writes_words p.writes))) ≡ payload_text p
unfolding payload_text
payload_spelled p =
    let parts : spaced (reads_words p.reads ++ (ranges_words p.ranges ++ writes_words p.writes)) ≡ flat_map read_text p.reads ++ (flat_map range_text p.ranges ++ flat_map write_text p.writes) =
    rw (flat_map-append (λ w. 32 ∷ w) (reads_words p.reads) (ranges_words p.ranges ++ writes_words p.writes), flat_map-append (λ w. 32 ∷ w) (ranges_words p.ranges) (writes_words p.writes), reads_spelled p.reads, ranges_spelled p.ranges, writes_spelled p.writes) refl in
    ap (λ (t : List ℕ). codes "v" ++ (32 ∷ decimal p.version ++ t)) parts ∙ simp append_assoc

pub words_of_payload : (p : Accesses) → IsPayload p → words_of (payload_text p) ≡ payload_words p
words_of_payload p h =
    let solid = solid_append (reads_words p.reads) (ranges_words p.ranges ++ writes_words p.writes) (solid_reads p.reads h.read_parts)
    (solid_append (ranges_words p.ranges) (writes_words p.writes) (solid_ranges p.ranges h.range_parts) (solid_writes p.writes h.write_parts)) in
    ap words_of (sym (payload_spelled p)) ∙ words_of_spaced (codes "v") (decimal p.version ∷ (reads_words p.reads ++ (ranges_words p.ranges ++ writes_words p.writes))) refl (solid_decimal p.version h.version_fits, solid)

pub text_of_words : (text : List ℕ) (p : Accesses) → words_of text ≡ payload_words p → text ≡ payload_text p
text_of_words text p e =
    sym (join_with_byte-slice_split 32 text) ∙ ap (join_with_byte 32) e ∙ join_is (codes "v") (decimal p.version ∷ (reads_words p.reads ++ (ranges_words p.ranges ++ writes_words p.writes))) ∙ payload_spelled p

-- the text of a payload is read as it
pub text_read_again : (version : ℕ) (text : List ℕ) (p : Accesses) → IsPayload p → FitsVersion version p → text ≡ payload_text p → payload_at version (words_of text) ≡ Ok p
text_read_again version text p h fits e =
    ap (λ (t : List ℕ). payload_at version (words_of t)) e ∙ ap (payload_at version) (words_of_payload p h) ∙ payload_again version p h fits
