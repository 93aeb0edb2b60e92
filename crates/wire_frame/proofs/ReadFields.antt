-- Reads, ranges and writes are read as they are spelled.
use Rattle.std.proofs.Common.{◌≡◌, ℕ, ◌^◌, ◌<◌, ◌≤◌, Bool, true, false, not, ltb, leb, List, [], ◌∷◌, ◌++◌, length, map, Ok, refl, sym, ap, subst, ◌∙◌, append_assoc, arith}
use Rattle.std.specs.Prelude.{IsTrue}
use Rattle.std.specs.List.{flat_map, list_all, AllByRecursion}
use Rattle.std.proofs.lemmas.Bool.{and_parts, and_from, le-leb}
use Rattle.tcs_terms.specs.declared.payloads.ReadPart.{ReadPart}
use Rattle.tcs_terms.specs.declared.payloads.RangePart.{RangePart}
use Rattle.tcs_terms.specs.declared.payloads.WritePart.{WritePart}
use Rattle.tcs_terms.specs.Objects.{IsName}
use Rattle.tcs_terms.specs.Order.{ascends_by, name_before, names_ascend}
use Rattle.tcs_terms.specs.Payloads.{IsReadPart, IsRangePart, IsWritePart, range_before, reads_name}
use Rattle.wire_frame.specs.declared.faults.FrameReason.TheVariants.{Range, Order, Unread}
use Rattle.wire_frame.specs.Spelling.{eight, counted, spell_read, spell_range, spell_ranges, spell_write, spell_writes}
use Rattle.wire_frame.specs.Reading.{byte_at, tested}
use Rattle.wire_frame.specs.Parts.{is_up_to, name_above, seen_at, read_at, range_at, write_at, reads_at, ranges_at, writes_at}
use Rattle.wire_frame.proofs.Fields.{IsBytes, Takes, Takes-then, IsField, nothing_yet, on, all_read, goes, tested_field, restated, Chain, each_field}
use Rattle.wire_frame.proofs.NumberFields.{one, up_to, eight_field, small_field, at_most_field}
use Rattle.wire_frame.proofs.NameFields.{name_field, value_field}

seen_field : (version : ℕ) → IsField eight (λ v. (v < 2 ^ 64) × IsTrue (ltb v version)) (seen_at version)
unfolding seen_at
seen_field version = tested_field Range (λ v. ltb v version) eight_field

above_field : (last : List ℕ) → IsField counted (λ name. IsName name × IsTrue (name_before last name)) (name_above last)
unfolding name_above
above_field last = tested_field Order (name_before last) name_field

-- ---- reads

record ReadGood (version : ℕ) (last : List ℕ) (r : ReadPart) : Type 0 where
  part : IsReadPart r
  above : IsTrue (name_before last r.name)
  below : IsTrue (ltb r.version version)

read_field : (version : ℕ) (last : List ℕ) → IsField spell_read (ReadGood version last) (read_at version last)
unfolding read_at
read_field version last = record {
  takes = λ bytes x fits e.
      on (above_field last) _ x bytes [] bytes (nothing_yet bytes fits) e (λ name mid so_far is_name e.
      on (seen_field version) _ x bytes _ mid so_far e (λ seen rest so_far is_seen e.
      all_read spell_read (ReadGood version last) bytes _ rest x e so_far (record { part = record { name = is_name.0; version = is_seen.0 }; above = is_name.1; below = is_seen.1 })));
  again = λ r rest is.
      ap (read_at version last) (append_assoc (counted r.name) (eight r.version) rest)
      ∙ goes (above_field last) _ r.name (eight r.version ++ rest) (is.part.name, is.above)
      ∙ goes (seen_field version) _ r.version rest (is.part.version, is.below);
}

-- reads whose names ascend, above a last one
pub record ReadsFrom (version : ℕ) (last : List ℕ) (rs : List ReadPart) : Type 0 where
  pub parts : AllByRecursion IsReadPart rs
  pub ascend : IsTrue (names_ascend (last ∷ map (λ r. r.name) rs))
  pub below : IsTrue (list_all (λ r. ltb r.version version) rs)

abbrev name_of_read : List ℕ → ReadPart → List ℕ
name_of_read last r = r.name

reads_from : (version : ℕ) (last : List ℕ) (rs : List ReadPart) → Chain (ReadGood version) name_of_read last rs → ReadsFrom version last rs
reads_from version last [] chain = record { parts = tt; ascend = refl; below = refl }
reads_from version last (r ∷ rs) chain =
    let more = reads_from version r.name rs chain.1 in
    record {
      parts = (chain.0.part, more.parts);
      ascend = and_from (name_before last r.name) (names_ascend (r.name ∷ map (λ r. r.name) rs)) chain.0.above more.ascend;
      below = and_from (ltb r.version version) (list_all (λ r. ltb r.version version) rs) chain.0.below more.below;
    }

reads_chain : (version : ℕ) (last : List ℕ) (rs : List ReadPart) → ReadsFrom version last rs → Chain (ReadGood version) name_of_read last rs
reads_chain version last [] is = tt
reads_chain version last (r ∷ rs) is =
    let up = and_parts (name_before last r.name) (names_ascend (r.name ∷ map (λ r. r.name) rs)) is.ascend in
    let low = and_parts (ltb r.version version) (list_all (λ r. ltb r.version version) rs) is.below in
    (record { part = is.parts.0; above = up.0; below = low.0 }, reads_chain version r.name rs (record { parts = is.parts.1; ascend = up.1; below = low.1 }))

pub reads_field : (version n : ℕ) → IsField (flat_map spell_read) (λ rs. (length rs ≡ n) × ReadsFrom version [] rs) (reads_at version n)
unfolding reads_at
reads_field version n = restated (λ rs. (length rs ≡ n) × ReadsFrom version [] rs)
    (λ rs is. (is.0, reads_from version [] rs is.1)) (λ rs is. (is.0, reads_chain version [] rs is.1))
    (each_field name_of_read (read_field version) n [])

-- ---- ranges

record RangeGood (version : ℕ) (last : List ℕ) (q : RangePart) : Type 0 where
  part : IsRangePart q
  apart : IsTrue (not (name_before q.from last))
  whole : IsTrue (name_before q.from q.upto)
  below : IsTrue (ltb q.version version)

range_field : (version : ℕ) (last : List ℕ) → IsField spell_range (RangeGood version last) (range_at version last)
unfolding range_at
range_field version last = record {
  takes = λ bytes x fits e.
      on (tested_field Order (λ name. not (name_before name last)) name_field) _ x bytes [] bytes (nothing_yet bytes fits) e (λ from mid so_far is_from e.
      on (above_field from) _ x bytes _ mid so_far e (λ upto mid so_far is_upto e.
      on (seen_field version) _ x bytes _ mid so_far e (λ seen rest so_far is_seen e.
      all_read spell_range (RangeGood version last) bytes _ rest x e so_far
      (record { part = record { from = is_from.0; upto = is_upto.0; version = is_seen.0 }; apart = is_from.1; whole = is_upto.1; below = is_seen.1 }))));
  again = λ q rest is.
      let regrouped : spell_range q ++ rest ≡ counted q.from ++ (counted q.upto ++ (eight q.version ++ rest)) = simp append_assoc in
      ap (range_at version last) regrouped
      ∙ goes (tested_field Order (λ name. not (name_before name last)) name_field) _ q.from (counted q.upto ++ (eight q.version ++ rest)) (is.part.from, is.apart)
      ∙ goes (above_field q.from) _ q.upto (eight q.version ++ rest) (is.part.upto, is.whole)
      ∙ goes (seen_field version) _ q.version rest (is.part.version, is.below);
}

abbrev pub begins_after : List ℕ → List RangePart → Bool
begins_after last [] = true
begins_after last (q ∷ qs) = not (name_before q.from last)

pub record RangesFrom (version : ℕ) (last : List ℕ) (qs : List RangePart) : Type 0 where
  pub parts : AllByRecursion IsRangePart qs
  pub first : IsTrue (begins_after last qs)
  pub ascend : IsTrue (ascends_by range_before qs)
  pub whole : IsTrue (list_all (λ q. name_before q.from q.upto) qs)
  pub below : IsTrue (list_all (λ q. ltb q.version version) qs)

abbrev end_of_range : List ℕ → RangePart → List ℕ
end_of_range last q = q.upto

ascends_more : (q : RangePart) (qs : List RangePart) → IsTrue (begins_after q.upto qs) → IsTrue (ascends_by range_before qs) → IsTrue (ascends_by range_before (q ∷ qs))
ascends_more q [] first up = refl
ascends_more q (r ∷ qs) first up = and_from (range_before q r) (ascends_by range_before (r ∷ qs)) first up

ascends_less : (q : RangePart) (qs : List RangePart) → IsTrue (ascends_by range_before (q ∷ qs)) → IsTrue (begins_after q.upto qs) × IsTrue (ascends_by range_before qs)
ascends_less q [] up = (refl, refl)
ascends_less q (r ∷ qs) up = and_parts (range_before q r) (ascends_by range_before (r ∷ qs)) up

ranges_from : (version : ℕ) (last : List ℕ) (qs : List RangePart) → Chain (RangeGood version) end_of_range last qs → RangesFrom version last qs
ranges_from version last [] chain = record { parts = tt; first = refl; ascend = refl; whole = refl; below = refl }
ranges_from version last (q ∷ qs) chain =
    let more = ranges_from version q.upto qs chain.1 in
    record {
      parts = (chain.0.part, more.parts);
      first = chain.0.apart;
      ascend = ascends_more q qs more.first more.ascend;
      whole = and_from (name_before q.from q.upto) (list_all (λ q. name_before q.from q.upto) qs) chain.0.whole more.whole;
      below = and_from (ltb q.version version) (list_all (λ q. ltb q.version version) qs) chain.0.below more.below;
    }

ranges_chain : (version : ℕ) (last : List ℕ) (qs : List RangePart) → RangesFrom version last qs → Chain (RangeGood version) end_of_range last qs
ranges_chain version last [] is = tt
ranges_chain version last (q ∷ qs) is =
    let up = ascends_less q qs is.ascend in
    let whole = and_parts (name_before q.from q.upto) (list_all (λ q. name_before q.from q.upto) qs) is.whole in
    let low = and_parts (ltb q.version version) (list_all (λ q. ltb q.version version) qs) is.below in
    (record { part = is.parts.0; apart = is.first; whole = whole.0; below = low.0 }, ranges_chain version q.upto qs (record { parts = is.parts.1; first = up.0; ascend = up.1; whole = whole.1; below = low.1 }))

-- whether there is a range
abbrev pub some_range : List RangePart → Bool
some_range [] = false
some_range (q ∷ qs) = true

spelled_ranges : (qs : List RangePart) → 1 ≤ length qs → (length qs ∷ flat_map spell_range qs ≡ spell_ranges qs) × (some_range qs ≡ true)
spelled_ranges [] some = absurd (omega arith)
spelled_ranges (q ∷ qs) some = (refl, refl)

pub record RangesAre (version : ℕ) (there : Bool) (qs : List RangePart) : Type 0 where
  pub said : some_range qs ≡ there
  pub few : length qs ≤ 3
  pub from : RangesFrom version [] qs

ranges_count_field : IsField one (λ n. IsTrue (is_up_to 3 n)) (tested Range (is_up_to 3) byte_at)
ranges_count_field = small_field (is_up_to 3) (λ n h. omega (arith, up_to 3 n h))

ranges_takes : (version : ℕ) (there : Bool) (bytes : List ℕ) (x : List RangePart × List ℕ) → IsBytes bytes → ranges_at version there bytes ≡ Ok x → Takes bytes (spell_ranges x.0) x.1 × RangesAre version there x.0
unfolding ranges_at
ranges_takes version false bytes x fits e =
    all_read spell_ranges (RangesAre version false) bytes [] bytes x e (nothing_yet bytes fits) (record { said = refl; few = omega arith; from = record { parts = tt; first = refl; ascend = refl; whole = refl; below = refl } })
ranges_takes version true bytes x fits e =
    on ranges_count_field _ x bytes [] bytes (nothing_yet bytes fits) e (λ count mid so_far is_count e.
    let t = (each_field end_of_range (range_field version) count []).takes mid x so_far.rest_fits e in
    let n = up_to 3 count is_count in
    let s = spelled_ranges x.0 (omega (arith, t.1.0)) in
    let text : count ∷ flat_map spell_range x.0 ≡ spell_ranges x.0 = subst (λ (k : ℕ). k ∷ flat_map spell_range x.0 ≡ spell_ranges x.0) t.1.0 s.0 in (
      subst (λ (w : List ℕ). Takes bytes w x.1) text (Takes-then bytes (one count) mid (flat_map spell_range x.0) x.1 so_far t.0),
      record { said = s.1; few = omega (arith, t.1.0); from = ranges_from version [] x.0 t.1.1 },
    ))

ranges_again : (version : ℕ) (there : Bool) (qs : List RangePart) (rest : List ℕ) → RangesAre version there qs → ranges_at version there (spell_ranges qs ++ rest) ≡ Ok (qs, rest)
unfolding ranges_at
ranges_again version false [] rest is = refl
ranges_again version true [] rest is = let h = is.said in absurd cc
ranges_again version false (q ∷ qs) rest is = let h = is.said in absurd cc
ranges_again version true (q ∷ qs) rest is =
    let few : length (q ∷ qs) ≤ 3 = is.few in
    goes ranges_count_field _ (length (q ∷ qs)) (flat_map spell_range (q ∷ qs) ++ rest) (and_from (leb 1 (length (q ∷ qs))) (leb (length (q ∷ qs)) 3) (le-leb _ _ (omega arith)) (le-leb _ _ few))
    ∙ (each_field end_of_range (range_field version) (length (q ∷ qs)) []).again (q ∷ qs) rest (refl, ranges_chain version [] (q ∷ qs) is.from)

pub ranges_field : (version : ℕ) (there : Bool) → IsField spell_ranges (RangesAre version there) (ranges_at version there)
ranges_field version there = record { takes = ranges_takes version there; again = ranges_again version there }

-- ---- writes

record WriteGood (reads : List ReadPart) (last : List ℕ) (w : WritePart) : Type 0 where
  part : IsWritePart w
  above : IsTrue (name_before last w.name)
  is_read : IsTrue (reads_name reads w.name)

written_field : (reads : List ReadPart) (last : List ℕ) → IsField counted (λ name. (IsName name × IsTrue (name_before last name)) × IsTrue (reads_name reads name)) (tested Unread (reads_name reads) (name_above last))
written_field reads last = tested_field Unread (reads_name reads) (above_field last)

write_field : (reads : List ReadPart) (last : List ℕ) → IsField spell_write (WriteGood reads last) (write_at reads last)
unfolding write_at
write_field reads last = record {
  takes = λ bytes x fits e.
      on (written_field reads last) _ x bytes [] bytes (nothing_yet bytes fits) e (λ name mid so_far is_name e.
      on value_field _ x bytes _ mid so_far e (λ value rest so_far is_value e.
      all_read spell_write (WriteGood reads last) bytes _ rest x e so_far (record { part = record { name = is_name.0.0; value = is_value }; above = is_name.0.1; is_read = is_name.1 })));
  again = λ w rest is.
      ap (write_at reads last) (append_assoc (counted w.name) (counted w.value) rest)
      ∙ goes (written_field reads last) _ w.name (counted w.value ++ rest) ((is.part.name, is.above), is.is_read)
      ∙ goes value_field _ w.value rest is.part.value;
}

pub record WritesFrom (reads : List ReadPart) (last : List ℕ) (ws : List WritePart) : Type 0 where
  pub parts : AllByRecursion IsWritePart ws
  pub ascend : IsTrue (names_ascend (last ∷ map (λ w. w.name) ws))
  pub are_read : IsTrue (list_all (λ w. reads_name reads w.name) ws)

abbrev name_of_write : List ℕ → WritePart → List ℕ
name_of_write last w = w.name

writes_from : (reads : List ReadPart) (last : List ℕ) (ws : List WritePart) → Chain (WriteGood reads) name_of_write last ws → WritesFrom reads last ws
writes_from reads last [] chain = record { parts = tt; ascend = refl; are_read = refl }
writes_from reads last (w ∷ ws) chain =
    let more = writes_from reads w.name ws chain.1 in
    record {
      parts = (chain.0.part, more.parts);
      ascend = and_from (name_before last w.name) (names_ascend (w.name ∷ map (λ w. w.name) ws)) chain.0.above more.ascend;
      are_read = and_from (reads_name reads w.name) (list_all (λ w. reads_name reads w.name) ws) chain.0.is_read more.are_read;
    }

writes_chain : (reads : List ReadPart) (last : List ℕ) (ws : List WritePart) → WritesFrom reads last ws → Chain (WriteGood reads) name_of_write last ws
writes_chain reads last [] is = tt
writes_chain reads last (w ∷ ws) is =
    let up = and_parts (name_before last w.name) (names_ascend (w.name ∷ map (λ w. w.name) ws)) is.ascend in
    let read = and_parts (reads_name reads w.name) (list_all (λ w. reads_name reads w.name) ws) is.are_read in
    (record { part = is.parts.0; above = up.0; is_read = read.0 }, writes_chain reads w.name ws (record { parts = is.parts.1; ascend = up.1; are_read = read.1 }))

writes_takes : (reads : List ReadPart) (bytes : List ℕ) (x : List WritePart × List ℕ) → IsBytes bytes → writes_at reads bytes ≡ Ok x → Takes bytes (spell_writes x.0) x.1 × ((length x.0 ≤ 16) × WritesFrom reads [] x.0)
unfolding writes_at
writes_takes reads bytes x fits e =
    on (at_most_field 16 (omega arith)) _ x bytes [] bytes (nothing_yet bytes fits) e (λ count mid so_far is_count e.
    let t = (each_field name_of_write (write_field reads) count []).takes mid x so_far.rest_fits e in (
      subst (λ (k : ℕ). Takes bytes (k ∷ flat_map spell_write x.0) x.1) (sym t.1.0) (Takes-then bytes (one count) mid (flat_map spell_write x.0) x.1 so_far t.0),
      (omega (arith, t.1.0), writes_from reads [] x.0 t.1.1),
    ))

writes_again : (reads : List ReadPart) (ws : List WritePart) (rest : List ℕ) → (length ws ≤ 16) × WritesFrom reads [] ws → writes_at reads (spell_writes ws ++ rest) ≡ Ok (ws, rest)
unfolding writes_at
writes_again reads ws rest is =
    goes (at_most_field 16 (omega arith)) _ (length ws) (flat_map spell_write ws ++ rest) is.0
    ∙ (each_field name_of_write (write_field reads) (length ws) []).again ws rest (refl, writes_chain reads [] ws is.1)

pub writes_field : (reads : List ReadPart) → IsField spell_writes (λ ws. (length ws ≤ 16) × WritesFrom reads [] ws) (writes_at reads)
writes_field reads = record { takes = writes_takes reads; again = writes_again reads }
