-- The words of a payload are read as it, and what is read is a payload that has these words.
use Rattle.std.proofs.Common.{◌≡◌, ℕ, zero, suc, ◌+◌, ◌≤◌, Bool, true, false, not, ◌&&◌, ◌||◌, cond, List, [], ◌∷◌, ◌++◌, length, All, None, Result, Ok, refl, sym, ◌∙◌, ap, subst, append_assoc, arith}
use Rattle.std.specs.Prelude.{nat_lt, ◌==◌, decimal, codes}
use Rattle.std.specs.List.{flat_map}
use Rattle.std.proofs.lemmas.Bool.Decides.{nat_tests}
use Rattle.std.proofs.lemmas.List.{append-nil, nil_from_length}
use Rattle.std.proofs.lemmas.Bool.{eqb-true}
use Rattle.std.specs.Cmp.Lexicographic.{bytes_decides}
use Rattle.tcs_terms.specs.declared.limits.TheConstants.{MAX_READS, MAX_RANGES, MAX_WRITES}
use Rattle.tcs_terms.specs.declared.payloads.ReadPart.{ReadPart}
use Rattle.tcs_terms.specs.declared.payloads.RangePart.{RangePart}
use Rattle.tcs_terms.specs.declared.payloads.WritePart.{WritePart}
use Rattle.text_words.specs.declared.words.Reason.TheVariants as reasons
use Rattle.tcs_terms.specs.Order.{name_before}
use Rattle.tcs_terms.specs.Payloads.{Accesses, reads_name, IsReadPart, IsRangePart, IsWritePart, IsPayload}
use Rattle.tcs_terms.specs.PayloadFaults.{reads_fault, ranges_fault, writes_fault}
use Rattle.text_words.specs.PayloadText.{value_text}
use Rattle.text_words.specs.Words.{begins, after}
use Rattle.text_words.specs.PayloadWords.{Misfit, ◌>>=◌, name_word, from_word, version_word, written_word, value_word, read_at, range_at, write_at, parts_at, reads_at, ranges_at, ranges_in, writes_at, fixed_word, some_read, all_read, commit_word, payload_at, FitsVersion}
use Rattle.tcs_terms.proofs.BoolLaws.{passed, not_true, neither_left, neither_right}
use Rattle.tcs_terms.proofs.PayloadLaws.{faultless, Counted, faultless_is_payload}
use Rattle.text_words.proofs.WordReadings.{commit_takes, commit_again, version_takes, version_again, name_takes, name_again, from_takes, from_again, written_takes, written_again, value_takes, value_again}
use Rattle.text_words.proofs.Steps.{bind_ok, ok_is, guard_ok, met}

-- ---- the words of a part, after its first

abbrev pub read_words : ReadPart → List (List ℕ)
read_words r = r.name ∷ decimal r.version ∷ []

abbrev pub range_words : RangePart → List (List ℕ)
range_words q = q.from ∷ q.upto ∷ decimal q.version ∷ []

abbrev pub write_words : WritePart → List (List ℕ)
write_words w = w.name ∷ value_text w.value ∷ []

-- ---- parts of one kind

-- what reading one part does, where Fits says which parts may stand after a name
record PartLaw {X : Type 0} (spell : X → List (List ℕ)) (one : List ℕ → List (List ℕ) → Result (X × List (List ℕ)) Misfit) (Fits : List ℕ → X → Type 0) : Type 0 where
  takes : (before : List ℕ) (words : List (List ℕ)) (x : X × List (List ℕ)) → one before words ≡ Ok x → (words ≡ spell x.0 ++ x.1) × Fits before x.0
  again : (before : List ℕ) (p : X) (rest : List (List ℕ)) → Fits before p → one before (spell p ++ rest) ≡ Ok (p, rest)

-- each part may stand after the one before
abbrev Chain : {X : Type 0} → (List ℕ → X → Type 0) → (X → List ℕ) → List ℕ → List X → Type 0
Chain Fits name before [] = Unit {0}
Chain Fits name before (p ∷ ps) = Fits before p × Chain Fits name (name p) ps

abbrev pub spelled : {X : Type 0} → List ℕ → (X → List (List ℕ)) → List X → List (List ℕ)
spelled word spell ps = flat_map (λ p. word ∷ spell p) ps

begun : (word : List ℕ) (words : List (List ℕ)) → begins word words ≡ true → words ≡ word ∷ after words
begun word [] h = absurd cc
begun word (w ∷ ws) h = ap (λ (v : List ℕ). v ∷ ws) ((bytes_decides w word).0 h)

record PartsTaken {X : Type 0} (word : List ℕ) (name : X → List ℕ) (spell : X → List (List ℕ)) (Fits : List ℕ → X → Type 0) (room : ℕ) (before : List ℕ) (words : List (List ℕ)) (x : List X × List (List ℕ)) : Type 0 where
  whole : words ≡ spelled word spell x.0 ++ x.1
  chain : Chain Fits name before x.0
  few : length x.0 ≤ room

parts_take : {X : Type 0} (word : List ℕ) (name : X → List ℕ) (spell : X → List (List ℕ)) (one : List ℕ → List (List ℕ) → Result (X × List (List ℕ)) Misfit) (Fits : List ℕ → X → Type 0)
    → PartLaw spell one Fits → (room : ℕ) (before : List ℕ) (words : List (List ℕ)) (x : List X × List (List ℕ)) → parts_at word name one room before words ≡ Ok x
    → PartsTaken word name spell Fits room before words x
unfolding parts_at
parts_take word name spell one Fits law zero before words x h =
    let g = guard_ok (begins word words) (record { left = length words; reason = reasons.Many }) ([], words) x h in
    subst (PartsTaken word name spell Fits zero before words) g.1 (record { whole = refl; chain = tt; few = omega arith })
parts_take {X = X} word name spell one Fits law (suc room) before words x h = go (parts_take word name spell one Fits law room) (begins word words) refl h where
  go : ((b : List ℕ) (w : List (List ℕ)) (y : List X × List (List ℕ)) → parts_at word name one room b w ≡ Ok y → PartsTaken word name spell Fits room b w y)
      → (b : Bool) → begins word words ≡ b
      → cond b (one before (after words) >>= λ p. parts_at word name one room (name p.0) p.1 >>= λ ps. Ok (p.0 ∷ ps.0, ps.1)) (Ok ([], words)) ≡ Ok x
      → PartsTaken word name spell Fits (suc room) before words x
  go others false e k = subst (PartsTaken word name spell Fits (suc room) before words) (ok_is ([], words) x k) (record { whole = refl; chain = tt; few = omega arith })
  go others true e k =
      let a = bind_ok (one before (after words)) _ x k in
      let b = bind_ok (parts_at word name one room (name a.0.0) a.0.1) _ x a.2 in
      let t = law.takes before (after words) a.0 a.1 in
      let rest = others (name a.0.0) a.0.1 b.0 b.1 in
      let few = rest.few in
      let joined : after words ≡ (spell a.0.0 ++ spelled word spell b.0.0) ++ b.0.1 = t.0 ∙ ap (λ (v : List (List ℕ)). spell a.0.0 ++ v) rest.whole ∙ sym (append_assoc (spell a.0.0) (spelled word spell b.0.0) b.0.1) in
      subst (PartsTaken word name spell Fits (suc room) before words) (ok_is (a.0.0 ∷ b.0.0, b.0.1) x b.2)
      (record { whole = begun word words e ∙ ap (λ (v : List (List ℕ)). word ∷ v) joined; chain = (t.1, rest.chain); few = omega arith })

parts_again : {X : Type 0} (word : List ℕ) (name : X → List ℕ) (spell : X → List (List ℕ)) (one : List ℕ → List (List ℕ) → Result (X × List (List ℕ)) Misfit) (Fits : List ℕ → X → Type 0)
    → PartLaw spell one Fits → ((ws : List (List ℕ)) → begins word (word ∷ ws) ≡ true) → (ps : List X) (room : ℕ) (before : List ℕ) (rest : List (List ℕ))
    → Chain Fits name before ps → length ps ≤ room → begins word rest ≡ false → parts_at word name one room before (spelled word spell ps ++ rest) ≡ Ok (ps, rest)
unfolding parts_at
parts_again word name spell one Fits law self [] zero before rest chain few over = rw over refl
parts_again word name spell one Fits law self [] (suc room) before rest chain few over = rw over refl
parts_again word name spell one Fits law self (p ∷ ps) zero before rest chain few over = absurd (omega arith)
parts_again word name spell one Fits law self (p ∷ ps) (suc room) before rest chain few over =
    let regrouped : spelled word spell (p ∷ ps) ++ rest ≡ word ∷ (spell p ++ (spelled word spell ps ++ rest)) = ap (λ (v : List (List ℕ)). word ∷ v) (append_assoc (spell p) (spelled word spell ps) rest) in
    let others = parts_again word name spell one Fits law self ps room (name p) rest chain.1 (omega arith) over in
    ap (parts_at word name one (suc room) before) regrouped ∙ rw (self (spell p ++ (spelled word spell ps ++ rest)), law.again before p (spelled word spell ps ++ rest) chain.0, others) refl

all_cons : {X : Type 0} (P : X → Type 0) (x : X) (xs : List X) → P x → All P xs → All P (x ∷ xs)
all_cons P x xs p ps zero d lt = p
all_cons P x xs p ps (suc k) d lt = ps k d (omega arith)

all_rest : {X : Type 0} (P : X → Type 0) (x : X) (xs : List X) → All P (x ∷ xs) → All P xs
all_rest P x xs h k d lt = h (suc k) d (omega arith)

-- ---- reads

record ReadFits (commit : ℕ) (before : List ℕ) (r : ReadPart) : Type 0 where
  part : IsReadPart r
  above : name_before before r.name ≡ true
  low : nat_lt r.version commit ≡ true

read_law : (commit : ℕ) → PartLaw read_words (read_at commit) (ReadFits commit)
unfolding read_at
read_law commit = record {
  takes = λ before words x h.
      let a = bind_ok (name_word before words) _ x h in
      let b = bind_ok (version_word commit a.0.1) _ x a.2 in
      let t = name_takes before words a.0 a.1 in
      let u = version_takes commit a.0.1 b.0 b.1 in
      let made : ReadPart × List (List ℕ) = (record { name = a.0.0; version = b.0.0 }, b.0.1) in
      subst (λ (y : ReadPart × List (List ℕ)). (words ≡ read_words y.0 ++ y.1) × ReadFits commit before y.0) (ok_is made x b.2)
      (t.0 ∙ ap (λ (v : List (List ℕ)). a.0.0 ∷ v) u.0, record { part = record { name = t.1; version = u.1 }; above = t.2; low = u.2 });
  again = λ before r rest f. rw (name_again before r.name (decimal r.version ∷ rest) f.part.name f.above, version_again commit r.version rest f.part.version f.low) refl;
}

reads_chain : (commit place : ℕ) (before : List ℕ) (rs : List ReadPart) → reads_fault commit place before rs ≡ None → All IsReadPart rs → Chain (ReadFits commit) (λ r. r.name) before rs
reads_chain commit place before [] h parts = tt
reads_chain commit place before (r ∷ rs) h parts =
    let a = passed (not (name_before before r.name)) _ _ h in
    let b = passed (not (nat_lt r.version commit)) _ _ a.1 in (
      record { part = parts 0 r (omega arith); above = not_true (name_before before r.name) a.0; low = not_true (nat_lt r.version commit) b.0 },
      reads_chain commit (place + 1) r.name rs b.1 (all_rest IsReadPart r rs parts),
    )

chain_reads : (commit place : ℕ) (before : List ℕ) (rs : List ReadPart) → Chain (ReadFits commit) (λ r. r.name) before rs → (reads_fault commit place before rs ≡ None) × All IsReadPart rs
chain_reads commit place before [] chain = (refl, λ k d lt. absurd (omega arith))
chain_reads commit place before (r ∷ rs) chain =
    let rest = chain_reads commit (place + 1) r.name rs chain.1 in
    (rw (chain.0.above, chain.0.low) rest.0, all_cons IsReadPart r rs chain.0.part rest.1)

-- ---- ranges

record RangeFits (commit : ℕ) (end : List ℕ) (q : RangePart) : Type 0 where
  part : IsRangePart q
  starts : name_before q.from end ≡ false
  whole : name_before q.from q.upto ≡ true
  low : nat_lt q.version commit ≡ true

range_law : (commit : ℕ) → PartLaw range_words (range_at commit) (RangeFits commit)
unfolding range_at
range_law commit = record {
  takes = λ end words x h.
      let a = bind_ok (from_word end words) _ x h in
      let b = bind_ok (name_word a.0.0 a.0.1) _ x a.2 in
      let d = bind_ok (version_word commit b.0.1) _ x b.2 in
      let t = from_takes end words a.0 a.1 in
      let u = name_takes a.0.0 a.0.1 b.0 b.1 in
      let v = version_takes commit b.0.1 d.0 d.1 in
      let made : RangePart × List (List ℕ) = (record { from = a.0.0; upto = b.0.0; version = d.0.0 }, d.0.1) in
      subst (λ (y : RangePart × List (List ℕ)). (words ≡ range_words y.0 ++ y.1) × RangeFits commit end y.0) (ok_is made x d.2) (
        t.0 ∙ ap (λ (z : List (List ℕ)). a.0.0 ∷ z) (u.0 ∙ ap (λ (z : List (List ℕ)). b.0.0 ∷ z) v.0),
        record { part = record { from = t.1; upto = u.1; version = v.1 }; starts = t.2; whole = u.2; low = v.2 },
      );
  again = λ end q rest f.
      rw (
        from_again end q.from (q.upto ∷ decimal q.version ∷ rest) f.part.from f.starts,
        name_again q.from q.upto (decimal q.version ∷ rest) f.part.upto f.whole,
        version_again commit q.version rest f.part.version f.low,
      ) refl;
}

ranges_chain : (commit place : ℕ) (end : List ℕ) (qs : List RangePart) → ranges_fault commit place end qs ≡ None → All IsRangePart qs → Chain (RangeFits commit) (λ q. q.upto) end qs
ranges_chain commit place end [] h parts = tt
ranges_chain commit place end (q ∷ qs) h parts =
    let a = passed (not (name_before q.from q.upto) || name_before q.from end) _ _ h in
    let b = passed (not (nat_lt q.version commit)) _ _ a.1 in (
      record {
        part = parts 0 q (omega arith);
        starts = neither_right (not (name_before q.from q.upto)) (name_before q.from end) a.0;
        whole = not_true (name_before q.from q.upto) (neither_left (not (name_before q.from q.upto)) (name_before q.from end) a.0);
        low = not_true (nat_lt q.version commit) b.0;
      },
      ranges_chain commit (place + 1) q.upto qs b.1 (all_rest IsRangePart q qs parts),
    )

chain_ranges : (commit place : ℕ) (end : List ℕ) (qs : List RangePart) → Chain (RangeFits commit) (λ q. q.upto) end qs → (ranges_fault commit place end qs ≡ None) × All IsRangePart qs
chain_ranges commit place end [] chain = (refl, λ k d lt. absurd (omega arith))
chain_ranges commit place end (q ∷ qs) chain =
    let rest = chain_ranges commit (place + 1) q.upto qs chain.1 in
    (rw (chain.0.whole, chain.0.starts, chain.0.low) rest.0, all_cons IsRangePart q qs chain.0.part rest.1)

-- ---- writes

record WriteFits (reads : List ReadPart) (before : List ℕ) (w : WritePart) : Type 0 where
  part : IsWritePart w
  above : name_before before w.name ≡ true
  known : reads_name reads w.name ≡ true

write_law : (reads : List ReadPart) → PartLaw write_words (write_at reads) (WriteFits reads)
unfolding write_at
write_law reads = record {
  takes = λ before words x h.
      let a = bind_ok (written_word reads before words) _ x h in
      let b = bind_ok (value_word a.0.1) _ x a.2 in
      let t = written_takes reads before words a.0 a.1 in
      let u = value_takes a.0.1 b.0 b.1 in
      let made : WritePart × List (List ℕ) = (record { name = a.0.0; value = b.0.0 }, b.0.1) in
      subst (λ (y : WritePart × List (List ℕ)). (words ≡ write_words y.0 ++ y.1) × WriteFits reads before y.0) (ok_is made x b.2)
      (t.0 ∙ ap (λ (v : List (List ℕ)). a.0.0 ∷ v) u.0, record { part = record { name = t.1; value = u.1 }; above = t.2; known = t.3 });
  again = λ before w rest f. rw (written_again reads before w.name (value_text w.value ∷ rest) f.part.name f.above f.known, value_again w.value rest f.part.value) refl;
}

writes_chain : (reads : List ReadPart) (place : ℕ) (before : List ℕ) (ws : List WritePart) → writes_fault reads place before ws ≡ None → All IsWritePart ws → Chain (WriteFits reads) (λ w. w.name) before ws
writes_chain reads place before [] h parts = tt
writes_chain reads place before (w ∷ ws) h parts =
    let a = passed (not (name_before before w.name)) _ _ h in
    let b = passed (not (reads_name reads w.name)) _ _ a.1 in (
      record { part = parts 0 w (omega arith); above = not_true (name_before before w.name) a.0; known = not_true (reads_name reads w.name) b.0 },
      writes_chain reads (place + 1) w.name ws b.1 (all_rest IsWritePart w ws parts),
    )

chain_writes : (reads : List ReadPart) (place : ℕ) (before : List ℕ) (ws : List WritePart) → Chain (WriteFits reads) (λ w. w.name) before ws → (writes_fault reads place before ws ≡ None) × All IsWritePart ws
chain_writes reads place before [] chain = (refl, λ k d lt. absurd (omega arith))
chain_writes reads place before (w ∷ ws) chain =
    let rest = chain_writes reads (place + 1) w.name ws chain.1 in
    (rw (chain.0.above, chain.0.known) rest.0, all_cons IsWritePart w ws chain.0.part rest.1)

-- ---- payloads

abbrev pub reads_words : List ReadPart → List (List ℕ)
reads_words reads = spelled (codes "r") read_words reads

abbrev pub ranges_words : List RangePart → List (List ℕ)
ranges_words ranges = spelled (codes "q") range_words ranges

abbrev pub writes_words : List WritePart → List (List ℕ)
writes_words writes = spelled (codes "w") write_words writes

-- the words of a payload
abbrev pub payload_words : Accesses → List (List ℕ)
payload_words p = codes "v" ∷ decimal p.version ∷ (reads_words p.reads ++ (ranges_words p.ranges ++ writes_words p.writes))

no_r_next : (qs : List RangePart) (ws : List WritePart) → begins (codes "r") (ranges_words qs ++ writes_words ws) ≡ false
no_r_next [] [] = refl
no_r_next [] (w ∷ ws) = refl
no_r_next (q ∷ qs) ws = refl

no_q_next : (ws : List WritePart) → begins (codes "q") (writes_words ws) ≡ false
no_q_next [] = refl
no_q_next (w ∷ ws) = refl

ranges_again : (version commit : ℕ) (qs : List RangePart) (ws : List WritePart) → (version ≡ 1 → qs ≡ []) → Chain (RangeFits commit) (λ q. q.upto) [] qs → length qs ≤ MAX_RANGES
    → ranges_in version commit (ranges_words qs ++ writes_words ws) ≡ Ok (qs, writes_words ws)
ranges_again version commit qs ws fits chain few = go (version == 1) refl where
  go : (b : Bool) → (version == 1) ≡ b → cond b (Ok ([], ranges_words qs ++ writes_words ws)) (ranges_at commit (ranges_words qs ++ writes_words ws)) ≡ Ok (qs, writes_words ws)
  go true e = let none : qs ≡ [] = fits (eqb-true version 1 e) in rw none refl
  go false e = parts_again (codes "q") (λ q. q.upto) range_words (range_at commit) (RangeFits commit) (range_law commit) (λ v. refl) qs MAX_RANGES [] (writes_words ws) chain few (no_q_next ws)

pub payload_again : (version : ℕ) (p : Accesses) → IsPayload p → FitsVersion version p → payload_at version (payload_words p) ≡ Ok p
unfolding payload_at
payload_again version p h fits =
    let f = faultless p h in
    let positive = h.positive in
    let some = h.some in
    let above : (p.version == 0) ≡ false = grind (arith, nat_tests) in
    let enough : ((length p.reads == 0) && (length p.ranges == 0)) ≡ false = grind (arith, nat_tests) in
    let commit = commit_again p.version (reads_words p.reads ++ (ranges_words p.ranges ++ writes_words p.writes)) h.version_fits above in
    let reads = parts_again (codes "r") (λ r. r.name) read_words (read_at p.version) (ReadFits p.version) (read_law p.version) (λ v. refl) p.reads MAX_READS [] (ranges_words p.ranges ++ writes_words p.writes)
    (reads_chain p.version 1 [] p.reads f.reads h.read_parts) h.few_reads (no_r_next p.ranges p.writes) in
    let ranges = ranges_again version p.version p.ranges p.writes fits (ranges_chain p.version (length p.reads + 1) [] p.ranges f.ranges h.range_parts) h.few_ranges in
    let writes : writes_at p.reads (writes_words p.writes) ≡ Ok (p.writes, []) =
    ap (writes_at p.reads) (sym (append-nil (writes_words p.writes))) ∙ parts_again (codes "w") (λ w. w.name) write_words (write_at p.reads) (WriteFits p.reads) (write_law p.reads) (λ v. refl) p.writes MAX_WRITES [] []
    (writes_chain p.reads (length p.reads + length p.ranges + 1) [] p.writes f.writes h.write_parts) h.few_writes refl in
    rw (commit, reads, ranges, enough, writes) refl

record RangesTaken (version commit : ℕ) (words : List (List ℕ)) (x : List RangePart × List (List ℕ)) : Type 0 where
  parts : PartsTaken (codes "q") (λ (q : RangePart). q.upto) range_words (RangeFits commit) MAX_RANGES [] words x
  fits : version ≡ 1 → x.0 ≡ []

ranges_taken : (version commit : ℕ) (words : List (List ℕ)) (x : List RangePart × List (List ℕ)) → ranges_in version commit words ≡ Ok x → RangesTaken version commit words x
ranges_taken version commit words x h = go (version == 1) refl h where
  go : (b : Bool) → (version == 1) ≡ b → cond b (Ok ([], words)) (ranges_at commit words) ≡ Ok x → RangesTaken version commit words x
  go true e k = subst (RangesTaken version commit words) (ok_is ([], words) x k) (record { parts = record { whole = refl; chain = tt; few = omega arith }; fits = λ _. refl })
  go false e k = record {
    parts = parts_take (codes "q") (λ q. q.upto) range_words (range_at commit) (RangeFits commit) (range_law commit) MAX_RANGES [] words x k;
    fits = λ one. absurd (let same : (version == 1) ≡ true = rw one refl in cc);
  }

pub payload_takes : (version : ℕ) (words : List (List ℕ)) (p : Accesses) → payload_at version words ≡ Ok p → (words ≡ payload_words p) × IsPayload p × FitsVersion version p
unfolding payload_at
payload_takes version words p h =
    let a = bind_ok (fixed_word (codes "v") words) _ p h in
    let b = bind_ok (commit_word a.0.1) _ p a.2 in
    let c = bind_ok (reads_at b.0.0 b.0.1) _ p b.2 in
    let d = bind_ok (ranges_in version b.0.0 c.0.1) _ p c.2 in
    let e = bind_ok (some_read c.0.0 d.0.0 d.0.1) _ p d.2 in
    let f = bind_ok (writes_at c.0.0 e.0.1) _ p e.2 in
    let g = bind_ok (all_read f.0.1) _ p f.2 in
    let first = met (begins (codes "v") words) (record { left = length words; reason = reasons.Word }) (tt, after words) a.0 a.1 in
    let commit = commit_takes a.0.1 b.0 b.1 in
    let reads = parts_take (codes "r") (λ r. r.name) read_words (read_at b.0.0) (ReadFits b.0.0) (read_law b.0.0) MAX_READS [] b.0.1 c.0 c.1 in
    let ranges = ranges_taken version b.0.0 c.0.1 d.0 d.1 in
    let some = guard_ok ((length c.0.0 == 0) && (length d.0.0 == 0)) (record { left = length d.0.1; reason = reasons.Word }) (tt, d.0.1) e.0 e.1 in
    let writes = parts_take (codes "w") (λ w. w.name) write_words (write_at c.0.0) (WriteFits c.0.0) (write_law c.0.0) MAX_WRITES [] e.0.1 f.0 f.1 in
    let end = met (length f.0.1 == 0) (record { left = length f.0.1; reason = reasons.Word }) (tt, f.0.1) g.0 g.1 in
    let nothing : f.0.1 ≡ [] = nil_from_length f.0.1 (eqb-true _ _ end.0) in
    let same_rest : d.0.1 ≡ e.0.1 = ap (λ (x : Unit {0} × List (List ℕ)). x.1) some.1 in
    let after_first : after words ≡ a.0.1 = ap (λ (x : Unit {0} × List (List ℕ)). x.1) first.1 in
    let of_writes : e.0.1 ≡ writes_words f.0.0 = writes.whole ∙ ap (λ (x : List (List ℕ)). writes_words f.0.0 ++ x) nothing ∙ append-nil (writes_words f.0.0) in
    let of_ranges : c.0.1 ≡ ranges_words d.0.0 ++ writes_words f.0.0 = ranges.parts.whole ∙ ap (λ (x : List (List ℕ)). ranges_words d.0.0 ++ x) (same_rest ∙ of_writes) in
    let of_reads : b.0.1 ≡ reads_words c.0.0 ++ (ranges_words d.0.0 ++ writes_words f.0.0) = reads.whole ∙ ap (λ (x : List (List ℕ)). reads_words c.0.0 ++ x) of_ranges in
    let of_commit : a.0.1 ≡ decimal b.0.0 ∷ (reads_words c.0.0 ++ (ranges_words d.0.0 ++ writes_words f.0.0)) = commit.0 ∙ ap (λ (x : List (List ℕ)). decimal b.0.0 ∷ x) of_reads in
    let whole : words ≡ codes "v" ∷ decimal b.0.0 ∷ (reads_words c.0.0 ++ (ranges_words d.0.0 ++ writes_words f.0.0)) = begun (codes "v") words first.0 ∙ ap (λ (x : List (List ℕ)). codes "v" ∷ x) (after_first ∙ of_commit) in
    let r = chain_reads b.0.0 1 [] c.0.0 reads.chain in
    let q = chain_ranges b.0.0 (length c.0.0 + 1) [] d.0.0 ranges.parts.chain in
    let w = chain_writes c.0.0 (length c.0.0 + length d.0.0 + 1) [] f.0.0 writes.chain in
    let enough = some.0 in
    let above = commit.2 in
    let made : Accesses = record { reads = c.0.0; ranges = d.0.0; writes = f.0.0; version = b.0.0 } in
    let counted : Counted made = record { some = grind (arith, nat_tests); few_reads = reads.few; few_ranges = ranges.parts.few; few_writes = writes.few; positive = grind (arith, nat_tests) } in
    let is_payload = faultless_is_payload made counted (record { reads = r.0; ranges = q.0; writes = w.0 }) (record { version_fits = commit.1; read_parts = r.1; range_parts = q.1; write_parts = w.1 }) in
    subst (λ (m : Accesses). (words ≡ payload_words m) × IsPayload m × FitsVersion version m) (ok_is made p g.2) (whole, is_payload, ranges.fits)
