-- An index stands for the rows as they change.
use Rattle.std.proofs.Common.{◌≡◌, ℕ, ◌^◌, ◌<◌, ◌≢◌, Bool, true, false, not, ◌&&◌, ◌||◌, cond, List, [], ◌∷◌, ◌++◌, length, get_or, refl, sym, ap, ◌∙◌, subst, inl, inr, arith}
use Rattle.std.specs.Prelude.{Result, Ok, Err, OnErr, IsTrue, ◌==◌, nat_lt, filter, map, Contains, slice_index}
use Rattle.std.specs.List.{list_all}
use Rattle.std.specs.BTreeSet.{BTreeSet, contains}
use Rattle.std.specs.Ordering.{nat_cmp}
use Rattle.std.proofs.lemmas.Bool.{cond_both, and_parts, and_from, or_cases, or_left, or_right, ltb-true, lt-ltb, eqb-true, eqb-false, cases_lt}
use Rattle.std.proofs.lemmas.List.{get_or-map, get_or_default}
use Rattle.std.proofs.lemmas.List.Folds.{list_all-append, list_all-map}
use Rattle.std.proofs.lemmas.List.Elements.{All-append, All-cons, All-filter, All-map}
use Rattle.std.proofs.lemmas.Option.{IfSome_then}
use Rattle.tcs_terms.specs.declared.logs.Row.{Row}
use Rattle.tcs_terms.specs.declared.logs.Mark.{Mark}
use Rattle.tcs_terms.specs.declared.logs.Mark.TheVariants.{Undecided, Committed, Aborted}
use Rattle.tcs_terms.specs.declared.votes.Vote.{Vote}
use Rattle.tcs_terms.specs.declared.votes.Vote.TheVariants.{Commit, Clash, Lost}
use Rattle.tcs_terms.specs.Payloads.{Accesses, IsPayload}
use Rattle.tcs_laws.specs.Rows.{put_row, marked, set_mark, first_mark}
use Rattle.tcs_laws.proofs.ListLemmas.{all_agree}
use Rattle.conflict_index.specs.declared.kept.Kept.{Kept}
use Rattle.conflict_index.specs.declared.places.Place.{Place}
use Rattle.conflict_index.specs.Change.{Grows, KeepsMore, Forgets}
use Rattle.conflict_index.specs.Keeping.{Keeps, KeepsRow, IsIndexOf, slots_rise, writes_count, is_live, all_kept, place, place_cmp}
use Rattle.conflict_index.specs.Slots.{slots_of}
use Rattle.conflict_index.proofs.Growing.{kept_still, all_grow}
use Rattle.conflict_index.proofs.Rising.{rises}

-- what a filter keeps passes each test that all pass, and its own
all_filter : {X : Type 0} (f keep : X → Bool) (xs : List X) → list_all f xs ≡ true → list_all f (filter keep xs) ≡ true
all_filter f keep [] each = refl
all_filter f keep (x ∷ xs) each =
    let parts = and_parts (f x) (list_all f xs) each in
    cond_both (keep x) (x ∷ filter keep xs) (filter keep xs) (λ ys. list_all f ys ≡ true)
    (λ _. and_from (f x) (list_all f (filter keep xs)) parts.0 (all_filter f keep xs parts.1))
    (λ _. all_filter f keep xs parts.1)

all_pass : {X : Type 0} (keep : X → Bool) (xs : List X) → list_all keep (filter keep xs) ≡ true
all_pass keep [] = refl
all_pass keep (x ∷ xs) =
    cond_both (keep x) (x ∷ filter keep xs) (filter keep xs) (λ ys. list_all keep ys ≡ true)
    (λ kept. and_from (keep x) (list_all keep (filter keep xs)) kept (all_pass keep xs))
    (λ _. all_pass keep xs)

rise_filter : (keep : Row → Bool) (rows : List Row) → slots_rise rows ≡ true → slots_rise (filter keep rows) ≡ true
rise_filter keep [] rise = refl
rise_filter keep (r ∷ rs) rise =
    let parts = and_parts (list_all (λ later. nat_lt r.entry.slot later.entry.slot) rs) (slots_rise rs) rise in
    cond_both (keep r) (r ∷ filter keep rs) (filter keep rs) (λ rows. slots_rise rows ≡ true)
    (λ _. and_from (list_all (λ later. nat_lt r.entry.slot later.entry.slot) (filter keep rs)) (slots_rise (filter keep rs))
    (all_filter (λ later. nat_lt r.entry.slot later.entry.slot) keep rs parts.0) (rise_filter keep rs parts.1))
    (λ _. rise_filter keep rs parts.1)

rise_join : (lower : List Row) (row : Row) (upper : List Row) → slots_rise lower ≡ true
    → list_all (λ r. nat_lt r.entry.slot row.entry.slot) lower ≡ true → slots_rise (row ∷ upper) ≡ true
    → slots_rise (lower ++ row ∷ upper) ≡ true
rise_join [] row upper rise below above = above
rise_join (r ∷ rs) row upper rise below above =
    let parts = and_parts (list_all (λ later. nat_lt r.entry.slot later.entry.slot) rs) (slots_rise rs) rise in
    let first = and_parts (nat_lt r.entry.slot row.entry.slot) (list_all (λ r. nat_lt r.entry.slot row.entry.slot) rs) below in
    let last = and_parts (list_all (λ later. nat_lt row.entry.slot later.entry.slot) upper) (slots_rise upper) above in
    let less = ltb-true r.entry.slot row.entry.slot first.0 in
    let far : list_all (λ later. nat_lt r.entry.slot later.entry.slot) upper ≡ true =
    all_grow (λ later. nat_lt row.entry.slot later.entry.slot) (λ later. nat_lt r.entry.slot later.entry.slot)
    (λ later h. let more = ltb-true row.entry.slot later.entry.slot h in lt-ltb r.entry.slot later.entry.slot (omega arith)) upper last.0 in
    and_from (list_all (λ later. nat_lt r.entry.slot later.entry.slot) (rs ++ row ∷ upper)) (slots_rise (rs ++ row ∷ upper))
    (list_all-append (λ later. nat_lt r.entry.slot later.entry.slot) rs (row ∷ upper)
    ∙ and_from _ _ parts.0 (and_from (nat_lt r.entry.slot row.entry.slot) (list_all (λ later. nat_lt r.entry.slot later.entry.slot) upper) first.0 far))
    (rise_join rs row upper parts.1 first.1 above)

-- what is kept of reads and of ranges stays so as the sets grow
readers_still : (counts : Accesses → List ℕ → Bool) (before after : BTreeSet Place) → Grows place_cmp before after → (slot : ℕ) (p : Accesses)
    → list_all (λ r. not (counts p r.name) || contains place_cmp before (place r.name p.version slot)) p.reads ≡ true
    → list_all (λ r. not (counts p r.name) || contains place_cmp after (place r.name p.version slot)) p.reads ≡ true
readers_still counts before after grows slot p kept =
    all_grow (λ r. not (counts p r.name) || contains place_cmp before (place r.name p.version slot))
    (λ r. not (counts p r.name) || contains place_cmp after (place r.name p.version slot))
    (λ r here. elim (or_cases (not (counts p r.name)) (contains place_cmp before (place r.name p.version slot)) here) [
      | inl out ↦ or_left (not (counts p r.name)) (contains place_cmp after (place r.name p.version slot)) out
      | inr there ↦ or_right (not (counts p r.name)) (contains place_cmp after (place r.name p.version slot))
          (grows.keeps (place r.name p.version slot) there)
    ]) p.reads kept

ranged_still : (unwritten : Bool) (before after : BTreeSet ℕ) → Grows nat_cmp before after → (slot : ℕ) (p : Accesses)
    → (not unwritten || ((length p.ranges == 0) || contains nat_cmp before slot)) ≡ true
    → (not unwritten || ((length p.ranges == 0) || contains nat_cmp after slot)) ≡ true
ranged_still unwritten before after grows slot p kept =
    elim (or_cases (not unwritten) ((length p.ranges == 0) || contains nat_cmp before slot) kept) [
      | inl never ↦ or_left (not unwritten) ((length p.ranges == 0) || contains nat_cmp after slot) never
      | inr either ↦ or_right (not unwritten) ((length p.ranges == 0) || contains nat_cmp after slot)
          (elim (or_cases (length p.ranges == 0) (contains nat_cmp before slot) either) [
            | inl none ↦ or_left (length p.ranges == 0) (contains nat_cmp after slot) none
            | inr there ↦ or_right (length p.ranges == 0) (contains nat_cmp after slot) (grows.keeps slot there)
          ])
    ]

module _ (counts : Accesses → List ℕ → Bool) (unwritten : Bool) where
  -- an index that has grown keeps what it kept
  keeps_more : (before after : Kept) → KeepsMore before after → (mark : Mark) (vote : Vote) (slot : ℕ) (p : Accesses)
      → Keeps counts unwritten before mark vote slot p → Keeps counts unwritten after mark vote slot p
  keeps_more before after more mark vote slot p keeps = record {
    formed = keeps.formed;
    in_writes = λ now. kept_still (λ w. place w.name p.version slot) before.writes after.writes more.writes p.writes (keeps.in_writes now);
    in_writers = λ now. kept_still (λ w. place w.name p.version slot) before.writers after.writers more.writers p.writes (keeps.in_writers now);
    in_readers = λ now. readers_still counts before.readers after.readers more.readers slot p (keeps.in_readers now);
    in_ranged = λ now. ranged_still unwritten before.ranged after.ranged more.ranged slot p (keeps.in_ranged now);
  }

  -- a row is kept once its writes are, and then what is kept of live rows
  pub keeps_now : (before after : Kept) → KeepsMore before after → (mark : Mark) (vote : Vote) (slot : ℕ) (p : Accesses)
      → IsPayload p
      → (IsTrue (writes_count mark) → IsTrue (all_kept before.writes (λ w. place w.name p.version slot) p.writes))
      → (IsTrue (is_live mark vote) → IsTrue (all_kept after.writers (λ w. place w.name p.version slot) p.writes))
      → (IsTrue (is_live mark vote) → IsTrue (list_all (λ r. not (counts p r.name)
      || contains place_cmp after.readers (place r.name p.version slot)) p.reads))
      → (IsTrue (is_live mark vote) → IsTrue (not unwritten || ((length p.ranges == 0) || contains nat_cmp after.ranged slot)))
      → Keeps counts unwritten after mark vote slot p
  keeps_now before after more mark vote slot p formed writes writers readers ranged = record {
    formed = formed;
    in_writes = λ now. kept_still (λ w. place w.name p.version slot) before.writes after.writes more.writes p.writes (writes now);
    in_writers = writers;
    in_readers = readers;
    in_ranged = ranged;
  }

  pub index_more : (before after : Kept) → KeepsMore before after → (rows : List Row)
      → IsIndexOf counts unwritten before rows → IsIndexOf counts unwritten after rows
  index_more before after more rows index = record {
    rise = index.rise;
    fit = index.fit;
    objects = more.objects index.objects;
    keeps = λ k d within. IfSome_then _ (index.keeps k d within)
        (λ p keeps. keeps_more before after more _ _ _ p keeps);
  }

  -- a row that is kept may be put in its place
  pub index_put : (kept : Kept) (rows : List Row) → IsIndexOf counts unwritten kept rows
      → (row : Row) → row.entry.slot < 2 ^ 16 → KeepsRow counts unwritten kept row
      → IsIndexOf counts unwritten kept (put_row rows row)
  index_put kept rows index row fits keeps =
      let lower : List Row = filter (λ r. nat_lt r.entry.slot row.entry.slot) rows in
      let upper : List Row = filter (λ r. nat_lt row.entry.slot r.entry.slot) rows in
      let fit : Row → Bool = λ r. nat_lt r.entry.slot (2 ^ 16) in
      record {
        rise = rise_join lower row upper (rise_filter (λ r. nat_lt r.entry.slot row.entry.slot) rows index.rise)
            (all_pass (λ r. nat_lt r.entry.slot row.entry.slot) rows)
            (and_from (list_all (λ r. nat_lt row.entry.slot r.entry.slot) upper) (slots_rise upper)
            (all_pass (λ r. nat_lt row.entry.slot r.entry.slot) rows)
            (rise_filter (λ r. nat_lt row.entry.slot r.entry.slot) rows index.rise));
        fit = list_all-append fit lower (row ∷ upper)
            ∙ and_from (list_all fit lower) (list_all fit (row ∷ upper)) (all_filter fit (λ r. nat_lt r.entry.slot row.entry.slot) rows index.fit)
            (and_from (fit row) (list_all fit upper) (lt-ltb row.entry.slot (2 ^ 16) fits) (all_filter fit (λ r. nat_lt row.entry.slot r.entry.slot) rows index.fit));
        objects = index.objects;
        keeps = All-append (KeepsRow counts unwritten kept) lower (row ∷ upper)
            (All-filter (λ r. nat_lt r.entry.slot row.entry.slot) (KeepsRow counts unwritten kept) rows index.keeps)
            (All-cons (KeepsRow counts unwritten kept) row upper keeps
            (All-filter (λ r. nat_lt row.entry.slot r.entry.slot) (KeepsRow counts unwritten kept) rows index.keeps));
      }

-- a row that is live with a mark was so before, and any row that may commit would be with that mark
live_before : (mark : Mark) (vote : Vote) → is_live mark vote ≡ true → (is_live mark Commit ≡ true) × (is_live Undecided vote ≡ true)
live_before Undecided Commit live = (live, live)
live_before Undecided (Clash txn) live = absurd (let no : false ≡ true = live in cc)
live_before Undecided Lost live = absurd (let no : false ≡ true = live in cc)
live_before Committed vote live = absurd (let no : false ≡ true = live in cc)
live_before Aborted vote live = absurd (let no : false ≡ true = live in cc)

module _ (counts : Accesses → List ℕ → Bool) (unwritten : Bool) (before after : Kept) (slot : ℕ) (mark : Mark)
    (forgets : Forgets slot mark before after) where
  -- another row is kept as it was
  keeps_else : (m : Mark) (vote : Vote) (s : ℕ) (p : Accesses) → s ≢ slot → Keeps counts unwritten before m vote s p
      → Keeps counts unwritten after m vote s p
  keeps_else m vote s p other keeps = record {
    formed = keeps.formed;
    in_writes = λ now. all_agree (λ w. contains place_cmp after.writes (place w.name p.version s)) (λ w. contains place_cmp before.writes (place w.name p.version s))
        (λ w. forgets.writes_else.others (place w.name p.version s) other) p.writes ∙ keeps.in_writes now;
    in_writers = λ now. all_agree (λ w. contains place_cmp after.writers (place w.name p.version s)) (λ w. contains place_cmp before.writers (place w.name p.version s))
        (λ w. forgets.writers_else.others (place w.name p.version s) other) p.writes ∙ keeps.in_writers now;
    in_readers = λ now. all_agree (λ r. not (counts p r.name) || contains place_cmp after.readers (place r.name p.version s))
        (λ r. not (counts p r.name) || contains place_cmp before.readers (place r.name p.version s))
        (λ r. ap (λ b. not (counts p r.name) || b) (forgets.readers_else.others (place r.name p.version s) other)) p.reads ∙ keeps.in_readers now;
    in_ranged = λ now. ap (λ b. not unwritten || ((length p.ranges == 0) || b)) (forgets.ranged_else.others s other) ∙ keeps.in_ranged now;
  }

  -- of the row itself what counts with the mark is kept
  keeps_there : (vote : Vote) (p : Accesses) → Keeps counts unwritten before Undecided vote slot p
      → Keeps counts unwritten after mark vote slot p
  keeps_there vote p keeps = record {
    formed = keeps.formed;
    in_writes = λ now. kept_still (λ w. place w.name p.version slot) before.writes after.writes (forgets.writes_stay now) p.writes (keeps.in_writes refl);
    in_writers = λ now. (let was = live_before mark vote now in
        kept_still (λ w. place w.name p.version slot) before.writers after.writers (forgets.writers_stay was.0) p.writes (keeps.in_writers was.1));
    in_readers = λ now. (let was = live_before mark vote now in
        readers_still counts before.readers after.readers (forgets.readers_stay was.0) slot p (keeps.in_readers was.1));
    in_ranged = λ now. (let was = live_before mark vote now in
        ranged_still unwritten before.ranged after.ranged (forgets.ranged_stay was.0) slot p (keeps.in_ranged was.1));
  }

  row_marked : (r : Row) → KeepsRow counts unwritten before r → ((r.entry.slot == slot) ≡ true → r.mark ≡ Undecided)
      → KeepsRow counts unwritten after (cond (r.entry.slot == slot) (set_mark mark r) r)
  row_marked r keeps only =
      cond_both (r.entry.slot == slot) (set_mark mark r) r (KeepsRow counts unwritten after)
      (λ here. IfSome_then r.entry.payload keeps (λ p k.
      let same = eqb-true r.entry.slot slot here in
      let undecided = only here in
      let was : Keeps counts unwritten before Undecided r.entry.vote slot p =
      subst (λ s. Keeps counts unwritten before Undecided r.entry.vote s p) same
      (subst (λ m. Keeps counts unwritten before m r.entry.vote r.entry.slot p) undecided k) in
      subst (λ m. Keeps counts unwritten after (first_mark m mark) r.entry.vote r.entry.slot p) (sym undecided)
      (subst (λ s. Keeps counts unwritten after mark r.entry.vote s p) (sym same) (keeps_there r.entry.vote p was))))
      (λ past. IfSome_then r.entry.payload keeps (λ p k. keeps_else r.mark r.entry.vote r.entry.slot p (eqb-false r.entry.slot slot past) k))

  slot_stays : (r : Row) → (cond (r.entry.slot == slot) (set_mark mark r) r).entry.slot ≡ r.entry.slot
  slot_stays r = cond_both (r.entry.slot == slot) (set_mark mark r) r (λ x. x.entry.slot ≡ r.entry.slot) (λ _. refl) (λ _. refl)

  rise_marked : (rows : List Row) → slots_rise (marked rows slot mark) ≡ slots_rise rows
  rise_marked [] = refl
  rise_marked (r ∷ rs) =
      let f : Row → Row = λ x. cond (x.entry.slot == slot) (set_mark mark x) x in
      let later : list_all (λ x. nat_lt (f r).entry.slot x.entry.slot) (map f rs) ≡ list_all (λ x. nat_lt r.entry.slot x.entry.slot) rs =
      list_all-map (λ x. nat_lt (f r).entry.slot x.entry.slot) f rs
      ∙ all_agree (λ x. nat_lt (f r).entry.slot (f x).entry.slot) (λ x. nat_lt r.entry.slot x.entry.slot)
      (λ x. rw (slot_stays r, slot_stays x)) rs in
      let rest = rise_marked rs in
      ap (λ b. b && slots_rise (map f rs)) later ∙ ap (λ b. list_all (λ x. nat_lt r.entry.slot x.entry.slot) rs && b) rest

  fit_marked : (rows : List Row) → list_all (λ r. nat_lt r.entry.slot (2 ^ 16)) (marked rows slot mark) ≡ list_all (λ r. nat_lt r.entry.slot (2 ^ 16)) rows
  fit_marked rows =
      let f : Row → Row = λ x. cond (x.entry.slot == slot) (set_mark mark x) x in
      list_all-map (λ r. nat_lt r.entry.slot (2 ^ 16)) f rows
      ∙ all_agree (λ x. nat_lt (f x).entry.slot (2 ^ 16)) (λ x. nat_lt x.entry.slot (2 ^ 16)) (λ x. rw (slot_stays x)) rows

  -- the row of the slot is the one that is marked
  only_that : (rows : List Row) → slots_rise rows ≡ true → (row : Row) → Contains rows row → row.entry.slot ≡ slot → row.mark ≡ Undecided
      → (k : ℕ) (d : Row) → k < length rows → ((get_or rows k d).entry.slot == slot) ≡ true → (get_or rows k d).mark ≡ Undecided
  only_that rows rise row there same undecided k d within here =
      let j : ℕ = there.0 in
      let at_k : slice_index (slots_of rows) k ≡ (get_or rows k d).entry.slot = get_or-map (λ x. x.entry.slot) rows k d 0 within in
      let at_j : slice_index (slots_of rows) j ≡ (get_or rows j row).entry.slot = get_or-map (λ x. x.entry.slot) rows j row 0 there.1 in
      let of_row : (get_or rows j row).entry.slot ≡ slot = ap (λ x. x.entry.slot) there.2 ∙ same in
      let of_k = eqb-true (get_or rows k d).entry.slot slot here in
      elim (cases_lt k j) [
        | inl lower ↦ absurd (let less = rises rows rise k j lower there.1 in omega arith)
        | inr upper ↦ elim (cases_lt j k) [
          | inl higher ↦ absurd (let less = rises rows rise j k higher within in omega arith)
          | inr equal ↦ let one : j ≡ k = omega arith in
              ap (λ x. x.mark) (get_or_default rows k d row within ∙ subst (λ x. get_or rows x row ≡ row) one there.2) ∙ undecided
        ]
      ]

  pub index_marked : (rows : List Row) → IsIndexOf counts unwritten before rows → (row : Row) → Contains rows row
      → row.entry.slot ≡ slot → row.mark ≡ Undecided → IsIndexOf counts unwritten after (marked rows slot mark)
  index_marked rows index row there same undecided = record {
    rise = rise_marked rows ∙ index.rise;
    fit = fit_marked rows ∙ index.fit;
    objects = forgets.objects index.objects;
    keeps = All-map (KeepsRow counts unwritten after) (λ x. cond (x.entry.slot == slot) (set_mark mark x) x) rows
        (λ k d within. row_marked (get_or rows k d) (index.keeps k d within)
        (only_that rows index.rise row there same undecided k d within));
  }

-- what holds anyway holds on an error
pub on_err_from : {X E : Type 0} (r : Result X E) {Q : Type 0} → Q → OnErr r Q
on_err_from (Ok x) q = tt
on_err_from (Err e) q = q
