-- Rows whose slots strictly ascend, by index.
use Rattle.std.proofs.Common.{◌≡◌, ℕ, ◌+◌, ◌<◌, ◌≤◌, zero, suc, Bool, true, false, ◌||◌, List, [], ◌∷◌, length, get_or, refl, sym, ap, ◌∙◌, subst, inl, inr, arith}
use Rattle.std.specs.Prelude.{◌==◌, nat_lt, Option, Some, None, find, slice_index}
use Rattle.std.specs.List.{list_all}
use Rattle.std.proofs.lemmas.List.{get_or-map}
use Rattle.std.proofs.lemmas.Bool.{cond-true, cond-false, and_parts, ltb-true, eq-eqb, ne_eqb, cases_Bool, eqb-true, cases_lt, false_from_ne_true}
use Rattle.conflict_index.proofs.Finding.{clash_above}
use Rattle.tcs_terms.specs.declared.logs.Row.{Row}
use Rattle.tcs_terms.specs.Payloads.{Accesses}
use Rattle.tcs_laws.specs.Certification.{Tests}
use Rattle.tcs_laws.specs.Votes.{clashes}
use Rattle.conflict_index.specs.Candidates.{clashes_at}
use Rattle.conflict_index.specs.Keeping.{slots_rise}
use Rattle.conflict_index.specs.Slots.{slots_of, SplitsAt}

or_false : (b : Bool) → (b || false) ≡ b
or_false true = refl
or_false false = refl

-- a slot above which all rows lie
above_at : (low : ℕ) (rows : List Row) → list_all (λ r. nat_lt low r.entry.slot) rows ≡ true → (k : ℕ) → k < length rows
    → low < slice_index (slots_of rows) k
above_at low [] above k within = absurd (omega arith)
above_at low (r ∷ rs) above zero within = ltb-true low r.entry.slot (and_parts (nat_lt low r.entry.slot) (list_all (λ r. nat_lt low r.entry.slot) rs) above).0
above_at low (r ∷ rs) above (suc k) within = above_at low rs (and_parts (nat_lt low r.entry.slot) (list_all (λ r. nat_lt low r.entry.slot) rs) above).1 k (omega arith)

-- a later row has a greater slot
pub rises : (rows : List Row) → slots_rise rows ≡ true → (i j : ℕ) → i < j → j < length rows
    → slice_index (slots_of rows) i < slice_index (slots_of rows) j
rises [] rise i j before within = absurd (omega arith)
rises (r ∷ rs) rise i zero before within = absurd (omega arith)
rises (r ∷ rs) rise zero (suc j) before within =
    above_at r.entry.slot rs (and_parts (list_all (λ later. nat_lt r.entry.slot later.entry.slot) rs) (slots_rise rs) rise).0 j (omega arith)
rises (r ∷ rs) rise (suc i) (suc j) before within =
    rises rs (and_parts (list_all (λ later. nat_lt r.entry.slot later.entry.slot) rs) (slots_rise rs) rise).1 i j (omega arith) (omega arith)

-- the row of a slot, where the rows before it have lower ones
pub found_at : (rows : List Row) (slot at : ℕ) (d : Row) → ((k : ℕ) → k < at → slice_index (slots_of rows) k < slot)
    → at < length rows → slice_index (slots_of rows) at ≡ slot → find (λ r. r.entry.slot == slot) rows ≡ Some (get_or rows at d)
found_at [] slot at d below within same = absurd (omega arith)
found_at (r ∷ rs) slot zero d below within same = cond-true (r.entry.slot == slot) (Some r) (find (λ r. r.entry.slot == slot) rs) (eq-eqb r.entry.slot slot same)
found_at (r ∷ rs) slot (suc at) d below within same =
    let lower : r.entry.slot < slot = below 0 (omega arith) in
    cond-false (r.entry.slot == slot) (Some r) (find (λ r. r.entry.slot == slot) rs) (ne_eqb r.entry.slot slot (λ e. omega arith))
    ∙ found_at rs slot at d (λ k h. below (suc k) (omega arith)) (omega arith) same

-- no row of a slot
pub none_at : (rows : List Row) (slot : ℕ) → ((k : ℕ) → k < length rows → slice_index (slots_of rows) k ≡ slot → ⊥)
    → find (λ r. r.entry.slot == slot) rows ≡ None
none_at [] slot none = refl
none_at (r ∷ rs) slot none =
    cond-false (r.entry.slot == slot) (Some r) (find (λ r. r.entry.slot == slot) rs) (ne_eqb r.entry.slot slot (none 0 (omega arith)))
    ∙ none_at rs slot (λ k h. none (suc k) (omega arith))

pub none_split : (rows : List Row) (slot at : ℕ) → slots_rise rows ≡ true → SplitsAt rows slot at
    → (at < length rows → slice_index (slots_of rows) at ≡ slot → ⊥) → find (λ r. r.entry.slot == slot) rows ≡ None
none_split rows slot at rise split other =
    none_at rows slot (λ k within same. elim (cases_lt k at) [
      | inl lower ↦ let below = split.below k lower in omega arith
      | inr upper ↦ elim (cases_lt at k) [
        | inl later ↦
            let above = rises rows rise at k later within in
            let here = split.from_there at (omega arith) (omega arith) in
            omega arith
        | inr here ↦ let one : k ≡ at = omega arith in
            other (omega arith) (subst (λ x. slice_index (slots_of rows) x ≡ slot) one same)
      ]
    ])

abbrev pub clash_by : Tests → Accesses → Option Row → Bool
clash_by tests new None = false
clash_by tests new (Some r) = clashes tests r new

-- whether a slot clashes is said by the row that is found there
pub clash_of_found : (tests : Tests) (new : Accesses) (slot : ℕ) (rows : List Row) → slots_rise rows ≡ true
    → clashes_at tests rows new slot ≡ clash_by tests new (find (λ r. r.entry.slot == slot) rows)
clash_of_found tests new slot [] rise = refl
clash_of_found tests new slot (r ∷ rs) rise =
    let parts = and_parts (list_all (λ later. nat_lt r.entry.slot later.entry.slot) rs) (slots_rise rs) rise in
    elim (cases_Bool (r.entry.slot == slot)) [
      | inl here ↦
          let same = eqb-true r.entry.slot slot here in
          let rest : clashes_at tests rs new slot ≡ false = false_from_ne_true _ (λ later.
          let above = clash_above tests new slot rs r.entry.slot parts.0 later in omega arith) in
          rw (here, rest) (or_false (clashes tests r new))
      | inr past ↦ rw past (clash_of_found tests new slot rs parts.1)
    ]

-- the slot of a row that is read by index
pub slot_at : (rows : List Row) (at : ℕ) (r : Row) → at < length rows → r ≡ get_or rows at r
    → slice_index (slots_of rows) at ≡ r.entry.slot
slot_at rows at r within is =
    get_or-map (λ x. x.entry.slot) rows at r 0 within ∙ ap (λ x. x.entry.slot) (sym is)

-- below a row with a lower slot all are lower, and above one that is not lower none is
pub lower_half : (rows : List Row) (slot middle : ℕ) → slots_rise rows ≡ true → middle < length rows
    → slice_index (slots_of rows) middle < slot → (k : ℕ) → k < middle + 1 → slice_index (slots_of rows) k < slot
lower_half rows slot middle rise within lower k before = elim (cases_lt k middle) [
  | inl earlier ↦ let less = rises rows rise k middle earlier within in omega arith
  | inr here ↦ let one : middle ≡ k = omega arith in subst (λ x. slice_index (slots_of rows) x < slot) one lower
]

pub upper_half : (rows : List Row) (slot middle : ℕ) → slots_rise rows ≡ true → middle < length rows
    → slot ≤ slice_index (slots_of rows) middle → (k : ℕ) → middle ≤ k → k < length rows → slot ≤ slice_index (slots_of rows) k
upper_half rows slot middle rise within upper k after short = elim (cases_lt middle k) [
  | inl later ↦ let more = rises rows rise middle k later short in omega arith
  | inr here ↦ let one : middle ≡ k = omega arith in subst (λ x. slot ≤ slice_index (slots_of rows) x) one upper
]
