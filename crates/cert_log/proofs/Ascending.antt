-- Rows whose slots ascend: a later row is above, and a slot is found where it stands.
use Rattle.std.proofs.Common.{◌≡◌, ℕ, ◌+◌, ◌-◌, ◌<◌, ◌≤◌, zero, suc, Bool, true, false, List, [], ◌∷◌, length, get_or, take, drop, refl, sym, ◌∙◌, subst, inl, inr, arith}
use Rattle.std.specs.Prelude.{◌==◌, nat_lt, Option, Some, None, find}
use Rattle.std.specs.List.{list_all, list_any, last_or, slice_get}
use Rattle.std.proofs.lemmas.Bool.{cond-true, cond-false, and_parts, and_from, or_parts, ltb-true, lt-ltb, eq-eqb, ne_eqb, cases_Bool}
use Rattle.tcs_terms.specs.declared.logs.Row.{Row}
use Rattle.tcs_terms.specs.Order.{ascends}
use Rattle.protocol.specs.Log.{row_at, slot_or_zero, last_slot}
use Rattle.cert_log.specs.Places.{slots_of}

-- the row lies below a slot, and above it
abbrev pub is_below : ℕ → Row → Bool
is_below slot r = nat_lt r.entry.slot slot

abbrev pub is_above : ℕ → Row → Bool
is_above slot r = nat_lt slot r.entry.slot

-- ---- tests that all pass

pub all_grow : {X : Type 0} (p q : X → Bool) → ((x : X) → p x ≡ true → q x ≡ true) → (xs : List X) → list_all p xs ≡ true → list_all q xs ≡ true
all_grow p q grow [] each = refl
all_grow p q grow (x ∷ xs) each =
    let parts = and_parts (p x) (list_all p xs) each in
    and_from (q x) (list_all q xs) (grow x parts.0) (all_grow p q grow xs parts.1)

pub all_at : {X : Type 0} (p : X → Bool) (xs : List X) (i : ℕ) (d : X) → list_all p xs ≡ true → i < length xs → p (get_or xs i d) ≡ true
all_at p [] i d each within = absurd (omega arith)
all_at p (x ∷ xs) zero d each within = (and_parts (p x) (list_all p xs) each).0
all_at p (x ∷ xs) (suc i) d each within = all_at p xs i d (and_parts (p x) (list_all p xs) each).1 (omega arith)

pub found_passes : {X : Type 0} (p q : X → Bool) (xs : List X) (x : X) → list_all q xs ≡ true → find p xs ≡ Some x → q x ≡ true
found_passes p q [] x each found = absurd cc
found_passes {X} p q (y ∷ ys) x each found = elim (cases_Bool (p y)) [
  | inl here ↦
      let some = cond-true (p y) (Some y) (find p ys) here in
      let same : y ≡ x = cc in
      subst (λ (z : X). q z ≡ true) same (and_parts (q y) (list_all q ys) each).0
  | inr past ↦ found_passes p q ys x (and_parts (q y) (list_all q ys) each).1 (sym (cond-false (p y) (Some y) (find p ys) past) ∙ found)
]

pub all_taken : {X : Type 0} (p : X → Bool) (xs : List X) (i : ℕ) → ((k : ℕ) (d : X) → k < i → k < length xs → p (get_or xs k d) ≡ true) → list_all p (take i xs) ≡ true
all_taken p xs zero each = refl
all_taken p [] (suc i) each = refl
all_taken p (x ∷ xs) (suc i) each =
    and_from (p x) (list_all p (take i xs)) (each 0 x (omega arith) (omega arith))
    (all_taken p xs i (λ k d before within. each (suc k) d (omega arith) (omega arith)))

pub all_dropped : {X : Type 0} (p : X → Bool) (xs : List X) (i : ℕ) → ((k : ℕ) (d : X) → i ≤ k → k < length xs → p (get_or xs k d) ≡ true) → list_all p (drop i xs) ≡ true
all_dropped p [] zero each = refl
all_dropped p [] (suc i) each = refl
all_dropped p (x ∷ xs) zero each =
    and_from (p x) (list_all p xs) (each 0 x (omega arith) (omega arith))
    (all_dropped p xs 0 (λ k d after within. each (suc k) d (omega arith) (omega arith)))
all_dropped p (x ∷ xs) (suc i) each = all_dropped p xs i (λ k d after within. each (suc k) d (omega arith) (omega arith))

-- nothing is found where nothing passes, and the other way round
pub none_found : {X : Type 0} (p : X → Bool) (xs : List X) → list_any p xs ≡ false → find p xs ≡ None
none_found p [] none = refl
none_found p (x ∷ xs) none =
    let parts = or_parts (p x) (list_any p xs) none in
    cond-false (p x) (Some x) (find p xs) parts.0 ∙ none_found p xs parts.1

-- ---- slots that ascend

pub tail_ascends : (r : Row) (rows : List Row) → ascends (slots_of (r ∷ rows)) ≡ true → ascends (slots_of rows) ≡ true
tail_ascends r [] up = refl
tail_ascends r (s ∷ rows) up = (and_parts (nat_lt r.entry.slot s.entry.slot) (ascends (slots_of (s ∷ rows))) up).1

pub others_above : (r : Row) (rows : List Row) → ascends (slots_of (r ∷ rows)) ≡ true → list_all (is_above r.entry.slot) rows ≡ true
others_above r [] up = refl
others_above r (s ∷ rows) up =
    let parts = and_parts (nat_lt r.entry.slot s.entry.slot) (ascends (slots_of (s ∷ rows))) up in
    let first = ltb-true r.entry.slot s.entry.slot parts.0 in
    and_from (nat_lt r.entry.slot s.entry.slot) (list_all (is_above r.entry.slot) rows) parts.0
    (all_grow (is_above s.entry.slot) (is_above r.entry.slot)
    (λ x above. let more = ltb-true s.entry.slot x.entry.slot above in lt-ltb r.entry.slot x.entry.slot (omega arith)) rows (others_above s rows parts.1))

-- a later row has a greater slot
pub rises : (rows : List Row) (i j : ℕ) (d : Row) → ascends (slots_of rows) ≡ true → i < j → j < length rows
    → (get_or rows i d).entry.slot < (get_or rows j d).entry.slot
rises [] i j d up before within = absurd (omega arith)
rises (r ∷ rows) i zero d up before within = absurd (omega arith)
rises (r ∷ rows) zero (suc j) d up before within =
    ltb-true r.entry.slot (get_or rows j d).entry.slot (all_at (is_above r.entry.slot) rows j d (others_above r rows up) (omega arith))
rises (r ∷ rows) (suc i) (suc j) d up before within = rises rows i j d (tail_ascends r rows up) (omega arith) (omega arith)

-- the row of a slot is found by it
pub row_at-here : (rows : List Row) (slot at : ℕ) (d : Row) → ascends (slots_of rows) ≡ true → at < length rows
    → (get_or rows at d).entry.slot ≡ slot → row_at rows slot ≡ Some (get_or rows at d)
row_at-here [] slot at d up within same = absurd (omega arith)
row_at-here (r ∷ rows) slot zero d up within same = cond-true (r.entry.slot == slot) (Some r) (row_at rows slot) (eq-eqb r.entry.slot slot same)
row_at-here (r ∷ rows) slot (suc at) d up within same =
    let lower = rises (r ∷ rows) 0 (suc at) d up (omega arith) within in
    cond-false (r.entry.slot == slot) (Some r) (row_at rows slot) (ne_eqb r.entry.slot slot (λ e. omega arith))
    ∙ row_at-here rows slot at d (tail_ascends r rows up) (omega arith) same

-- a row that some search finds is found by its slot too
pub row_at-found : (p : Row → Bool) (rows : List Row) (r : Row) → ascends (slots_of rows) ≡ true → find p rows ≡ Some r → row_at rows r.entry.slot ≡ Some r
row_at-found p [] r up found = absurd cc
row_at-found p (s ∷ rows) r up found = elim (cases_Bool (p s)) [
  | inl here ↦
      let some = cond-true (p s) (Some s) (find p rows) here in
      let same : s ≡ r = cc in
      subst (λ (x : Row). row_at (s ∷ rows) x.entry.slot ≡ Some x) same (cond-true (s.entry.slot == s.entry.slot) (Some s) (row_at rows s.entry.slot) (eq-eqb s.entry.slot s.entry.slot refl))
  | inr past ↦
      let later : find p rows ≡ Some r = sym (cond-false (p s) (Some s) (find p rows) past) ∙ found in
      let lower = ltb-true s.entry.slot r.entry.slot (found_passes p (is_above s.entry.slot) rows r (others_above s rows up) later) in
      cond-false (s.entry.slot == r.entry.slot) (Some s) (row_at rows r.entry.slot) (ne_eqb s.entry.slot r.entry.slot (λ e. omega arith))
      ∙ row_at-found p rows r (tail_ascends s rows up) later
]

-- ---- the last slot

pub last_found : (o : Option Row) (rows : List Row) (r : Row) → slice_get rows (length rows - 1) ≡ Some r → last_or o rows ≡ Some r
last_found o [] r e = absurd cc
last_found o (q ∷ []) r e = e
last_found o (q ∷ s ∷ rows) r e =
    let next : length (q ∷ s ∷ rows) - 1 ≡ suc (length (s ∷ rows) - 1) = omega arith in
    last_found (Some q) (s ∷ rows) r (rw next at e)

last_above : (r : Row) (rows : List Row) → ascends (slots_of (r ∷ rows)) ≡ true → r.entry.slot ≤ slot_or_zero (last_or (Some r) rows)
last_above r [] up = omega arith
last_above r (s ∷ rows) up =
    let parts = and_parts (nat_lt r.entry.slot s.entry.slot) (ascends (slots_of (s ∷ rows))) up in
    let first = ltb-true r.entry.slot s.entry.slot parts.0 in
    let rest = last_above s rows parts.1 in
    omega arith

upto_last : (o : Option Row) (rows : List Row) (slot : ℕ) → ascends (slots_of rows) ≡ true → slot_or_zero (last_or o rows) < slot → list_all (is_below slot) rows ≡ true
upto_last o [] slot up more = refl
upto_last o (r ∷ rows) slot up more =
    let first = last_above r rows up in
    and_from (nat_lt r.entry.slot slot) (list_all (is_below slot) rows) (lt-ltb r.entry.slot slot (omega arith))
    (upto_last (Some r) rows slot (tail_ascends r rows up) more)

-- all rows are below the slot after the last one
pub below_next : (rows : List Row) → ascends (slots_of rows) ≡ true → list_all (is_below (last_slot rows + 1)) rows ≡ true
below_next rows up = upto_last None rows (last_slot rows + 1) up (omega arith)
