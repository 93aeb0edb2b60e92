-- A row is put between rows with lower slots and rows with greater ones.
use Rattle.std.proofs.Common.{◌≡◌, ℕ, Bool, true, false, not, cond, List, [], ◌∷◌, ◌++◌, Some, None, refl, sym, ap, ◌∙◌, inl, inr, arith}
use Rattle.std.specs.Prelude.{◌==◌, nat_lt, filter, find}
use Rattle.std.specs.List.{list_all, list_any}
use Rattle.std.proofs.lemmas.Bool.{cond-true, cond-false, cond_both, and_parts, and_from, or_parts, or_from, ltb-true, le-ltb, ne_eqb, cases_Bool, not-true, not_from_false}
use Rattle.std.proofs.lemmas.List.{append-nil}
use Rattle.std.proofs.lemmas.List.Elements.{filter-append}
use Rattle.std.proofs.lemmas.List.Folds.{list_all-append, list_any-append}
use Rattle.tcs_terms.specs.declared.ids.TxId.{TxId}
use Rattle.tcs_terms.specs.declared.logs.Row.{Row}
use Rattle.tcs_terms.specs.Order.{ascends}
use Rattle.tcs_terms.specs.Logs.{same_txn, txns_differ, AreRows}
use Rattle.tcs_terms.specs.Messages.{is_slot}
use Rattle.tcs_laws.specs.Rows.{put_row}
use Rattle.cert_log.specs.Places.{slots_of, txns_of}
use Rattle.cert_log.proofs.Ascending.{is_below, is_above, tail_ascends}
use Rattle.tcs_terms.proofs.RowLaws.{same_swap}

-- ---- what a filter keeps

pub filter_all : {X : Type 0} (p : X → Bool) (xs : List X) → list_all p xs ≡ true → filter p xs ≡ xs
filter_all p [] each = refl
filter_all p (x ∷ xs) each =
    let parts = and_parts (p x) (list_all p xs) each in
    cond-true (p x) (x ∷ filter p xs) (filter p xs) parts.0 ∙ ap (λ ys. x ∷ ys) (filter_all p xs parts.1)

filter_none : {X : Type 0} (p q : X → Bool) → ((x : X) → q x ≡ true → p x ≡ false) → (xs : List X) → list_all q xs ≡ true → filter p xs ≡ []
filter_none p q other [] each = refl
filter_none p q other (x ∷ xs) each =
    let parts = and_parts (q x) (list_all q xs) each in
    cond-false (p x) (x ∷ filter p xs) (filter p xs) (other x parts.0) ∙ filter_none p q other xs parts.1

any_none : {X : Type 0} (p q : X → Bool) → ((x : X) → q x ≡ true → p x ≡ false) → (xs : List X) → list_all q xs ≡ true → list_any p xs ≡ false
any_none p q other [] each = refl
any_none p q other (x ∷ xs) each =
    let parts = and_parts (q x) (list_all q xs) each in
    or_from (p x) (list_any p xs) (other x parts.0) (any_none p q other xs parts.1)

-- ---- a row with its place

-- a row may stand between these rows: its slot lies between theirs, and its transaction is new
pub record Between (lower : List Row) (row : Row) (upper : List Row) : Type 0 where
  pub below : list_all (is_below row.entry.slot) lower ≡ true
  pub above : list_all (is_above row.entry.slot) upper ≡ true
  pub slot : is_slot row.entry.slot ≡ true
  pub new : list_any (same_txn row.entry.txn) (txns_of (lower ++ upper)) ≡ false

not_above : (slot : ℕ) (r : Row) → is_below slot r ≡ true → is_above slot r ≡ false
not_above slot r below = let less = ltb-true r.entry.slot slot below in le-ltb slot r.entry.slot (omega arith)

not_below : (slot : ℕ) (r : Row) → is_above slot r ≡ true → is_below slot r ≡ false
not_below slot r above = let more = ltb-true slot r.entry.slot above in le-ltb r.entry.slot slot (omega arith)

pub put_between : (lower : List Row) (row : Row) (upper : List Row) → list_all (is_below row.entry.slot) lower ≡ true
    → list_all (is_above row.entry.slot) upper ≡ true → put_row (lower ++ upper) row ≡ lower ++ row ∷ upper
put_between lower row upper below above =
    let slot : ℕ = row.entry.slot in
    let low : filter (is_below slot) (lower ++ upper) ≡ lower =
    filter-append (is_below slot) lower upper
    ∙ ap (λ xs. xs ++ filter (is_below slot) upper) (filter_all (is_below slot) lower below)
    ∙ ap (λ xs. lower ++ xs) (filter_none (is_below slot) (is_above slot) (not_below slot) upper above)
    ∙ append-nil lower in
    let high : filter (is_above slot) (lower ++ upper) ≡ upper =
    filter-append (is_above slot) lower upper
    ∙ ap (λ xs. xs ++ filter (is_above slot) upper) (filter_none (is_above slot) (is_below slot) (not_above slot) lower below)
    ∙ filter_all (is_above slot) upper above in
    ap (λ xs. xs ++ row ∷ filter (is_above slot) (lower ++ upper)) low ∙ ap (λ xs. lower ++ row ∷ xs) high

other_slot : (slot : ℕ) (r : Row) → is_below slot r ≡ true → (r.entry.slot == slot) ≡ false
other_slot slot r below = let less = ltb-true r.entry.slot slot below in ne_eqb r.entry.slot slot (λ e. omega arith)

slot_other : (slot : ℕ) (r : Row) → is_above slot r ≡ true → (r.entry.slot == slot) ≡ false
slot_other slot r above = let more = ltb-true slot r.entry.slot above in ne_eqb r.entry.slot slot (λ e. omega arith)

pub free_between : (lower upper : List Row) (slot : ℕ) → list_all (is_below slot) lower ≡ true → list_all (is_above slot) upper ≡ true
    → list_any (λ r. r.entry.slot == slot) (lower ++ upper) ≡ false
free_between lower upper slot below above =
    list_any-append (λ r. r.entry.slot == slot) lower upper
    ∙ or_from _ _ (any_none (λ r. r.entry.slot == slot) (is_below slot) (other_slot slot) lower below)
    (any_none (λ r. r.entry.slot == slot) (is_above slot) (slot_other slot) upper above)

-- ---- the rows of a log with one more

abbrev has_slot : Row → Bool
has_slot r = is_slot r.entry.slot

any_between : (txn : TxId) (lower : List Row) (row : Row) (upper : List Row) → same_txn txn row.entry.txn ≡ false
    → list_any (same_txn txn) (txns_of (lower ++ upper)) ≡ false → list_any (same_txn txn) (txns_of (lower ++ row ∷ upper)) ≡ false
any_between txn [] row upper apart none = or_from (same_txn txn row.entry.txn) (list_any (same_txn txn) (txns_of upper)) apart none
any_between txn (r ∷ rest) row upper apart none =
    let parts = or_parts (same_txn txn r.entry.txn) (list_any (same_txn txn) (txns_of (rest ++ upper))) none in
    or_from (same_txn txn r.entry.txn) (list_any (same_txn txn) (txns_of (rest ++ row ∷ upper))) parts.0 (any_between txn rest row upper apart parts.1)

ascends_between : (lower : List Row) (row : Row) (upper : List Row) → list_all (is_below row.entry.slot) lower ≡ true
    → list_all (is_above row.entry.slot) upper ≡ true → ascends (slots_of (lower ++ upper)) ≡ true
    → ascends (slots_of (lower ++ row ∷ upper)) ≡ true
ascends_between [] row [] below above up = refl
ascends_between [] row (u ∷ us) below above up =
    and_from (nat_lt row.entry.slot u.entry.slot) (ascends (slots_of (u ∷ us))) (and_parts (nat_lt row.entry.slot u.entry.slot) (list_all (is_above row.entry.slot) us) above).0 up
ascends_between (r ∷ []) row upper below above up =
    and_from (nat_lt r.entry.slot row.entry.slot) (ascends (slots_of (row ∷ upper))) (and_parts (nat_lt r.entry.slot row.entry.slot) true below).0
    (ascends_between [] row upper refl above (tail_ascends r upper up))
ascends_between (r ∷ s ∷ rest) row upper below above up =
    let parts = and_parts (nat_lt r.entry.slot s.entry.slot) (ascends (slots_of (s ∷ rest ++ upper))) up in
    and_from (nat_lt r.entry.slot s.entry.slot) (ascends (slots_of (s ∷ (rest ++ row ∷ upper)))) parts.0
    (ascends_between (s ∷ rest) row upper (and_parts (nat_lt r.entry.slot row.entry.slot) (list_all (is_below row.entry.slot) (s ∷ rest)) below).1 above parts.1)

differ_between : (lower : List Row) (row : Row) (upper : List Row) → list_any (same_txn row.entry.txn) (txns_of (lower ++ upper)) ≡ false
    → txns_differ (txns_of (lower ++ upper)) ≡ true → txns_differ (txns_of (lower ++ row ∷ upper)) ≡ true
differ_between [] row upper new differ = and_from (not (list_any (same_txn row.entry.txn) (txns_of upper))) (txns_differ (txns_of upper)) (not_from_false _ new) differ
differ_between (r ∷ rest) row upper new differ =
    let apart = or_parts (same_txn row.entry.txn r.entry.txn) (list_any (same_txn row.entry.txn) (txns_of (rest ++ upper))) new in
    let parts = and_parts (not (list_any (same_txn r.entry.txn) (txns_of (rest ++ upper)))) (txns_differ (txns_of (rest ++ upper))) differ in
    and_from (not (list_any (same_txn r.entry.txn) (txns_of (rest ++ row ∷ upper)))) (txns_differ (txns_of (rest ++ row ∷ upper)))
    (not_from_false _ (any_between r.entry.txn rest row upper (same_swap r.entry.txn row.entry.txn ∙ apart.0) (not-true _ parts.0)))
    (differ_between rest row upper apart.1 parts.1)

pub rows_between : (lower : List Row) (row : Row) (upper : List Row) → Between lower row upper → AreRows (lower ++ upper) → AreRows (lower ++ row ∷ upper)
rows_between lower row upper b are = record {
  slots_ascend = ascends_between lower row upper b.below b.above are.slots_ascend;
  slots =
      let parts = and_parts (list_all has_slot lower) (list_all has_slot upper) (sym (list_all-append has_slot lower upper) ∙ are.slots) in
      list_all-append has_slot lower (row ∷ upper) ∙ and_from (list_all has_slot lower) (list_all has_slot (row ∷ upper)) parts.0
      (and_from (has_slot row) (list_all has_slot upper) b.slot parts.1);
  txns_differ = differ_between lower row upper b.new are.txns_differ;
}

-- ---- what a search finds with one row more

pub find_between : {X : Type 0} (p : X → Bool) (lower : List X) (row : X) (upper : List X) → (p row ≡ true → find p (lower ++ upper) ≡ None)
    → find p (lower ++ row ∷ upper) ≡ cond (p row) (Some row) (find p (lower ++ upper))
find_between p [] row upper alone = refl
find_between p (r ∷ rest) row upper alone = elim (cases_Bool (p r)) [
  | inl here ↦ cond-true (p r) (Some r) (find p (rest ++ row ∷ upper)) here
      ∙ sym (cond_both (p row) (Some row) (cond (p r) (Some r) (find p (rest ++ upper))) (λ o. o ≡ Some r)
      (λ too. let none = alone too in let some = cond-true (p r) (Some r) (find p (rest ++ upper)) here in absurd cc)
      (λ _. cond-true (p r) (Some r) (find p (rest ++ upper)) here))
  | inr past ↦ rw past (find_between p rest row upper (λ too. sym (cond-false (p r) (Some r) (find p (rest ++ upper)) past) ∙ alone too))
]
