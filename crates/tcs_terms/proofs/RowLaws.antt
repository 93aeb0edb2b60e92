-- Rows are those of a log exactly where they have no fault.
use Rattle.std.proofs.Common.{◌≡◌, ℕ, suc, ◌+◌, ◌<◌, ◌≤◌, Bool, true, false, not, ◌&&◌, ◌||◌, ltb, leb, eqb, cond, List, [], ◌∷◌, length, map, get_or, drop, drop-cons, add-one, Some, None, refl, sym, ap, ◌∙◌, arith}
use Rattle.std.specs.Prelude.{IsTrue}
use Rattle.std.specs.List.{list_any, list_all}
use Rattle.std.proofs.lemmas.Bool.{and_parts, and_from, ltb-true, lt-ltb, leb-true, le-leb, or_parts, or_from, not-true, not_from_false}
use Rattle.std.proofs.lemmas.Bool.Decides.{nat_tests}
use Rattle.tcs_terms.specs.declared.limits.TheConstants.{MAX_SLOT}
use Rattle.tcs_terms.specs.declared.ids.TxId.{TxId}
use Rattle.tcs_terms.specs.declared.logs.Row.{Row}
use Rattle.tcs_terms.specs.Order.{ascends}
use Rattle.tcs_terms.specs.Logs.{same_txn, SameTxns, txns_differ, AreRows}
use Rattle.tcs_terms.specs.RowFaults.{may_follow, rows_fault}

with_same : (r : Row) (a b : List TxId) → SameTxns a b → SameTxns (r.entry.txn ∷ a) (r.entry.txn ∷ b)
with_same r a b same t = ap (λ (x : Bool). same_txn t r.entry.txn || x) (same t)

-- it does not matter in which order the transactions before are kept
pub fault_same : (place last : ℕ) (a b : List TxId) (rows : List Row) → SameTxns a b → rows_fault place last a rows ≡ rows_fault place last b rows
fault_same place last a b [] same = refl
fault_same place last a b (r ∷ rows) same =
    let step = fault_same (place + 1) r.entry.slot (r.entry.txn ∷ a) (r.entry.txn ∷ b) rows (with_same r a b same) in
    rw (same r.entry.txn, step) refl

-- a row that may follow is passed
pub passed : (place last : ℕ) (before after : List TxId) (r : Row) (rows : List Row) → last < r.entry.slot → r.entry.slot ≤ MAX_SLOT → list_any (same_txn r.entry.txn) before ≡ false → SameTxns after (r.entry.txn ∷ before)
    → rows_fault place last before (r ∷ rows) ≡ rows_fault (place + 1) r.entry.slot after rows
passed place last before after r rows above low new same =
    rw (lt-ltb last r.entry.slot above, le-leb r.entry.slot MAX_SLOT low, new) (sym (fault_same (place + 1) r.entry.slot after (r.entry.txn ∷ before) rows same))

pub refused : (place last : ℕ) (before : List TxId) (r : Row) (rows : List Row) → may_follow last before r ≡ false → rows_fault place last before (r ∷ rows) ≡ Some place
refused place last before r rows may_not = rw may_not refl

-- the row at a place may follow
pub passed_at : (rows : List Row) (i last slot : ℕ) (before after : List TxId) (r : Row) → i < length rows → r ≡ get_or rows i r → slot ≡ r.entry.slot → last < slot → slot ≤ MAX_SLOT
    → not (list_any (same_txn r.entry.txn) before) ≡ true → SameTxns after (r.entry.txn ∷ before)
    → rows_fault i last before (drop i rows) ≡ rows_fault (i + 1) slot after (drop (i + 1) rows)
passed_at rows i last slot before after r lt is slot_is above low new same =
    rw (slot_is, add-one, drop-cons rows i r, ← is)
    (passed i last before after r (drop (suc i) rows) (omega (arith, above, slot_is)) (omega (arith, low, slot_is)) (not-true (list_any (same_txn r.entry.txn) before) new) same
    ∙ ap (λ (k : ℕ). rows_fault k r.entry.slot after (drop (suc i) rows)) (omega arith))

-- transactions that are not among these
abbrev pub are_new : List TxId → List TxId → Bool
are_new txns ts = list_all (λ t. not (list_any (same_txn t) txns)) ts

eqb_swap : (a b : ℕ) → eqb a b ≡ eqb b a
eqb_swap a b = grind (arith, nat_tests)

pub same_swap : (a b : TxId) → same_txn a b ≡ same_txn b a
same_swap a b = rw (eqb_swap a.home b.home, eqb_swap a.seq b.seq) refl

-- transactions are new beside one more exactly where they are new and it is not among them
pub new_beside : (u : TxId) (txns ts : List TxId) → IsTrue (are_new (u ∷ txns) ts) → IsTrue (not (list_any (same_txn u) ts)) × IsTrue (are_new txns ts)
new_beside u txns [] new = (refl, refl)
new_beside u txns (t ∷ ts) new =
    let n = and_parts (not (same_txn t u || list_any (same_txn t) txns)) (are_new (u ∷ txns) ts) new in
    let more = new_beside u txns ts n.1 in
    let apart = or_parts (same_txn t u) (list_any (same_txn t) txns) (not-true (same_txn t u || list_any (same_txn t) txns) n.0) in (
      not_from_false (same_txn u t || list_any (same_txn u) ts) (or_from (same_txn u t) (list_any (same_txn u) ts) (same_swap u t ∙ apart.0) (not-true (list_any (same_txn u) ts) more.0)),
      and_from (not (list_any (same_txn t) txns)) (are_new txns ts) (not_from_false (list_any (same_txn t) txns) apart.1) more.1,
    )

pub new_with : (u : TxId) (txns ts : List TxId) → IsTrue (not (list_any (same_txn u) ts)) → IsTrue (are_new txns ts) → IsTrue (are_new (u ∷ txns) ts)
new_with u txns [] apart new = refl
new_with u txns (t ∷ ts) apart new =
    let n = and_parts (not (list_any (same_txn t) txns)) (are_new txns ts) new in
    let a = or_parts (same_txn u t) (list_any (same_txn u) ts) (not-true (same_txn u t || list_any (same_txn u) ts) apart) in
    and_from (not (same_txn t u || list_any (same_txn t) txns)) (are_new (u ∷ txns) ts)
    (not_from_false (same_txn t u || list_any (same_txn t) txns) (or_from (same_txn t u) (list_any (same_txn t) txns) (same_swap t u ∙ a.0) (not-true (list_any (same_txn t) txns) n.0)))
    (new_with u txns ts (not_from_false (list_any (same_txn u) ts) a.1) n.1)

pub all_new : (ts : List TxId) → IsTrue (are_new [] ts)
all_new [] = refl
all_new (t ∷ ts) = all_new ts

abbrev slots_of : List Row → List ℕ
slots_of rows = map (λ r. r.entry.slot) rows

abbrev txns_of : List Row → List TxId
txns_of rows = map (λ r. r.entry.txn) rows

abbrev slot_fits : Row → Bool
slot_fits r = leb 1 r.entry.slot && leb r.entry.slot MAX_SLOT

-- rows that may follow a slot and transactions
record Follow (last : ℕ) (before : List TxId) (rows : List Row) : Type 0 where
  ascend : IsTrue (ascends (last ∷ slots_of rows))
  fit : IsTrue (list_all slot_fits rows)
  new : IsTrue (are_new before (txns_of rows))
  differ : IsTrue (txns_differ (txns_of rows))

follow_from : (place last : ℕ) (before : List TxId) (rows : List Row) → rows_fault place last before rows ≡ None → Follow last before rows
follow_from place last before [] none = record { ascend = refl; fit = refl; new = refl; differ = refl }
follow_from place last before (r ∷ rows) none = go (may_follow last before r) refl (follow_from (place + 1) r.entry.slot (r.entry.txn ∷ before) rows) none where
  go : (b : Bool) → may_follow last before r ≡ b → (rows_fault (place + 1) r.entry.slot (r.entry.txn ∷ before) rows ≡ None → Follow r.entry.slot (r.entry.txn ∷ before) rows)
      → cond b (rows_fault (place + 1) r.entry.slot (r.entry.txn ∷ before) rows) (Some place) ≡ None → Follow last before (r ∷ rows)
  go true may more none =
      let f = more none in
      let parts = and_parts (ltb last r.entry.slot && leb r.entry.slot MAX_SLOT) (not (list_any (same_txn r.entry.txn) before)) may in
      let numbers = and_parts (ltb last r.entry.slot) (leb r.entry.slot MAX_SLOT) parts.0 in
      let beside = new_beside r.entry.txn before (txns_of rows) f.new in
      record {
        ascend = and_from (ltb last r.entry.slot) (ascends (r.entry.slot ∷ slots_of rows)) numbers.0 f.ascend;
        fit = and_from (slot_fits r) (list_all slot_fits rows) (and_from (leb 1 r.entry.slot) (leb r.entry.slot MAX_SLOT) (le-leb 1 r.entry.slot (omega (arith, ltb-true last r.entry.slot numbers.0))) numbers.1) f.fit;
        new = and_from (not (list_any (same_txn r.entry.txn) before)) (are_new before (txns_of rows)) parts.1 beside.1;
        differ = and_from (not (list_any (same_txn r.entry.txn) (txns_of rows))) (txns_differ (txns_of rows)) beside.0 f.differ;
      }
  go false may more none = absurd cc

fault_from : (place last : ℕ) (before : List TxId) (rows : List Row) → Follow last before rows → rows_fault place last before rows ≡ None
fault_from place last before [] f = refl
fault_from place last before (r ∷ rows) f =
    let up = and_parts (ltb last r.entry.slot) (ascends (r.entry.slot ∷ slots_of rows)) f.ascend in
    let fit = and_parts (slot_fits r) (list_all slot_fits rows) f.fit in
    let new = and_parts (not (list_any (same_txn r.entry.txn) before)) (are_new before (txns_of rows)) f.new in
    let differ = and_parts (not (list_any (same_txn r.entry.txn) (txns_of rows))) (txns_differ (txns_of rows)) f.differ in
    let may : may_follow last before r ≡ true
    = and_from (ltb last r.entry.slot && leb r.entry.slot MAX_SLOT) (not (list_any (same_txn r.entry.txn) before))
    (and_from (ltb last r.entry.slot) (leb r.entry.slot MAX_SLOT) up.0 (and_parts (leb 1 r.entry.slot) (leb r.entry.slot MAX_SLOT) fit.0).1) new.0 in
    rw may (fault_from (place + 1) r.entry.slot (r.entry.txn ∷ before) rows (record { ascend = up.1; fit = fit.1; new = new_with r.entry.txn before (txns_of rows) differ.0 new.1; differ = differ.1 }))

without_zero : (xs : List ℕ) → IsTrue (ascends (0 ∷ xs)) → IsTrue (ascends xs)
without_zero [] up = refl
without_zero (x ∷ xs) up = (and_parts (ltb 0 x) (ascends (x ∷ xs)) up).1

with_zero : (rows : List Row) → IsTrue (list_all slot_fits rows) → IsTrue (ascends (slots_of rows)) → IsTrue (ascends (0 ∷ slots_of rows))
with_zero [] fit up = refl
with_zero (r ∷ rows) fit up =
    let f = and_parts (slot_fits r) (list_all slot_fits rows) fit in
    let low = and_parts (leb 1 r.entry.slot) (leb r.entry.slot MAX_SLOT) f.0 in
    and_from (ltb 0 r.entry.slot) (ascends (r.entry.slot ∷ slots_of rows)) (lt-ltb 0 r.entry.slot (omega (arith, leb-true 1 r.entry.slot low.0))) up

pub are_rows_without_fault : (rows : List Row) → rows_fault 0 0 [] rows ≡ None → AreRows rows
are_rows_without_fault rows none =
    let f = follow_from 0 0 [] rows none in
    record { slots_ascend = without_zero (slots_of rows) f.ascend; slots = f.fit; txns_differ = f.differ }

pub no_fault_of_rows : (rows : List Row) → AreRows rows → rows_fault 0 0 [] rows ≡ None
no_fault_of_rows rows are =
    fault_from 0 0 [] rows (record { ascend = with_zero rows are.slots are.slots_ascend; fit = are.slots; new = all_new (txns_of rows); differ = are.txns_differ })
