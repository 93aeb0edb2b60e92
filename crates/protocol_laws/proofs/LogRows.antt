-- Rows of a log: an entry is found by its slot and by its transaction, none is above the last slot, and where the entries
-- of rows that are joined, filtered or accepted come from.
use Rattle.std.proofs.Common.{◌≡◌, ℕ, ◌<◌, ◌≤◌, true, false, nat_lt, List, [], ◌∷◌, map, Some, None, inl, inr, sym, ◌∙◌, ap, subst, refl, arith, ltb-true, Bool, cond, filter, ◌++◌, ◌⊎◌}
use Rattle.std.specs.List.{last_or}
use Rattle.tcs_terms.specs.declared.ids.TxId.{TxId}
use Rattle.tcs_terms.specs.declared.logs.Row.{Row}
use Rattle.tcs_terms.specs.Logs.{same_txn, AreRows}
use Rattle.tcs_terms.specs.Order.{ascends}
use Rattle.tcs_terms.specs.Preparations.{Preparation}
use Rattle.tcs_terms.proofs.BoolLaws.{left_of, right_of}
use Rattle.protocol.specs.Invariant.Logs.{entries_of}
use Rattle.protocol.specs.Invariant.Time.{StandsIn}
use Rattle.protocol.specs.Log.{row_of, slot_or_zero, last_slot, has_at, undecided, put_entry, accepted}
use Rattle.protocol_laws.proofs.Standing.{map-StandsIn, IsMapped, find-none, StandsIn-map, filter-StandsIn}
use Rattle.protocol_laws.proofs.Ascending.{ascending-one, txns-one}
use Rattle.protocol_laws.proofs.SameTxn.{same_txn-self}
use Rattle.std.proofs.lemmas.List.{map-append}
use Rattle.protocol.proofs.Lists.{StandsIn-append}

abbrev slot_of : Row → ℕ
slot_of r = r.entry.slot

abbrev txn_of : Row → TxId
txn_of r = r.entry.txn

-- two entries of one slot are one
pub rows-slot : (rows : List Row) → AreRows rows → (x y : Preparation) → StandsIn x (entries_of rows) → StandsIn y (entries_of rows) → x.slot ≡ y.slot → x ≡ y
rows-slot rows are x y s r e =
    let a : IsMapped (λ (r : Row). r.entry) rows x = map-StandsIn (λ (r : Row). r.entry) rows x s in
    let b : IsMapped (λ (r : Row). r.entry) rows y = map-StandsIn (λ (r : Row). r.entry) rows y r in
    let same : a.from ≡ b.from = ascending-one slot_of rows a.from b.from are.slots_ascend a.there b.there (sym (ap (λ (p : Preparation). p.slot) a.is) ∙ (e ∙ ap (λ (p : Preparation). p.slot) b.is)) in
    a.is ∙ (ap (λ (r : Row). r.entry) same ∙ sym b.is)

-- two entries of one transaction are one
pub rows-txn : (rows : List Row) → AreRows rows → (x y : Preparation) → StandsIn x (entries_of rows) → StandsIn y (entries_of rows) → x.txn ≡ y.txn → x ≡ y
rows-txn rows are x y s r e =
    let a : IsMapped (λ (r : Row). r.entry) rows x = map-StandsIn (λ (r : Row). r.entry) rows x s in
    let b : IsMapped (λ (r : Row). r.entry) rows y = map-StandsIn (λ (r : Row). r.entry) rows y r in
    let same : a.from ≡ b.from = txns-one txn_of rows a.from b.from are.txns_differ a.there b.there (sym (ap (λ (p : Preparation). p.txn) a.is) ∙ (e ∙ ap (λ (p : Preparation). p.txn) b.is)) in
    a.is ∙ (ap (λ (r : Row). r.entry) same ∙ sym b.is)

last_above : (r : Row) (rs : List Row) (s : Row) → ascends (map slot_of (r ∷ rs)) ≡ true → StandsIn s (r ∷ rs) → s.entry.slot ≤ slot_or_zero (last_or (Some r) rs)
last_above r [] s up (inl e) = let k : s.entry.slot ≡ r.entry.slot = ap slot_of e in omega (arith, k)
last_above r [] s up (inr n) = absurd n
last_above r (q ∷ qs) s up (inl e) =
    let k : s.entry.slot ≡ r.entry.slot = ap slot_of e in
    let l : r.entry.slot < q.entry.slot = ltb-true r.entry.slot q.entry.slot (left_of (nat_lt r.entry.slot q.entry.slot) (ascends (map slot_of (q ∷ qs))) up) in
    let m : q.entry.slot ≤ slot_or_zero (last_or (Some q) qs) = last_above q qs q (right_of (nat_lt r.entry.slot q.entry.slot) (ascends (map slot_of (q ∷ qs))) up) (inl refl) in
    omega (arith, k, l, m)
last_above r (q ∷ qs) s up (inr n) = last_above q qs s (right_of (nat_lt r.entry.slot q.entry.slot) (ascends (map slot_of (q ∷ qs))) up) n

-- no slot is above the last one
pub row-upto_last : (rows : List Row) → AreRows rows → (r : Row) → StandsIn r rows → r.entry.slot ≤ last_slot rows
row-upto_last [] are r s = absurd s
row-upto_last (q ∷ qs) are r s = last_above q qs r are.slots_ascend s

pub entry-upto_last : (rows : List Row) → AreRows rows → (x : Preparation) → StandsIn x (entries_of rows) → x.slot ≤ last_slot rows
entry-upto_last rows are x s =
    let a : IsMapped (λ (r : Row). r.entry) rows x = map-StandsIn (λ (r : Row). r.entry) rows x s in
    subst (λ (p : Preparation). p.slot ≤ last_slot rows) (sym a.is) (row-upto_last rows are a.from a.there)

-- where no row of a transaction is found, none is there
pub row-none : (rows : List Row) (txn : TxId) → row_of rows txn ≡ None → (r : Row) → StandsIn r rows → r.entry.txn ≡ txn → ⊥
row-none rows txn h r s e =
    let k : same_txn r.entry.txn txn ≡ false = find-none (λ (r : Row). same_txn r.entry.txn txn) rows r h s in
    let m : same_txn r.entry.txn txn ≡ true = ap (λ u. same_txn r.entry.txn u) (sym e) ∙ same_txn-self r.entry.txn in
    cc (k, m)

-- where no row of a transaction is found, no entry is of it
pub entry-none : (rows : List Row) (txn : TxId) → row_of rows txn ≡ None → (x : Preparation) → StandsIn x (entries_of rows) → x.txn ≡ txn → ⊥
entry-none rows txn h x s e =
    let m : IsMapped (λ (r : Row). r.entry) rows x = map-StandsIn (λ (r : Row). r.entry) rows x s in
    row-none rows txn h m.from m.there (ap (λ (p : Preparation). p.txn) (sym m.is) ∙ e)

-- an entry of joined rows is one of the first or of the second
pub joined-entries : (xs ys : List Row) (x : Preparation) → StandsIn x (entries_of (xs ++ ys)) → StandsIn x (entries_of xs) ⊎ StandsIn x (entries_of ys)
joined-entries xs ys x s = StandsIn-append (entries_of xs) (entries_of ys) x (subst (λ es. StandsIn x es) (map-append (λ (r : Row). r.entry) xs ys) s)

-- an entry of the rows that pass a test is that of a row that passes it
pub filtered-row : (p : Row → Bool) (rows : List Row) (x : Preparation) → StandsIn x (entries_of (filter p rows)) → (r : Row) × StandsIn r rows × (p r ≡ true) × (x ≡ r.entry)
filtered-row p rows x s =
    let m : IsMapped (λ (r : Row). r.entry) (filter p rows) x = map-StandsIn (λ (r : Row). r.entry) (filter p rows) x s in
    let f : StandsIn m.from rows × (p m.from ≡ true) = filter-StandsIn p rows m.from m.there in (m.from, f.0, f.1, m.is)

pub filtered-StandsIn : (p : Row → Bool) (rows : List Row) (x : Preparation) → StandsIn x (entries_of (filter p rows)) → StandsIn x (entries_of rows)
filtered-StandsIn p rows x s =
    let r : (r : Row) × StandsIn r rows × (p r ≡ true) × (x ≡ r.entry) = filtered-row p rows x s in
    subst (λ y. StandsIn y (entries_of rows)) (sym r.3) (StandsIn-map (λ (q : Row). q.entry) rows r.0 r.1)

-- a row among those that a follower accepted an entry into
pub accepted_came : (rows : List Row) (entry : Preparation) (r : Row) → StandsIn r (accepted rows entry) → StandsIn r rows ⊎ (r ≡ undecided entry)
accepted_came rows entry r s = go (has_at rows entry.slot entry.txn) s
  where
    put : StandsIn r (put_entry rows entry) → StandsIn r rows ⊎ (r ≡ undecided entry)
    put s = elim (StandsIn-append (filter (λ q. nat_lt q.entry.slot entry.slot) rows) (undecided entry ∷ filter (λ q. nat_lt entry.slot q.entry.slot) rows) r s) [
      | inl k ↦ inl (filter-StandsIn (λ (q : Row). nat_lt q.entry.slot entry.slot) rows r k).0
      | inr (inl e) ↦ inr e
      | inr (inr k) ↦ inl (filter-StandsIn (λ (q : Row). nat_lt entry.slot q.entry.slot) rows r k).0
    ]

    go : (b : Bool) → StandsIn r (cond b rows (put_entry rows entry)) → StandsIn r rows ⊎ (r ≡ undecided entry)
    go true k = inl k
    go false k = put k

-- and so is its entry
pub accepted-StandsIn : (rows : List Row) (entry x : Preparation) → StandsIn x (entries_of (accepted rows entry)) → StandsIn x (entries_of rows) ⊎ (x ≡ entry)
accepted-StandsIn rows entry x s =
    let m : IsMapped (λ (r : Row). r.entry) (accepted rows entry) x = map-StandsIn (λ (r : Row). r.entry) (accepted rows entry) x s in
    elim (accepted_came rows entry m.from m.there) [
      | inl k ↦ inl (subst (λ y. StandsIn y (entries_of rows)) (sym m.is) (StandsIn-map (λ (r : Row). r.entry) rows m.from k))
      | inr e ↦ inr (m.is ∙ ap (λ (r : Row). r.entry) e)
    ]
