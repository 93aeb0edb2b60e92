-- No entry goes from a log when rows are marked, or when a follower takes one more.
use Rattle.std.proofs.Common.{◌≡◌, ℕ, ◌<◌, Bool, true, false, cond, not, ◌&&◌, ◌||◌, ◌==◌, List, [], ◌∷◌, filter, Option, Some, None, inl, inr, ◌⊎◌, sym, ap, subst, refl, nat_lt, is_some, eq-eqb, lt-ltb, ltb-false}
use Rattle.std.proofs.Math.Nat.{eq-or-lt_of_le}
use Rattle.tcs_terms.specs.declared.logs.Mark.{Mark}
use Rattle.tcs_terms.specs.declared.logs.Row.{Row}
use Rattle.tcs_terms.specs.Preparations.{Preparation}
use Rattle.protocol.specs.Invariant.Logs.{entries_of}
use Rattle.protocol.specs.Invariant.Time.{StandsIn}
use Rattle.protocol.specs.Log.{row_at, row_of, undecided, put_entry, has_at, is_taken, accepted, set_mark, marked}
use Rattle.protocol_laws.proofs.Standing.{IsMapped, map-StandsIn, StandsIn-map, StandsIn-left, StandsIn-right, StandsIn-filter, find-none}

-- marks leave the entries as they are
pub entries_of-marked : (rows : List Row) (slot : ℕ) (mark : Mark) → entries_of (marked rows slot mark) ≡ entries_of rows
entries_of-marked [] slot mark = refl
entries_of-marked (r ∷ rs) slot mark = go (r.entry.slot == slot) (entries_of-marked rs slot mark)
  where
    go : (b : Bool) → entries_of (marked rs slot mark) ≡ entries_of rs → (cond b (set_mark mark r) r).entry ∷ entries_of (marked rs slot mark) ≡ r.entry ∷ entries_of rs
    go true e = ap (λ es. r.entry ∷ es) e
    go false e = ap (λ es. r.entry ∷ es) e

-- the slot of an entry that can be put, and isn't there, is free
free_slot : (rows : List Row) (entry : Preparation) → has_at rows entry.slot entry.txn ≡ false → is_taken rows entry ≡ false → row_at rows entry.slot ≡ None
free_slot rows entry h t = go (row_at rows entry.slot) (is_some (row_of rows entry.txn)) (subst (λ b. (not b && (is_some (row_at rows entry.slot) || is_some (row_of rows entry.txn))) ≡ false) h t)
  where
    go : (o : Option Row) (b : Bool) → (is_some o || b) ≡ false → o ≡ None
    go None b e = refl
    go (Some r) b e = absurd (cc e)

-- a row of another slot stays where an entry is put
other_stays : (rows : List Row) (entry : Preparation) (r : Row) → StandsIn r rows → (r.entry.slot ≡ entry.slot → ⊥) → StandsIn r (put_entry rows entry)
other_stays rows entry r s n = go (nat_lt r.entry.slot entry.slot) refl
  where
    go : (b : Bool) → nat_lt r.entry.slot entry.slot ≡ b → StandsIn r (put_entry rows entry)
    go true e = StandsIn-left (filter (λ x. nat_lt x.entry.slot entry.slot) rows) (undecided entry ∷ filter (λ x. nat_lt entry.slot x.entry.slot) rows) r
        (StandsIn-filter (λ x. nat_lt x.entry.slot entry.slot) rows r s e)
    go false e = StandsIn-right (filter (λ x. nat_lt x.entry.slot entry.slot) rows) (undecided entry ∷ filter (λ x. nat_lt entry.slot x.entry.slot) rows) r
        (inr (StandsIn-filter (λ x. nat_lt entry.slot x.entry.slot) rows r s (lt-ltb entry.slot r.entry.slot (above (eq-or-lt_of_le (ltb-false r.entry.slot entry.slot e))))))
      where
        above : (entry.slot ≡ r.entry.slot) ⊎ (entry.slot < r.entry.slot) → entry.slot < r.entry.slot
        above (inl q) = absurd (n (sym q))
        above (inr l) = l

-- an entry that is taken leaves the others where they are
pub accepted-keeps : (rows : List Row) (entry x : Preparation) → is_taken rows entry ≡ false → StandsIn x (entries_of rows) → StandsIn x (entries_of (accepted rows entry))
accepted-keeps rows entry x t s = go (has_at rows entry.slot entry.txn) refl
  where
    go : (b : Bool) → has_at rows entry.slot entry.txn ≡ b → StandsIn x (entries_of (cond b rows (put_entry rows entry)))
    go true e = s
    go false e =
        let m : IsMapped (λ r. r.entry) rows x = map-StandsIn (λ r. r.entry) rows x s in
        let none : (m.from.entry.slot == entry.slot) ≡ false = find-none (λ r. r.entry.slot == entry.slot) rows m.from (free_slot rows entry e t) m.there in
        subst (λ y. StandsIn y (entries_of (put_entry rows entry))) (sym m.is)
        (StandsIn-map (λ r. r.entry) (put_entry rows entry) m.from (other_stays rows entry m.from m.there (λ k. absurd (cc (none, eq-eqb m.from.entry.slot entry.slot k)))))
