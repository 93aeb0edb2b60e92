-- What becomes of rows stays fit for a log: rows appended, put, marked, and gathered from pieces.
use Rattle.std.proofs.Common.{◌≡◌, ℕ, ◌+◌, ◌<◌, ◌≤◌, Bool, true, false, cond, not, List, [], ◌∷◌, ◌++◌, filter, None, is_some, ◌&&◌, ◌||◌, inl, inr, sym, ◌∙◌, ap, subst, arith, ltb-true, leb-false, le-leb, nat_le, nat_lt}
use Rattle.std.proofs.lemmas.List.{map-append}
use Rattle.tcs_terms.specs.declared.limits.TheConstants.{MAX_SLOT}
use Rattle.tcs_terms.specs.declared.logs.Row.{Row}
use Rattle.tcs_terms.specs.Logs.{AreRows}
use Rattle.tcs_terms.specs.Preparations.{Preparation}
use Rattle.tcs_terms.proofs.BoolLaws.{both, neither_right}
use Rattle.protocol.specs.Log.{row_of, row_at, last_slot, is_full, undecided, has_at, is_taken, accepted, put_entry}
use Rattle.protocol.specs.Invariant.Logs.{entries_of}
use Rattle.protocol.specs.Invariant.Time.{StandsIn}
use Rattle.protocol_laws.proofs.PromisesOrder.{slot_fits, InOrder, rows-in_order, in_order-rows, in_order-join, in_order-filter, in_order-apart}
use Rattle.protocol_laws.proofs.Standing.{is-none}
use Rattle.protocol_laws.proofs.LogRows.{filtered-StandsIn, entry-none, entry-upto_last, filtered-row}

one-in_order : (x : Preparation) → slot_fits x ≡ true → InOrder (x ∷ [])
one-in_order x f = (record { fits = f; lower = λ y s. absurd s; apart = λ y s e. absurd s }, tt)

not-full : (n : ℕ) (last : ℕ) → nat_le MAX_SLOT last ≡ false → n ≡ last + 1 → nat_le 1 n && nat_le n MAX_SLOT ≡ true
not-full n last h e = both (nat_le 1 n) (nat_le n MAX_SLOT) (le-leb 1 n (omega (arith, e))) (le-leb n MAX_SLOT (let l : last < MAX_SLOT = leb-false MAX_SLOT last h in omega (arith, e, l)))

-- rows with a new entry at the end
pub appended-rows : (rows : List Row) (x : Preparation) → AreRows rows → row_of rows x.txn ≡ None → is_full rows ≡ false → x.slot ≡ last_slot rows + 1 → AreRows (rows ++ undecided x ∷ [])
appended-rows rows x a n f e =
    let o : InOrder (entries_of rows) = rows-in_order rows a in
    let joined : InOrder (entries_of rows ++ x ∷ []) = in_order-join (entries_of rows) (x ∷ []) o (one-in_order x (not-full x.slot (last_slot rows) f e)) go in
    in_order-rows (rows ++ undecided x ∷ []) (subst InOrder (sym (map-append (λ r. r.entry) rows (undecided x ∷ []))) joined)
  where
    go : (y z : Preparation) → StandsIn y (entries_of rows) → StandsIn z (x ∷ []) → (y.slot < z.slot) × (y.txn ≡ z.txn → ⊥)
    go y z s (inl q) =
        let l : y.slot ≤ last_slot rows = entry-upto_last rows a y s in
        let k : z.slot ≡ x.slot = ap (λ m. m.slot) q in
        (omega (arith, l, k, e), λ p. entry-none rows x.txn n y s (p ∙ ap (λ m. m.txn) q))
    go y z s (inr q) = absurd q

-- what is below a slot, and above it
below : (slot : ℕ) (rows : List Row) (y : Preparation) → StandsIn y (entries_of (filter (λ r. nat_lt r.entry.slot slot) rows)) → y.slot < slot
below slot rows y s =
    let r : (r : Row) × StandsIn r rows × (nat_lt r.entry.slot slot ≡ true) × (y ≡ r.entry) = filtered-row (λ r. nat_lt r.entry.slot slot) rows y s in
    subst (λ (z : Preparation). z.slot < slot) (sym r.3) (ltb-true r.0.entry.slot slot r.2)

above : (slot : ℕ) (rows : List Row) (y : Preparation) → StandsIn y (entries_of (filter (λ r. nat_lt slot r.entry.slot) rows)) → slot < y.slot
above slot rows y s =
    let r : (r : Row) × StandsIn r rows × (nat_lt slot r.entry.slot ≡ true) × (y ≡ r.entry) = filtered-row (λ r. nat_lt slot r.entry.slot) rows y s in
    subst (λ (z : Preparation). slot < z.slot) (sym r.3) (ltb-true slot r.0.entry.slot r.2)

-- an entry put in its place
put-rows : (rows : List Row) (x : Preparation) → AreRows rows → row_of rows x.txn ≡ None → slot_fits x ≡ true → AreRows (put_entry rows x)
put-rows rows x a n f =
    let low : Row → Bool = λ r. nat_lt r.entry.slot x.slot in
    let high : Row → Bool = λ r. nat_lt x.slot r.entry.slot in
    let o : InOrder (entries_of rows) = rows-in_order rows a in
    let upper : InOrder (x ∷ entries_of (filter high rows)) = (
      record {
        fits = f;
        lower = λ y s. above x.slot rows y s;
        apart = λ y s e. entry-none rows x.txn n y (filtered-StandsIn high rows y s) (sym e);
      },
      in_order-filter high rows o,
    ) in
    let all : InOrder (entries_of (filter low rows) ++ x ∷ entries_of (filter high rows)) = in_order-join (entries_of (filter low rows)) (x ∷ entries_of (filter high rows)) (in_order-filter low rows o) upper (go o) in
    in_order-rows (put_entry rows x) (subst InOrder (sym (map-append (λ r. r.entry) (filter low rows) (undecided x ∷ filter high rows))) all)
  where
    go : InOrder (entries_of rows) → (y z : Preparation) → StandsIn y (entries_of (filter (λ r. nat_lt r.entry.slot x.slot) rows)) → StandsIn z (x ∷ entries_of (filter (λ r. nat_lt x.slot r.entry.slot) rows)) → (y.slot < z.slot) × (y.txn ≡ z.txn → ⊥)
    go o y z s (inl e) =
        let l : y.slot < x.slot = below x.slot rows y s in
        let k : z.slot ≡ x.slot = ap (λ m. m.slot) e in
        (omega (arith, l, k), λ p. entry-none rows x.txn n y (filtered-StandsIn (λ r. nat_lt r.entry.slot x.slot) rows y s) (p ∙ ap (λ m. m.txn) e))
    go o y z s (inr r) =
        let l : y.slot < x.slot = below x.slot rows y s in
        let k : x.slot < z.slot = above x.slot rows z r in
        let m : y.slot < z.slot = omega (arith, l, k) in
        (m, in_order-apart (entries_of rows) y z o (filtered-StandsIn (λ r. nat_lt r.entry.slot x.slot) rows y s) (filtered-StandsIn (λ r. nat_lt x.slot r.entry.slot) rows z r) m)

-- what a follower's rows come to
pub accepted-rows : (rows : List Row) (x : Preparation) → AreRows rows → is_taken rows x ≡ false → slot_fits x ≡ true → AreRows (accepted rows x)
accepted-rows rows x a t f = go (has_at rows x.slot x.txn) t
  where
    go : (b : Bool) → (not b && (is_some (row_at rows x.slot) || is_some (row_of rows x.txn))) ≡ false → AreRows (cond b rows (put_entry rows x))
    go true h = a
    go false h = put-rows rows x a (is-none (row_of rows x.txn) (neither_right (is_some (row_at rows x.slot)) (is_some (row_of rows x.txn)) h)) f

-- rows of the same entries
pub same_entries-rows : (xs ys : List Row) → entries_of xs ≡ entries_of ys → AreRows xs → AreRows ys
same_entries-rows xs ys e a = in_order-rows ys (subst InOrder e (rows-in_order xs a))
