-- The total of some rows is within that of an order in which each of their transactions stands.
use Rattle.std.proofs.Common.{◌≡◌, ℕ, ◌+◌, ◌≤◌, true, false, cond, List, [], ◌∷◌, refl, sym, ap, ◌∙◌, subst, inl, inr, arith}
use Rattle.std.specs.Prelude.{Option, Some, None, fold}
use Rattle.std.specs.List.{cons_option}
use Rattle.std.specs.Option.{option_map, unwrap_or}
use Rattle.std.proofs.lemmas.Bool.{cases_Bool, cond-true, cond-false}
use Rattle.tcs_terms.specs.declared.ids.TxId.{TxId}
use Rattle.tcs_terms.specs.declared.inputs.Note.{Note}
use Rattle.tcs_terms.specs.declared.logs.Row.{Row}
use Rattle.tcs_terms.specs.Logs.{same_txn}
use Rattle.tcs_terms.specs.Payloads.{Accesses}
use Rattle.protocol.specs.History.{payload_in, payloads_of}
use Rattle.protocol.specs.Invariant.Logs.{entries_of}
use Rattle.protocol.specs.Invariant.Time.{StandsIn}
use Rattle.protocol_laws.proofs.PromisesOrder.{InOrder}
use Rattle.protocol_laws.proofs.SameTxn.{same_txn-eq, same_txn-self}
use Rattle.protocol_laws.proofs.Standing.{StandsIn-map}
use Rattle.counters.specs.Amounts.{added_by, amount, committed_in, plus, total_of}
use Rattle.counters.proofs.Adding.{plus_worth}
use Rattle.counters.proofs.CommittedRows.{payload_at}

module _ (name : List ℕ) where
  -- the total of payloads, from the first one on
  pub total_first : (p : Accesses) (ps : List Accesses) → total_of (p ∷ ps) name ≡ amount p name + total_of ps name
  total_first p ps = let one = go (added_by p.writes name) ps in one
    where
      step : Option ℕ → Accesses → Option ℕ
      step sum x = plus sum (added_by x.writes name)

      go : (sum : Option ℕ) (xs : List Accesses) → unwrap_or (fold step sum xs) 0 ≡ unwrap_or sum 0 + unwrap_or (fold step None xs) 0
      go sum [] = omega arith
      go sum (x ∷ xs) =
          let all = go (plus sum (added_by x.writes name)) xs in
          let rest = go (added_by x.writes name) xs in
          let here = plus_worth sum (added_by x.writes name) in
          omega arith

  -- what a payload adds, if there is one
  abbrev pub worth : Option Accesses → ℕ
  worth o = unwrap_or (option_map (λ p. amount p name) o) 0

  total_option : (o : Option Accesses) (ps : List Accesses) → total_of (cons_option o ps) name ≡ worth o + total_of ps name
  total_option None ps =
      let none : worth None ≡ 0 = refl in
      let same : total_of (cons_option None ps) name ≡ total_of ps name = refl in
      omega arith
  total_option (Some p) ps = total_first p ps

  module _ (h : List Note) where
    -- the total of the payloads of transactions
    abbrev pub total_txns : List TxId → ℕ
    total_txns ts = total_of (payloads_of h ts) name

    pub total_more : (t : TxId) (ts : List TxId) → total_txns (t ∷ ts) ≡ worth (payload_in h t) + total_txns ts
    total_more t ts = total_option (payload_in h t) (payloads_of h ts)

    -- a transaction is taken out
    abbrev pub without : TxId → List TxId → List TxId
    without t [] = []
    without t (u ∷ us) = cond (same_txn t u) us (u ∷ without t us)

    pub taken_out : (t : TxId) (ts : List TxId) → StandsIn t ts → total_txns ts ≡ worth (payload_in h t) + total_txns (without t ts)
    taken_out t [] there = absurd there
    taken_out t (u ∷ us) there = elim (cases_Bool (same_txn t u)) [
      | inl same ↦ total_more u us
          ∙ ap (λ x. worth (payload_in h x) + total_txns us) (sym (same_txn-eq t u same))
          ∙ ap (λ ts. worth (payload_in h t) + total_txns ts) (sym (cond-true (same_txn t u) us (u ∷ without t us) same))
      | inr apart ↦ total_more u us ∙ behind apart (taken_out t us (later apart there))
          ∙ ap (λ ts. worth (payload_in h t) + total_txns ts) (sym (cond-false (same_txn t u) us (u ∷ without t us) apart))
    ]
      where
        later : same_txn t u ≡ false → StandsIn t (u ∷ us) → StandsIn t us
        later apart (inl e) = absurd (let no : same_txn t u ≡ true = subst (λ x. same_txn t x ≡ true) e (same_txn-self t) in cc (apart, no))
        later apart (inr s) = s

        behind : same_txn t u ≡ false → total_txns us ≡ worth (payload_in h t) + total_txns (without t us)
            → worth (payload_in h u) + total_txns us ≡ worth (payload_in h t) + total_txns (u ∷ without t us)
        behind apart rest = let more = total_more u (without t us) in omega arith

    still_there : (t u : TxId) (ts : List TxId) → (t ≡ u → ⊥) → StandsIn u ts → StandsIn u (without t ts)
    still_there t u [] apart there = absurd there
    still_there t u (v ∷ vs) apart there = elim (cases_Bool (same_txn t v)) [
      | inl same ↦ subst (λ xs. StandsIn u xs) (sym (cond-true (same_txn t v) vs (v ∷ without t vs) same)) (past same there)
      | inr other ↦ subst (λ xs. StandsIn u xs) (sym (cond-false (same_txn t v) vs (v ∷ without t vs) other)) (kept there (λ s. still_there t u vs apart s))
    ]
      where
        past : same_txn t v ≡ true → StandsIn u (v ∷ vs) → StandsIn u vs
        past same (inl e) = absurd (apart (same_txn-eq t v same ∙ sym e))
        past same (inr s) = s

        kept : StandsIn u (v ∷ vs) → (StandsIn u vs → StandsIn u (without t vs)) → StandsIn u (v ∷ without t vs)
        kept (inl e) again = inl e
        kept (inr s) again = inr (again s)

    -- a committed row: its transaction stands among these, and its payload adds no more than the transaction's
    pub record IsWithin (r : Row) (q : Accesses) (ts : List TxId) : Type 0 where
      pub there : StandsIn r.entry.txn ts
      pub less : amount q name ≤ worth (payload_in h r.entry.txn)

    pub rows_within : (rows : List Row) (ts : List TxId) → InOrder (entries_of rows)
        → ((r : Row) (q : Accesses) → StandsIn r rows → payload_at r ≡ Some q → IsWithin r q ts)
        → total_of (committed_in rows) name ≤ total_txns ts
    rows_within [] ts order within = omega arith
    rows_within (r ∷ rs) ts order within = go (payload_at r) refl (λ us w. rows_within rs us order.1 w)
      where
        go : (o : Option Accesses) → payload_at r ≡ o
            → ((us : List TxId) → ((x : Row) (q : Accesses) → StandsIn x rs → payload_at x ≡ Some q → IsWithin x q us) → total_of (committed_in rs) name ≤ total_txns us)
            → total_of (committed_in (r ∷ rs)) name ≤ total_txns ts
        go None is again =
            let rest = again ts (λ x q s e. within x q (inr s) e) in
            subst (λ ps. total_of ps name ≤ total_txns ts) (sym (ap (λ o. cons_option o (committed_in rs)) is)) rest
        go (Some q) is again =
            let here = within r q (inl refl) is in
            let rest = again (without r.entry.txn ts) (λ x p s e. kept x p s (within x p (inr s) e)) in
            let out = taken_out r.entry.txn ts here.there in
            let first = total_first q (committed_in rs) in
            let less = here.less in
            subst (λ ps. total_of ps name ≤ total_txns ts) (sym (ap (λ o. cons_option o (committed_in rs)) is)) (omega arith)
          where
            kept : (x : Row) (p : Accesses) → StandsIn x rs → IsWithin x p ts → IsWithin x p (without r.entry.txn ts)
            kept x p s w = record {
              there = still_there r.entry.txn x.entry.txn ts
                  (order.0.apart x.entry (StandsIn-map (λ (y : Row). y.entry) rs x s)) w.there;
              less = w.less;
            }
