-- The total of an order is within that of rows among which each of its transactions has one.
use Rattle.std.proofs.Common.{◌≡◌, ◌⊎◌, ℕ, ◌+◌, ◌≤◌, Bool, true, false, not, List, [], ◌∷◌, filter, refl, sym, ap, ◌∙◌, subst, inl, inr, arith}
use Rattle.std.specs.Prelude.{Option, Some, None}
use Rattle.std.specs.List.{cons_option}
use Rattle.std.proofs.lemmas.Bool.{cases_Bool, cond-true, cond-false}
use Rattle.tcs_terms.specs.declared.ids.TxId.{TxId}
use Rattle.tcs_terms.specs.declared.inputs.Note.{Note}
use Rattle.tcs_terms.specs.declared.logs.Row.{Row}
use Rattle.tcs_terms.specs.Logs.{same_txn}
use Rattle.tcs_terms.specs.Payloads.{Accesses}
use Rattle.protocol.specs.History.{first_of_each, payload_in}
use Rattle.protocol.specs.Invariant.Logs.{entries_of}
use Rattle.protocol.specs.Invariant.Time.{StandsIn}
use Rattle.protocol_laws.proofs.PromisesOrder.{InOrder}
use Rattle.protocol_laws.proofs.SameTxn.{same_txn-eq, same_txn-self}
use Rattle.protocol_laws.proofs.Standing.{StandsIn-map, filter-StandsIn}
use Rattle.counters.specs.Amounts.{amount, committed_in, total_of}
use Rattle.counters.proofs.CommittedRows.{payload_at}
use Rattle.counter_laws.proofs.SumsWithin.{total_first, total_more, total_txns, taken_out, without, worth}

-- ---- transactions that are apart

abbrev pub Apart : List TxId → Type 0
Apart [] = Unit {0}
Apart (t ∷ ts) = ((u : TxId) → StandsIn u ts → t ≡ u → ⊥) × Apart ts

filter_apart : (p : TxId → Bool) (ts : List TxId) → Apart ts → Apart (filter p ts)
filter_apart p [] apart = tt
filter_apart p (t ∷ ts) apart = elim (cases_Bool (p t)) [
  | inl kept ↦ subst Apart (sym (cond-true (p t) (t ∷ filter p ts) (filter p ts) kept)) (λ u s e. apart.0 u (filter-StandsIn p ts u s).0 e, filter_apart p ts apart.1)
  | inr left ↦ subst Apart (sym (cond-false (p t) (t ∷ filter p ts) (filter p ts) left)) (filter_apart p ts apart.1)
]

pub firsts_apart : (ts : List TxId) → Apart (first_of_each ts)
firsts_apart [] = tt
firsts_apart (t ∷ ts) = (other, filter_apart (λ u. not (same_txn t u)) (first_of_each ts) (firsts_apart ts)) where
  other : (u : TxId) → StandsIn u (filter (λ u. not (same_txn t u)) (first_of_each ts)) → t ≡ u → ⊥
  other u s e =
      let kept : not (same_txn t u) ≡ true = (filter-StandsIn (λ u. not (same_txn t u)) (first_of_each ts) u s).1 in
      let same : same_txn t u ≡ true = subst (λ x. same_txn t x ≡ true) e (same_txn-self t) in
      absurd (let no : not true ≡ true = ap not (sym same) ∙ kept in cc)

was_there : (name : List ℕ) (h : List Note) (t u : TxId) (ts : List TxId) → StandsIn u (without name h t ts) → StandsIn u ts
was_there name h t u [] s = absurd s
was_there name h t u (v ∷ vs) s = elim (cases_Bool (same_txn t v)) [
  | inl same ↦ inr (subst (λ (xs : List TxId). StandsIn u xs) (cond-true (same_txn t v) vs (v ∷ without name h t vs) same) s)
  | inr other ↦ go (λ k. was_there name h t u vs k) (subst (λ (xs : List TxId). StandsIn u xs) (cond-false (same_txn t v) vs (v ∷ without name h t vs) other) s)
]
  where
    go : (StandsIn u (without name h t vs) → StandsIn u vs) → StandsIn u (v ∷ without name h t vs) → StandsIn u (v ∷ vs)
    go again (inl e) = inl e
    go again (inr k) = inr (again k)

is_out : (name : List ℕ) (h : List Note) (t u : TxId) (ts : List TxId) → Apart ts → StandsIn u (without name h t ts) → t ≡ u → ⊥
is_out name h t u [] apart s e = absurd s
is_out name h t u (v ∷ vs) apart s e = elim (cases_Bool (same_txn t v)) [
  | inl same ↦ apart.0 u (subst (λ (xs : List TxId). StandsIn u xs) (cond-true (same_txn t v) vs (v ∷ without name h t vs) same) s) (sym (same_txn-eq t v same) ∙ e)
  | inr other ↦ go other (λ k. is_out name h t u vs apart.1 k e) (subst (λ (xs : List TxId). StandsIn u xs) (cond-false (same_txn t v) vs (v ∷ without name h t vs) other) s)
]
  where
    go : same_txn t v ≡ false → (StandsIn u (without name h t vs) → ⊥) → StandsIn u (v ∷ without name h t vs) → ⊥
    go other again (inl k) = absurd (let no : same_txn t v ≡ true = subst (λ x. same_txn t x ≡ true) (e ∙ k) (same_txn-self t) in cc (other, no))
    go other again (inr k) = again k

still_apart : (name : List ℕ) (h : List Note) (t : TxId) (ts : List TxId) → Apart ts → Apart (without name h t ts)
still_apart name h t [] apart = tt
still_apart name h t (v ∷ vs) apart = elim (cases_Bool (same_txn t v)) [
  | inl same ↦ subst Apart (sym (cond-true (same_txn t v) vs (v ∷ without name h t vs) same)) apart.1
  | inr other ↦ subst Apart (sym (cond-false (same_txn t v) vs (v ∷ without name h t vs) other)) (λ u s e. apart.0 u (was_there name h t u vs s) e, still_apart name h t vs apart.1)
]

-- ---- their rows

-- a row of a transaction whose payload adds as much as the transaction's
pub record HasRow (name : List ℕ) (h : List Note) (rows : List Row) (t : TxId) : Type 0 where
  pub row : Row
  pub payload : Accesses
  pub there : StandsIn row rows
  pub has : payload_at row ≡ Some payload
  pub of_txn : row.entry.txn ≡ t
  pub adds : worth name (payload_in h t) ≤ amount payload name

abbrev pub Has : List ℕ → List Note → List Row → TxId → Type 0
Has name h rows t = (worth name (payload_in h t) ≡ 0) ⊎ HasRow name h rows t

no_row : (name : List ℕ) (h : List Note) (t : TxId) → Has name h [] t → worth name (payload_in h t) ≡ 0
no_row name h t (inl none) = none
no_row name h t (inr r) = absurd r.there

none_worth : (name : List ℕ) (h : List Note) (ts : List TxId) → ((t : TxId) → StandsIn t ts → worth name (payload_in h t) ≡ 0) → total_txns name h ts ≤ 0
none_worth name h [] none = omega arith
none_worth name h (t ∷ ts) none =
    let rest = none_worth name h ts (λ u s. none u (inr s)) in
    let one = none t (inl refl) in
    let more = total_more name h t ts in
    omega arith

-- it is one of the later rows
later : (name : List ℕ) (h : List Note) (r : Row) (rs : List Row) (t : TxId) → (r.entry.txn ≡ t → ⊥) → Has name h (r ∷ rs) t → Has name h rs t
later name h r rs t apart (inl none) = inl none
later name h r rs t apart (inr x) = go x.there where
  go : (x.row ≡ r) ⊎ StandsIn x.row rs → Has name h rs t
  go (inl e) = absurd (apart (ap (λ (y : Row). y.entry.txn) (sym e) ∙ x.of_txn))
  go (inr s) = inr (record { row = x.row; payload = x.payload; there = s; has = x.has; of_txn = x.of_txn; adds = x.adds })

-- a row without a committed payload is none of them
past_none : (name : List ℕ) (h : List Note) (r : Row) (rs : List Row) (t : TxId) → payload_at r ≡ None → Has name h (r ∷ rs) t → Has name h rs t
past_none name h r rs t none (inl zero) = inl zero
past_none name h r rs t none (inr x) = go x.there where
  go : (x.row ≡ r) ⊎ StandsIn x.row rs → Has name h rs t
  go (inl e) = absurd (let no : None ≡ Some x.payload = sym none ∙ ap payload_at (sym e) ∙ x.has in cc)
  go (inr s) = inr (record { row = x.row; payload = x.payload; there = s; has = x.has; of_txn = x.of_txn; adds = x.adds })

-- the same of these rows, whatever the transactions
abbrev AllCovered : List ℕ → List Note → List Row → Type 0
AllCovered name h rows = (us : List TxId) → Apart us → ((u : TxId) → StandsIn u us → Has name h rows u) → total_txns name h us ≤ total_of (committed_in rows) name

pub covered : (name : List ℕ) (h : List Note) (rows : List Row) (ts : List TxId) → InOrder (entries_of rows) → Apart ts → ((t : TxId) → StandsIn t ts → Has name h rows t)
    → total_txns name h ts ≤ total_of (committed_in rows) name
covered name h [] ts order apart has = none_worth name h ts (λ t s. no_row name h t (has t s))
covered name h (r ∷ rs) ts order apart has = go (λ us a k. covered name h rs us order.1 a k) (payload_at r) refl where
  one : (q : Accesses) → payload_at r ≡ Some q → Has name h (r ∷ rs) r.entry.txn → worth name (payload_in h r.entry.txn) ≤ amount q name
  one q is (inl none) = omega (arith, none)
  one q is (inr x) = row x.there where
    row : (x.row ≡ r) ⊎ StandsIn x.row rs → worth name (payload_in h r.entry.txn) ≤ amount q name
    row (inl e) =
        let same : ◌≡◌ {A = Option Accesses} (Some x.payload) (Some q) = sym x.has ∙ ap payload_at e ∙ is in
        let k : x.payload ≡ q = cc in
        subst (λ (p : Accesses). worth name (payload_in h r.entry.txn) ≤ amount p name) k x.adds
    row (inr s) = absurd (order.0.apart x.row.entry (StandsIn-map (λ (y : Row). y.entry) rs x.row s) (sym x.of_txn))

  rest : AllCovered name h rs → total_txns name h (without name h r.entry.txn ts) ≤ total_of (committed_in rs) name
  rest again = again (without name h r.entry.txn ts) (still_apart name h r.entry.txn ts apart)
      (λ u s. later name h r rs u (is_out name h r.entry.txn u ts apart s) (has u (was_there name h r.entry.txn u ts s)))

  among : AllCovered name h rs → (q : Accesses) → payload_at r ≡ Some q → (StandsIn r.entry.txn ts) ⊎ (StandsIn r.entry.txn ts → ⊥) → total_txns name h ts ≤ amount q name + total_of (committed_in rs) name
  among again q is (inl there) =
      let out = taken_out name h r.entry.txn ts there in
      let less = one q is (has r.entry.txn there) in
      let more = rest again in
      omega arith
  among again q is (inr away) =
      let less = again ts apart (λ u s. later name h r rs u (λ e. away (subst (λ x. StandsIn x ts) (sym e) s)) (has u s)) in
      omega arith

  there_or_not : (us : List TxId) → (StandsIn r.entry.txn us) ⊎ (StandsIn r.entry.txn us → ⊥)
  there_or_not [] = inr (λ s. s)
  there_or_not (u ∷ us) = elim (cases_Bool (same_txn r.entry.txn u)) [
    | inl same ↦ inl (inl (same_txn-eq r.entry.txn u same))
    | inr other ↦ behind other (there_or_not us)
  ]
    where
      behind : same_txn r.entry.txn u ≡ false → (StandsIn r.entry.txn us) ⊎ (StandsIn r.entry.txn us → ⊥) → (StandsIn r.entry.txn (u ∷ us)) ⊎ (StandsIn r.entry.txn (u ∷ us) → ⊥)
      behind other (inl s) = inl (inr s)
      behind other (inr away) = inr not_there where
        not_there : StandsIn r.entry.txn (u ∷ us) → ⊥
        not_there (inl e) = absurd (let no : same_txn r.entry.txn u ≡ true = subst (λ x. same_txn r.entry.txn x ≡ true) e (same_txn-self r.entry.txn) in cc (other, no))
        not_there (inr s) = away s

  go : AllCovered name h rs → (o : Option Accesses) → payload_at r ≡ o → total_txns name h ts ≤ total_of (committed_in (r ∷ rs)) name
  go again None is =
      subst (λ (ps : List Accesses). total_txns name h ts ≤ total_of ps name) (sym (ap (λ o. cons_option o (committed_in rs)) is))
      (again ts apart (λ u s. past_none name h r rs u is (has u s)))
  go again (Some q) is =
      let all = among again q is (there_or_not ts) in
      let first = total_first name q (committed_in rs) in
      subst (λ (ps : List Accesses). total_txns name h ts ≤ total_of ps name) (sym (ap (λ o. cons_option o (committed_in rs)) is)) (omega arith)
