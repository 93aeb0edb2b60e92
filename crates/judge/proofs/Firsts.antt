-- The first of each transaction, with one note more.
use Rattle.std.proofs.Common.{◌≡◌, ℕ, ◌+◌, ◌<◌, ◌≤◌, Bool, true, false, not, ◌||◌, cond, List, [], ◌∷◌, ◌++◌, length, take, get_or, refl, sym, ap, ◌∙◌, subst, filter, filter_map, inl, inr, append-nil, arith}
use Rattle.std.specs.Prelude.{Option, Some, None}
use Rattle.std.specs.List.{list_any, cons_option}
use Rattle.std.proofs.lemmas.Bool.{cond_both, cond-true, cond-false, cases_Bool}
use Rattle.std.proofs.lemmas.List.Elements.{filter-append, filter_map-append}
use Rattle.tcs_terms.specs.declared.ids.TxId.{TxId}
use Rattle.tcs_terms.specs.declared.inputs.Note.{Note}
use Rattle.tcs_terms.specs.Logs.{same_txn}
use Rattle.protocol.specs.History.{first_of_each}
use Rattle.judge.specs.Watching.{put_next}
use Rattle.judge.proofs.Failing.{front_at}
use Rattle.protocol_laws.proofs.SameTxn.{same_txn-eq, same_txn-self}

-- with a transaction put last, unless it is there
abbrev pub put_last : List TxId → TxId → List TxId
put_last ts u = cond (list_any (same_txn u) ts) ts (ts ++ u ∷ [])

pub same_turned : (t u : TxId) → same_txn t u ≡ same_txn u t
same_turned t u = elim (cases_Bool (same_txn t u)) [
  | inl same ↦ same ∙ sym (subst (λ x. same_txn x t ≡ true) (same_txn-eq t u same) (same_txn-self t))
  | inr apart ↦ elim (cases_Bool (same_txn u t)) [
    | inl same ↦ absurd (let no : same_txn t u ≡ true = subst (λ x. same_txn x u ≡ true) (same_txn-eq u t same) (same_txn-self u) in cc (apart, no))
    | inr also ↦ apart ∙ sym also
  ]
]

-- a filter that keeps a transaction keeps finding it
any_filtered : (t u : TxId) → same_txn t u ≡ false → (ts : List TxId)
    → list_any (same_txn u) (filter (λ v. not (same_txn t v)) ts) ≡ list_any (same_txn u) ts
any_filtered t u apart [] = refl
any_filtered t u apart (v ∷ vs) = elim (cases_Bool (same_txn t v)) [
  | inl same ↦ (let other : same_txn u v ≡ false = subst (λ x. same_txn u x ≡ false) (same_txn-eq t v same) (same_turned u t ∙ apart) in
      rw (same, other) (any_filtered t u apart vs))
  | inr past ↦ rw past (ap (λ b. same_txn u v || b) (any_filtered t u apart vs))
]

pub first_of_each-last : (ts : List TxId) (u : TxId) → first_of_each (ts ++ u ∷ []) ≡ put_last (first_of_each ts) u
first_of_each-last [] u = refl
first_of_each-last (t ∷ ts) u =
    let keep : TxId → Bool = λ v. not (same_txn t v) in
    let step : first_of_each (t ∷ ts ++ u ∷ []) ≡ t ∷ filter keep (put_last (first_of_each ts) u) = ap (λ vs. t ∷ filter keep vs) (first_of_each-last ts u) in
    step ∙ (elim (cases_Bool (same_txn t u)) [
      | inl same ↦ (let there : same_txn u t ≡ true = same_turned u t ∙ same in
          ap (λ vs. t ∷ vs) (gone t ts u same) ∙ sym (cond-true (same_txn u t || list_any (same_txn u) (filter keep (first_of_each ts))) _ _ (ap (λ b. b || list_any (same_txn u) (filter keep (first_of_each ts))) there)))
      | inr apart ↦ (let past : same_txn u t ≡ false = same_turned u t ∙ apart in
          stays t ts u apart
          ∙ ap (λ b. cond b (t ∷ filter keep (first_of_each ts)) (t ∷ filter keep (first_of_each ts) ++ u ∷ []))
          (sym (any_filtered t u apart (first_of_each ts)) ∙ sym (ap (λ b. b || list_any (same_txn u) (filter keep (first_of_each ts))) past)))
    ])
  where
    gone : (t : TxId) (ts : List TxId) (u : TxId) → same_txn t u ≡ true
        → filter (λ v. not (same_txn t v)) (put_last (first_of_each ts) u) ≡ filter (λ v. not (same_txn t v)) (first_of_each ts)
    gone t ts u same = cond_both (list_any (same_txn u) (first_of_each ts)) (first_of_each ts) (first_of_each ts ++ u ∷ [])
        (λ vs. filter (λ v. not (same_txn t v)) vs ≡ filter (λ v. not (same_txn t v)) (first_of_each ts)) (λ _. refl)
        (λ _. filter-append (λ v. not (same_txn t v)) (first_of_each ts) (u ∷ [])
        ∙ ap (λ vs. filter (λ v. not (same_txn t v)) (first_of_each ts) ++ vs) (cond-false (not (same_txn t u)) (u ∷ []) [] (ap not same))
        ∙ append-nil (filter (λ v. not (same_txn t v)) (first_of_each ts)))

    stays : (t : TxId) (ts : List TxId) (u : TxId) → same_txn t u ≡ false
        → t ∷ filter (λ v. not (same_txn t v)) (put_last (first_of_each ts) u)
        ≡ cond (list_any (same_txn u) (first_of_each ts)) (t ∷ filter (λ v. not (same_txn t v)) (first_of_each ts)) (t ∷ filter (λ v. not (same_txn t v)) (first_of_each ts) ++ u ∷ [])
    stays t ts u apart = elim (cases_Bool (list_any (same_txn u) (first_of_each ts))) [
      | inl there ↦ rw there refl
      | inr new ↦ rw new (ap (λ vs. t ∷ vs) (filter-append (λ v. not (same_txn t v)) (first_of_each ts) (u ∷ [])
          ∙ ap (λ vs. filter (λ v. not (same_txn t v)) (first_of_each ts) ++ vs) (cond-true (not (same_txn t u)) (u ∷ []) [] (ap not apart))))
    ]

-- the first of each among what notes name, with one note more
abbrev pub firsts : (Note → Option TxId) → List Note → List TxId
firsts pick h = first_of_each (filter_map pick h)

-- one note more puts its transaction last
pub firsts_next : (pick : Note → Option TxId) (h : List Note) (i : ℕ) (n : Note) → i < length h → n ≡ get_or h i n
    → firsts pick (take (i + 1) h) ≡ put_next (firsts pick (take i h)) (pick n)
firsts_next pick h i n within is =
    ap (firsts pick) (front_at h i n within is)
    ∙ ap first_of_each (filter_map-append pick (take i h) (n ∷ []))
    ∙ go (filter_map pick (take i h)) (pick n)
  where
    go : (ts : List TxId) (o : Option TxId) → first_of_each (ts ++ cons_option o []) ≡ put_next (first_of_each ts) o
    go ts None = ap first_of_each (append-nil ts)
    go ts (Some t) = first_of_each-last ts t

-- there are no more of them than notes
few_filtered : (p : TxId → Bool) (ts : List TxId) → length (filter p ts) ≤ length ts
few_filtered p [] = omega arith
few_filtered p (t ∷ ts) = let rest = few_filtered p ts in
    cond_both (p t) (t ∷ filter p ts) (filter p ts) (λ us. length us ≤ length (t ∷ ts)) (λ _. omega arith) (λ _. omega arith)

few_firsts : (ts : List TxId) → length (first_of_each ts) ≤ length ts
few_firsts [] = omega arith
few_firsts (t ∷ ts) =
    let rest = few_firsts ts in
    let fewer = few_filtered (λ u. not (same_txn t u)) (first_of_each ts) in
    omega arith

one_more : (o : Option TxId) (ts : List TxId) → length (cons_option o ts) ≤ length ts + 1
one_more None ts = omega arith
one_more (Some t) ts = omega arith

few_picked : (pick : Note → Option TxId) (h : List Note) → length (filter_map pick h) ≤ length h
few_picked pick [] = omega arith
few_picked pick (n ∷ ns) =
    let rest = few_picked pick ns in
    let more = one_more (pick n) (filter_map pick ns) in
    omega arith

pub firsts_few : (pick : Note → Option TxId) (h : List Note) → length (firsts pick h) ≤ length h
firsts_few pick h = let first = few_firsts (filter_map pick h) in let picked = few_picked pick h in omega arith
