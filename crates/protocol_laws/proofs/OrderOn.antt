-- The order of a history with one more note.
use Rattle.std.proofs.Common.{◌≡◌, Bool, true, false, cond, not, ◌||◌, List, [], ◌∷◌, ◌++◌, filter, filter_map, Option, Some, None, sym, ◌∙◌, ap, subst, refl, append-nil}
use Rattle.std.specs.List.{cons_option, list_any}
use Rattle.std.proofs.lemmas.Bool.{both_ways}
use Rattle.std.proofs.lemmas.List.Elements.{filter-append, filter_map-append}
use Rattle.tcs_terms.specs.declared.ids.TxId.{TxId}
use Rattle.tcs_terms.specs.declared.inputs.Note.{Note}
use Rattle.tcs_terms.specs.Logs.{same_txn}
use Rattle.protocol.specs.History.{commit_in, first_of_each, order_of}
use Rattle.protocol_laws.specs.Growth.{with_commit}
use Rattle.protocol_laws.proofs.SameTxn.{same_txn-eq, same_txn-self, same_txn-differ}

-- a filter that keeps a transaction changes no search for it
any-filter : (p : TxId → Bool) (t : TxId) (xs : List TxId) → p t ≡ true → list_any (same_txn t) (filter p xs) ≡ list_any (same_txn t) xs
any-filter p t [] e = refl
any-filter p t (x ∷ xs) e = go (p x) refl (same_txn t x) refl (any-filter p t xs e)
  where
    go : (b : Bool) → p x ≡ b → (c : Bool) → same_txn t x ≡ c → list_any (same_txn t) (filter p xs) ≡ list_any (same_txn t) xs
        → list_any (same_txn t) (cond b (x ∷ filter p xs) (filter p xs)) ≡ (c || list_any (same_txn t) xs)
    go true f c g ih = ap (λ v. v || list_any (same_txn t) (filter p xs)) g ∙ ap (λ v. c || v) ih
    go false f false g ih = ih
    go false f true g ih = absurd (both_ways (p x) f (subst (λ z. p z ≡ true) (same_txn-eq t x g) e))

-- one more behind a first one
one_behind : (u t : TxId) (ts : List TxId)
    → u ∷ filter (λ x. not (same_txn u x)) (with_commit ts (Some t)) ≡ with_commit (u ∷ filter (λ x. not (same_txn u x)) ts) (Some t)
one_behind u t ts = go (same_txn t u) refl
  where
    p : TxId → Bool
    p x = not (same_txn u x)

    there : same_txn t u ≡ true → (c : Bool) → u ∷ filter p (cond c ts (ts ++ t ∷ [])) ≡ u ∷ filter p ts
    there e true = refl
    there e false =
        let same : same_txn u t ≡ true = subst (λ z. same_txn u z ≡ true) (sym (same_txn-eq t u e)) (same_txn-self u) in
        ap (λ v. u ∷ v) (filter-append p ts (t ∷ []) ∙ ap (λ b. filter p ts ++ cond (not b) (t ∷ []) []) same ∙ append-nil (filter p ts))

    differs : same_txn t u ≡ false → same_txn u t ≡ false
    differs e = same_txn-differ u t (λ q. both_ways (same_txn t u) e (subst (λ z. same_txn t z ≡ true) (sym q) (same_txn-self t)))

    new : same_txn u t ≡ false → (c : Bool) → u ∷ filter p (cond c ts (ts ++ t ∷ [])) ≡ cond c (u ∷ filter p ts) ((u ∷ filter p ts) ++ t ∷ [])
    new e true = refl
    new e false = ap (λ v. u ∷ v) (filter-append p ts (t ∷ []) ∙ ap (λ b. filter p ts ++ cond (not b) (t ∷ []) []) e)

    go : (b : Bool) → same_txn t u ≡ b → u ∷ filter p (cond (list_any (same_txn t) ts) ts (ts ++ t ∷ [])) ≡ cond (same_txn t u || list_any (same_txn t) (filter p ts)) (u ∷ filter p ts) ((u ∷ filter p ts) ++ t ∷ [])
    go true e =
        there e (list_any (same_txn t) ts) ∙ ap (λ b. cond (b || list_any (same_txn t) (filter p ts)) (u ∷ filter p ts) ((u ∷ filter p ts) ++ t ∷ [])) (sym e)
    go false e =
        let kept : p t ≡ true = ap (λ b. not b) (differs e) in
        new (differs e) (list_any (same_txn t) ts)
        ∙ ap (λ c. cond c (u ∷ filter p ts) ((u ∷ filter p ts) ++ t ∷ [])) (sym (any-filter p t ts kept))
        ∙ ap (λ b. cond (b || list_any (same_txn t) (filter p ts)) (u ∷ filter p ts) ((u ∷ filter p ts) ++ t ∷ [])) (sym e)

first_of_each-on : (ts : List TxId) (t : TxId) → first_of_each (ts ++ t ∷ []) ≡ with_commit (first_of_each ts) (Some t)
first_of_each-on [] t = refl
first_of_each-on (u ∷ us) t = ap (λ v. u ∷ filter (λ x. not (same_txn u x)) v) (first_of_each-on us t) ∙ one_behind u t (first_of_each us)

pub order-on : (h : List Note) (n : Note) → order_of (h ++ n ∷ []) ≡ with_commit (order_of h) (commit_in n)
order-on h n = ap first_of_each (filter_map-append commit_in h (n ∷ [])) ∙ go (commit_in n)
  where
    go : (o : Option TxId) → first_of_each (filter_map commit_in h ++ cons_option o []) ≡ with_commit (order_of h) o
    go None = ap first_of_each (append-nil (filter_map commit_in h))
    go (Some t) = first_of_each-on (filter_map commit_in h) t
