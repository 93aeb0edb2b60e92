-- What stands in a list by transaction, after one is looked up, set, removed or added.
use Rattle.std.proofs.Common.{◌≡◌, Bool, true, false, cond, not, ◌||◌, List, [], ◌∷◌, ◌++◌, map, Some, None, ◌⊎◌, inl, inr, sym, ◌∙◌, ap, refl, ap₂, subst}
use Rattle.std.specs.Map.{lookup, set_value, remove_entry}
use Rattle.std.specs.List.{list_any}
use Rattle.tcs_terms.specs.declared.ids.TxId.{TxId}
use Rattle.tcs_terms.specs.Logs.{same_txn, txns_differ}
use Rattle.tcs_terms.proofs.BoolLaws.{both, left_of, right_of, not_false}
use Rattle.protocol.specs.Invariant.Time.{StandsIn}
use Rattle.protocol_laws.proofs.SameTxn.{same_txn-differ, same_txn-eq, same_txn-self}

abbrev pub keys : {X : Type 0} → List (TxId × X) → List TxId
keys es = map (λ e. e.0) es

-- transactions stay as one is set
pub set-keys : {X : Type 0} (txn : TxId) (es : List (TxId × X)) (w : X) → keys (set_value (same_txn txn) es w) ≡ keys es
set-keys txn [] w = refl
set-keys {X} txn (e ∷ es) w = go (same_txn txn e.0) (set-keys txn es w)
  where
    go : (b : Bool) → keys (set_value (same_txn txn) es w) ≡ keys es → keys (cond b ((e.0, w) ∷ es) (e ∷ set_value (same_txn txn) es w)) ≡ keys (e ∷ es)
    go true ih = refl
    go false ih = ap (λ ks. e.0 ∷ ks) ih

none_removed : {X : Type 0} (test p : TxId → Bool) (es : List (TxId × X)) → list_any p (keys es) ≡ false → list_any p (keys (remove_entry test es)) ≡ false
none_removed test p [] h = refl
none_removed {X} test p (e ∷ es) h = go (test e.0) (p e.0) refl h (none_removed test p es)
  where
    go : (b v : Bool) → p e.0 ≡ v → (v || list_any p (keys es)) ≡ false → (list_any p (keys es) ≡ false → list_any p (keys (remove_entry test es)) ≡ false) → list_any p (keys (cond b es (e ∷ remove_entry test es))) ≡ false
    go true true f k ih = absurd (cc k)
    go true false f k ih = k
    go false true f k ih = absurd (cc k)
    go false false f k ih = rw f (ih k)

pub remove-differ : {X : Type 0} (test : TxId → Bool) (es : List (TxId × X)) → txns_differ (keys es) ≡ true → txns_differ (keys (remove_entry test es)) ≡ true
remove-differ test [] d = refl
remove-differ {X} test (e ∷ es) d = go (test e.0) (remove-differ test es (right_of (not (list_any (same_txn e.0) (keys es))) (txns_differ (keys es)) d))
  where
    apart : not (list_any (same_txn e.0) (keys (remove_entry test es))) ≡ true
    apart = ap not (none_removed test (same_txn e.0) es (not_false (list_any (same_txn e.0) (keys es)) (left_of (not (list_any (same_txn e.0) (keys es))) (txns_differ (keys es)) d)))

    go : (b : Bool) → txns_differ (keys (remove_entry test es)) ≡ true → txns_differ (keys (cond b es (e ∷ remove_entry test es))) ≡ true
    go true ih = right_of (not (list_any (same_txn e.0) (keys es))) (txns_differ (keys es)) d
    go false ih = both (not (list_any (same_txn e.0) (keys (remove_entry test es)))) (txns_differ (keys (remove_entry test es))) apart ih

none_added : (p : TxId → Bool) (ts : List TxId) (txn : TxId) → list_any p ts ≡ false → p txn ≡ false → list_any p (ts ++ txn ∷ []) ≡ false
none_added p [] txn h e = rw e refl
none_added p (t ∷ ts) txn h e = go (p t) refl h (none_added p ts txn)
  where
    go : (v : Bool) → p t ≡ v → (v || list_any p ts) ≡ false → (list_any p ts ≡ false → p txn ≡ false → list_any p (ts ++ txn ∷ []) ≡ false) → list_any p (t ∷ ts ++ txn ∷ []) ≡ false
    go true f k ih = absurd (cc k)
    go false f k ih = rw f (ih k e)

-- transactions differ with a new one at the end
pub added-differ : (ts : List TxId) (txn : TxId) → txns_differ ts ≡ true → (StandsIn txn ts → ⊥) → txns_differ (ts ++ txn ∷ []) ≡ true
added-differ [] txn d n = refl
added-differ (t ∷ ts) txn d n =
    both (not (list_any (same_txn t) (ts ++ txn ∷ []))) (txns_differ (ts ++ txn ∷ []))
    (ap not (none_added (same_txn t) ts txn (not_false (list_any (same_txn t) ts) (left_of (not (list_any (same_txn t) ts)) (txns_differ ts) d)) (same_txn-differ t txn (λ e. n (inl (sym e))))))
    (added-differ ts txn (right_of (not (list_any (same_txn t) ts)) (txns_differ ts) d) (λ s. n (inr s)))

-- where no case is found, none is there
pub lookup-none-StandsIn : {X : Type 0} (txn : TxId) (es : List (TxId × X)) → lookup (same_txn txn) es ≡ None → StandsIn txn (keys es) → ⊥
lookup-none-StandsIn txn [] h s = s
lookup-none-StandsIn {X} txn (e ∷ es) h s = go (same_txn txn e.0) refl h s (lookup-none-StandsIn txn es)
  where
    go : (b : Bool) → same_txn txn e.0 ≡ b → cond b (Some e.1) (lookup (same_txn txn) es) ≡ None → (txn ≡ e.0) ⊎ StandsIn txn (keys es) → (lookup (same_txn txn) es ≡ None → StandsIn txn (keys es) → ⊥) → ⊥
    go true f k p ih = cc k
    go false f k (inl p) ih = let m : same_txn txn e.0 ≡ true = ap (λ u. same_txn txn u) (sym p) ∙ same_txn-self txn in cc (f, m)
    go false f k (inr p) ih = ih k p

pub lookup-StandsIn : {X : Type 0} (txn : TxId) (es : List (TxId × X)) (x : X) → lookup (same_txn txn) es ≡ Some x → StandsIn (txn, x) es
lookup-StandsIn txn [] x h = absurd (cc h)
lookup-StandsIn {X = X} txn (e ∷ es) x h = go (same_txn txn e.0) refl h (lookup-StandsIn txn es x)
  where
    go : (b : Bool) → same_txn txn e.0 ≡ b → cond b (Some e.1) (lookup (same_txn txn) es) ≡ Some x → (lookup (same_txn txn) es ≡ Some x → StandsIn (txn, x) es) → StandsIn (txn, x) (e ∷ es)
    go true s k ih = inl (let v : x ≡ e.1 = cc k in ap₂ {C = TxId × X} (λ a b. (a, b)) (same_txn-eq txn e.0 s) v)
    go false s k ih = inr (ih k)

pub set_value-StandsIn : {X : Type 0} (txn : TxId) (es : List (TxId × X)) (w : X) (x : TxId × X) → StandsIn x (set_value (same_txn txn) es w) → StandsIn x es ⊎ (x ≡ (txn, w))
set_value-StandsIn txn [] w x s = absurd s
set_value-StandsIn {X = X} txn (e ∷ es) w x s = go (same_txn txn e.0) refl s (set_value-StandsIn txn es w x)
  where
    go : (b : Bool) → same_txn txn e.0 ≡ b → StandsIn x (cond b ((e.0, w) ∷ es) (e ∷ set_value (same_txn txn) es w))
        → (StandsIn x (set_value (same_txn txn) es w) → StandsIn x es ⊎ (x ≡ (txn, w))) → StandsIn x (e ∷ es) ⊎ (x ≡ (txn, w))
    go true q (inl r) ih = inr (subst (λ t. x ≡ (t, w)) (sym (same_txn-eq txn e.0 q)) r)
    go true q (inr r) ih = inl (inr r)
    go false q (inl r) ih = inl (inl r)
    go false q (inr r) ih = elim (ih r) [ inl k ↦ inl (inr k) | inr k ↦ inr k ]

pub remove_entry-StandsIn : {X : Type 0} (txn : TxId) (es : List (TxId × X)) (x : TxId × X) → StandsIn x (remove_entry (same_txn txn) es) → StandsIn x es
remove_entry-StandsIn txn [] x s = absurd s
remove_entry-StandsIn {X = X} txn (e ∷ es) x s = go (same_txn txn e.0) s (remove_entry-StandsIn txn es x)
  where
    go : (b : Bool) → StandsIn x (cond b es (e ∷ remove_entry (same_txn txn) es)) → (StandsIn x (remove_entry (same_txn txn) es) → StandsIn x es) → StandsIn x (e ∷ es)
    go true r ih = inr r
    go false (inl r) ih = inl r
    go false (inr r) ih = inr (ih r)
