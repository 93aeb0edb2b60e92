-- Lemmas on the first configurations: there is one for each shard, in order.
use Rattle.std.proofs.Common.{◌≡◌, ℕ, zero, suc, ◌+◌, ◌<◌, ◌≤◌, Bool, true, false, cond, List, [], ◌∷◌, map, Some, None, find, filter, ◌==◌, inl, inr, sym, ◌∙◌, ap, subst, refl, arith, eqb-true, eq-eqb}
use Rattle.std.specs.List.{range_with_len, last_or}
use Rattle.tcs_terms.specs.Places.{Membership}
use Rattle.protocol.specs.Views.{view_of, epoch_of}
use Rattle.protocol.specs.Invariant.Time.{StandsIn}

-- configurations of these many shards, from that one on
abbrev pub AreOf : List Membership → ℕ → ℕ → Type 0
AreOf configs from count = map (λ c. c.shard) configs ≡ range_with_len from count

-- the rest of them, after the first
pub record IsSplit (c : Membership) (cs : List Membership) (from : ℕ) : Type 0 where
  pub head : c.shard ≡ from
  pub left : ℕ
  pub tail : AreOf cs (from + 1) left

pub AreOf-split : (c : Membership) (cs : List Membership) (from count : ℕ) → AreOf (c ∷ cs) from count → IsSplit c cs from
AreOf-split c cs from zero h = absurd (cc h)
AreOf-split c cs from (suc n) h = record { head = cc h; left = n; tail = cc h }

pub AreOf-above : (configs : List Membership) (from count : ℕ) (c : Membership) → AreOf configs from count → StandsIn c configs → from ≤ c.shard
AreOf-above [] from count c h s = absurd s
AreOf-above (x ∷ xs) from count c h (inl e) =
    let k : IsSplit x xs from = AreOf-split x xs from count h in
    let m : c.shard ≡ from = ap (λ m. m.shard) e ∙ k.head in omega (arith, m)
AreOf-above (x ∷ xs) from count c h (inr r) =
    let k : IsSplit x xs from = AreOf-split x xs from count h in
    omega (arith, AreOf-above xs (from + 1) k.left c k.tail r)

not_equal : (a b : ℕ) → a < b → (a == b) ≡ false
not_equal a b h = go (a == b) refl
  where
    go : (v : Bool) → (a == b) ≡ v → v ≡ false
    go false e = refl
    go true e = absurd (let k : a ≡ b = eqb-true a b e in omega (arith, k, h))

-- the view of a shard is its configuration
pub view_of-first : (configs : List Membership) (from count : ℕ) (c : Membership) → AreOf configs from count → StandsIn c configs → view_of configs c.shard ≡ Some c
view_of-first [] from count c h s = absurd s
view_of-first (x ∷ xs) from count c h (inl e) =
    let k : (x.shard == c.shard) ≡ true = eq-eqb x.shard c.shard (ap (λ m. m.shard) (sym e)) in
    ap (λ b. cond b (Some x) (find (λ v. v.shard == c.shard) xs)) k ∙ ap (λ m. Some m) (sym e)
view_of-first (x ∷ xs) from count c h (inr r) =
    let k : IsSplit x xs from = AreOf-split x xs from count h in
    let l : from + 1 ≤ c.shard = AreOf-above xs (from + 1) k.left c k.tail r in
    let n : (x.shard == c.shard) ≡ false = not_equal x.shard c.shard (let e : x.shard ≡ from = k.head in omega (arith, e, l)) in
    ap (λ b. cond b (Some x) (find (λ v. v.shard == c.shard) xs)) n ∙ view_of-first xs (from + 1) k.left c k.tail r

-- below the first shard there is none
none_below : (configs : List Membership) (from count shard : ℕ) → AreOf configs from count → shard < from → filter (λ c. c.shard == shard) configs ≡ []
none_below [] from count shard h l = refl
none_below (x ∷ xs) from count shard h l =
    let k : IsSplit x xs from = AreOf-split x xs from count h in
    let n : (x.shard == shard) ≡ false = go x.shard (let e : x.shard ≡ from = k.head in omega (arith, e, l)) in
    ap (λ b. cond b (x ∷ filter (λ c. c.shard == shard) xs) (filter (λ c. c.shard == shard) xs)) n ∙ none_below xs (from + 1) k.left shard k.tail (omega (arith, l))
  where
    go : (a : ℕ) → shard < a → (a == shard) ≡ false
    go a q = into (a == shard) refl
      where
        into : (v : Bool) → (a == shard) ≡ v → v ≡ false
        into false e = refl
        into true e = absurd (let k : a ≡ shard = eqb-true a shard e in omega (arith, k, q))

-- what the configurations of one shard come to
abbrev EpochsFit : List Membership → Type 0
EpochsFit cs = map (λ c. c.epoch) cs ≡ range_with_len 1 (epoch_of (last_or None cs))

one_fits : (c : Membership) → c.epoch ≡ 1 → EpochsFit (c ∷ [])
one_fits c e = subst (λ n. n ∷ [] ≡ range_with_len 1 n) (sym e) refl

-- the epochs of each shard are 1 to its last one
pub epochs_fit : (configs : List Membership) (from count shard : ℕ) → AreOf configs from count → ((c : Membership) → StandsIn c configs → c.epoch ≡ 1) → EpochsFit (filter (λ c. c.shard == shard) configs)
epochs_fit [] from count shard h f = refl
epochs_fit (x ∷ xs) from count shard h f =
    let k : IsSplit x xs from = AreOf-split x xs from count h in
    go (x.shard == shard) refl k (epochs_fit xs (from + 1) k.left shard k.tail (λ c s. f c (inr s)))
  where
    go : (b : Bool) → (x.shard == shard) ≡ b → IsSplit x xs from → EpochsFit (filter (λ c. c.shard == shard) xs) → EpochsFit (cond b (x ∷ filter (λ c. c.shard == shard) xs) (filter (λ c. c.shard == shard) xs))
    go true e k ih =
        let n : filter (λ c. c.shard == shard) xs ≡ [] = none_below xs (from + 1) k.left shard k.tail (let p : x.shard ≡ shard = eqb-true x.shard shard e in omega (arith, p, k.head)) in
        subst (λ cs. EpochsFit (x ∷ cs)) (sym n) (one_fits x (f x (inl refl)))
    go false e k ih = ih
