-- Open cases by place: what stands at a transaction's place, and the table of places when a place changes.
use Rattle.std.proofs.Common.{◌≡◌, ℕ, zero, suc, ◌+◌, ◌-◌, ◌<◌, ◌≤◌, Bool, true, false, cond, not, ◌||◌, List, [], ◌∷◌, ◌++◌, length, map, get_or, Option, Some, None, refl, sym, ◌∙◌, ap, subst, arith, length-append, zero-add, eqb-true, eq-eqb}
use Rattle.std.specs.Prelude.{◌==◌, is_some}
use Rattle.std.specs.List.{position_from, list_any}
use Rattle.std.specs.Map.{lookup, set_value, remove_entry}
use Rattle.std.proofs.Math.ListN.{set}
use Rattle.std.proofs.Math.Nat.{sub-zero}
use Rattle.std.proofs.Math.Seq.{map-set_same}
use Rattle.std.proofs.lemmas.List.{map-append, length-map, map-set, set-set}
use Rattle.std.proofs.lemmas.Bool.{and_parts, and_from, or_parts, or_from, not-true, not_from_false}
use Rattle.tcs_terms.specs.declared.ids.TxId.{TxId}
use Rattle.tcs_terms.specs.Logs.{same_txn, txns_differ}
use Rattle.tcs_terms.proofs.RowLaws.{same_swap}
use Rattle.coordinator.specs.OpenCases.{taken, txn_at, is_of, IsPlaced}

pub same_txn-eq : (a b : TxId) → same_txn a b ≡ true → a ≡ b
same_txn-eq a b h =
    let parts = and_parts (a.home == b.home) (a.seq == b.seq) h in
    let home = eqb-true a.home b.home parts.0 in
    let seq = eqb-true a.seq b.seq parts.1 in
    λ i. record { home = home i; seq = seq i }

pub same_txn-self : (a : TxId) → same_txn a a ≡ true
same_txn-self a = and_from (a.home == a.home) (a.seq == a.seq) (eq-eqb a.home a.home refl) (eq-eqb a.seq a.seq refl)

-- ---- what stands at the place of a transaction

module _ {X : Type 0} (txn : TxId) where
  abbrev place_from : ℕ → List (Option (TxId × X)) → Option ℕ
  place_from i slots = position_from (is_of txn) i (map txn_at slots)

  pub record StandsAt (at : ℕ) (slots : List (Option (TxId × X))) : Type 0 where
    pub value : X
    pub within : at < length slots
    pub here : (d : Option (TxId × X)) → get_or slots at d ≡ Some (txn, value)
    pub found : lookup (same_txn txn) (taken slots) ≡ Some value
    pub put : (y : X) → taken (set slots at (Some (txn, y))) ≡ set_value (same_txn txn) (taken slots) y
    pub cleared : taken (set slots at None) ≡ remove_entry (same_txn txn) (taken slots)

  first : (e : TxId × X) (slots : List (Option (TxId × X))) → same_txn txn e.0 ≡ true → StandsAt 0 (Some e ∷ slots)
  first e slots h = let own = same_txn-eq txn e.0 h in record {
    value = e.1;
    within = omega arith;
    here = λ d. ap (λ (t : TxId). Some (t, e.1)) (sym own);
    found = rw h refl;
    put = λ y. rw h (ap (λ (t : TxId). (t, y) ∷ taken slots) own);
    cleared = rw h refl;
  }

  behind_none : (n : ℕ) (slots : List (Option (TxId × X))) → StandsAt n slots → StandsAt (suc n) (None ∷ slots)
  behind_none n slots r = record { value = r.value; within = omega (arith, r.within); here = r.here; found = r.found; put = r.put; cleared = r.cleared }

  behind_other : (n : ℕ) (e : TxId × X) (slots : List (Option (TxId × X))) → same_txn txn e.0 ≡ false → StandsAt n slots → StandsAt (suc n) (Some e ∷ slots)
  behind_other n e slots other r = record {
    value = r.value;
    within = omega (arith, r.within);
    here = r.here;
    found = rw other r.found;
    put = λ y. rw other (ap (λ (zs : List (TxId × X)). e ∷ zs) (r.put y));
    cleared = rw other (ap (λ (zs : List (TxId × X)). e ∷ zs) r.cleared);
  }

  stands_from : (i at : ℕ) (slots : List (Option (TxId × X))) → place_from i slots ≡ Some at → (i ≤ at) × StandsAt (at - i) slots
  stands_from i at [] e = absurd cc
  stands_from i at (None ∷ slots) e =
      let rest = stands_from (i + 1) at slots e in
      let more : i + 1 ≤ at = rest.0 in
      let next : at - i ≡ suc (at - (i + 1)) = omega arith in
      (omega arith, rw next (behind_none (at - (i + 1)) slots rest.1))
  stands_from i at (Some x ∷ slots) e = go (same_txn txn x.0) refl (stands_from (i + 1) at slots) e where
    go : (b : Bool) → same_txn txn x.0 ≡ b → (place_from (i + 1) slots ≡ Some at → (i + 1 ≤ at) × StandsAt (at - (i + 1)) slots)
        → cond b (Some i) (place_from (i + 1) slots) ≡ Some at → (i ≤ at) × StandsAt (at - i) (Some x ∷ slots)
    go true same more found =
        let here : i ≡ at = cc in
        let none : at - i ≡ 0 = omega arith in
        (omega arith, rw none (first x slots same))
    go false other more found =
        let rest = more found in
        let from : i + 1 ≤ at = rest.0 in
        let next : at - i ≡ suc (at - (i + 1)) = omega arith in
        (omega arith, rw next (behind_other (at - (i + 1)) x slots other rest.1))

  pub stands : (at : ℕ) (slots : List (Option (TxId × X))) → place_from 0 slots ≡ Some at → StandsAt at slots
  stands at slots e = rw sub-zero at ((stands_from 0 at slots e).1)

  pub not_found : (i : ℕ) (slots : List (Option (TxId × X))) → place_from i slots ≡ None → lookup (same_txn txn) (taken slots) ≡ None
  not_found i [] e = refl
  not_found i (None ∷ slots) e = not_found (i + 1) slots e
  not_found i (Some x ∷ slots) e = go (same_txn txn x.0) (not_found (i + 1) slots) e where
    go : (b : Bool) → (place_from (i + 1) slots ≡ None → lookup (same_txn txn) (taken slots) ≡ None)
        → cond b (Some i) (place_from (i + 1) slots) ≡ None → cond b (Some x.1) (lookup (same_txn txn) (taken slots)) ≡ None
    go true more e = absurd cc
    go false more e = more e

  pub no_place : (i : ℕ) (slots : List (Option (TxId × X))) → lookup (same_txn txn) (taken slots) ≡ None → place_from i slots ≡ None
  no_place i [] e = refl
  no_place i (None ∷ slots) e = no_place (i + 1) slots e
  no_place i (Some x ∷ slots) e = go (same_txn txn x.0) (no_place (i + 1) slots) e where
    go : (b : Bool) → (lookup (same_txn txn) (taken slots) ≡ None → place_from (i + 1) slots ≡ None)
        → cond b (Some x.1) (lookup (same_txn txn) (taken slots)) ≡ None → cond b (Some i) (place_from (i + 1) slots) ≡ None
    go true more e = absurd cc
    go false more e = more e

pub taken-append : {X : Type 0} (slots : List (Option X)) (x : X) → taken (slots ++ Some x ∷ []) ≡ taken slots ++ x ∷ []
taken-append [] x = refl
taken-append (None ∷ slots) x = taken-append slots x
taken-append (Some y ∷ slots) x = ap (λ zs. y ∷ zs) (taken-append slots x)

pub taken_txns : {X : Type 0} (slots : List (Option (TxId × X))) → taken (map txn_at slots) ≡ map (λ e. e.0) (taken slots)
taken_txns [] = refl
taken_txns (None ∷ slots) = taken_txns slots
taken_txns (Some e ∷ slots) = ap (λ (zs : List TxId). e.0 ∷ zs) (taken_txns slots)

-- ---- positions in a list of which one element changes

module _ {T : Type 0} (p : T → Bool) where
  pub position-set : (i at : ℕ) (ts : List T) (y d : T) → p y ≡ p (get_or ts at d) → at < length ts → position_from p i (set ts at y) ≡ position_from p i ts
  position-set i at [] y d e h = absurd (omega arith)
  position-set i zero (t ∷ ts) y d e h = rw e refl
  position-set i (suc at) (t ∷ ts) y d e h = ap (λ (r : Option ℕ). cond (p t) (Some i) r) (position-set (i + 1) at ts y d e (omega arith))

  pub position_more : (i : ℕ) (ts : List T) (y : T) → p y ≡ false → position_from p i (ts ++ y ∷ []) ≡ position_from p i ts
  position_more i [] y e = rw e refl
  position_more i (t ∷ ts) y e = ap (λ (r : Option ℕ). cond (p t) (Some i) r) (position_more (i + 1) ts y e)

  pub position_last : (i : ℕ) (ts : List T) (y : T) → position_from p i ts ≡ None → p y ≡ true → position_from p i (ts ++ y ∷ []) ≡ Some (i + length ts)
  position_last i [] y none e = let at : i ≡ i + 0 = omega arith in rw e (ap (λ (n : ℕ). Some n) at)
  position_last i (t ∷ ts) y none e = go (p t) (position_last (i + 1) ts y) none where
    go : (b : Bool) → (position_from p (i + 1) ts ≡ None → p y ≡ true → position_from p (i + 1) (ts ++ y ∷ []) ≡ Some (i + 1 + length ts))
        → cond b (Some i) (position_from p (i + 1) ts) ≡ None → cond b (Some i) (position_from p (i + 1) (ts ++ y ∷ [])) ≡ Some (i + suc (length ts))
    go true more none = absurd cc
    go false more none = let at : i + 1 + length ts ≡ i + suc (length ts) = omega arith in more none e ∙ ap (λ (n : ℕ). Some n) at

-- ---- the table of places

pub none_placed : IsPlaced [] []
none_placed = record { found = λ txn. refl; differ = refl; count = refl }

-- no place has a transaction that is not among them
unplaced : (txn : TxId) (i : ℕ) (txns : List (Option TxId)) → list_any (same_txn txn) (taken txns) ≡ false → position_from (is_of txn) i txns ≡ None
unplaced txn i [] h = refl
unplaced txn i (None ∷ ts) h = unplaced txn (i + 1) ts h
unplaced txn i (Some t ∷ ts) h =
    let apart = or_parts (same_txn txn t) (list_any (same_txn txn) (taken ts)) h in
    rw apart.0 (unplaced txn (i + 1) ts apart.1)

unplaced_so : (txn : TxId) (i : ℕ) (txns : List (Option TxId)) → position_from (is_of txn) i txns ≡ None → list_any (same_txn txn) (taken txns) ≡ false
unplaced_so txn i [] h = refl
unplaced_so txn i (None ∷ ts) h = unplaced_so txn (i + 1) ts h
unplaced_so txn i (Some t ∷ ts) h = go (same_txn txn t) (unplaced_so txn (i + 1) ts) h where
  go : (b : Bool) → (position_from (is_of txn) (i + 1) ts ≡ None → list_any (same_txn txn) (taken ts) ≡ false)
      → cond b (Some i) (position_from (is_of txn) (i + 1) ts) ≡ None → (b || list_any (same_txn txn) (taken ts)) ≡ false
  go true more h = absurd cc
  go false more h = more h

any_more : (u t : TxId) (ts : List TxId) → same_txn u t ≡ false → list_any (same_txn u) ts ≡ false → list_any (same_txn u) (ts ++ t ∷ []) ≡ false
any_more u t [] apart none = or_from (same_txn u t) false apart refl
any_more u t (v ∷ vs) apart none =
    let parts = or_parts (same_txn u v) (list_any (same_txn u) vs) none in
    or_from (same_txn u v) (list_any (same_txn u) (vs ++ t ∷ [])) parts.0 (any_more u t vs apart parts.1)

differ_more : (t : TxId) (ts : List TxId) → list_any (same_txn t) ts ≡ false → txns_differ ts ≡ true → txns_differ (ts ++ t ∷ []) ≡ true
differ_more t [] new h = refl
differ_more t (u ∷ us) new h =
    let apart = or_parts (same_txn t u) (list_any (same_txn t) us) new in
    let parts = and_parts (not (list_any (same_txn u) us)) (txns_differ us) h in
    and_from (not (list_any (same_txn u) (us ++ t ∷ []))) (txns_differ (us ++ t ∷ []))
    (not_from_false _ (any_more u t us (same_swap u t ∙ apart.0) (not-true _ parts.0))) (differ_more t us apart.1 parts.1)

-- a transaction more
pub placed_more : (places next : List (TxId × ℕ)) (txns : List (Option TxId)) (t : TxId) → IsPlaced places txns → position_from (is_of t) 0 txns ≡ None
    → ((q : TxId) → lookup (same_txn q) next ≡ cond (same_txn t q) (Some (length txns)) (lookup (same_txn q) places)) → length next ≡ length places + 1
    → IsPlaced next (txns ++ Some t ∷ [])
placed_more places next txns t was new finds longer = record {
  found = λ q. finds q ∙ go q (same_txn t q) refl;
  differ = ap txns_differ (taken-append txns t) ∙ differ_more t (taken txns) (unplaced_so t 0 txns new) was.differ;
  count =
      let more = ap length (taken-append txns t) in
      let one : length (taken txns ++ t ∷ []) ≡ length (taken txns) + 1 = grind (arith, length-append) in
      omega (arith, longer, was.count, more, one);
} where
  go : (q : TxId) (b : Bool) → same_txn t q ≡ b → cond b (Some (length txns)) (lookup (same_txn q) places) ≡ position_from (is_of q) 0 (txns ++ Some t ∷ [])
  go q true same =
      let own = same_txn-eq t q same in
      let none : position_from (is_of q) 0 txns ≡ None = subst (λ (u : TxId). position_from (is_of u) 0 txns ≡ None) own new in
      sym (position_last (is_of q) 0 txns (Some t) none (same_swap q t ∙ same) ∙ ap (λ (n : ℕ). Some n) (zero-add (length txns)))
  go q false other = was.found q ∙ sym (position_more (is_of q) 0 txns (Some t) (same_swap q t ∙ other))

-- a transaction whose place was left
record Left (t : TxId) (at : ℕ) (txns : List (Option TxId)) : Type 0 where
  gone : (i : ℕ) → position_from (is_of t) i (set txns at None) ≡ None
  others : (u : TxId) → list_any (same_txn u) (taken txns) ≡ false → list_any (same_txn u) (taken (set txns at None)) ≡ false
  differ : txns_differ (taken (set txns at None)) ≡ true
  count : length (taken (set txns at None)) + 1 ≡ length (taken txns)
  within : at < length txns
  here : (d : Option TxId) → get_or txns at d ≡ Some t

left_from : (t : TxId) (i at : ℕ) (txns : List (Option TxId)) → txns_differ (taken txns) ≡ true → position_from (is_of t) i txns ≡ Some at → (i ≤ at) × Left t (at - i) txns
left_from t i at [] h e = absurd cc
left_from t i at (None ∷ ts) h e =
    let rest = left_from t (i + 1) at ts h e in
    let more : i + 1 ≤ at = rest.0 in
    let next : at - i ≡ suc (at - (i + 1)) = omega arith in (
      omega arith,
      rw next (record {
        gone = λ k. rest.1.gone (k + 1);
        others = rest.1.others;
        differ = rest.1.differ;
        count = rest.1.count;
        within = omega (arith, rest.1.within);
        here = rest.1.here;
      }),
    )
left_from t i at (Some u ∷ ts) h e = go (same_txn t u) refl (left_from t (i + 1) at ts parts.1) e where
  parts : (not (list_any (same_txn u) (taken ts)) ≡ true) × (txns_differ (taken ts) ≡ true)
  parts = and_parts (not (list_any (same_txn u) (taken ts))) (txns_differ (taken ts)) h

  go : (b : Bool) → same_txn t u ≡ b → (position_from (is_of t) (i + 1) ts ≡ Some at → (i + 1 ≤ at) × Left t (at - (i + 1)) ts)
      → cond b (Some i) (position_from (is_of t) (i + 1) ts) ≡ Some at → (i ≤ at) × Left t (at - i) (Some u ∷ ts)
  go true same more found =
      let here : i ≡ at = cc in
      let none : at - i ≡ 0 = omega arith in
      let own = same_txn-eq t u same in
      let alone : list_any (same_txn t) (taken ts) ≡ false = subst (λ (v : TxId). list_any (same_txn v) (taken ts) ≡ false) (sym own) (not-true _ parts.0) in (
        omega arith,
        rw none (record {
          gone = λ k. unplaced t (k + 1) ts alone;
          others = λ v n. (or_parts (same_txn v u) (list_any (same_txn v) (taken ts)) n).1;
          differ = parts.1;
          count = omega arith;
          within = omega arith;
          here = λ d. ap (λ (v : TxId). Some v) (sym own);
        }),
      )
  go false other more found =
      let rest = more found in
      let from : i + 1 ≤ at = rest.0 in
      let next : at - i ≡ suc (at - (i + 1)) = omega arith in (
        omega arith,
        rw next (record {
          gone = λ k. rw other (rest.1.gone (k + 1));
          others = λ v n. let apart = or_parts (same_txn v u) (list_any (same_txn v) (taken ts)) n in or_from (same_txn v u) _ apart.0 (rest.1.others v apart.1);
          differ = and_from (not (list_any (same_txn u) (taken (set ts (at - (i + 1)) None)))) _ (not_from_false _ (rest.1.others u (not-true _ parts.0))) rest.1.differ;
          count = omega (arith, rest.1.count);
          within = omega (arith, rest.1.within);
          here = rest.1.here;
        }),
      )

left : (t : TxId) (at : ℕ) (txns : List (Option TxId)) → txns_differ (taken txns) ≡ true → position_from (is_of t) 0 txns ≡ Some at → Left t at txns
left t at txns h e = rw sub-zero at ((left_from t 0 at txns h e).1)

pub placed_less : (places next : List (TxId × ℕ)) (txns : List (Option TxId)) (t : TxId) (at : ℕ) → IsPlaced places txns → position_from (is_of t) 0 txns ≡ Some at
    → ((q : TxId) → lookup (same_txn q) next ≡ cond (same_txn t q) None (lookup (same_txn q) places)) → length next + 1 ≡ length places
    → IsPlaced next (set txns at None)
placed_less places next txns t at was there finds shorter = record {
  found = λ q. finds q ∙ go q (same_txn t q) refl;
  differ = l.differ;
  count = omega (arith, shorter, was.count, l.count);
} where
  l : Left t at txns
  l = left t at txns was.differ there

  go : (q : TxId) (b : Bool) → same_txn t q ≡ b → cond b None (lookup (same_txn q) places) ≡ position_from (is_of q) 0 (set txns at None)
  go q true same =
      let own = same_txn-eq t q same in
      sym (subst (λ (u : TxId). position_from (is_of u) 0 (set txns at None) ≡ None) own (l.gone 0))
  go q false other =
      let held : is_of q None ≡ is_of q (get_or txns at None) = sym (ap (is_of q) (l.here None) ∙ same_swap q t ∙ other) in
      was.found q ∙ sym (position-set (is_of q) 0 at txns None None held l.within)

-- among cases whose transactions differ, those before one have other transactions
pub new_behind : {X : Type 0} (t : TxId) (c : X) (xs ys : List (TxId × X)) → txns_differ (map (λ e. e.0) (xs ++ (t, c) ∷ ys)) ≡ true → lookup (same_txn t) xs ≡ None
new_behind {X} t c [] ys h = refl
new_behind {X} t c (x ∷ xs) ys h =
    let parts = and_parts (not (list_any (same_txn x.0) (map (λ e. e.0) (xs ++ (t, c) ∷ ys)))) (txns_differ (map (λ e. e.0) (xs ++ (t, c) ∷ ys))) h in
    let apart : same_txn t x.0 ≡ false = same_swap t x.0 ∙ other xs (not-true _ parts.0) in
    rw apart (new_behind t c xs ys parts.1) where
      other : (zs : List (TxId × X)) → list_any (same_txn x.0) (map (λ e. e.0) (zs ++ (t, c) ∷ ys)) ≡ false → same_txn x.0 t ≡ false
      other [] n = (or_parts (same_txn x.0 t) (list_any (same_txn x.0) (map (λ e. e.0) ys)) n).0
      other (z ∷ zs) n = other zs ((or_parts (same_txn x.0 z.0) (list_any (same_txn x.0) (map (λ e. e.0) (zs ++ (t, c) ∷ ys))) n).1)

-- ---- the same, of places with cases

module _ {X : Type 0} (places : List (TxId × ℕ)) (slots : List (Option (TxId × X))) (placed : IsPlaced places (map txn_at slots)) where
  pub has_place : (t : TxId) → is_some (lookup (same_txn t) places) ≡ is_some (lookup (same_txn t) (taken slots))
  has_place t = ap is_some (placed.found t) ∙ go (position_from (is_of t) 0 (map txn_at slots)) refl where
    go : (at : Option ℕ) → position_from (is_of t) 0 (map txn_at slots) ≡ at → is_some at ≡ is_some (lookup (same_txn t) (taken slots))
    go None e = ap is_some (sym (not_found t 0 slots e))
    go (Some at) e = ap is_some (sym (stands t at slots e).found)

  pub has_no_place : (t : TxId) → lookup (same_txn t) (taken slots) ≡ None → lookup (same_txn t) places ≡ None
  has_no_place t none = placed.found t ∙ no_place t 0 slots none

  pub how_many : length places ≡ length (taken slots)
  how_many = placed.count ∙ ap length (taken_txns slots) ∙ length-map (taken slots) (λ (e : TxId × X). e.0)

  -- what stands at the place that the table has
  pub stands_at : (t : TxId) (at : ℕ) → lookup (same_txn t) places ≡ Some at → StandsAt t at slots
  stands_at t at e = stands t at slots (sym (placed.found t) ∙ e)

  -- another case at the same place
  pub placed_put : (t : TxId) (at : ℕ) (x : X) → lookup (same_txn t) places ≡ Some at → IsPlaced places (map txn_at (set slots at (Some (t, x))))
  placed_put t at x e =
      let s = stands_at t at e in
      let same : map txn_at (set slots at (Some (t, x))) ≡ map txn_at slots = map-set_same txn_at slots at (Some (t, x)) (Some (t, x)) (ap txn_at (sym (s.here (Some (t, x))))) in
      subst (λ (ts : List (Option TxId)). IsPlaced places ts) (sym same) placed

  pub placed_append : (next : List (TxId × ℕ)) (t : TxId) (x : X) → lookup (same_txn t) (taken slots) ≡ None
      → ((q : TxId) → lookup (same_txn q) next ≡ cond (same_txn t q) (Some (length slots)) (lookup (same_txn q) places)) → length next ≡ length places + 1
      → IsPlaced next (map txn_at (slots ++ Some (t, x) ∷ []))
  placed_append next t x new finds longer =
      let more : map txn_at (slots ++ Some (t, x) ∷ []) ≡ map txn_at slots ++ Some t ∷ [] = map-append txn_at slots (Some (t, x) ∷ []) in
      let long : length (map txn_at slots) ≡ length slots = length-map slots txn_at in
      subst (λ (ts : List (Option TxId)). IsPlaced next ts) (sym more)
      (placed_more places next (map txn_at slots) t placed (no_place t 0 slots new) (rw long finds) longer)

  pub placed_clear : (next : List (TxId × ℕ)) (t : TxId) (at : ℕ) (x : X) → lookup (same_txn t) places ≡ Some at
      → ((q : TxId) → lookup (same_txn q) next ≡ cond (same_txn t q) None (lookup (same_txn q) places)) → length next + 1 ≡ length places
      → IsPlaced next (map txn_at (set (set slots at (Some (t, x))) at None))
  placed_clear next t at x e finds shorter =
      let once : set (set slots at (Some (t, x))) at None ≡ set slots at None = set-set slots at (Some (t, x)) None in
      let mapped : map txn_at (set slots at None) ≡ set (map txn_at slots) at None = map-set txn_at slots at None in
      subst (λ (ts : List (Option TxId)). IsPlaced next ts) (sym (ap (map txn_at) once ∙ mapped)) (placed_less places next (map txn_at slots) t at placed (sym (placed.found t) ∙ e) finds shorter)

  pub closed_at : (t : TxId) (at : ℕ) (x : X) → lookup (same_txn t) places ≡ Some at → taken (set (set slots at (Some (t, x))) at None) ≡ remove_entry (same_txn t) (taken slots)
  closed_at t at x e = ap taken (set-set slots at (Some (t, x)) None) ∙ (stands_at t at e).cleared
