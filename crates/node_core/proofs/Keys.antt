-- Keys of a map: what holds of each, whatever becomes of the values.
use Rattle.std.proofs.Common.{◌≡◌, Bool, true, cond, List, [], ◌∷◌, ◌++◌, map, false, refl}
use Rattle.std.specs.List.{list_all}
use Rattle.std.specs.Map.{set_value, remove_entry}
use Rattle.tcs_terms.proofs.BoolLaws.{both, left_of, right_of}

module _ {K X : Type 0} (p : K → Bool) where
  abbrev pub each : List (K × X) → Bool
  each es = list_all (λ e. p e.0) es

  pub each_set : (test : K → Bool) (es : List (K × X)) (w : X) → each es ≡ true → each (set_value test es w) ≡ true
  each_set test [] w h = refl
  each_set test (e ∷ es) w h = go (test e.0) (each_set test es w (right_of (p e.0) (each es) h)) where
    go : (b : Bool) → each (set_value test es w) ≡ true → each (cond b ((e.0, w) ∷ es) (e ∷ set_value test es w)) ≡ true
    go true rest = h
    go false rest = both (p e.0) _ (left_of (p e.0) (each es) h) rest

  pub each_removed : (test : K → Bool) (es : List (K × X)) → each es ≡ true → each (remove_entry test es) ≡ true
  each_removed test [] h = refl
  each_removed test (e ∷ es) h = go (test e.0) (each_removed test es (right_of (p e.0) (each es) h)) where
    go : (b : Bool) → each (remove_entry test es) ≡ true → each (cond b es (e ∷ remove_entry test es)) ≡ true
    go true rest = right_of (p e.0) (each es) h
    go false rest = both (p e.0) _ (left_of (p e.0) (each es) h) rest

  pub each_mapped : (f : X → X) (es : List (K × X)) → each es ≡ true → each (map (λ e. (e.0, f e.1)) es) ≡ true
  each_mapped f [] h = refl
  each_mapped f (e ∷ es) h = both (p e.0) _ (left_of (p e.0) (each es) h) (each_mapped f es (right_of (p e.0) (each es) h))

  pub each_added : (es : List (K × X)) (e : K × X) → each es ≡ true → p e.0 ≡ true → each (es ++ e ∷ []) ≡ true
  each_added [] e h new = both (p e.0) true new refl
  each_added (d ∷ es) e h new = both (p d.0) _ (left_of (p d.0) (each es) h) (each_added es e (right_of (p d.0) (each es) h) new)

pub each_weaker : {K X : Type 0} (p q : K → Bool) → ((k : K) → p k ≡ true → q k ≡ true) → (es : List (K × X)) → list_all (λ e. p e.0) es ≡ true → list_all (λ e. q e.0) es ≡ true
each_weaker p q weaker [] h = refl
each_weaker p q weaker (e ∷ es) h =
    both (q e.0) _ (weaker e.0 (left_of (p e.0) (list_all (λ d. p d.0) es) h)) (each_weaker p q weaker es (right_of (p e.0) (list_all (λ d. p d.0) es) h))
