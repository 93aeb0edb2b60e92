-- The order of names, as far as slices need it.
use Rattle.std.proofs.Common.{◌≡◌, ℕ, Bool, true, false, List, refl, sym, ap, ◌∙◌}
use Rattle.std.specs.Ordering.{is_lt, nat_cmp, ordering_reverse}
use Rattle.std.specs.declared.cmp.Ordering.{Ordering}
use Rattle.std.specs.declared.cmp.Ordering.TheVariants.{Less, Equal, Greater}
use Rattle.std.specs.Cmp.Lexicographic.{slice_cmp}
use Rattle.std.proofs.lemmas.Cmp.{nat_list_cmp_total}
use Rattle.tcs_terms.specs.Order.{name_before}

is_less : (o : Ordering) → is_lt o ≡ true → o ≡ Less
is_less Less h = refl
is_less Equal h = absurd cc
is_less Greater h = absurd cc

reversed : (o : Ordering) → Greater ≡ ordering_reverse o → o ≡ Less
reversed Less h = refl
reversed Equal h = absurd cc
reversed Greater h = absurd cc

-- where the first does not stand before the second, but before the third, the second stands before the third
pub least_before : (a b c : List ℕ) → name_before a b ≡ false → name_before a c ≡ true → name_before b c ≡ true
least_before a b c out before = go (slice_cmp nat_cmp a b) refl out
  where
    go : (o : Ordering) → slice_cmp nat_cmp a b ≡ o → is_lt o ≡ false → name_before b c ≡ true
    go Less is h = absurd cc
    go Equal is h = ap is_lt (sym (nat_list_cmp_total.congr a b c is)) ∙ before
    go Greater is h =
        ap is_lt (nat_list_cmp_total.trans b a c (reversed (slice_cmp nat_cmp b a) (sym is ∙ nat_list_cmp_total.antisymm a b)) (is_less (slice_cmp nat_cmp a c) before))

-- a name that stands before another does not stand behind it
pub not_both : (a b : List ℕ) → name_before a b ≡ true → name_before b a ≡ false
not_both a b before = ap is_lt (nat_list_cmp_total.antisymm b a ∙ ap ordering_reverse (is_less (slice_cmp nat_cmp a b) before))

-- nor before itself
pub not_itself : (a : List ℕ) → name_before a a ≡ false
not_itself a = go (name_before a a) refl
  where
    go : (b : Bool) → name_before a a ≡ b → name_before a a ≡ false
    go true is = not_both a a is
    go false is = is
