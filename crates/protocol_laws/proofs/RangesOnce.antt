-- Where ranges stand apart, a name lies in one of them at most: a search for a range with the name finds it.
use Rattle.std.proofs.Common.{◌≡◌, ℕ, Bool, true, false, not, cond, List, [], ◌∷◌, find, Some, inl, inr, sym, ◌∙◌, ap, subst, refl}
use Rattle.std.proofs.lemmas.Cmp.{nat_list_cmp_total}
use Rattle.std.specs.Cmp.Lexicographic.{slice_cmp}
use Rattle.std.specs.List.{list_all}
use Rattle.std.specs.Ordering.{is_lt, nat_cmp, ordering_reverse}
use Rattle.std.specs.declared.cmp.Ordering.{Ordering}
use Rattle.std.specs.declared.cmp.Ordering.TheVariants.{Less, Equal, Greater}
use Rattle.tcs_terms.proofs.BoolLaws.{left_of, right_of, not_false}
use Rattle.tcs_terms.proofs.OrderLaws.{names_skip}
use Rattle.tcs_terms.specs.declared.payloads.RangePart.{RangePart}
use Rattle.tcs_terms.specs.Order.{ascends_by, name_before}
use Rattle.tcs_terms.specs.Payloads.{range_before}
use Rattle.tcs_terms.specs.Shards.{in_range_part}
use Rattle.protocol.specs.Invariant.Time.{StandsIn}

less_is : (o : Ordering) → is_lt o ≡ true → o ≡ Less
less_is Less h = refl
less_is Equal h = absurd (cc h)
less_is Greater h = absurd (cc h)

-- a name before another that is not behind a third one stands before the third
before_not-behind : (a b c : List ℕ) → name_before a b ≡ true → name_before c b ≡ false → name_before a c ≡ true
before_not-behind a b c p q = go (slice_cmp nat_cmp c b) refl q
  where
    go : (o : Ordering) → slice_cmp nat_cmp c b ≡ o → is_lt o ≡ false → name_before a c ≡ true
    go Less e k = absurd (cc k)
    go Equal e k =
        let same : slice_cmp nat_cmp a c ≡ slice_cmp nat_cmp a b =
        nat_list_cmp_total.antisymm a c ∙ ap ordering_reverse (nat_list_cmp_total.congr c b a e) ∙ sym (nat_list_cmp_total.antisymm a b) in
        ap is_lt same ∙ p
    go Greater e k = ap is_lt (nat_list_cmp_total.trans a b c (less_is (slice_cmp nat_cmp a b) p) (nat_list_cmp_total.antisymm b c ∙ ap ordering_reverse e))

-- a range stands before all that come after it
range-first : (z : RangePart) (zs : List RangePart) (q : RangePart) → ascends_by range_before (z ∷ zs) ≡ true → list_all (λ x. name_before x.from x.upto) zs ≡ true → StandsIn q zs
    → name_before q.from z.upto ≡ false
range-first z [] q a w s = absurd s
range-first z (y ∷ ys) q a w (inl e) =
    subst (λ x. name_before x.from z.upto ≡ false) (sym e) (not_false (name_before y.from z.upto) (left_of (range_before z y) (ascends_by range_before (y ∷ ys)) a))
range-first z (y ∷ ys) q a w (inr s) = go (name_before q.from z.upto) refl
    (range-first y ys q (right_of (range_before z y) (ascends_by range_before (y ∷ ys)) a) (right_of (name_before y.from y.upto) (list_all (λ x. name_before x.from x.upto) ys) w) s)
  where
    go : (b : Bool) → name_before q.from z.upto ≡ b → name_before q.from y.upto ≡ false → b ≡ false
    go false e ih = refl
    go true e ih =
        let apart : name_before y.from z.upto ≡ false = not_false (name_before y.from z.upto) (left_of (range_before z y) (ascends_by range_before (y ∷ ys)) a) in
        let whole : name_before y.from y.upto ≡ true = left_of (name_before y.from y.upto) (list_all (λ x. name_before x.from x.upto) ys) w in
        let low : name_before q.from y.from ≡ true = before_not-behind q.from z.upto y.from e apart in
        let more : name_before q.from y.upto ≡ true = names_skip q.from y.from y.upto low whole in
        absurd (cc (more, ih))

-- a search for a range with a name finds the one in which it lies
pub find-range : (qs : List RangePart) (q : RangePart) (name : List ℕ) → ascends_by range_before qs ≡ true → list_all (λ x. name_before x.from x.upto) qs ≡ true → StandsIn q qs → in_range_part name q ≡ true
    → find (in_range_part name) qs ≡ Some q
find-range [] q name a w s h = absurd s
find-range (z ∷ zs) q name a w (inl e) h =
    ap (λ b. cond b (Some z) (find (in_range_part name) zs)) (subst (λ x. in_range_part name x ≡ true) e h) ∙ ap (λ x. Some x) (sym e)
find-range (z ∷ zs) q name a w (inr s) h = go (in_range_part name z) refl (find-range zs q name (rest zs a) (right_of (name_before z.from z.upto) (list_all (λ x. name_before x.from x.upto) zs) w) s h)
  where
    rest : (ys : List RangePart) → ascends_by range_before (z ∷ ys) ≡ true → ascends_by range_before ys ≡ true
    rest [] k = refl
    rest (y ∷ ys) k = right_of (range_before z y) (ascends_by range_before (y ∷ ys)) k

    go : (b : Bool) → in_range_part name z ≡ b → find (in_range_part name) zs ≡ Some q → find (in_range_part name) (z ∷ zs) ≡ Some q
    go false e ih = ap (λ b. cond b (Some z) (find (in_range_part name) zs)) e ∙ ih
    go true e ih =
        let apart : name_before q.from z.upto ≡ false = range-first z zs q a (right_of (name_before z.from z.upto) (list_all (λ x. name_before x.from x.upto) zs) w) s in
        let low : name_before name z.upto ≡ true = right_of (not (name_before name z.from)) (name_before name z.upto) e in
        let before : name_before name q.from ≡ true = before_not-behind name z.upto q.from low apart in
        let not_before : name_before name q.from ≡ false = not_false (name_before name q.from) (left_of (not (name_before name q.from)) (name_before name q.upto) h) in
        absurd (cc (before, not_before))
