-- The order in which writes of one object go before each other.
use Rattle.std.proofs.Common.{◌≡◌, ◌≢◌, Bool, true, false, cond, refl, sym, ◌∙◌, arith}
use Rattle.std.specs.Prelude.{Option, Some, None}
use Rattle.std.proofs.lemmas.Bool.{cond_both, cond-true, cond-false}
use Rattle.std.proofs.lemmas.Bool.Decides.{nat_tests}
use Rattle.version_store.specs.declared.kept.Kept.{Kept}
use Rattle.version_store.specs.Keeping.{goes_before, better}

-- of two writes in different rows one goes before the other
total : (x w : Kept) → x.slot ≢ w.slot → goes_before w.version w.slot (Some x) ≡ true → goes_before x.version x.slot (Some w) ≡ false
total x w apart h = grind (arith, nat_tests)

one_of : (x w : Kept) → x.slot ≢ w.slot → goes_before w.version w.slot (Some x) ≡ false → goes_before x.version x.slot (Some w) ≡ true
one_of x w apart h = grind (arith, nat_tests)

passed : (k : Option Kept) (x w : Kept) → goes_before x.version x.slot k ≡ true → goes_before w.version w.slot k ≡ false
    → goes_before w.version w.slot (Some x) ≡ false
passed None x w h l = grind (arith, nat_tests)
passed (Some k) x w h l = grind (arith, nat_tests)

chosen : (a b c d : Bool) (k : Option Kept) (x w : Kept) → (a ≡ true → b ≡ true → c ≡ true → d ≡ false) → (a ≡ true → b ≡ true → c ≡ false → d ≡ true)
    → (a ≡ true → b ≡ false → c ≡ false) → (a ≡ false → b ≡ true → d ≡ false)
    → cond a (cond c (Some w) (Some x)) (cond b (Some w) k) ≡ cond b (cond d (Some x) (Some w)) (cond a (Some x) k)
chosen true true true d k x w f g h i = rw (f refl refl refl)
chosen true true false d k x w f g h i = rw (g refl refl refl)
chosen true false c d k x w f g h i = rw (h refl refl)
chosen false true c d k x w f g h i = rw (i refl refl)
chosen false false c d k x w f g h i = refl

better_than : (k : Option Kept) (x w : Kept) → better (better k (Some x)) (Some w)
    ≡ cond (goes_before x.version x.slot k) (cond (goes_before w.version w.slot (Some x)) (Some w) (Some x)) (cond (goes_before w.version w.slot k) (Some w) k)
better_than k x w = cond_both (goes_before x.version x.slot k) (Some x) k
    (λ o. better o (Some w) ≡ cond (goes_before x.version x.slot k) (cond (goes_before w.version w.slot (Some x)) (Some w) (Some x)) (cond (goes_before w.version w.slot k) (Some w) k))
    (λ e. sym (cond-true (goes_before x.version x.slot k) _ _ e))
    (λ e. sym (cond-false (goes_before x.version x.slot k) _ _ e))

-- two writes in different rows may be taken in either order
pub swapped : (k : Option Kept) (x w : Kept) → x.slot ≢ w.slot
    → better (better k (Some x)) (Some w) ≡ better (better k (Some w)) (Some x)
swapped k x w differ =
    better_than k x w
    ∙ chosen (goes_before x.version x.slot k) (goes_before w.version w.slot k) (goes_before w.version w.slot (Some x)) (goes_before x.version x.slot (Some w))
    k x w (λ _ _. total x w differ) (λ _ _. one_of x w differ) (passed k x w) (λ e f. passed k w x f e)
    ∙ sym (better_than k w x)
