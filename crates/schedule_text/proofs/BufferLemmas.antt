-- The bytes of the buffer after a read or a step, and where their first line feed stands.
use Rattle.std.proofs.Common.{◌≡◌, ℕ, ◌+◌, ◌-◌, ◌≤◌, ◌<◌, false, nat_eq, List, ◌∷◌, ◌++◌, length, take, drop, get_or, slice_range, Some, None, refl, sym, ap, ◌∙◌, arith, append_assoc}
use Rattle.std.proofs.lemmas.Bool.{eqb-true, false_from_ne_true, or_from}
use Rattle.std.proofs.lemmas.List.{take-append-drop, length-take-le, length-append, length-take, get_or-take, drop-take, drop-drop, drop_more}
use Rattle.std.proofs.lemmas.List.Elements.{All-from_get_or}
use Rattle.std.proofs.lemmas.List.Folds.{list_any_none, list_any-append}
use Rattle.memchr.specs.Find.{IsFirstByte, is_byte}
use Rattle.schedule_text.specs.Buffer.{FirstFeed}
use Rattle.schedule_text.specs.Lines.{has_feed, line_feed}
use lib.Seq.{take-add}

pub passed : (xs : List ℕ) (start end count : ℕ) → start + count ≤ end
    → slice_range xs (start + count) end ≡ drop count (slice_range xs start end)
passed xs start end count inside =
    let parts : end - start ≡ count + (end - (start + count)) = omega arith in
    sym (ap (λ j. drop count (take j (drop start xs))) parts ∙ drop-take count _ (drop start xs)
    ∙ ap (take (end - (start + count))) (drop-drop count start xs))

pub filled : (bytes new : List ℕ) (held count : ℕ) → take held new ≡ bytes → held + count ≤ length new
    → (more : List ℕ) → take count (drop held new) ≡ more → slice_range new 0 (held + count) ≡ bytes ++ more
filled bytes new held count front inside more read =
    let none : held + count - 0 ≡ held + count = omega arith in
    ap (λ n. take n new) none ∙ take-add held count new ∙ (rw (front, read) refl)

none_in : (xs : List ℕ) → ((k : ℕ) → k < length xs → nat_eq (get_or xs k 0) 10 ≡ false) → has_feed xs ≡ false
none_in xs none = list_any_none (λ b. nat_eq b 10) xs (All-from_get_or (λ b. nat_eq b 10 ≡ false) xs 0 none)

pub feedless : (xs ys : List ℕ) → has_feed xs ≡ false → has_feed ys ≡ false → has_feed (xs ++ ys) ≡ false
feedless xs ys left right = list_any-append (λ b. nat_eq b 10) xs ys ∙ or_from _ _ left right

pub no_first : (xs : List ℕ) (searched : ℕ) → has_feed (take searched xs) ≡ false
    → IsFirstByte (is_byte 10) (drop searched xs) None → has_feed xs ≡ false
no_first xs searched before none =
    ap has_feed (sym (take-append-drop searched xs))
    ∙ feedless (take searched xs) (drop searched xs) before (none_in _ (λ k h. false_from_ne_true _ (none k (omega arith) h)))

pub first : (xs : List ℕ) (searched at : ℕ) → searched ≤ length xs → has_feed (take searched xs) ≡ false
    → IsFirstByte (is_byte 10) (drop searched xs) (Some at) → FirstFeed xs (searched + at)
first xs searched at inside before found =
    let ys = drop searched xs in
    let here : get_or ys at 0 ≡ 10 = eqb-true _ _ found.1 in
    let short : at < length ys = found.0.high in
    let tail : ys ≡ take at ys ++ line_feed ∷ drop (at + 1) ys =
    sym (take-append-drop at ys) ∙ ap (λ (zs : List ℕ). take at ys ++ zs) (drop_more ys at 0 short ∙ ap (λ b. b ∷ drop (at + 1) ys) here) in
    let clean : has_feed (take at ys) ≡ false =
    none_in (take at ys) (λ k h. let low : k < at = omega (arith, length-take at ys) in
    rw (get_or-take at ys k 0 low) (false_from_ne_true _ (found.0.before k (omega arith) low))) in
    record {
      line = take searched xs ++ take at ys;
      rest = drop (at + 1) ys;
      split = sym (take-append-drop searched xs) ∙ ap (λ (zs : List ℕ). take searched xs ++ zs) tail
          ∙ sym (append_assoc (take searched xs) (take at ys) (line_feed ∷ drop (at + 1) ys));
      no_feed = feedless (take searched xs) (take at ys) before clean;
      place = omega (arith, length-append (take searched xs) (take at ys), length-take-le searched xs inside, length-take-le at ys (omega arith));
    }
