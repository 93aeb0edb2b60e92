-- A text that is cut at a byte.
use Rattle.std.proofs.Common.{◌≡◌, ℕ, ◌+◌, Bool, true, false, not, cond, List, [], ◌∷◌, ◌++◌, length, drop, Option, Some, None, refl, sym, ◌∙◌, ap, subst, arith}
use Rattle.std.specs.Prelude.{◌==◌, position}
use Rattle.std.specs.List.{list_all, position_from}
use Rattle.std.proofs.lemmas.Bool.{eq-eqb, eqb-true}
use Rattle.std.proofs.lemmas.List.{take_at}
use Rattle.std.proofs.Math.Seq.{drop-append-add}
use Rattle.std.proofs.lemmas.Iterator.Adapters.{position_from-zero}
use Rattle.tcs_terms.proofs.BoolLaws.{both, left_of, right_of, not_false}
use Rattle.backup_text.specs.Words.{cut, halves}
use Rattle.backup_text.proofs.Steps.{some_is}

-- whether none of the bytes is this one
abbrev pub lacks : ℕ → List ℕ → Bool
lacks byte text = list_all (λ b. not (b == byte)) text

-- the place of a byte behind bytes that are others
found_at : (byte i : ℕ) (a b : List ℕ) → lacks byte a ≡ true → position_from (λ c. c == byte) i (a ++ byte ∷ b) ≡ Some (i + length a)
found_at byte i [] b h = rw (eq-eqb byte byte refl) (ap Some (omega arith))
found_at byte i (x ∷ a) b h =
    let first = not_false (x == byte) (left_of (not (x == byte)) (lacks byte a) h) in
    rw first (found_at byte (i + 1) a b (right_of (not (x == byte)) (lacks byte a) h) ∙ ap Some (omega arith))

record Parted (byte i : ℕ) (text : List ℕ) (place : ℕ) : Type 0 where
  front : List ℕ
  back : List ℕ
  whole : text ≡ front ++ byte ∷ back
  lacking : lacks byte front ≡ true
  is_place : place ≡ i + length front

parted : (byte i : ℕ) (text : List ℕ) (place : ℕ) → position_from (λ c. c == byte) i text ≡ Some place → Parted byte i text place
parted byte i [] place h = absurd cc
parted byte i (x ∷ xs) place h = go (x == byte) refl (parted byte (i + 1) xs place) h where
  go : (t : Bool) → (x == byte) ≡ t → (position_from (λ c. c == byte) (i + 1) xs ≡ Some place → Parted byte (i + 1) xs place)
      → cond t (Some i) (position_from (λ c. c == byte) (i + 1) xs) ≡ Some place → Parted byte i (x ∷ xs) place
  go true e step s =
      let here = some_is i place s in
      record { front = []; back = xs; whole = ap (λ (b : ℕ). b ∷ xs) (eqb-true x byte e); lacking = refl; is_place = omega arith }
  go false e step s =
      let more = step s in
      let place_is = more.is_place in
      record {
        front = x ∷ more.front;
        back = more.back;
        whole = ap (λ (t : List ℕ). x ∷ t) more.whole;
        lacking = both (not (x == byte)) (lacks byte more.front) (ap not e) more.lacking;
        is_place = omega arith;
      }

-- ---- cuts

-- a text is cut at the first of the bytes
pub cut_again : (byte : ℕ) (a b : List ℕ) → lacks byte a ≡ true → cut byte (a ++ byte ∷ b) ≡ Some (a, b)
unfolding cut
cut_again byte a b h =
    let place : position (λ c. c == byte) (a ++ byte ∷ b) ≡ Some (length a) = position_from-zero (λ c. c == byte) (a ++ byte ∷ b) ∙ found_at byte 0 a b h ∙ ap Some (omega arith) in
    ap (halves (a ++ byte ∷ b)) place
    ∙ ap (λ (t : List ℕ). Some (t, drop (length a + 1) (a ++ byte ∷ b))) (take_at a (byte ∷ b) (length a) refl)
    ∙ ap (λ (t : List ℕ). Some (a, t)) (drop-append-add a (byte ∷ b) 1)

-- what is cut is the text
pub record Cut (byte : ℕ) (text a b : List ℕ) : Type 0 where
  pub whole : text ≡ a ++ byte ∷ b
  pub lacking : lacks byte a ≡ true

pub cut_takes : (byte : ℕ) (text : List ℕ) (x : List ℕ × List ℕ) → cut byte text ≡ Some x → Cut byte text x.0 x.1
unfolding cut
cut_takes byte text x h = go (position (λ c. c == byte) text) refl h where
  go : (o : Option ℕ) → position (λ c. c == byte) text ≡ o → halves text o ≡ Some x → Cut byte text x.0 x.1
  go None e s = absurd cc
  go (Some place) e s =
      let p = parted byte 0 text place (sym (position_from-zero (λ c. c == byte) text) ∙ e) in
      let again : cut byte (p.front ++ byte ∷ p.back) ≡ Some (p.front, p.back) = cut_again byte p.front p.back p.lacking in
      let same : (p.front, p.back) ≡ x = some_is (p.front, p.back) x (sym again ∙ ap (cut byte) (sym p.whole) ∙ h) in
      subst (λ (y : List ℕ × List ℕ). Cut byte text y.0 y.1) same (record { whole = p.whole; lacking = p.lacking })
