-- Kinds are read as their numbers are spelled.
use Rattle.std.proofs.Common.{◌≡◌, ℕ, ◌+◌, ◌<◌, ◌≤◌, Bool, true, false, cond, eqb, leb, ◌&&◌, List, [], ◌∷◌, ◌++◌, Option, Some, None, Ok, Err, refl, sym, ap, subst, ◌∙◌, arith}
use Rattle.std.specs.Prelude.{IsTrue}
use Rattle.std.proofs.lemmas.Bool.{eqb-true, eqb-false}
use Rattle.tcs_terms.specs.declared.kinds.Kind.{Kind}
use Rattle.tcs_terms.specs.declared.kinds.Kind.TheVariants as kinds
use Rattle.tcs_terms.specs.Kinds.{kind_number, kind_numbered}
use Rattle.wire_frame.specs.declared.faults.FrameReason.{FrameReason}
use Rattle.wire_frame.specs.Reading.{Reads, fault_at}
use Rattle.wire_frame.specs.Parts.{is_up_to, kinded, kind_at}
use Rattle.wire_frame.proofs.Fields.{IsBytes, Takes, IsField, after_first, ok_is}
use Rattle.wire_frame.proofs.NumberFields.{up_to}

-- the number of a kind, as a frame has it
abbrev pub numbered : Kind → List ℕ
numbered kind = kind_number kind ∷ []

-- ---- the number of a kind gives it, and only that one

pub numbered_again : (kind : Kind) → kind_numbered (kind_number kind) ≡ Some kind
numbered_again kinds.Prepare = refl
numbered_again kinds.PrepareAck = refl
numbered_again kinds.Accept = refl
numbered_again kinds.AcceptAck = refl
numbered_again kinds.Decision = refl
numbered_again kinds.Probe = refl
numbered_again kinds.ProbeAck = refl
numbered_again kinds.NewConfig = refl
numbered_again kinds.NewState = refl
numbered_again kinds.ConfigChange = refl
numbered_again kinds.Last = refl
numbered_again kinds.At = refl
numbered_again kinds.Cas = refl
numbered_again kinds.Stored = refl
numbered_again kinds.Outcome = refl
numbered_again kinds.Refused = refl
numbered_again kinds.StatePiece = refl

pub is_numbered : (kind : Kind) → IsTrue (is_up_to 17 (kind_number kind))
is_numbered kinds.Prepare = refl
is_numbered kinds.PrepareAck = refl
is_numbered kinds.Accept = refl
is_numbered kinds.AcceptAck = refl
is_numbered kinds.Decision = refl
is_numbered kinds.Probe = refl
is_numbered kinds.ProbeAck = refl
is_numbered kinds.NewConfig = refl
is_numbered kinds.NewState = refl
is_numbered kinds.ConfigChange = refl
is_numbered kinds.Last = refl
is_numbered kinds.At = refl
is_numbered kinds.Cas = refl
is_numbered kinds.Stored = refl
is_numbered kinds.Outcome = refl
is_numbered kinds.Refused = refl
is_numbered kinds.StatePiece = refl

named : (b : Bool) (this kind : Kind) (others : Option Kind) (C : Type 0) → (this ≡ kind → b ≡ true → C) → (b ≡ false → others ≡ Some kind → C) → cond b (Some this) others ≡ Some kind → C
named true this kind others C here there e = here (cc) refl
named false this kind others C here there e = there refl e

step : (number n : ℕ) (this kind : Kind) (others : Option Kind) → kind_number this ≡ n → (others ≡ Some kind → number ≡ kind_number kind) → cond (eqb number n) (Some this) others ≡ Some kind → number ≡ kind_number kind
step number n this kind others is there e =
    named (eqb number n) this kind others (number ≡ kind_number kind) (λ same found. eqb-true number n found ∙ sym is ∙ ap kind_number same) (λ other found. there found) e

pub number_is : (number : ℕ) (kind : Kind) → kind_numbered number ≡ Some kind → number ≡ kind_number kind
number_is number kind e =
    step number 1 kinds.Prepare kind _ refl (λ e.
    step number 2 kinds.PrepareAck kind _ refl (λ e.
    step number 3 kinds.Accept kind _ refl (λ e.
    step number 4 kinds.AcceptAck kind _ refl (λ e.
    step number 5 kinds.Decision kind _ refl (λ e.
    step number 6 kinds.Probe kind _ refl (λ e.
    step number 7 kinds.ProbeAck kind _ refl (λ e.
    step number 8 kinds.NewConfig kind _ refl (λ e.
    step number 9 kinds.NewState kind _ refl (λ e.
    step number 10 kinds.ConfigChange kind _ refl (λ e.
    step number 11 kinds.Last kind _ refl (λ e.
    step number 12 kinds.At kind _ refl (λ e.
    step number 13 kinds.Cas kind _ refl (λ e.
    step number 14 kinds.Stored kind _ refl (λ e.
    step number 15 kinds.Outcome kind _ refl (λ e.
    step number 16 kinds.Refused kind _ refl (λ e.
    step number 17 kinds.StatePiece kind _ refl (λ e. absurd cc) e) e) e) e) e) e) e) e) e) e) e) e) e) e) e) e) e

later : (number n : ℕ) (this : Kind) (others : Option Kind) → n ≤ number → (n < number → others ≡ None → ⊥) → cond (eqb number n) (Some this) others ≡ None → ⊥
later number n this others low there e = go (eqb number n) refl e where
  go : (b : Bool) → eqb number n ≡ b → cond b (Some this) others ≡ None → ⊥
  go true same none = absurd cc
  go false other none = there (let differs = eqb-false number n other in omega arith) none

none_is_left : (number : ℕ) → 1 ≤ number → number ≤ 17 → kind_numbered number ≡ None → ⊥
none_is_left number low high e =
    later number 1 kinds.Prepare _ low (λ low e.
    later number 2 kinds.PrepareAck _ low (λ low e.
    later number 3 kinds.Accept _ low (λ low e.
    later number 4 kinds.AcceptAck _ low (λ low e.
    later number 5 kinds.Decision _ low (λ low e.
    later number 6 kinds.Probe _ low (λ low e.
    later number 7 kinds.ProbeAck _ low (λ low e.
    later number 8 kinds.NewConfig _ low (λ low e.
    later number 9 kinds.NewState _ low (λ low e.
    later number 10 kinds.ConfigChange _ low (λ low e.
    later number 11 kinds.Last _ low (λ low e.
    later number 12 kinds.At _ low (λ low e.
    later number 13 kinds.Cas _ low (λ low e.
    later number 14 kinds.Stored _ low (λ low e.
    later number 15 kinds.Outcome _ low (λ low e.
    later number 16 kinds.Refused _ low (λ low e.
    later number 17 kinds.StatePiece _ low (λ low e. absurd (omega arith)) e) e) e) e) e) e) e) e) e) e) e) e) e) e) e) e) e

-- a number from 1 to 17 is that of a kind
pub kind_there : (number : ℕ) → IsTrue (is_up_to 17 number) → (kind : Kind) × (kind_numbered number ≡ Some kind) × (number ≡ kind_number kind)
kind_there number is = go (kind_numbered number) refl where
  go : (found : Option Kind) → kind_numbered number ≡ found → (kind : Kind) × (kind_numbered number ≡ Some kind) × (number ≡ kind_number kind)
  go (Some kind) e = (kind, e, number_is number kind e)
  go None e = let n = up_to 17 number is in absurd (none_is_left number n.0 n.1 e)

-- ---- reading it

kind_takes : (reason : FrameReason) (bytes : List ℕ) (x : Kind × List ℕ) → IsBytes bytes → kind_at reason bytes ≡ Ok x → Takes bytes (numbered x.0) x.1 × Unit {0}
unfolding kind_at
kind_takes reason [] x fits e = absurd cc
kind_takes reason (number ∷ rest) x fits e = go (kind_numbered number) refl e where
  go : (found : Option Kind) → kind_numbered number ≡ found → kinded reason (number ∷ rest) rest found ≡ Ok x → Takes (number ∷ rest) (numbered x.0) x.1 × Unit {0}
  go None none e = absurd cc
  go (Some kind) is e =
      subst (λ (y : _). Takes (number ∷ rest) (numbered y.0) y.1 × Unit {0}) (ok_is (kind, rest) x e)
      (subst (λ (n : ℕ). Takes (number ∷ rest) (n ∷ []) rest) (number_is number kind is) (after_first number rest fits), tt)

kind_again : (reason : FrameReason) (kind : Kind) (rest : List ℕ) → Unit {0} → kind_at reason (numbered kind ++ rest) ≡ Ok (kind, rest)
unfolding kind_at
kind_again reason kind rest is = rw (numbered_again kind) refl

pub kind_field : (reason : FrameReason) → IsField numbered (λ kind. Unit {0}) (kind_at reason)
kind_field reason = record { takes = kind_takes reason; again = kind_again reason }
