-- Reading parts one after the other, as a loop does.
use Rattle.std.proofs.Common.{◌≡◌, ℕ, zero, suc, ◌-◌, ◌+◌, ◌≤◌, ◌<◌, ltb, cond, List, [], ◌∷◌, ◌++◌, length, take, drop, Ok, Err, refl, sym, ap, ◌∙◌, append_assoc, add-one, arith}
use Rattle.std.proofs.lemmas.List.{append-nil}
use Rattle.wire_frame.specs.declared.faults.ReadError.{ReadError}
use Rattle.wire_frame.specs.declared.faults.ReadError.TheVariants as errors
use Rattle.wire_frame.specs.declared.faults.FrameReason.TheVariants.{Range, Order}
use Rattle.wire_frame.specs.Reading.{Reads, fault_at, ◌>>=◌, Fails, byte_at, tested, each_at}
use Rattle.wire_frame.specs.Parts.{is_up_to, next_at}
use Rattle.wire_frame.proofs.Fields.{bind_ok, tested_ok}

-- what was read before, and what is still read
abbrev pub with_front : {X : Type 0} → List X → Reads (List X) → Reads (List X)
with_front front read = read >>= λ x. Ok (front ++ x.0, x.1)

regroup : {X : Type 0} (front : List X) (n : X) (read : Reads (List X)) → with_front front (read >>= λ x. Ok (n ∷ x.0, x.1)) ≡ with_front (front ++ n ∷ []) read
regroup {X} front n (Ok x) = ap (λ (ns : List X). Ok (ns, x.1)) (simp append_assoc)
regroup front n (Err f) = refl

module _ {K X : Type 0} (one : K → List ℕ → Reads X) (more : K → X → K) where
  pub goes_on : (front : List X) (count i : ℕ) (known : K) (bytes : List ℕ) (x : X) (after : List ℕ) (total : Reads (List X)) → i < count → one known bytes ≡ Ok (x, after)
      → with_front front (each_at one more (count - i) known bytes) ≡ total → with_front (front ++ x ∷ []) (each_at one more (count - (i + 1)) (more known x) after) ≡ total
  unfolding each_at
  goes_on front count i known bytes x after total lt h so_far =
      let k : count - i ≡ suc (count - (i + 1)) = omega arith in
      let here : with_front front (each_at one more (count - i) known bytes) ≡ with_front (front ++ x ∷ []) (each_at one more (count - (i + 1)) (more known x) after)
      = rw (k, h) (regroup front x (each_at one more (count - (i + 1)) (more known x) after)) in
      sym here ∙ so_far

  pub ends : (e : ReadError) (front : List X) (count i : ℕ) (known : K) (bytes : List ℕ) (total : Reads (List X)) → i < count → Fails e (one known bytes)
      → with_front front (each_at one more (count - i) known bytes) ≡ total → Fails e total
  unfolding each_at
  ends errors.Memory front count i known bytes total lt h so_far = tt
  ends (errors.Bad f) front count i known bytes total lt h so_far =
      let k : count - i ≡ suc (count - (i + 1)) = omega arith in
      let here : with_front front (each_at one more (count - i) known bytes) ≡ Err f = rw (k, h) refl in
      sym so_far ∙ here

  pub is_done : (front : List X) (count i : ℕ) (known : K) (bytes : List ℕ) (total : Reads (List X)) → count ≤ i
      → with_front front (each_at one more (count - i) known bytes) ≡ total → total ≡ Ok (front, bytes)
  unfolding each_at
  is_done front count i known bytes total le so_far =
      let k : count - i ≡ 0 = omega arith in
      let here : with_front front (each_at one more (count - i) known bytes) ≡ Ok (front, bytes) = rw k (ap (λ (ns : List X). Ok (ns, bytes)) (append-nil front)) in
      sym so_far ∙ here

-- ---- numbers of one byte, which stay where they stand

drop_one : (i : ℕ) (bytes : List ℕ) (x : ℕ) (after : List ℕ) → drop i bytes ≡ x ∷ after → (take (suc i) bytes ≡ take i bytes ++ x ∷ []) × (drop (suc i) bytes ≡ after) × (suc i ≤ length bytes)
drop_one zero [] x after e = absurd cc
drop_one zero (b ∷ bytes) x after e = (cc, cc, omega arith)
drop_one (suc i) [] x after e = absurd cc
drop_one (suc i) (b ∷ bytes) x after e =
    let more = drop_one i bytes x after e in
    (ap (λ (xs : List ℕ). b ∷ xs) more.0, more.1, omega (arith, more.2))

number_read : (most last : ℕ) (bytes : List ℕ) (x : ℕ) (after : List ℕ) → next_at most last bytes ≡ Ok (x, after) → bytes ≡ x ∷ after
unfolding next_at
number_read most last [] x after e = absurd cc
number_read most last (b ∷ rest) x after e =
    let a = bind_ok (tested Range (is_up_to most) byte_at (b ∷ rest)) (λ x. cond (ltb last x.0) (Ok x) (Err (fault_at Order (b ∷ rest)))) (x, after) e in
    let ascends = tested_ok (ltb last a.0.0) (fault_at Order (b ∷ rest)) a.0 (x, after) a.2 in
    let fits = tested_ok (is_up_to most b) (fault_at Range (b ∷ rest)) (b, rest) a.0 a.1 in
    ap (λ (y : ℕ × List ℕ). y.0 ∷ y.1) (fits.1 ∙ ascends.1)

-- i numbers were read, and the others are still to be read
pub record Walks (i : ℕ) (bytes rest : List ℕ) (read total : Reads (List ℕ)) : Type 0 where
  pub so_far : with_front (take i bytes) read ≡ total
  pub left : rest ≡ drop i bytes
  pub enough : i ≤ length bytes

abbrev pub later : ℕ → ℕ → ℕ
later last n = n

pub walks_on : (most last count i : ℕ) (bytes rest : List ℕ) (x : ℕ) (after : List ℕ) (total : Reads (List ℕ)) → i < count → next_at most last rest ≡ Ok (x, after)
    → Walks i bytes rest (each_at (next_at most) later (count - i) last rest) total → Walks (i + 1) bytes after (each_at (next_at most) later (count - (i + 1)) x after) total
walks_on most last count i bytes rest x after total lt h w =
    let d = drop_one i bytes x after (sym w.left ∙ number_read most last rest x after h) in
    let one_more : take (i + 1) bytes ≡ take i bytes ++ x ∷ [] = rw add-one d.0 in
    record {
      so_far = rw one_more (goes_on (next_at most) later (take i bytes) count i last rest x after total lt h w.so_far);
      left = rw add-one (sym d.1);
      enough = omega (arith, d.2);
    }

pub walked : (most last count i : ℕ) (bytes rest : List ℕ) (total : Reads (List ℕ)) → count ≤ i → i ≤ count
    → Walks i bytes rest (each_at (next_at most) later (count - i) last rest) total → total ≡ Ok (take count bytes, drop count bytes)
walked most last count i bytes rest total le ge w =
    let same : i ≡ count = omega arith in
    let left : rest ≡ drop count bytes = w.left ∙ ap (λ (k : ℕ). drop k bytes) same in
    is_done (next_at most) later (take i bytes) count i last rest total le w.so_far ∙ rw (same, left) refl
