-- Names and values are read as they are spelled.
use Rattle.std.proofs.Common.{◌≡◌, ℕ, ◌<◌, ◌≤◌, true, false, not, ◌||◌, ltb, leb, eqb, List, [], ◌∷◌, ◌++◌, length, Option, Some, None, Result, Ok, Err, refl, sym, ap, subst, ◌∙◌, arith, inl, inr}
use Rattle.std.specs.Prelude.{IsTrue, IfOk, position}
use Rattle.std.proofs.lemmas.Bool.{cases_lt, and_from, le-leb}
use Rattle.std.proofs.lemmas.List.{get_or_past}
use Rattle.std.proofs.lemmas.List.Elements.{All-from_get_or}
use Rattle.std.proofs.lemmas.Bool.Decides.{nat_tests}
use Rattle.tcs_terms.specs.Objects.{is_name_byte, IsName, IsValue}
use Rattle.tcs_terms.specs.ObjectFaults.{name_fault}
use Rattle.tcs_terms.proofs.NameLaws.{is_name_without_fault, no_fault_of_a_name}
use Rattle.wire_frame.specs.declared.faults.FrameReason.TheVariants.{Range}
use Rattle.wire_frame.specs.declared.faults.ReadError.{ReadError}
use Rattle.wire_frame.specs.Spelling.{counted}
use Rattle.wire_frame.specs.Reading.{◌>>=◌, Gives, byte_at, run_at, tested}
use Rattle.wire_frame.specs.Parts.{is_up_to, letters, name_at, value_at}
use Rattle.wire_frame.proofs.Fields.{IsBytes, Takes, Takes-then, IsField, nothing_yet, on, goes, ok_is}
use Rattle.wire_frame.proofs.NumberFields.{one, up_to, small_field, at_most_field, run_takes, run_again}

abbrev same : List ℕ → List ℕ
same bytes = bytes

run_field : (n : ℕ) → IsField same (λ run. (length run ≡ n) × IsBytes run) (run_at n)
run_field n = record {
  takes = λ bytes x fits e. let t = run_takes n bytes x fits e in (t.0, (t.1, t.2));
  again = λ run rest is. subst (λ (k : ℕ). run_at k (run ++ rest) ≡ Ok (run, rest)) is.0 (run_again run rest);
}

-- of a run of 1 to 32 bytes, what is wrong with it as a name is its first byte outside the alphabet
whole_fault : (run : List ℕ) → 1 ≤ length run → length run ≤ 32 → name_fault run ≡ position (λ b. not (is_name_byte b)) run
whole_fault run some short =
    let few : (eqb (length run) 0 || ltb 32 (length run)) ≡ false = grind (arith, nat_tests) in
    rw few refl

letters_ok : (bytes : List ℕ) (run : List ℕ × List ℕ) (o : Option ℕ) (x : List ℕ × List ℕ) → letters bytes run o ≡ Ok x → (o ≡ None) × (run ≡ x)
letters_ok bytes run None x e = (refl, ok_is run x e)
letters_ok bytes run (Some i) x e = absurd cc

count_field : IsField one (λ n. IsTrue (is_up_to 32 n)) (tested Range (is_up_to 32) byte_at)
count_field = small_field (is_up_to 32) (λ n h. omega (arith, up_to 32 n h))

name_takes : (bytes : List ℕ) (x : List ℕ × List ℕ) → IsBytes bytes → name_at bytes ≡ Ok x → Takes bytes (counted x.0) x.1 × IsName x.0
unfolding name_at
name_takes bytes x fits e =
    on count_field _ x bytes [] bytes (nothing_yet bytes fits) e (λ count mid so_far is_count e.
    on (run_field count) _ x bytes _ mid so_far e (λ run rest so_far is e.
    let l = letters_ok mid (run, rest) (position (λ b. not (is_name_byte b)) run) x e in
    let n = up_to 32 count is_count in
    let sound : IsName run = is_name_without_fault run (whole_fault run (omega (arith, is.0)) (omega (arith, is.0)) ∙ l.0) in
    subst (λ (y : List ℕ × List ℕ). Takes bytes (counted y.0) y.1 × IsName y.0) l.1 (subst (λ (k : ℕ). Takes bytes (k ∷ run) rest) (sym is.0) so_far, sound)))

name_again : (name rest : List ℕ) → IsName name → name_at (counted name ++ rest) ≡ Ok (name, rest)
unfolding name_at
name_again name rest is =
    let count : IsTrue (is_up_to 32 (length name)) = and_from (leb 1 (length name)) (leb (length name) 32) (le-leb _ _ is.some) (le-leb _ _ is.short) in
    goes count_field _ (length name) (name ++ rest) count
    ∙ ap (λ r. r >>= λ run. letters (name ++ rest) run (position (λ b. not (is_name_byte b)) run.0)) (run_again name rest)
    ∙ ap (letters (name ++ rest) (name, rest)) (sym (whole_fault name is.some is.short) ∙ no_fault_of_a_name name is)

pub name_field : IsField counted IsName name_at
name_field = record { takes = name_takes; again = name_again }

pub name_found : {X : Type 0} (name rest : X → List ℕ) (bytes : List ℕ) (r : Result X ReadError) → IsBytes bytes → Gives (λ x. (name x, rest x)) r (name_at bytes) → IfOk r (λ x. IsName (name x))
name_found name rest bytes (Ok x) fits given = (name_takes bytes (name x, rest x) fits given).1
name_found name rest bytes (Err e) fits given = tt

value_is : (bytes : List ℕ) → length bytes ≤ 64 → IsBytes bytes → IsValue bytes
value_is bytes few fits = record { short = few; are_bytes = All-from_get_or (λ b. b < 256) bytes 0 (λ i lt. fits i) }

bytes_of_value : (bytes : List ℕ) → IsValue bytes → IsBytes bytes
bytes_of_value bytes is i =
    elim (cases_lt i (length bytes)) [
      | inl lt ↦ is.are_bytes i 0 lt
      | inr le ↦ rw (get_or_past bytes i 0 le) (omega arith)
    ]

value_takes : (bytes : List ℕ) (x : List ℕ × List ℕ) → IsBytes bytes → value_at bytes ≡ Ok x → Takes bytes (counted x.0) x.1 × IsValue x.0
unfolding value_at
value_takes bytes x fits e =
    on (at_most_field 64 (omega arith)) _ x bytes [] bytes (nothing_yet bytes fits) e (λ count mid so_far is_count e.
    let t = run_takes count mid x so_far.rest_fits e in
    (subst (λ (k : ℕ). Takes bytes (k ∷ x.0) x.1) (sym t.1) (Takes-then bytes (one count) mid x.0 x.1 so_far t.0), value_is x.0 (omega (arith, t.1)) t.2))

value_again : (value rest : List ℕ) → IsValue value → value_at (counted value ++ rest) ≡ Ok (value, rest)
unfolding value_at
value_again value rest is = goes (at_most_field 64 (omega arith)) _ (length value) (value ++ rest) is.short ∙ run_again value rest

pub value_field : IsField counted IsValue value_at
value_field = record { takes = value_takes; again = value_again }

-- what is read part by part is a value
pub is_value : (bytes : List ℕ) (count : ℕ) (after value rest : List ℕ) → IsBytes bytes → byte_at bytes ≡ Ok (count, after) → count ≤ 64 → run_at count after ≡ Ok (value, rest) → IsValue value
unfolding value_at
is_value bytes count after value rest fits byte few run =
    let small : leb count 64 ≡ true = le-leb count 64 few in
    let read : value_at bytes ≡ Ok (value, rest) = rw (byte, small, run) refl in
    (value_takes bytes (value, rest) fits read).1
