-- Texts that begin with no sign, as the words of modes and the numerals do.
use Rattle.std.proofs.Common.{◌≡◌, ◌∙◌, ◌+◌, ◌<◌, ◌≤◌, ◌^◌, ◌++◌, ◌%◌, ap, sym, subst, refl, arith, ℕ, Bool, true, false, [], ◌∷◌, drop, cond, Option, Some, None, codes, ne_eqb}
use Rattle.std.specs.Prelude.{◌==◌, decimal, neg_ℤ, pos, if◌then◌else◌, unwrap_or}
use Rattle.std.specs.Str.Parse.{IsNumeral, digits_value, signed_digits_value, without_leading_plus, without_leading_sign}
use Rattle.std.proofs.lemmas.Fmt.{decimal_by_steps, decimal_is_IsNumeral}
use Rattle.std.proofs.lemmas.Int.{ints}
use Rattle.clap.specs.Lexer.{strip_byte, without_minus}
use Rattle.clap.specs.Values.{IsSignedIn}
use Rattle.clap.specs.ValueTests.{accepts}
use Rattle.clap.specs.Walk.{Text}
use Rattle.clap.proofs.ValueTestLemmas.{Accepts-accepts}
use Rattle.net_words.specs.Definition.{numbers}
use Rattle.net_words.specs.Modes.{mode_word}
use Rattle.net_words.specs.Requests.{number_in}
use Rattle.net_words.specs.declared.mode.Mode.{Mode}
use Rattle.net_words.specs.declared.mode.Mode.TheVariants.{Cluster, Node, Guard}

pub record Solid : Type 0 where
  pub first : ℕ
  pub rest : Text
  pub no_minus : (first == 45) ≡ false
  pub no_plus : (first == 43) ≡ false

abbrev pub text_of : Solid → Text
text_of s = s.first ∷ s.rest

abbrev pub IsSolid : Text → Type 0
IsSolid t = (s : Solid) × (t ≡ text_of s)

solid : (first : ℕ) (rest : Text) → 45 < first → IsSolid (first ∷ rest)
solid first rest high = (
  record {
    first = first;
    rest = rest;
    no_minus = ne_eqb first 45 (λ e. omega arith);
    no_plus = ne_eqb first 43 (λ e. omega arith);
  },
  refl,
)

longer : (t u : Text) → IsSolid t → IsSolid (t ++ u)
longer t u s = (
  record {
    first = s.0.first;
    rest = s.0.rest ++ u;
    no_minus = s.0.no_minus;
    no_plus = s.0.no_plus;
  },
  ap (λ (w : Text). w ++ u) s.1,
)

pub decimal_is_solid : (n : ℕ) → n < 2 ^ 64 → IsSolid (decimal n)
decimal_is_solid n small = decimal_by_steps (λ k t. IsSolid t)
    (λ k lt. solid (48 + k) [] (omega arith))
    (λ k ds ge h. longer ds ((48 + k % 10) ∷ []) h)
    n small

pub mode_is_solid : (mode : Mode) → IsSolid (mode_word mode)
mode_is_solid Cluster = solid 99 (codes "luster") (omega arith)
mode_is_solid Node = solid 110 (codes "ode") (omega arith)
mode_is_solid Guard = solid 103 (codes "uard") (omega arith)

-- ---- how they are read

pub no_strip : (s : Solid) → strip_byte 45 (text_of s) ≡ None
no_strip s = ap (λ (b : Bool). if b then Some s.rest else None) s.no_minus

pub as_written : (s : Solid) → without_minus (text_of s) ≡ text_of s
as_written s = ap (λ (o : Option Text). unwrap_or o (text_of s)) (no_strip s)

no_leading_plus : (s : Solid) → without_leading_plus (text_of s) ≡ text_of s
no_leading_plus s = ap (λ (b : Bool). drop (cond b 1 0) (text_of s)) s.no_plus

pub number_is : (s : Solid) → number_in (text_of s) ≡ digits_value 10 (text_of s)
number_is s = ap (digits_value 10) (no_leading_plus s)

no_leading_sign : (s : Solid) → without_leading_sign (text_of s) ≡ text_of s
no_leading_sign s = ap (λ (b : Bool). cond b (drop 1 (text_of s)) (without_leading_plus (text_of s))) s.no_minus ∙ no_leading_plus s

signed_is : (s : Solid) → signed_digits_value 10 (text_of s) ≡ pos (digits_value 10 (text_of s))
signed_is s =
    let size = pos (digits_value 10 (without_leading_sign (text_of s))) in
    ap (λ (b : Bool). cond b (neg_ℤ size) size) s.no_minus ∙ ap (λ (t : Text). pos (digits_value 10 t)) (no_leading_sign s)

solid_in : (least most n : ℕ) (s : Solid) → IsNumeral 10 (text_of s) → digits_value 10 (text_of s) ≡ n
    → most < 2 ^ 63 → least ≤ n → n ≤ most
    → IsSignedIn (pos least) (pos most) (text_of s)
solid_in least most n s numeral value small low high =
    let is : signed_digits_value 10 (text_of s) ≡ pos n = signed_is s ∙ ap (λ (k : ℕ). pos k) value in
    (rw (no_leading_sign s) numeral, rw is (record { sfits = omega arith }), rw is (omega (arith, ints)), rw is (omega (arith, ints)))

pub decimal_passes : (least most n : ℕ) → most < 2 ^ 63 → least ≤ n → n ≤ most
    → accepts false (numbers least most) (decimal n) ≡ true
decimal_passes least most n small low high =
    let n_small : n < 2 ^ 64 = omega arith in
    let written = decimal_is_solid n n_small in
    let is = decimal_is_IsNumeral n n_small in
    let here : IsSignedIn (pos least) (pos most) (text_of written.0) =
    solid_in least most n written.0 (subst (IsNumeral 10) written.1 is.0) (ap (digits_value 10) (sym written.1) ∙ is.1) small low high in
    Accepts-accepts false (numbers least most) (decimal n) (subst (IsSignedIn (pos least) (pos most)) (sym written.1) here)
