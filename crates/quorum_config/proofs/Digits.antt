-- Numbers of one digit and of two, each behind a space.
use Rattle.std.proofs.Common.{◌≡◌, ℕ, ◌+◌, ◌/◌, ◌%◌, ◌<◌, ◌≤◌, ◌^◌, [], ◌∷◌, refl, arith}
use Rattle.std.proofs.lemmas.Fmt.{decimal_digit, decimal_step}
use Rattle.schedule_text.specs.Text.{spaced_number}

pub one_digit : (n : ℕ) → n < 10 → spaced_number n ≡ 32 ∷ (48 + n) ∷ []
one_digit n one = rw (decimal_digit n one) refl

pub two_digits : (n : ℕ) → 10 ≤ n → n < 100 → spaced_number n ≡ 32 ∷ (48 + n / 10) ∷ (48 + n % 10) ∷ []
two_digits n more two =
    let tens : n / 10 < 10 = omega arith in
    let fits : n < 2 ^ 64 = omega arith in
    rw (decimal_step n more fits, decimal_digit (n / 10) tens) refl
