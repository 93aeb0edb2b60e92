use Rattle.std.proofs.Common.{sym, ◌∙◌, arith}
use Rattle.quorum_config.proofs.ShortNumbers.{stays_small, all_digits, next_value}
use Rattle.quorum_config.proofs.parts.value_of.Goals as goal

pub overflow_mul-value : goal.overflow_mul-value
overflow_mul-value c =
    let small = stays_small c.args.word.now c.digits.byte-index c.digits-test.true c.requires c.digits.invariant.digits in
    omega (arith, small, c.digits.invariant.value)

pub overflow_add-value : goal.overflow_add-value
overflow_add-value c =
    let small = stays_small c.args.word.now c.digits.byte-index c.digits-test.true c.requires c.digits.invariant.digits in
    omega (arith, small, c.digits.invariant.value, c.from.ensures, c.type_inv.word c.digits.byte-index)

pub digits-preserved : goal.digits-preserved
digits-preserved c =
    let digit = sym c.is_ascii_digit.ensures.value ∙ c.if-not-is_ascii_digit.false in
    let next = next_value c.args.word.now c.digits.byte-index c.digits-test.true digit in
    record {
      digits = all_digits c.args.word.now c.digits.byte-index c.digits-test.true c.digits.invariant.digits digit;
      value = rw (c.digits.invariant.value, c.from.ensures) (sym next);
    }
