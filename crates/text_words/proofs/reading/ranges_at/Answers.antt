use Rattle.std.proofs.Common.{◌+◌, ◌-◌, codes, vec_len, sym, arith}
use Rattle.std.proofs.lemmas.Result.{err_from_is_err_and}
use Rattle.tcs_terms.specs.declared.limits.TheConstants.{MAX_RANGES}
use Rattle.text_words.specs.PayloadWords.{range_at, ranges_at}
use Rattle.text_words.proofs.PartLoops.{goes_on, stops_there, is_full, is_done}
use Rattle.text_words.proofs.reading.ranges_at.Goals as goal

pub returns-then-len-ge-MAX_RANGES : goal.returns-then-len-ge-MAX_RANGES
returns-then-len-ge-MAX_RANGES c =
    rw c.misfit.ensures
    (is_full (codes "q") (λ p. p.upto) (range_at c.args.commit) c.parts.ranges.items (MAX_RANGES - vec_len c.parts.ranges) c.parts.words (ranges_at c.args.commit c.args.words.now)
    (omega arith) (sym c.parts-test.ensures) c.parts.invariant.so_far)

pub returns-in_err-range : goal.returns-in_err-range
returns-in_err-range c =
    let p = err_from_is_err_and c.from_residual.result c.from_residual.ensures.1 in
    rw (p.1, p.2)
    (stops_there (codes "q") (λ p. p.upto) (range_at c.args.commit) c.in_err-range.field-0.0 c.parts.ranges.items (MAX_RANGES - vec_len c.parts.ranges) (MAX_RANGES - (vec_len c.parts.ranges + 1)) c.parts.words (ranges_at c.args.commit c.args.words.now)
    (omega arith) (sym c.parts-test.ensures) (rw (c.last_end.ensures, c.deref.ensures.value, c.skip.ensures) at c.in_err-range.ensures) c.parts.invariant.so_far)

pub parts-preserved : goal.parts-preserved
parts-preserved c = record {
  few = omega arith;
  so_far = rw c.in_ok-push.ensures.items
      (goes_on (codes "q") (λ p. p.upto) (range_at c.args.commit) c.parts.ranges.items (MAX_RANGES - vec_len c.parts.ranges) (MAX_RANGES - vec_len c.push.new.self) c.parts.words c.in_ok-range.range c.range_at.new.words (ranges_at c.args.commit c.args.words.now)
      (omega (arith, c.in_ok-push.ensures.len)) (sym c.parts-test.ensures) (rw (c.last_end.ensures, c.deref.ensures.value, c.skip.ensures) at c.in_ok-range.ensures) c.parts.invariant.so_far);
}

pub returns : goal.returns
returns c =
    is_done (codes "q") (λ p. p.upto) (range_at c.args.commit) c.parts.ranges.items (MAX_RANGES - vec_len c.parts.ranges) c.parts.words (ranges_at c.args.commit c.args.words.now)
    (sym c.parts-test.ensures) c.parts.invariant.so_far
