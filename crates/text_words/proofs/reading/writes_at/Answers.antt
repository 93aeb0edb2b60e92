use Rattle.std.proofs.Common.{◌+◌, ◌-◌, codes, vec_len, sym, arith}
use Rattle.std.proofs.lemmas.Result.{err_from_is_err_and}
use Rattle.tcs_terms.specs.declared.limits.TheConstants.{MAX_WRITES}
use Rattle.text_words.specs.PayloadWords.{write_at, writes_at}
use Rattle.text_words.proofs.PartLoops.{goes_on, stops_there, is_full, is_done}
use Rattle.text_words.proofs.reading.writes_at.Goals as goal

pub returns-then-len-ge-MAX_WRITES : goal.returns-then-len-ge-MAX_WRITES
returns-then-len-ge-MAX_WRITES c =
    rw c.misfit.ensures
    (is_full (codes "w") (λ p. p.name) (write_at c.args.reads.now) c.parts.writes.items (MAX_WRITES - vec_len c.parts.writes) c.parts.words (writes_at c.args.reads.now c.args.words.now)
    (omega arith) (sym c.parts-test.ensures) c.parts.invariant.so_far)

pub returns-in_err-write : goal.returns-in_err-write
returns-in_err-write c =
    let p = err_from_is_err_and c.from_residual.result c.from_residual.ensures.1 in
    rw (p.1, p.2)
    (stops_there (codes "w") (λ p. p.name) (write_at c.args.reads.now) c.in_err-write.field-0.0 c.parts.writes.items (MAX_WRITES - vec_len c.parts.writes) (MAX_WRITES - (vec_len c.parts.writes + 1)) c.parts.words (writes_at c.args.reads.now c.args.words.now)
    (omega arith) (sym c.parts-test.ensures) (rw (c.last_write.ensures, c.deref.ensures.value, c.skip.ensures) at c.in_err-write.ensures) c.parts.invariant.so_far)

pub parts-preserved : goal.parts-preserved
parts-preserved c = record {
  few = omega arith;
  so_far = rw c.in_ok-push.ensures.items
      (goes_on (codes "w") (λ p. p.name) (write_at c.args.reads.now) c.parts.writes.items (MAX_WRITES - vec_len c.parts.writes) (MAX_WRITES - vec_len c.push.new.self) c.parts.words c.in_ok-write.write c.write_at.new.words (writes_at c.args.reads.now c.args.words.now)
      (omega (arith, c.in_ok-push.ensures.len)) (sym c.parts-test.ensures) (rw (c.last_write.ensures, c.deref.ensures.value, c.skip.ensures) at c.in_ok-write.ensures) c.parts.invariant.so_far);
}

pub returns : goal.returns
returns c =
    is_done (codes "w") (λ p. p.name) (write_at c.args.reads.now) c.parts.writes.items (MAX_WRITES - vec_len c.parts.writes) c.parts.words (writes_at c.args.reads.now c.args.words.now)
    (sym c.parts-test.ensures) c.parts.invariant.so_far
