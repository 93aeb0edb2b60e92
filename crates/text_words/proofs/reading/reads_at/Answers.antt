use Rattle.std.proofs.Common.{◌+◌, ◌-◌, codes, vec_len, sym, arith}
use Rattle.std.proofs.lemmas.Result.{err_from_is_err_and}
use Rattle.tcs_terms.specs.declared.limits.TheConstants.{MAX_READS}
use Rattle.text_words.specs.PayloadWords.{read_at, reads_at}
use Rattle.text_words.proofs.PartLoops.{goes_on, stops_there, is_full, is_done}
use Rattle.text_words.proofs.reading.reads_at.Goals as goal

pub returns-then-len-ge-MAX_READS : goal.returns-then-len-ge-MAX_READS
returns-then-len-ge-MAX_READS c =
    rw c.misfit.ensures
    (is_full (codes "r") (λ p. p.name) (read_at c.args.commit) c.parts.reads.items (MAX_READS - vec_len c.parts.reads) c.parts.words (reads_at c.args.commit c.args.words.now)
    (omega arith) (sym c.parts-test.ensures) c.parts.invariant.so_far)

pub returns-in_err-read : goal.returns-in_err-read
returns-in_err-read c =
    let p = err_from_is_err_and c.from_residual.result c.from_residual.ensures.1 in
    rw (p.1, p.2)
    (stops_there (codes "r") (λ p. p.name) (read_at c.args.commit) c.in_err-read.field-0.0 c.parts.reads.items (MAX_READS - vec_len c.parts.reads) (MAX_READS - (vec_len c.parts.reads + 1)) c.parts.words (reads_at c.args.commit c.args.words.now)
    (omega arith) (sym c.parts-test.ensures) (rw (c.last_read.ensures, c.deref.ensures.value, c.skip.ensures) at c.in_err-read.ensures) c.parts.invariant.so_far)

pub parts-preserved : goal.parts-preserved
parts-preserved c = record {
  few = omega arith;
  so_far = rw c.in_ok-push.ensures.items
      (goes_on (codes "r") (λ p. p.name) (read_at c.args.commit) c.parts.reads.items (MAX_READS - vec_len c.parts.reads) (MAX_READS - vec_len c.push.new.self) c.parts.words c.in_ok-read.read c.read_at.new.words (reads_at c.args.commit c.args.words.now)
      (omega (arith, c.in_ok-push.ensures.len)) (sym c.parts-test.ensures) (rw (c.last_read.ensures, c.deref.ensures.value, c.skip.ensures) at c.in_ok-read.ensures) c.parts.invariant.so_far);
}

pub returns : goal.returns
returns c =
    is_done (codes "r") (λ p. p.name) (read_at c.args.commit) c.parts.reads.items (MAX_READS - vec_len c.parts.reads) c.parts.words (reads_at c.args.commit c.args.words.now)
    (sym c.parts-test.ensures) c.parts.invariant.so_far
