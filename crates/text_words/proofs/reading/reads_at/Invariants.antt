use Rattle.std.proofs.Common.{◌≡◌, ◌+◌, ◌-◌, ◌≤◌, codes, vec_len}
use Rattle.tcs_terms.specs.declared.limits.TheConstants.{MAX_READS}
use Rattle.text_words.specs.PayloadWords.{parts_at, read_at, reads_at, last_read}
use Rattle.text_words.proofs.PartLoops.{with_front}
use Rattle.text_words.proofs.reading.reads_at.Given as goal

abbrev pub invariant-parts : goal.invariant-parts
invariant-parts l = record {
  few : vec_len l.reads ≤ MAX_READS;
  so_far : with_front l.reads.items (parts_at (codes "r") (λ p. p.name) (read_at l.commit) (MAX_READS - vec_len l.reads) (last_read l.reads.items) l.words) ≡ reads_at l.commit l.initial.words;
}

abbrev pub decreases-parts : goal.decreases-parts
decreases-parts l = MAX_READS + 1 - vec_len l.reads
