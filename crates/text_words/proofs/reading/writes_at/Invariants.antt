use Rattle.std.proofs.Common.{◌≡◌, ◌+◌, ◌-◌, ◌≤◌, codes, vec_len}
use Rattle.tcs_terms.specs.declared.limits.TheConstants.{MAX_WRITES}
use Rattle.text_words.specs.PayloadWords.{parts_at, write_at, writes_at, last_write}
use Rattle.text_words.proofs.PartLoops.{with_front}
use Rattle.text_words.proofs.reading.writes_at.Given as goal

abbrev pub invariant-parts : goal.invariant-parts
invariant-parts l = record {
  few : vec_len l.writes ≤ MAX_WRITES;
  so_far : with_front l.writes.items (parts_at (codes "w") (λ p. p.name) (write_at l.reads) (MAX_WRITES - vec_len l.writes) (last_write l.writes.items) l.words) ≡ writes_at l.reads l.initial.words;
}

abbrev pub decreases-parts : goal.decreases-parts
decreases-parts l = MAX_WRITES + 1 - vec_len l.writes
