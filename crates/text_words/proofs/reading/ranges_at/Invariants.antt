use Rattle.std.proofs.Common.{◌≡◌, ◌+◌, ◌-◌, ◌≤◌, codes, vec_len}
use Rattle.tcs_terms.specs.declared.limits.TheConstants.{MAX_RANGES}
use Rattle.text_words.specs.PayloadWords.{parts_at, range_at, ranges_at, last_end}
use Rattle.text_words.proofs.PartLoops.{with_front}
use Rattle.text_words.proofs.reading.ranges_at.Given as goal

abbrev pub invariant-parts : goal.invariant-parts
invariant-parts l = record {
  few : vec_len l.ranges ≤ MAX_RANGES;
  so_far : with_front l.ranges.items (parts_at (codes "q") (λ p. p.upto) (range_at l.commit) (MAX_RANGES - vec_len l.ranges) (last_end l.ranges.items) l.words) ≡ ranges_at l.commit l.initial.words;
}

abbrev pub decreases-parts : goal.decreases-parts
decreases-parts l = MAX_RANGES + 1 - vec_len l.ranges
