use Rattle.std.proofs.Common.{◌≡◌}
use Rattle.std.specs.BTreeSet.{keys_between}
use Rattle.std.specs.declared.ops.Bound.TheVariants.{Included}
use Rattle.conflict_index.specs.Candidates.{lowest_at}
use Rattle.conflict_index.specs.Keeping.{place_cmp}
use Rattle.conflict_index.proofs.candidates.lowest_to.Given as goal

-- what is left to look at gives, from what was found, the lowest of all
abbrev pub invariant-loop-place : goal.invariant-loop-place
invariant-loop-place g l =
    lowest_at g.C.Certifier.tests l.query.rows.now l.query.new.now l.place-iterator l.lowest
    ≡ lowest_at g.C.Certifier.tests l.query.rows.now l.query.new.now
    (keys_between place_cmp (Included l.fn.from) (Included l.fn.last) l.places) l.fn.best
