-- The lowest slot that clashes gives the vote, since the index stands for the rows.
use Rattle.std.proofs.Common.{◌∙◌, ap}
use Rattle.conflict_index.specs.Candidates.{vote_at}
use Rattle.conflict_index.proofs.Voting.{way_gives_vote}
use Rattle.conflict_index.proofs.index.ConflictIndexVoteGuard.vote.Goals as goal

pub returns : goal.returns
returns g c =
    c.vote_at.ensures ∙ ap (λ o. vote_at c.args.rows.now o) c.lowest_in_way-lowest.ensures.lowest
    ∙ way_gives_vote g.C.Certifier.tests g.C.BySight.counts g.C.BySight.COUNTS_UNWRITTEN g.met.C.BySight.goes_by_sight g.met.C.BySight.counts_written
    c.args.self.now.kept c.args.new.now c.lowest_in_way-lowest.ensures.formed c.args.rows.now c.requires
