use Rattle.std.proofs.Common.{◌≡◌, true, false}
use Rattle.prober.proofs.ProposalLaws.{proposed-IsMembership}
use Rattle.prober.proofs.proposals.proposed.Goals as goal

pub unreachable-requires : goal.unreachable-requires
unreachable-requires c =
    let sound = proposed-IsMembership c.args.me c.args.shard c.args.epoch c.args.want.now c.args.leader c.requires.me c.requires.movable c.requires.epoch c.requires.leader in
    let built : false ≡ true = c.in-Err.ensures.ok.1 (rw (c.in_ok-members.ensures, c.list.ensures) sound) in
    absurd (cc built)
