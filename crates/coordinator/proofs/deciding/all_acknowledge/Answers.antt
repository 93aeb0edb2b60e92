use Rattle.std.proofs.Common.{sym, ◌∙◌}
use Rattle.coordinator.proofs.Followers.{followers_among}
use Rattle.coordinator.proofs.deciding.all_acknowledge.Goals as goal

pub returns : goal.returns
returns c =
    c.each_leads_or_acknowledges.ensures
    ∙ rw (c.leader.ensures.leader, c.members.ensures.members) (sym (followers_among c.args.acks.now c.args.view.now.leader c.args.view.now.members))
