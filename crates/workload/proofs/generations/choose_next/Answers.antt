use Rattle.workload.proofs.Steps.{room_before, sent_before}
use Rattle.workload.proofs.generations.choose_next.Goals as goal

pub choose-requires-clause-sent : goal.choose-requires-clause-sent
choose-requires-clause-sent g c = sent_before c.args.plan.seed c.args.plan.count c.args.place c.args.course.now c.args.world.now c.requires.stands

pub choose-requires-clause-room : goal.choose-requires-clause-room
choose-requires-clause-room g c = room_before c.args.plan.seed c.args.plan.count c.args.place c.args.course.now c.args.world.now c.requires.place c.requires.most c.requires.stands
