use Rattle.protocol_laws.proofs.RunsOn.{event-adds}
use Rattle.protocol_laws.proofs.growth.event_adds.Goals as goal

pub returns : goal.returns
returns c = event-adds
