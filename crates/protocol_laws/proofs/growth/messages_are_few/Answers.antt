use Rattle.protocol_laws.proofs.RunsOn.{messages-few}
use Rattle.protocol_laws.proofs.growth.messages_are_few.Goals as goal

pub returns : goal.returns
returns c = messages-few
