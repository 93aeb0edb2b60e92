use Rattle.wire_frame.proofs.FrameLaws.{one_message}
use Rattle.wire_frame.proofs.laws.one_spelling.Goals as goal

pub returns : goal.returns
returns c = one_message
