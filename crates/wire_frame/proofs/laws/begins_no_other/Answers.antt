use Rattle.wire_frame.proofs.FrameLaws.{begins_none}
use Rattle.wire_frame.proofs.laws.begins_no_other.Goals as goal

pub returns : goal.returns
returns c = λ m n more is_m is_n same. (begins_none m n more is_m is_n same).1
