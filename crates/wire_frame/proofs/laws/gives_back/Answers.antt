use Rattle.std.proofs.Common.{refl}
use Rattle.wire_frame.specs.Spelling.{spell}
use Rattle.wire_frame.proofs.FrameLaws.{frame_again, is_only}
use Rattle.wire_frame.proofs.laws.gives_back.Goals as goal

pub returns-clause-read : goal.returns-clause-read
returns-clause-read c = frame_again

pub returns-clause-decoded : goal.returns-clause-decoded
returns-clause-decoded c = λ m r is e. is_only (spell m) m r is refl e
