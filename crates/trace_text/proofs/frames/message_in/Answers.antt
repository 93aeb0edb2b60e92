use Rattle.std.proofs.Common.{◌≡◌, ℕ, List, Some, None, Result, Ok, Err, refl, sym}
use Rattle.std.specs.Result.{result_ok}
use Rattle.tcs_terms.specs.declared.messages.Message.{Message}
use Rattle.wire_frame.specs.declared.faults.FrameReason.{FrameReason}
use Rattle.wire_frame.specs.declared.faults.Fault.{Fault}
use Rattle.wire_frame.specs.Frames.{read_frame, reason_and_place, fault}
use Rattle.trace_text.proofs.frames.message_in.Goals as goal

no_message : (bytes : List ℕ) (x : FrameReason × ℕ) → fault bytes ≡ Some x → result_ok (read_frame bytes) ≡ None
unfolding fault
no_message bytes x h = go (read_frame bytes) h where
  go : (r : Result Message Fault) → reason_and_place bytes r ≡ Some x → result_ok r ≡ None
  go (Ok m) e = absurd cc
  go (Err f) e = refl

pub returns-in-Err-Bad : goal.returns-in-Err-Bad
returns-in-Err-Bad c = sym (no_message c.args.frame.now _ (rw c.in-Err-Bad.field-0-is at c.in-Err-Bad.ensures.exact))
