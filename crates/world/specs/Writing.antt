-- What was written of messages so far, while the frames keep within the limit.
use Rattle.std.specs.Prelude.{◌≡◌, ℕ, ◌+◌, ◌≤◌, List, ◌++◌, length}
use Rattle.tcs_terms.specs.declared.messages.Outgoing.{Outgoing}
use Rattle.protocol.specs.Limit.{frame_bytes, frame_limit}
use Rattle.protocol.specs.World.{sent_by}
use Rattle.world.specs.declared.arena.Letter.{Letter}
use Rattle.world.specs.Frames.{frames, letters_of}

-- To these bytes and letters were added those of messages by one sender, all of them where the sum is within the limit.
pub record Grown (from : ℕ) (b0 : List ℕ) (l0 : List Letter) (sends : List Outgoing) (sum : ℕ) (b : List ℕ) (l : List Letter) : Type 0 where
  pub sum_is : sum ≡ length b0 + frame_bytes (sent_by from sends)
  pub bytes_are : sum ≤ frame_limit → b ≡ b0 ++ frames (sent_by from sends)
  pub letters_are : sum ≤ frame_limit → l ≡ l0 ++ letters_of (length b0) (sent_by from sends)
