-- What the arena of frames tells of a message, and of one that was not kept.
use Rattle.std.specs.Prelude.{◌≡◌, ℕ, ◌<◌, List, Option, Some, None}
use Rattle.tcs_terms.specs.Messages.{InRange}
use Rattle.wire_frame.specs.Spelling.{spell}
use Rattle.protocol.specs.Limit.{frame_limit}
use Rattle.protocol.specs.World.{Sent}
use Rattle.world.specs.declared.arena.Delivery.{Delivery}
use Rattle.world.specs.declared.happenings.Posted.{Posted}
use Rattle.world.specs.declared.happenings.Stop.{Stop}
use Rattle.world.specs.declared.happenings.Stop.TheVariants.{SoupFull, OutOfMemory}

-- the ends and the frame of a message in range
pub record Posts (p : Posted) (s : Sent) : Type 0 where
  pub from : p.from ≡ s.from
  pub dest : p.to ≡ s.to
  pub frame : p.frame.now ≡ spell s.message
  pub in_range : InRange s.message

-- a message is told exactly where there is one
abbrev pub IsPosted : Option Posted → Option Sent → Type 0
IsPosted None None = Unit {0}
IsPosted None (Some s) = ⊥
IsPosted (Some p) None = ⊥
IsPosted (Some p) (Some s) = Posts p s

-- what is delivered is the message that was sent
pub record Delivers (d : Delivery) (s : Sent) : Type 0 where
  pub is : record { from = d.from; to = d.to; message = d.message } ≡ s
  pub in_range : InRange d.message

abbrev pub IsDelivery : Option Delivery → Option Sent → Type 0
IsDelivery None None = Unit {0}
IsDelivery None (Some s) = ⊥
IsDelivery (Some d) None = ⊥
IsDelivery (Some d) (Some s) = Delivers d s

-- a full soup tells the sum that would be
abbrev pub IsFull : ℕ → Stop → Type 0
IsFull bytes (SoupFull sum) = (sum ≡ bytes) × (frame_limit < bytes)
IsFull bytes OutOfMemory = Unit {0}

-- the frame of a message, exactly where there is one
abbrev pub IsFrame : Option (List ℕ) → Option Sent → Type 0
IsFrame None None = Unit {0}
IsFrame None (Some s) = ⊥
IsFrame (Some frame) None = ⊥
IsFrame (Some frame) (Some s) = frame ≡ spell s.message
