-- What one more event, or one more note, adds to a run.
use Rattle.std.specs.Prelude.{◌≡◌, ℕ, ◌≤◌, ◌^◌, if◌then◌else◌, List, [], ◌∷◌, ◌++◌, length, Option, Some, None}
use Rattle.std.specs.List.{list_any}
use Rattle.tcs_terms.specs.declared.ids.TxId.{TxId}
use Rattle.tcs_terms.specs.declared.inputs.Event.{Event}
use Rattle.tcs_terms.specs.Logs.{same_txn}
use Rattle.protocol.specs.Limit.{Progress, frame_bytes, frame_limit}
use Rattle.protocol.specs.Limit.Progress.{Live, Ended}
use Rattle.protocol.specs.World.{World, Happening}

-- the order with one more committed transaction: it goes to the end, unless it stands there already
abbrev pub with_commit : List TxId → Option TxId → List TxId
with_commit order None = order
with_commit order (Some txn) = if list_any (same_txn txn) order then order else order ++ txn ∷ []

-- an event adds what it sends to the messages, and at most one note to the history
pub record AddsTo (w : World) (h : Happening) : Type 0 where
  pub messages : h.after.messages ≡ w.messages ++ h.sent
  pub history : h.after.history ≡ w.history ++ h.notes
  pub one : length h.notes ≤ 1

-- The counts of a run that goes on: its events, the bytes of its frames, fewer messages than these have bytes, and at
-- most one note an event.
pub record IsCounted (events : List Event) (w : World) (count bytes : ℕ) : Type 0 where
  pub counted : count ≡ length events
  pub summed : bytes ≡ frame_bytes w.messages
  pub within : bytes ≤ frame_limit
  pub messages : length w.messages ≤ bytes
  pub few : length w.messages ≤ 2 ^ 28
  pub notes : length w.history ≤ count

-- the same while the run is live
abbrev pub CountsHold : List Event → Progress → Type 0
CountsHold events (Live w count bytes) = IsCounted events w count bytes
CountsHold events (Ended w count bytes) = Unit {0}
