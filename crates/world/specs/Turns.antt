-- What one event leaves of the messages, the history and the order, and what it tells.
use Rattle.std.specs.Prelude.{◌≡◌, ℕ, ◌+◌, ◌≤◌, ◌<◌, List, ◌++◌, length}
use Rattle.tcs_terms.specs.declared.ids.TxId.{TxId}
use Rattle.tcs_terms.specs.declared.inputs.Note.{Note}
use Rattle.protocol.specs.Limit.{frame_bytes, frame_limit}
use Rattle.protocol.specs.World.{Sent, sent_by}
use Rattle.world.specs.Casts.{Cast, Doing}
use Rattle.world.specs.Orders.{with_commits}
use Rattle.world.specs.declared.happenings.Happening.{Happening}
use Rattle.world.specs.declared.happenings.Stop.{Stop}
use Rattle.world.specs.declared.happenings.Stop.TheVariants.{SoupFull, OutOfMemory}

-- the messages, the history and the order of commits of a run
pub record LedgerState : Type 0 where
  pub messages : List Sent
  pub history : List Note
  pub order : List TxId

-- the frame bytes with what was done
abbrev pub sum_with : List Sent → Doing → ℕ
sum_with messages d = frame_bytes messages + frame_bytes (sent_by d.from d.sends)

-- what was done is kept, within the limit, and told
pub record Turned (h : Happening) (d : Doing) (cast : Cast) (old new : LedgerState) : Type 0 where
  pub result : h.result ≡ d.result
  pub note_count : h.notes ≡ length d.notes
  pub sent_count : h.sent ≡ length d.sends
  pub within : sum_with old.messages d ≤ frame_limit
  pub cast_is : cast ≡ d.after
  pub messages_are : new.messages ≡ old.messages ++ sent_by d.from d.sends
  pub history_is : new.history ≡ old.history ++ d.notes
  pub order_is : new.order ≡ with_commits old.order d.notes

-- nothing of it is kept but the cast, and the sum is told
pub record Filled (sum : ℕ) (d : Doing) (cast : Cast) (old new : LedgerState) : Type 0 where
  pub sum_is : sum ≡ sum_with old.messages d
  pub beyond : frame_limit < sum_with old.messages d
  pub cast_is : cast ≡ d.after
  pub same : new ≡ old

-- the same where the soup is full; of want of memory nothing is said
abbrev pub IsFilled : Stop → Doing → Cast → LedgerState → LedgerState → Type 0
IsFilled (SoupFull sum) d cast old new = Filled sum d cast old new
IsFilled OutOfMemory d cast old new = Unit {0}
