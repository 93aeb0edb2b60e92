-- What one event leaves, told by what was kept of it.
use Rattle.std.proofs.Common.{◌≡◌, ◌+◌, ◌<◌, ◌≤◌, List, ◌++◌, length, ap, subst, ◌∙◌}
use Rattle.tcs_terms.specs.declared.messages.Outgoing.{Outgoing}
use Rattle.tcs_terms.specs.declared.inputs.Note.{Note}
use Rattle.protocol.specs.Limit.{frame_bytes, frame_limit}
use Rattle.protocol.specs.World.{sent_by}
use Rattle.world.specs.declared.casts.Doing.{Doing as Told}
use Rattle.world.specs.declared.happenings.Happening.{Happening}
use Rattle.world.specs.declared.happenings.Stop.{Stop}
use Rattle.world.specs.declared.happenings.Stop.TheVariants.{SoupFull, OutOfMemory}
use Rattle.world.specs.Casts.{Cast, Doing}
use Rattle.world.specs.Doings.{IsDone}
use Rattle.world.specs.Orders.{with_commits}
use Rattle.world.specs.Posting.{IsFull}
use Rattle.world.specs.Turns.{LedgerState, sum_with, Turned, IsFilled}

-- what the code sends is what is sent
sent_same : (told : Told) (now : Cast) (d : Doing) → IsDone told now d → sent_by told.from told.sends.items ≡ sent_by d.from d.sends
sent_same told now d is = ap (λ n. sent_by n told.sends.items) is.from ∙ ap (λ os. sent_by d.from os) is.sends

pub filled : (stop : Stop) (told : Told) (now : Cast) (d : Doing) (old new : LedgerState) (sends : List Outgoing) → IsDone told now d → sends ≡ told.sends.items → new ≡ old
    → IsFull (frame_bytes old.messages + frame_bytes (sent_by told.from sends)) stop → IsFilled stop d now old new
filled (SoupFull sum) told now d old new sends is all same full =
    let bytes : frame_bytes old.messages + frame_bytes (sent_by told.from sends) ≡ sum_with old.messages d =
    ap (λ os. frame_bytes old.messages + frame_bytes (sent_by told.from os)) all ∙ ap (λ ms. frame_bytes old.messages + frame_bytes ms) (sent_same told now d is) in
    record {
      sum_is = full.0 ∙ bytes;
      beyond = subst (λ n. frame_limit < n) bytes full.1;
      cast_is = is.after;
      same = same;
    }
filled OutOfMemory told now d old new sends is all same full = tt

pub turned : (h : Happening) (told : Told) (now : Cast) (d : Doing) (old new : LedgerState) (sends : List Outgoing) (notes : List Note) → IsDone told now d
    → sends ≡ told.sends.items → notes ≡ told.notes.items
    → h.result ≡ told.result → h.notes ≡ length told.notes.items → h.sent ≡ length told.sends.items
    → frame_bytes old.messages + frame_bytes (sent_by told.from sends) ≤ frame_limit
    → new.messages ≡ old.messages ++ sent_by told.from sends → new.history ≡ old.history ++ told.notes.items → new.order ≡ with_commits old.order notes
    → Turned h d now old new
turned h told now d old new sends notes is all noted result note_count sent_count within messages history order =
    let same : sent_by told.from sends ≡ sent_by d.from d.sends = ap (λ os. sent_by told.from os) all ∙ sent_same told now d is in
    record {
      result = result ∙ is.result;
      note_count = note_count ∙ ap length is.notes;
      sent_count = sent_count ∙ ap length is.sends;
      within = subst (λ ms. frame_bytes old.messages + frame_bytes ms ≤ frame_limit) same within;
      cast_is = is.after;
      messages_are = messages ∙ ap (λ ms. old.messages ++ ms) same;
      history_is = history ∙ ap (λ ns. old.history ++ ns) is.notes;
      order_is = order ∙ ap (λ ns. with_commits old.order ns) (noted ∙ is.notes);
    }
