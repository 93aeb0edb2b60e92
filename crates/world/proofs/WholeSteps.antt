-- A step of the world, told by what its turn left.
use Rattle.std.proofs.Common.{◌≡◌, ℕ, ◌+◌, ◌++◌, length, Some, None, Ok, Err, sym, ap, subst, ◌∙◌}
use Rattle.std.proofs.lemmas.List.{length-map}
use Rattle.std.proofs.lemmas.List.Sums.{sum_by-append}
use Rattle.tcs_terms.specs.declared.inputs.Event.{Event}
use Rattle.tcs_terms.specs.declared.messages.Outgoing.{Outgoing}
use Rattle.tcs_terms.specs.Setups.{Deployment}
use Rattle.tcs_laws.specs.Certification.{Tests}
use Rattle.wire_frame.specs.Spelling.{spell}
use Rattle.protocol.specs.History.{order_of}
use Rattle.protocol.specs.Limit.{Step, frame_bytes, remains, limited_step}
use Rattle.protocol.specs.Limit.Progress.{Live, Ended}
use Rattle.protocol.specs.World.{Sent, sent_by}
use Rattle.tcs_terms.specs.Runs.{MayStand}
use Rattle.world.specs.declared.happenings.Happening.{Happening}
use Rattle.world.specs.declared.happenings.Stop.TheVariants as stops
use Rattle.world.specs.Casts.{Cast, does}
use Rattle.world.specs.Orders.{with_commits}
use Rattle.world.specs.Soundness.{world_in, GoesOn, IsSound}
use Rattle.world.specs.Turns.{LedgerState, sum_with, Turned, Filled}
use Rattle.world.specs.WorldState.{progress_of, Tells}
use Rattle.world.proofs.CommitOrder.{order-after}
use Rattle.world.proofs.Steps.{step_goes, step_ends, goes_on_after}

-- the definition's step in a run that goes on
abbrev pub step_of : Tests → Deployment → Cast → LedgerState → ℕ → Event → Step
step_of tests setup cast old events event =
    limited_step tests setup.version (progress_of None (world_in cast old.messages old.history) events (frame_bytes old.messages)) event

-- the run goes on
pub record GoesTo (tests : Tests) (setup : Deployment) (cast : Cast) (old : LedgerState) (events : ℕ) (event : Event) (h : Happening) (cast2 : Cast) (new : LedgerState) : Type 0 where
  pub answer : Tells (Ok h) (step_of tests setup cast old events event).answer
  pub progress : progress_of None (world_in cast2 new.messages new.history) (events + 1) (frame_bytes new.messages) ≡ (step_of tests setup cast old events event).after
  pub sound : IsSound None setup cast2 new

pub goes_to : (tests : Tests) (setup : Deployment) (cast : Cast) (old : LedgerState) (events : ℕ) (event : Event) (h : Happening) (cast2 : Cast) (new : LedgerState)
    → IsSound None setup cast old → MayStand setup event → Turned h (does tests cast old.messages event) cast2 old new → GoesTo tests setup cast old events event h cast2 new
goes_to tests setup cast old events event h cast2 new s may t =
    let d = does tests cast old.messages event in
    let is = step_goes tests setup cast old.messages old.history events event s.goes_on may t.within in
    let bytes : frame_bytes new.messages ≡ sum_with old.messages d =
    ap frame_bytes t.messages_are ∙ sum_by-append (λ (m : Sent). length (spell m.message)) old.messages (sent_by d.from d.sends) in
    record {
      answer = subst (λ a. Tells (Ok h) a) (sym (ap (λ (x : Step). x.answer) is))
          (t.result, t.note_count, t.sent_count ∙ sym (length-map d.sends (λ (o : Outgoing). let m : Sent = record { from = d.from; to = o.to; message = o.message } in m)));
      progress = (λ i. Live (world_in (t.cast_is i) (t.messages_are i) (t.history_is i)) (events + 1) (bytes i)) ∙ sym (ap (λ (x : Step). x.after) is);
      sound = record {
        order_is = t.order_is ∙ ap (λ o. with_commits o d.notes) s.order_is ∙ sym (order-after old.history d.notes) ∙ ap order_of (sym t.history_is);
        goes_on = subst (λ c. GoesOn setup c new.messages new.history) (sym t.cast_is)
            (subst (λ ms. GoesOn setup d.after ms new.history) (sym t.messages_are)
            (subst (λ ns. GoesOn setup d.after (old.messages ++ sent_by d.from d.sends) ns) (sym t.history_is)
            (goes_on_after tests setup cast old.messages old.history event s.goes_on may t.within)));
      };
    }

-- the run ends
pub record EndsWith (tests : Tests) (setup : Deployment) (cast : Cast) (old : LedgerState) (events : ℕ) (event : Event) (sum : ℕ) (cast2 : Cast) (new : LedgerState) : Type 0 where
  pub answer : Tells (Err (stops.SoupFull sum)) (step_of tests setup cast old events event).answer
  pub progress : progress_of (Some sum) (world_in cast2 new.messages new.history) events (frame_bytes new.messages) ≡ (step_of tests setup cast old events event).after
  pub sound : IsSound (Some sum) setup cast2 new

pub ends_with : (tests : Tests) (setup : Deployment) (cast : Cast) (old : LedgerState) (events : ℕ) (event : Event) (sum : ℕ) (cast2 : Cast) (new : LedgerState)
    → IsSound None setup cast old → MayStand setup event → Filled sum (does tests cast old.messages event) cast2 old new → EndsWith tests setup cast old events event sum cast2 new
ends_with tests setup cast old events event sum cast2 new s may f =
    let d = does tests cast old.messages event in
    let is = step_ends tests setup cast old.messages old.history events event s.goes_on may f.beyond in
    record {
      answer = subst (λ a. Tells (Err (stops.SoupFull sum)) a) (sym (ap (λ (x : Step). x.answer) is)) f.sum_is;
      progress = (λ i. Ended (remains (world_in (f.cast_is i) (f.same i).messages (f.same i).history)) events (f.sum_is i)) ∙ sym (ap (λ (x : Step). x.after) is);
      sound = record { order_is = subst (λ l. l.order ≡ order_of l.history) (sym f.same) s.order_is; goes_on = tt };
    }
