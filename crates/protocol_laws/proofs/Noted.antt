-- The history after an event: as it was, or with what a node that acted notes.
use Rattle.std.proofs.Common.{◌≡◌, ◌++◌, length, inl, inr, ◌∙◌, ap, refl, append-nil}
use Rattle.tcs_terms.specs.declared.inputs.Event.{Event}
use Rattle.tcs_terms.specs.declared.inputs.Note.{Note}
use Rattle.tcs_terms.specs.Setups.{Deployment}
use Rattle.tcs_laws.specs.Certification.{Tests}
use Rattle.protocol.specs.World.{Happening}
use Rattle.protocol.specs.Invariant.Time.{Moment, goes_to, StandsIn, WasNoted}
use Rattle.protocol.proofs.Lists.{StandsIn-append}
use Rattle.protocol_laws.specs.Change.{Change}
use Rattle.protocol_laws.specs.Change.Change.{Passes, Stops, Acts, AtService}
use Rattle.protocol_laws.specs.Turn.{Turn}
use Rattle.protocol_laws.proofs.Came.{Acting, acting_of}
use Rattle.protocol_laws.proofs.ServiceSays.{serves_no_notes}

pub data HistoryCame (tests : Tests) (setup : Deployment) (t : Moment) (event : Event) (h : Happening) : Type 0 where
  NothingNoted : h.after.history ≡ t.now.history → HistoryCame tests setup t event h
  NodeNotes : (a : Acting tests setup t event h) → h.after.history ≡ t.now.history ++ a.out.notes → HistoryCame tests setup t event h

history_by : (tests : Tests) (setup : Deployment) (t : Moment) (event : Event) (h : Happening) → Change tests setup.version t.now event h → HistoryCame tests setup t event h
history_by tests setup t event h (Passes e result q) = NothingNoted refl
history_by tests setup t event h (Stops name) = NothingNoted refl
history_by tests setup t event h (Acts e name node input out comes found there named running effect) = NodeNotes (acting_of tests setup t e name node input out comes there named effect) refl
history_by tests setup t event h (AtService number from message sent out a b c serves) =
    NothingNoted (ap (λ ns. t.now.history ++ ns) (serves_no_notes (length t.now.nodes) t.now.configs from message out serves) ∙ append-nil t.now.history)

pub history_came : (tests : Tests) (setup : Deployment) (t : Moment) (event : Event) (h : Happening) → Turn tests setup t event h → HistoryCame tests setup t event h
history_came tests setup t event h turn = history_by tests setup t event h turn.change

-- a note of the history then
pub data NoteCame (tests : Tests) (setup : Deployment) (t : Moment) (event : Event) (h : Happening) (note : Note) : Type 0 where
  WasNotedBefore : WasNoted t note → NoteCame tests setup t event h note
  NodeNoted : (a : Acting tests setup t event h) → StandsIn note a.out.notes → NoteCame tests setup t event h note

pub note_came : (tests : Tests) (setup : Deployment) (t : Moment) (event : Event) (h : Happening) (note : Note) → Turn tests setup t event h → WasNoted (goes_to t h.after) note → NoteCame tests setup t event h note
note_came tests setup t event h note turn s = go (history_came tests setup t event h turn)
  where
    go : HistoryCame tests setup t event h → NoteCame tests setup t event h note
    go (NothingNoted e) = WasNotedBefore (rw e at s)
    go (NodeNotes a e) = elim (StandsIn-append t.now.history a.out.notes note (rw e at s)) [ inl p ↦ WasNotedBefore p | inr p ↦ NodeNoted a p ]
