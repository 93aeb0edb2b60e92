-- What an event notes: a beginning of the payload that it hands in, or a reading of the object that it reads.
use Rattle.std.proofs.Common.{◌≡◌, ℕ, List, [], ◌∷◌, ◌⊎◌, inl, inr, refl, ap}
use Rattle.tcs_terms.specs.declared.inputs.Event.{Event}
use Rattle.tcs_terms.specs.declared.inputs.Event.TheVariants.{Call}
use Rattle.tcs_terms.specs.declared.inputs.Input.{Input}
use Rattle.tcs_terms.specs.declared.inputs.Input.TheVariants as inputs
use Rattle.tcs_terms.specs.declared.inputs.Note.{Note}
use Rattle.tcs_terms.specs.declared.inputs.Note.TheVariants as notes
use Rattle.tcs_terms.specs.declared.messages.Outgoing.{Outgoing}
use Rattle.tcs_terms.specs.declared.ids.TxId.{TxId}
use Rattle.tcs_laws.specs.Certification.{Tests}
use Rattle.protocol.specs.Cases.{decision_of}
use Rattle.protocol.specs.ClientRules.{next_txn}
use Rattle.protocol.specs.Outcomes.{Out}
use Rattle.protocol.specs.Records.{Case, Coordinator, NodeRecord}
use Rattle.protocol.specs.Versions.{read_of, value_or_empty}
use Rattle.protocol.specs.World.{World, Happening, world_step}
use Rattle.protocol_laws.specs.Change.{Comes, Change}
use Rattle.protocol_laws.specs.Change.Comes.{ByCall, ByMessage}
use Rattle.protocol_laws.specs.Change.Change.{Passes, Stops, Acts, AtService}
use Rattle.protocol_laws.specs.Effect.{GoesOn, Effect}
use Rattle.protocol_laws.specs.Effect.GoesOn.{Waiting, Decides}
use Rattle.protocol_laws.specs.Effect.Effect.{Rests, Certifies, TakesOver, Reads, Votes, Acknowledges}
use Rattle.protocol_laws.proofs.ChangeOf.{change_of}
use Rattle.protocol_laws.proofs.ServiceSays.{serves_no_notes}

-- what an input may be noted as
abbrev pub NotesOf : Input → Note → Type 0
NotesOf input (notes.Begin txn payload) = input ≡ inputs.Certify payload
NotesOf input (notes.Take txn) = Unit {0}
NotesOf input (notes.ReadValue name version value) = input ≡ inputs.ReadName name
NotesOf input (notes.Decide txn decision) = Unit {0}

-- one note, of this input
pub record OneOf (input : Input) (ns : List Note) : Type 0 where
  pub note : Note
  pub is : ns ≡ note ∷ []
  pub fits : NotesOf input note

goes_on-notes : (input : Input) (c : Coordinator) (txn : TxId) (case : Case) (sends : List Outgoing) (out : Out Coordinator) → GoesOn c txn case sends out → (out.notes ≡ []) ⊎ OneOf input out.notes
goes_on-notes input c txn case sends o (Waiting h) = inl refl
goes_on-notes input c txn case sends o (Decides h) = inr (record { note = notes.Decide txn (decision_of case.parts); is = refl; fits = tt })

effect_notes : (tests : Tests) (version : ℕ) (node : NodeRecord) (input : Input) (out : Out NodeRecord) → Effect tests version node input out → (out.notes ≡ []) ⊎ OneOf input out.notes
effect_notes tests version node i o (Rests input answer notices h) = inl refl
effect_notes tests version node i o (Certifies payload h case e) = inr (record { note = notes.Begin (next_txn node) payload; is = refl; fits = refl })
effect_notes tests version node i o (TakesOver txn row a b c d case e) = inr (record { note = notes.Take txn; is = refl; fits = tt })
effect_notes tests version node i o (Reads name a) =
    inr (record { note = notes.ReadValue name (read_of node.rows name).version (value_or_empty (read_of node.rows name).value); is = refl; fits = refl })
effect_notes tests version node i o (Votes from shard epoch entry case part view a b c d out g) = goes_on-notes i _ _ _ _ out g
effect_notes tests version node i o (Acknowledges from shard epoch slot txn case part view a b c d out g) = goes_on-notes i _ _ _ _ out g
effect_notes tests version node i o _ = inl refl

-- what an event may be noted as
abbrev pub NotedAt : Event → Note → Type 0
NotedAt event (notes.Begin txn payload) = (node : ℕ) × (event ≡ Call node (inputs.Certify payload))
NotedAt event (notes.Take txn) = Unit {0}
NotedAt event (notes.ReadValue name version value) = (node : ℕ) × (event ≡ Call node (inputs.ReadName name))
NotedAt event (notes.Decide txn decision) = Unit {0}

comes_notes : (w : World) (name : ℕ) (event : Event) (input : Input) (n : Note) → Comes w name event input → NotesOf input n → NotedAt event n
comes_notes w name e i (notes.Begin txn payload) (ByCall input) f = (name, ap (Call name) f)
comes_notes w name e i (notes.Take txn) (ByCall input) f = tt
comes_notes w name e i (notes.ReadValue object version value) (ByCall input) f = (name, ap (Call name) f)
comes_notes w name e i (notes.Decide txn decision) (ByCall input) f = tt
comes_notes w name e i (notes.Begin txn payload) (ByMessage number from message sent a b c) f = absurd (cc f)
comes_notes w name e i (notes.Take txn) (ByMessage number from message sent a b c) f = tt
comes_notes w name e i (notes.ReadValue object version value) (ByMessage number from message sent a b c) f = absurd (cc f)
comes_notes w name e i (notes.Decide txn decision) (ByMessage number from message sent a b c) f = tt

-- one note, of this event
pub record OneAt (event : Event) (ns : List Note) : Type 0 where
  pub note : Note
  pub is : ns ≡ note ∷ []
  pub fits : NotedAt event note

change_notes : (tests : Tests) (version : ℕ) (w : World) (event : Event) (h : Happening) → Change tests version w event h → (h.notes ≡ []) ⊎ OneAt event h.notes
change_notes tests version w e h (Passes event result a) = inl refl
change_notes tests version w e h (Stops name) = inl refl
change_notes tests version w e h (Acts event name node input out comes found s named up effect) = go (effect_notes tests version node input out effect) where
  go : (out.notes ≡ []) ⊎ OneOf input out.notes → (out.notes ≡ []) ⊎ OneAt event out.notes
  go (inl none) = inl none
  go (inr one) = inr (record { note = one.note; is = one.is; fits = comes_notes w name event input one.note comes one.fits })
change_notes tests version w e h (AtService number from message sent out is found s serves) = inl (serves_no_notes _ _ _ _ out serves)

pub event_notes : (tests : Tests) (version : ℕ) (w : World) (event : Event) → ((world_step tests version w event).notes ≡ []) ⊎ OneAt event (world_step tests version w event).notes
event_notes tests version w event = change_notes tests version w event (world_step tests version w event) (change_of tests version w event)
