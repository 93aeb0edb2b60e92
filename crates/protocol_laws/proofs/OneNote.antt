-- One event notes at most one thing.
use Rattle.std.proofs.Common.{◌≡◌, ℕ, List, [], ◌∷◌, ◌++◌, ◌⊎◌, inl, inr, sym, refl, append-nil, ◌∙◌, ap}
use Rattle.tcs_terms.specs.declared.ids.TxId.{TxId}
use Rattle.tcs_terms.specs.declared.inputs.Event.{Event}
use Rattle.tcs_terms.specs.declared.inputs.Input.{Input}
use Rattle.tcs_terms.specs.declared.inputs.Note.{Note}
use Rattle.tcs_terms.specs.declared.inputs.Note.TheVariants as notes
use Rattle.tcs_terms.specs.declared.messages.Outgoing.{Outgoing}
use Rattle.tcs_laws.specs.Certification.{Tests}
use Rattle.protocol.specs.ClientRules.{next_txn}
use Rattle.protocol.specs.Cases.{decision_of}
use Rattle.protocol.specs.Outcomes.{Out}
use Rattle.protocol.specs.Records.{Case, Coordinator, NodeRecord}
use Rattle.protocol.specs.Versions.{read_of, value_or_empty}
use Rattle.protocol.specs.World.{World, Happening}
use Rattle.protocol_laws.specs.Change.{Change, Passes, Stops, Acts, AtService}
use Rattle.protocol_laws.specs.Effect.{GoesOn, Waiting, Decides, Effect, Rests, Certifies, TakesOver, Reads, Votes, Acknowledges}
use Rattle.protocol_laws.proofs.ServiceSays.{serves_no_notes}

-- nothing, or one note
abbrev pub AtMostOne : List Note → Type 0
AtMostOne ns = (ns ≡ []) ⊎ ((n : Note) × (ns ≡ n ∷ []))

goes_on-one : (c : Coordinator) (txn : TxId) (case : Case) (sends : List Outgoing) (out : Out Coordinator) → GoesOn c txn case sends out → AtMostOne out.notes
goes_on-one c txn case sends o (Waiting h) = inl refl
goes_on-one c txn case sends o (Decides h) = inr (notes.Decide txn (decision_of case.parts), refl)

pub effect-one : (tests : Tests) (version : ℕ) (node : NodeRecord) (input : Input) (out : Out NodeRecord) → Effect tests version node input out → AtMostOne out.notes
effect-one tests version node i o (Rests input answer notices h) = inl refl
effect-one tests version node i o (Certifies payload h case e) = inr (notes.Begin (next_txn node) payload, refl)
effect-one tests version node i o (TakesOver txn row a b c d case e) = inr (notes.Take txn, refl)
effect-one tests version node i o (Reads name a) = inr (notes.ReadValue name (read_of node.rows name).version (value_or_empty (read_of node.rows name).value), refl)
effect-one tests version node i o (Votes from shard epoch entry case part view a b c d out g) = goes_on-one _ _ _ _ out g
effect-one tests version node i o (Acknowledges from shard epoch slot txn case part view a b c d out g) = goes_on-one _ _ _ _ out g
effect-one tests version node i o _ = inl refl

-- a history goes on by at most one note
pub record GoesOnByOne (old new : List Note) : Type 0 where
  pub notes : List Note
  pub is : new ≡ old ++ notes
  pub one : AtMostOne notes

pub change-one : (tests : Tests) (version : ℕ) (w : World) (event : Event) (h : Happening) → Change tests version w event h → GoesOnByOne w.history h.after.history
change-one tests version w e h (Passes event result a) = record { notes = []; is = sym (append-nil w.history); one = inl refl }
change-one tests version w e h (Stops name) = record { notes = []; is = sym (append-nil w.history); one = inl refl }
change-one tests version w e h (Acts event name node input out comes found s named up effect) = record { notes = out.notes; is = refl; one = effect-one tests version node input out effect }
change-one tests version w e h (AtService number from message sent out is found s serves) = record { notes = out.notes; is = refl; one = inl (serves_no_notes _ _ _ _ out serves) }

-- a note that is the last one, where at most one was added
pub record IsLast (notes between : List Note) (n : Note) : Type 0 where
  pub nothing : between ≡ []
  pub only : notes ≡ n ∷ []

pub is_last : (notes between : List Note) (n : Note) (later : List Note) → AtMostOne notes → notes ≡ between ++ (n ∷ later) → IsLast notes between n
is_last notes [] n later (inl e) h = absurd (cc (e, h))
is_last notes (b ∷ bs) n later (inl e) h = absurd (cc (e, h))
is_last notes [] n later (inr o) h = record { nothing = refl; only = let e : o.0 ≡ n = cc (o.1, h) in o.1 ∙ ap (λ m. m ∷ []) e }
is_last notes (b ∷ []) n later (inr o) h = absurd (cc (o.1, h))
is_last notes (b ∷ c ∷ bs) n later (inr o) h = absurd (cc (o.1, h))
