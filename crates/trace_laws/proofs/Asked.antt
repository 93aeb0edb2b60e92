-- What clients began fits the version, and what they read has a name: each was asked by an event that may stand.
use Rattle.std.proofs.Common.{◌≡◌, ℕ, true, ◌||◌, ◌==◌, List, [], ◌∷◌, length, inl, inr, sym, subst, refl, arith}
use Rattle.std.proofs.lemmas.Bool.Decides.{nat_tests}
use Rattle.tcs_terms.specs.declared.ids.TxId.{TxId}
use Rattle.tcs_terms.specs.declared.inputs.Event.{Event}
use Rattle.tcs_terms.specs.declared.inputs.Input.{Input}
use Rattle.tcs_terms.specs.declared.inputs.Input.TheVariants as inputs
use Rattle.tcs_terms.specs.declared.inputs.Note.{Note}
use Rattle.tcs_terms.specs.declared.inputs.Note.TheVariants as notes
use Rattle.tcs_terms.specs.declared.messages.Message.{Message}
use Rattle.tcs_terms.specs.declared.messages.Outgoing.{Outgoing}
use Rattle.tcs_terms.specs.declared.payloads.RangePart.{RangePart}
use Rattle.tcs_terms.specs.Events.{input_fits}
use Rattle.tcs_terms.specs.Objects.{IsName}
use Rattle.tcs_terms.specs.Runs.{AreEventsOf, IsInput, MayStand}
use Rattle.tcs_terms.specs.Setups.{Deployment, has_node}
use Rattle.tcs_terms.proofs.BoolLaws.{right_of}
use Rattle.text_words.specs.PayloadWords.{FitsVersion}
use Rattle.tcs_laws.specs.Certification.{Tests}
use Rattle.protocol.specs.Outcomes.{Out}
use Rattle.protocol.specs.Records.{Case, Coordinator, NodeRecord}
use Rattle.protocol.specs.World.{World, first_world}
use Rattle.protocol.specs.Invariant.Time.{Moment, StandsIn, WasNoted, time_after}
use Rattle.protocol_laws.specs.Change.{Comes}
use Rattle.protocol_laws.specs.Change.Comes.{ByCall, ByMessage}
use Rattle.protocol_laws.specs.Effect.{Effect, GoesOn}
use Rattle.protocol_laws.specs.Effect.GoesOn.{Waiting, Decides}
use Rattle.protocol_laws.specs.Effect.Effect.{Rests, Certifies, TakesOver, Reads, Votes, Acknowledges}
use Rattle.protocol_laws.proofs.Noted.{NoteCame, note_came}
use Rattle.protocol_laws.proofs.Noted.NoteCame.{WasNotedBefore, NodeNoted}
use Rattle.protocol_laws.proofs.RunInduction.{IsKept, run_induction}

-- what a node notes as begun or as read was asked of it
abbrev WasAsked : Input → Note → Type 0
WasAsked input (notes.Begin txn payload) = input ≡ inputs.Certify payload
WasAsked input (notes.Take txn) = Unit {0}
WasAsked input (notes.ReadValue name version value) = input ≡ inputs.ReadName name
WasAsked input (notes.Decide txn decision) = Unit {0}

goes_on-asked : (input : Input) (c : Coordinator) (txn : TxId) (case : Case) (sends : List Outgoing) (out : Out Coordinator) (n : Note) → GoesOn c txn case sends out → StandsIn n out.notes → WasAsked input n
goes_on-asked input c txn case sends _ n (Waiting h) s = absurd s
goes_on-asked input c txn case sends _ n (Decides h) (inl e) = subst (WasAsked input) (sym e) tt
goes_on-asked input c txn case sends _ n (Decides h) (inr s) = absurd s

effect-asked : (tests : Tests) (version : ℕ) (node : NodeRecord) (input : Input) (out : Out NodeRecord) (n : Note) → Effect tests version node input out → StandsIn n out.notes → WasAsked input n
effect-asked tests version node i o n (Rests input answer notices h) s = absurd s
effect-asked tests version node i o n (Certifies payload l case e) (inl q) = subst (WasAsked (inputs.Certify payload)) (sym q) refl
effect-asked tests version node i o n (Certifies payload l case e) (inr s) = absurd s
effect-asked tests version node i o n (TakesOver txn row a b c d case e) (inl q) = subst (WasAsked (inputs.Take txn)) (sym q) tt
effect-asked tests version node i o n (TakesOver txn row a b c d case e) (inr s) = absurd s
effect-asked tests version node i o n (Reads name a) (inl q) = subst (WasAsked (inputs.ReadName name)) (sym q) refl
effect-asked tests version node i o n (Reads name a) (inr s) = absurd s
effect-asked tests version node i o n (Votes from shard epoch entry case part view a b c d out g) s = goes_on-asked _ _ _ _ _ out n g s
effect-asked tests version node i o n (Acknowledges from shard epoch slot txn case part view a b c d out g) s = goes_on-asked _ _ _ _ _ out n g s
effect-asked tests version node i o n _ s = absurd s

-- a beginning whose payload fits the version, or a reading that has a name
abbrev pub IsFitting : ℕ → Note → Type 0
IsFitting version (notes.Begin txn payload) = FitsVersion version payload
IsFitting version (notes.Take txn) = Unit {0}
IsFitting version (notes.ReadValue name seen value) = IsName name
IsFitting version (notes.Decide txn decision) = Unit {0}

no-ranges : (version : ℕ) (ranges : List RangePart) → ((length ranges == 0) || (version == 2)) ≡ true → version ≡ 1 → ranges ≡ []
no-ranges version [] h e = refl
no-ranges version (q ∷ qs) h e = absurd (grind (arith, nat_tests))

-- a call that fits asks for what fits
call-fitting : (setup : Deployment) (input : Input) (n : Note) → input_fits setup input ≡ true → IsInput input → WasAsked input n → IsFitting setup.version n
call-fitting setup input (notes.Begin txn payload) fits is asked = no-ranges setup.version payload.ranges (subst (λ i. input_fits setup i ≡ true) asked fits)
call-fitting setup input (notes.Take txn) fits is asked = tt
call-fitting setup input (notes.ReadValue name seen value) fits is asked = subst IsInput asked is
call-fitting setup input (notes.Decide txn decision) fits is asked = tt

-- no message asks for either
message-fitting : (version from : ℕ) (message : Message) (n : Note) → WasAsked (inputs.Deliver from message) n → IsFitting version n
message-fitting version from message (notes.Begin txn payload) asked = absurd (cc asked)
message-fitting version from message (notes.Take txn) asked = tt
message-fitting version from message (notes.ReadValue name seen value) asked = absurd (cc asked)
message-fitting version from message (notes.Decide txn decision) asked = tt

came-fitting : (setup : Deployment) (w : World) (name : ℕ) (event : Event) (input : Input) (n : Note) → Comes w name event input → MayStand setup event → WasAsked input n → IsFitting setup.version n
came-fitting setup w name _ _ n (ByCall input) may asked = call-fitting setup input n (right_of (has_node setup.nodes name) (input_fits setup input) may.fits) may.event asked
came-fitting setup w name _ _ n (ByMessage number from message sent is found s) may asked = message-fitting setup.version from message n asked

-- all notes of a moment
abbrev pub AllFit : ℕ → Moment → Type 0
AllFit version t = (n : Note) → WasNoted t n → IsFitting version n

fitting-kept : (tests : Tests) (setup : Deployment) → IsKept tests setup (AllFit setup.version)
fitting-kept tests setup t event h turn after may k n s = go (note_came tests setup t event h n turn s)
  where
    go : NoteCame tests setup t event h n → IsFitting setup.version n
    go (WasNotedBefore old) = k n old
    go (NodeNoted a new) = came-fitting setup t.now a.node.name event a.input n a.comes may (effect-asked tests setup.version a.node a.input a.out n a.effect new)

nothing-noted : (setup : Deployment) → AllFit setup.version (record { now = first_world setup; before = [] })
unfolding first_world
nothing-noted setup n s = absurd s

pub asked-fitting : (tests : Tests) (setup : Deployment) (events : List Event) → AreEventsOf setup events → AllFit setup.version (time_after tests setup events)
asked-fitting tests setup events a = run_induction tests setup (AllFit setup.version) (fitting-kept tests setup) (nothing-noted setup) events a
