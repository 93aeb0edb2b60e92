-- A moment of a run together with its past.
use Rattle.std.specs.Prelude.{◌≡◌, ℕ, List, [], ◌∷◌, fold, ◌⊎◌}
use Rattle.tcs_terms.specs.declared.inputs.Event.{Event}
use Rattle.tcs_terms.specs.declared.inputs.Note.{Note}
use Rattle.tcs_terms.specs.declared.messages.Message.{Message}
use Rattle.tcs_terms.specs.Places.{Membership}
use Rattle.tcs_terms.specs.Setups.{Deployment}
use Rattle.tcs_laws.specs.Certification.{Tests}
use Rattle.protocol.specs.Records.{NodeRecord}
use Rattle.protocol.specs.World.{World, first_world, world_step}

-- the world at a moment, and every world before it, the newest first
pub record Moment : Type 0 where
  pub now : World
  pub before : List World

-- every world so far, the newest first
abbrev pub worlds : Moment → List World
worlds t = t.now ∷ t.before

-- the moment after the world has gone on
abbrev pub goes_to : Moment → World → Moment
goes_to t w = record { now = w; before = worlds t }

-- a run that remembers its past; its last world is the run's
unfoldable pub time_after : Tests → Deployment → List Event → Moment
time_after tests setup events =
    fold (λ t e. goes_to t (world_step tests setup.version t.now e).after) (record { now = first_world setup; before = [] }) events

-- an element stands in a list
abbrev pub StandsIn : {X : Type 0} → X → List X → Type 0
StandsIn x [] = ⊥
StandsIn x (y ∷ ys) = (x ≡ y) ⊎ StandsIn x ys

-- a node as it is at this moment
abbrev pub IsNode : Moment → NodeRecord → Type 0
IsNode t node = StandsIn node t.now.nodes

-- a configuration that is stored
abbrev pub IsStored : Moment → Membership → Type 0
IsStored t c = StandsIn c t.now.configs

-- a message that was sent
pub record WasSent (t : Moment) (from to : ℕ) (message : Message) : Type 0 where
  pub sent : StandsIn (record { from = from; to = to; message = message }) t.now.messages

-- a note of the history
abbrev pub WasNoted : Moment → Note → Type 0
WasNoted t note = StandsIn note t.now.history

-- a node that had a record at this or an earlier moment, in a state epoch
pub record WasIn (t : Moment) (epoch name : ℕ) (node : NodeRecord) : Type 0 where
  pub moment : World
  pub past : StandsIn moment (worlds t)
  pub there : StandsIn node moment.nodes
  pub named : node.name ≡ name
  pub in_epoch : node.state ≡ epoch
