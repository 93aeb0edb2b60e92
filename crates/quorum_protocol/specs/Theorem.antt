-- What holds of every run.
use Rattle.std.specs.Prelude.{◌≡◌, ◌⊎◌, ℕ, ◌+◌, ◌<◌, List, [], ◌∷◌, Option, Some}
use Rattle.tcs_terms.specs.Places.{Membership}
use Rattle.quorum_protocol.specs.declared.terms.Event.{Event}
use Rattle.quorum_protocol.specs.declared.terms.Event.TheVariants.{Cas}
use Rattle.quorum_protocol.specs.declared.terms.Stored.{Stored}
use Rattle.quorum_protocol.specs.World.{step, run, history}

-- an element stands in a list
abbrev pub StandsIn : {X : Type 0} → X → List X → Type 0
StandsIn x [] = ⊥
StandsIn x (y ∷ ys) = (x ≡ y) ⊎ StandsIn x ys

-- one of the events proposes this configuration
pub record IsProposed (es : List Event) (config : Membership) : Type 0 where
  pub round : ℕ
  pub stands : StandsIn (Cas round config) es

-- one of the notes is of this proposer, shard and epoch
pub record HasNote (notes : List Stored) (proposer shard epoch : ℕ) : Type 0 where
  pub note : Stored
  pub stands : StandsIn note notes
  pub proposer_is : note.proposer ≡ proposer
  pub shard_is : note.config.shard ≡ shard
  pub epoch_is : note.config.epoch ≡ epoch

-- what the event after these notes, if it notes anything
abbrev pub noted : ℕ → List Event → Event → Option Stored
noted acceptors es e = (step (run acceptors es) e).stored

-- any two notes of one shard and epoch have equal configurations
abbrev pub Agree : List Stored → Type 0
Agree notes = (a b : Stored) → StandsIn a notes → StandsIn b notes
    → a.config.shard ≡ b.config.shard → a.config.epoch ≡ b.config.epoch → a.config ≡ b.config

-- the configuration that an event notes was proposed by an event before it
abbrev pub WasProposed : ℕ → List Event → Event → Type 0
WasProposed acceptors es e = (n : Stored) → noted acceptors es e ≡ Some n → IsProposed es n.config

-- before a note of an epoch above 2 stands one of the same proposer and shard with the epoch below
abbrev pub IsClimbed : ℕ → List Event → Event → Type 0
IsClimbed acceptors es e = (n : Stored) (below : ℕ) → noted acceptors es e ≡ Some n → n.config.epoch ≡ below + 1 → 1 < below
    → HasNote (history acceptors es) n.proposer n.config.shard below
