-- What a node makes of a gathering, whole or not.
use Rattle.std.proofs.Common.{◌≡◌, [], Option, refl, inl, inr}
use Rattle.std.proofs.lemmas.Bool.{cases_Bool}
use Rattle.tcs_terms.specs.declared.inputs.Handled.TheVariants.{Acted}
use Rattle.tcs_terms.specs.Places.{Membership}
use Rattle.protocol.specs.Choices.{when}
use Rattle.protocol.specs.Outcomes.{Out}
use Rattle.protocol.specs.Pieces.{is_whole}
use Rattle.protocol.specs.Records.{NodeRecord, Gathering}
use Rattle.protocol.specs.ShardRules.{gathers}
use Rattle.replica.specs.Replicas.{ReplicaState, within}

-- a rule acts, and sends nothing
pub record ActsSilently (out : Out NodeRecord) : Type 0 where
  pub answer : out.answer ≡ Acted
  pub sends : out.sends ≡ []

pub gathers_acts : (node : NodeRecord) (config : Membership) (g : Gathering) → ActsSilently (gathers node config g)
unfolding when
gathers_acts node config g = elim (cases_Bool (is_whole g)) [
  | inl whole ↦ rw whole (record { answer = refl; sends = refl })
  | inr part ↦ rw part (record { answer = refl; sends = refl })
]

-- what was gathered before does not matter
pub kept_alike : {s t : ReplicaState} → s ≡ t → (node : NodeRecord) (before : Option Gathering) (config : Membership) (g : Gathering)
    → (gathers (within node (record s { gathering = before })) config g).kept ≡ (gathers (within node t) config g).kept
unfolding when
kept_alike {s} {t} same node before config g = elim (cases_Bool (is_whole g)) [
  | inl whole ↦ rw (whole, ← same) refl
  | inr part ↦ rw (part, ← same) refl
]
