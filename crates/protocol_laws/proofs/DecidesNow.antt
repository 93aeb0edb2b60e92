-- The moment at which a decision is noted.
use Rattle.std.proofs.Common.{◌≡◌, List, [], ◌∷◌, ◌++◌, inl, inr, sym, ◌∙◌, ap, subst, refl}
use Rattle.tcs_terms.specs.declared.ids.TxId.{TxId}
use Rattle.tcs_terms.specs.declared.inputs.Note.{Note}
use Rattle.tcs_terms.specs.declared.inputs.Note.TheVariants.{Take, Decide}
use Rattle.tcs_terms.specs.declared.votes.Decision.{Decision}
use Rattle.tcs_terms.specs.Setups.{Deployment}
use Rattle.tcs_laws.specs.Certification.{Tests}
use Rattle.protocol.specs.History.{payload_in}
use Rattle.protocol.specs.Invariant.{InvariantHolds}
use Rattle.protocol.specs.Invariant.Time.{Moment, StandsIn, WasNoted}
use Rattle.protocol.specs.World.{World}
use Rattle.protocol.proofs.Lists.{StandsIn-append}
use Rattle.protocol_laws.proofs.Fronts.{IsFront, payload_in-decide}
use Rattle.protocol_laws.proofs.PastKept.{PastHolds}
use Rattle.protocol_laws.proofs.Standing.{StandsIn-left, StandsIn-right}

-- A decision is the last note of a history at which the invariant holds; the histories of all earlier worlds are fronts
-- of what stands before it.
pub record DecidesNow (tests : Tests) (setup : Deployment) (t : Moment) (earlier : List Note) (txn : TxId) (decision : Decision) : Type 0 where
  pub holds : InvariantHolds tests setup t
  pub past : PastHolds setup t
  pub fronts : (w : World) → StandsIn w t.before → IsFront w.history earlier
  pub history : t.now.history ≡ earlier ++ Decide txn decision ∷ []

-- it was noted
pub now-noted : (tests : Tests) (setup : Deployment) (t : Moment) (earlier : List Note) (txn : TxId) (decision : Decision) → DecidesNow tests setup t earlier txn decision → WasNoted t (Decide txn decision)
now-noted tests setup t earlier txn decision d = subst (λ h. StandsIn (Decide txn decision) h) (sym d.history) (StandsIn-right earlier (Decide txn decision ∷ []) (Decide txn decision) (inl refl))

-- what was noted before is noted
pub earlier-noted : (tests : Tests) (setup : Deployment) (t : Moment) (earlier : List Note) (txn : TxId) (decision : Decision) (n : Note) → DecidesNow tests setup t earlier txn decision → StandsIn n earlier → WasNoted t n
earlier-noted tests setup t earlier txn decision n d s = subst (λ h. StandsIn n h) (sym d.history) (StandsIn-left earlier (Decide txn decision ∷ []) n s)

-- what began before, and with which payload, is as before
pub earlier-payload : (tests : Tests) (setup : Deployment) (t : Moment) (earlier : List Note) (txn other : TxId) (decision : Decision) → DecidesNow tests setup t earlier txn decision → payload_in t.now.history other ≡ payload_in earlier other
earlier-payload tests setup t earlier txn other decision d = ap (λ h. payload_in h other) d.history ∙ payload_in-decide earlier other txn decision

-- a take-over stood before
pub earlier-take : (tests : Tests) (setup : Deployment) (t : Moment) (earlier : List Note) (txn other : TxId) (decision : Decision) → DecidesNow tests setup t earlier txn decision → WasNoted t (Take other) → StandsIn (Take other) earlier
earlier-take tests setup t earlier txn other decision d s = elim (StandsIn-append earlier (Decide txn decision ∷ []) (Take other) (subst (λ h. StandsIn (Take other) h) d.history s)) [
  | inl e ↦ e
  | inr r ↦ elim r [ inl k ↦ absurd (cc k) | inr z ↦ absurd z ]
]
