-- A message as it may be sent.
use Rattle.std.proofs.Common.{◌≤◌, List}
use Rattle.std.specs.Prelude.{All}
use Rattle.tcs_terms.specs.declared.inputs.Input.{Input}
use Rattle.tcs_terms.specs.declared.limits.TheConstants.{MAX_NODES}
use Rattle.tcs_terms.specs.declared.messages.Outgoing.{Outgoing}
use Rattle.tcs_terms.specs.Messages.{InRange}
use Rattle.protocol.specs.Invariant.Time.{StandsIn}
use Rattle.protocol_laws.specs.Ranges.{ComesFromNode, AreInRange}
use Rattle.protocol_laws.proofs.AllOf.{all-of}

-- in range, and to a node or the service, where what the sender acts on came from one
pub record IsSendable (input : Input) (o : Outgoing) : Type 0 where
  pub message : InRange o.message
  pub to : ComesFromNode input → o.to ≤ MAX_NODES

pub sendable-in_range : (input : Input) (sends : List Outgoing) → ((o : Outgoing) → StandsIn o sends → IsSendable input o) → AreInRange sends
sendable-in_range input sends k = all-of (λ o. InRange o.message) sends (λ o s. (k o s).message)

pub sendable-to : (input : Input) (sends : List Outgoing) → ((o : Outgoing) → StandsIn o sends → IsSendable input o) → ComesFromNode input → All (λ o. o.to ≤ MAX_NODES) sends
sendable-to input sends k from = all-of (λ o. o.to ≤ MAX_NODES) sends (λ o s. (k o s).to from)
