-- Probe answers: what a node that answered a probe can no longer do.
use Rattle.std.specs.Prelude.{◌≡◌, ℕ, ◌<◌, ◌≤◌, ◌⊎◌}
use Rattle.tcs_terms.specs.declared.messages.Message.TheVariants.{ProbeAck}
use Rattle.protocol.specs.Records.{NodeRecord}
use Rattle.protocol.specs.Records.Role.{Fenced}
use Rattle.protocol.specs.Invariant.Time.{Moment, IsNode, WasSent}
use Rattle.protocol.specs.Invariant.Logs.{Reached}

-- The node that answered an epoch with a state epoch: the latter is lower; the promise is kept; no epoch in between was
-- ever reached; and the state epoch is still the same, or has reached the epoch. While the node is fenced with that very
-- promise, it is the same.
pub record AnswerHolds (t : Moment) (from epoch state : ℕ) : Type 0 where
  pub node : NodeRecord
  pub is : IsNode t node
  pub named : node.name ≡ from
  pub lower : state < epoch
  pub promised : epoch ≤ node.promised
  pub between : (q : ℕ) → state < q → q < epoch → Reached t q from → ⊥
  pub after : (node.state ≡ state) ⊎ (epoch ≤ node.state)
  pub fenced : node.role ≡ Fenced → node.promised ≡ epoch → node.state ≡ state

-- Every answer holds.
pub record AnswersHold (t : Moment) : Type 0 where
  pub each : (from to epoch state : ℕ) → WasSent t from to (ProbeAck epoch state) → AnswerHolds t from epoch state
