-- Notices are in range: each kind has a number from 1 to 17, and each mark has four bytes.
use Rattle.std.proofs.Common.{◌≡◌, ℕ, ◌+◌, ◌<◌, ◌≤◌, ◌^◌, Bool, true, false, cond, max, ◌&&◌, nat_le, List, [], ◌∷◌, Option, Some, None, sym, subst, refl, arith}
use Rattle.tcs_terms.specs.declared.inputs.Handled.{Handled}
use Rattle.tcs_terms.specs.declared.inputs.Handled.TheVariants.{Acted, Stale, Held, Full}
use Rattle.tcs_terms.specs.declared.inputs.Input.{Input}
use Rattle.tcs_terms.specs.declared.inputs.Input.TheVariants as inputs
use Rattle.tcs_terms.specs.declared.limits.TheConstants.{MAX_EPOCH, MAX_KIND}
use Rattle.tcs_terms.specs.declared.messages.Message.{Message}
use Rattle.tcs_terms.specs.declared.messages.Message.TheVariants.{Prepare, PrepareAck, Accept, AcceptAck, DecisionFor, Probe, ProbeAck, NewConfig, NewState, ConfigChange, Last, At, Cas, Stored, OutcomeOf, Refused, StatePiece}
use Rattle.tcs_terms.specs.declared.messages.Outgoing.{Outgoing}
use Rattle.tcs_terms.specs.declared.messages.Why.{Why}
use Rattle.tcs_terms.specs.declared.messages.Why.TheVariants as why
use Rattle.tcs_terms.specs.Places.{Membership}
use Rattle.wire_frame.specs.Spelling.{kind_of}
use Rattle.protocol.specs.Notices.{notice_of}
use Rattle.protocol.specs.Outcomes.{to}
use Rattle.protocol.specs.Probing.{prober_epoch}
use Rattle.protocol.specs.Records.{Stage, NodeRecord}
use Rattle.protocol.specs.Records.Stage.{Idle, AskedLast, Probing, AskedLower, CasSent}
use Rattle.protocol.specs.Views.{view_of, epoch_of}
use Rattle.protocol_laws.specs.Effect.{is_answered, notices_for, IsMark, Tells, IsRefusal}
use Rattle.protocol_laws.specs.Effect.IsMark.{NoMark, Promised, Reached, Least, Viewed, Wanted}
use Rattle.protocol_laws.specs.Ranges.{IsStageInRange, IsNodeInRange}
use Rattle.protocol_laws.proofs.RangesCases.{view-in_range}
use Rattle.protocol_laws.proofs.RangesKept.{epoch-few}
use Rattle.protocol_laws.proofs.Sendable.{IsSendable}
use Rattle.protocol_laws.proofs.Sends.{Each, each-none, each-one}

is_kind : (m : Message) → (nat_le 1 (kind_of m) && nat_le (kind_of m) MAX_KIND) ≡ true
is_kind (Prepare epoch txn shards payload) = refl
is_kind (PrepareAck shard epoch entry) = refl
is_kind (Accept epoch entry) = refl
is_kind (AcceptAck shard epoch slot txn) = refl
is_kind (DecisionFor epoch slot txn commit) = refl
is_kind (Probe epoch) = refl
is_kind (ProbeAck epoch state) = refl
is_kind (NewConfig config) = refl
is_kind (NewState config rows) = refl
is_kind (ConfigChange config) = refl
is_kind (Last shard) = refl
is_kind (At shard epoch) = refl
is_kind (Cas config) = refl
is_kind (Stored config) = refl
is_kind (OutcomeOf txn decision) = refl
is_kind (Refused kind why mark) = refl
is_kind (StatePiece config number pieces rows) = refl

-- what a notice tells
pub notices-sendable : {Mark : ℕ → Type 0} {input : Input} {full_mark : ℕ} {answer : Handled} (notices : List Outgoing) → IsRefusal Mark input full_mark answer notices → ((n : ℕ) → Mark n → n < 2 ^ 32) → full_mark < 2 ^ 32
    → Each (IsSendable input) notices
notices-sendable {Mark = Mark} {input = input} {full_mark = full_mark} {answer = answer} notices r few full = subst (Each (IsSendable input)) (sym r.only) (of_input input)
  where
    one : (from : ℕ) (message : Message) (why : Why) (mark : ℕ) → mark < 2 ^ 32 → Each (IsSendable (inputs.Deliver from message)) (to from (Refused (kind_of message) why mark) ∷ [])
    one from message why mark h = each-one (IsSendable (inputs.Deliver from message)) _ (record { message = (is_kind message, h); to = λ sender. sender })

    of_answer : (from : ℕ) (message : Message) (told : Handled) → Tells Mark told → Each (IsSendable (inputs.Deliver from message)) (notice_of told from (kind_of message) full_mark)
    of_answer from message Acted m = each-none (IsSendable (inputs.Deliver from message))
    of_answer from message (Stale mark) m = one from message why.Stale mark (few mark m)
    of_answer from message (Held mark) m = one from message why.Held mark (few mark m)
    of_answer from message Full m = one from message why.Full full_mark full

    of_message : (from : ℕ) (message : Message) (b : Bool) → Each (IsSendable (inputs.Deliver from message)) (cond b (notice_of answer from (kind_of message) full_mark) [])
    of_message from message true = of_answer from message answer r.mark
    of_message from message false = each-none (IsSendable (inputs.Deliver from message))

    of_input : (i : Input) → Each (IsSendable i) (notices_for i answer full_mark)
    of_input (inputs.Certify payload) = each-none (IsSendable (inputs.Certify payload))
    of_input (inputs.Take txn) = each-none (IsSendable (inputs.Take txn))
    of_input inputs.Nudge = each-none (IsSendable inputs.Nudge)
    of_input (inputs.Move shard want) = each-none (IsSendable (inputs.Move shard want))
    of_input inputs.Lower = each-none (IsSendable inputs.Lower)
    of_input (inputs.ReadName name) = each-none (IsSendable (inputs.ReadName name))
    of_input (inputs.Ask shard) = each-none (IsSendable (inputs.Ask shard))
    of_input (inputs.Deliver from message) = of_message from message (is_answered message)

pub epoch-small : (e : ℕ) → e ≤ MAX_EPOCH → e < 2 ^ 32
epoch-small e h = omega (arith, h)

view-few : (node : NodeRecord) (shard : ℕ) → IsNodeInRange node → epoch_of (view_of node.coordinator.views shard) ≤ MAX_EPOCH
view-few node shard k = go (view_of node.coordinator.views shard) refl
  where
    go : (o : Option Membership) → view_of node.coordinator.views shard ≡ o → epoch_of o ≤ MAX_EPOCH
    go None e = omega arith
    go (Some v) e = epoch-few v.epoch (view-in_range node.coordinator.views shard v k.coordinator.views e).epoch

stage-few : (stage : Stage) → IsStageInRange stage → prober_epoch stage ≤ MAX_EPOCH
stage-few Idle k = omega arith
stage-few (AskedLast shard want) k = omega arith
stage-few (Probing shard want epoch probed low) k = epoch-few epoch k.1
stage-few (AskedLower shard want epoch asked) k = epoch-few epoch k.1
stage-few (CasSent config) k = epoch-few config.epoch k.epoch

least-few : (promised state : ℕ) → promised ≤ MAX_EPOCH → state ≤ MAX_EPOCH → max promised (state + 1) < 2 ^ 32
least-few promised state p s = omega (arith, p, s)

-- the marks of a node
pub mark-few : (node : NodeRecord) → IsNodeInRange node → (n : ℕ) → IsMark node n → n < 2 ^ 32
mark-few node k _ NoMark = omega arith
mark-few node k _ Promised = epoch-small node.promised k.promised
mark-few node k _ Reached = epoch-small node.state k.state
mark-few node k _ Least = least-few node.promised node.state k.promised k.state
mark-few node k _ (Viewed shard) = epoch-small _ (view-few node shard k)
mark-few node k _ Wanted = epoch-small (prober_epoch node.prober) (stage-few node.prober k.prober)
