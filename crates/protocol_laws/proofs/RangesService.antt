-- What the configuration service stores and sends is in range.
use Rattle.std.proofs.Common.{◌≡◌, ℕ, ◌<◌, ◌≤◌, ◌^◌, List, [], ◌∷◌, Option, Some, None, refl, arith}
use Rattle.std.specs.Prelude.{All}
use Rattle.std.specs.List.{range_with_len}
use Rattle.std.proofs.lemmas.List.Elements.{All-push, All-nil}
use Rattle.tcs_terms.specs.declared.inputs.Input.{Input}
use Rattle.tcs_terms.specs.declared.inputs.Input.TheVariants as inputs
use Rattle.tcs_terms.specs.declared.limits.TheConstants.{MAX_NODES, MAX_EPOCH}
use Rattle.tcs_terms.specs.declared.messages.Message.{Message}
use Rattle.tcs_terms.specs.declared.messages.Message.TheVariants.{Cas, ConfigChange, Stored}
use Rattle.tcs_terms.specs.Messages.{InRange}
use Rattle.tcs_terms.specs.Places.{Membership, IsMembership}
use Rattle.protocol.specs.Outcomes.{Out, to}
use Rattle.protocol.specs.Service.{last_config, tell_nodes}
use Rattle.protocol.specs.Views.{epoch_of}
use Rattle.protocol_laws.specs.Change.{IsServiceMark, Serves}
use Rattle.protocol_laws.specs.Change.IsServiceMark.{NoMark, LastEpoch}
use Rattle.protocol_laws.specs.Change.Serves.{HoldsBack, Tells, Stores}
use Rattle.protocol_laws.specs.Ranges.{IsNoteInRange}
use Rattle.protocol_laws.proofs.AllOf.{all-at}
use Rattle.protocol_laws.proofs.RangesKept.{epoch-few}
use Rattle.protocol_laws.proofs.RangesRefused.{notices-sendable, epoch-small}
use Rattle.protocol_laws.proofs.Sendable.{IsSendable}
use Rattle.protocol_laws.proofs.Sends.{Each, each-one, each-both, each-map}
use Rattle.protocol_laws.proofs.ServesOf.{last_config-StandsIn}
use Rattle.protocol_laws.proofs.Standing.{range-StandsIn}

last-few : (configs : List Membership) (shard : ℕ) → All IsMembership configs → epoch_of (last_config configs shard) ≤ MAX_EPOCH
last-few configs shard k = go (last_config configs shard) refl
  where
    go : (o : Option Membership) → last_config configs shard ≡ o → epoch_of o ≤ MAX_EPOCH
    go None e = omega arith
    go (Some c) e = epoch-few c.epoch (all-at IsMembership configs k c (last_config-StandsIn configs shard c e)).epoch

service-mark-few : (configs : List Membership) → All IsMembership configs → (n : ℕ) → IsServiceMark configs n → n < 2 ^ 32
service-mark-few configs k _ NoMark = omega arith
service-mark-few configs k _ (LastEpoch shard) = epoch-small _ (last-few configs shard k)

-- CONFIG_CHANGE to every node
changes-told : (input : Input) (nodes : ℕ) (c : Membership) → nodes ≤ MAX_NODES → IsMembership c → Each (IsSendable input) (tell_nodes nodes c)
unfolding tell_nodes
changes-told input nodes c few k = each-map (IsSendable input) (λ node. to node (ConfigChange c)) (range_with_len 1 nodes) (λ node s. record { message = k; to = λ from. (let r = range-StandsIn 1 nodes node s in omega (arith, r.1, few)) })

pub served-kept : (nodes : ℕ) (configs : List Membership) (from : ℕ) (message : Message) (out : Out (List Membership)) → Serves nodes configs from message out → All IsMembership configs → InRange message → All IsMembership out.kept
served-kept nodes configs from message out (HoldsBack m answer notices r) k i = k
served-kept nodes configs from message out (Tells m c s) k i = k
served-kept nodes configs from message out (Stores c last free l e) k i = All-push IsMembership configs c k i

pub served-sent : (nodes : ℕ) (configs : List Membership) (from : ℕ) (message : Message) (out : Out (List Membership)) → Serves nodes configs from message out → nodes ≤ MAX_NODES → All IsMembership configs → InRange message
    → Each (IsSendable (inputs.Deliver from message)) out.sends
served-sent nodes configs from message out (HoldsBack _ answer notices r) few k i = notices-sendable notices r (service-mark-few configs k) (omega arith)
served-sent nodes configs from message out (Tells _ c s) few k i = each-one (IsSendable (inputs.Deliver from message)) _ (record { message = all-at IsMembership configs k c s; to = λ sender. sender })
served-sent nodes configs from message out (Stores c last free l e) few k i =
    let input : Input = inputs.Deliver from (Cas c) in
    each-both (IsSendable input) (to from (Stored c) ∷ []) (tell_nodes nodes c) (each-one (IsSendable input) _ (record { message = i; to = λ sender. sender })) (changes-told input nodes c few i)

pub served-notes : (nodes : ℕ) (configs : List Membership) (from : ℕ) (message : Message) (out : Out (List Membership)) → Serves nodes configs from message out → All IsNoteInRange out.notes
served-notes nodes configs from message out (HoldsBack _ answer notices r) = All-nil IsNoteInRange
served-notes nodes configs from message out (Tells _ c s) = All-nil IsNoteInRange
served-notes nodes configs from message out (Stores c last free l e) = All-nil IsNoteInRange
