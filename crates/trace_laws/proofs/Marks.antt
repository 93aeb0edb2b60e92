-- The marks that results tell have four bytes.
use Rattle.std.proofs.Common.{◌≡◌, ℕ, ◌<◌, ◌≤◌, ◌^◌, ◌==◌, List, length, Option, Some, None, refl, arith}
use Rattle.std.specs.Prelude.{All}
use Rattle.tcs_terms.specs.declared.inputs.Event.{Event}
use Rattle.tcs_terms.specs.declared.inputs.Event.TheVariants.{Call, DeliverNumber, Stop}
use Rattle.tcs_terms.specs.declared.inputs.Handled.{Handled}
use Rattle.tcs_terms.specs.declared.inputs.Handled.TheVariants.{Acted, Stale, Held, Full}
use Rattle.tcs_terms.specs.declared.inputs.Input.{Input}
use Rattle.tcs_terms.specs.declared.inputs.Input.TheVariants.{Deliver}
use Rattle.tcs_terms.specs.declared.limits.TheConstants.{MAX_EPOCH}
use Rattle.tcs_terms.specs.declared.messages.Message.{Message}
use Rattle.tcs_terms.specs.Places.{Membership, IsMembership, is_among}
use Rattle.tcs_laws.specs.Certification.{Tests}
use Rattle.trace_text.specs.Lines.{IsHandled, IsResult}
use Rattle.protocol.specs.Outcomes.{Out}
use Rattle.protocol.specs.Records.{NodeRecord}
use Rattle.protocol.specs.Service.{last_config}
use Rattle.protocol.specs.Views.{epoch_of}
use Rattle.protocol.specs.World.{World, Sent, Happening, node_of, node_takes, give, deliver, deliver_if_sent, message_of, world_step}
use Rattle.protocol.proofs.Lists.{find-StandsIn}
use Rattle.protocol_laws.specs.Change.{IsServiceMark, Serves}
use Rattle.protocol_laws.specs.Change.IsServiceMark.{NoMark, LastEpoch}
use Rattle.protocol_laws.specs.Change.Serves.{HoldsBack, Tells, Stores}
use Rattle.protocol_laws.specs.Effect.{Tells as TellsMark, Effect}
use Rattle.protocol_laws.specs.Effect.Effect.{Rests}
use Rattle.protocol_laws.specs.Ranges.{IsNodeInRange, IsWorldInRange}
use Rattle.protocol_laws.proofs.AllOf.{all-at}
use Rattle.protocol_laws.proofs.EffectOf.{effect_of}
use Rattle.protocol_laws.proofs.Guards.{by_guard, by_option}
use Rattle.protocol_laws.proofs.RangesKept.{epoch-few}
use Rattle.protocol_laws.proofs.RangesRefused.{epoch-small, mark-few}
use Rattle.protocol_laws.proofs.ServesOf.{last_config-StandsIn, serves_of}

-- an answer whose marks are small
told-small : (Mark : ℕ → Type 0) → ((n : ℕ) → Mark n → n < 2 ^ 32) → (told : Handled) → TellsMark Mark told → IsHandled told
told-small Mark few Acted m = tt
told-small Mark few (Stale mark) m = few mark m
told-small Mark few (Held mark) m = few mark m
told-small Mark few Full m = tt

-- a node's answer
node-tells : (tests : Tests) (version : ℕ) (node : NodeRecord) (input : Input) (out : Out NodeRecord) → Effect tests version node input out → IsNodeInRange node → IsHandled out.answer
node-tells tests version node input out (Rests i told notices r) k = told-small _ (mark-few node k) told r.mark
node-tells tests version node input out _ k = tt

last-few : (configs : List Membership) (shard : ℕ) → All IsMembership configs → epoch_of (last_config configs shard) ≤ MAX_EPOCH
last-few configs shard k = go (last_config configs shard) refl
  where
    go : (o : Option Membership) → last_config configs shard ≡ o → epoch_of o ≤ MAX_EPOCH
    go None e = omega arith
    go (Some c) e = epoch-few c.epoch (all-at IsMembership configs k c (last_config-StandsIn configs shard c e)).epoch

service-mark-few : (configs : List Membership) → All IsMembership configs → (n : ℕ) → IsServiceMark configs n → n < 2 ^ 32
service-mark-few configs k _ NoMark = omega arith
service-mark-few configs k _ (LastEpoch shard) = epoch-small _ (last-few configs shard k)

-- the service's answer
service-tells : (nodes : ℕ) (configs : List Membership) (from : ℕ) (message : Message) (out : Out (List Membership)) → Serves nodes configs from message out → All IsMembership configs → IsHandled out.answer
service-tells nodes configs from message out (HoldsBack m told notices r) k = told-small _ (service-mark-few configs k) told r.mark
service-tells nodes configs from message out (Tells m c s) k = tt
service-tells nodes configs from message out (Stores c last free l e) k = tt

-- a node takes an input, or there is none that runs
given-result : (tests : Tests) (version : ℕ) (w : World) (name : ℕ) (input : Input) → IsWorldInRange w → IsResult (give tests version w name input).result
unfolding give
given-result tests version w name input k =
    by_guard {A = Happening} (λ h. IsResult h.result) (is_among w.stopped name) (λ e. tt)
    (λ e. by_option (λ (h : Happening). IsResult h.result) (node_takes tests version w name input) (node_of w.nodes name) (λ none. tt)
    (λ node found. node-tells tests version node input _ (effect_of tests version node input) (all-at IsNodeInRange w.nodes k.nodes node (find-StandsIn (λ (n : NodeRecord). n.name == name) w.nodes node found).0)))

delivered-result : (tests : Tests) (version : ℕ) (w : World) (sent : Sent) → IsWorldInRange w → IsResult (deliver tests version w sent).result
unfolding deliver
delivered-result tests version w sent k =
    by_guard {A = Happening} (λ h. IsResult h.result) (sent.to == 0)
    (λ e. service-tells (length w.nodes) w.configs sent.from sent.message _ (serves_of (length w.nodes) w.configs sent.from sent.message) k.configs)
    (λ e. given-result tests version w sent.to (Deliver sent.from sent.message) k)

-- the result of an event
pub result-small : (tests : Tests) (version : ℕ) (w : World) (event : Event) → IsWorldInRange w → IsResult (world_step tests version w event).result
unfolding world_step
result-small tests version w (Call name input) k = given-result tests version w name input k
result-small tests version w (DeliverNumber number) k =
    by_option (λ (h : Happening). IsResult h.result) (deliver_if_sent tests version w) (message_of w.messages number) (λ none. tt) (λ sent found. delivered-result tests version w sent k)
result-small tests version w (Stop name) k = by_guard {A = Happening} (λ h. IsResult h.result) (is_among w.stopped name) (λ e. tt) (λ e. tt)
