-- Every event is one of the changes.
use Rattle.std.proofs.Common.{◌≡◌, ℕ, ◌-◌, ◌==◌, Bool, true, false, cond, List, length, Some, None, slice_get, ap, refl, eqb-true}
use Rattle.tcs_terms.specs.declared.inputs.Event.{Event}
use Rattle.tcs_terms.specs.declared.inputs.Event.TheVariants.{Call, DeliverNumber, Stop}
use Rattle.tcs_terms.specs.declared.inputs.Input.{Input}
use Rattle.tcs_terms.specs.declared.inputs.Input.TheVariants as inputs
use Rattle.tcs_terms.specs.declared.inputs.Result1.TheVariants.{Gone, Unsent}
use Rattle.tcs_terms.specs.Places.{is_among}
use Rattle.tcs_laws.specs.Certification.{Tests}
use Rattle.protocol.specs.Invariant.Time.{StandsIn}
use Rattle.protocol.specs.Service.{serve}
use Rattle.protocol.specs.Table.{step}
use Rattle.protocol.specs.World.{World, Sent, Happening, node_of, node_takes, give, deliver, deliver_if_sent, message_of, world_step}
use Rattle.protocol.proofs.Lists.{find-StandsIn}
use Rattle.protocol_laws.specs.Change.{Comes, ByCall, ByMessage, Change, Passes, Stops, Acts, AtService}
use Rattle.protocol_laws.proofs.EffectOf.{effect_of}
use Rattle.protocol_laws.proofs.Guards.{by_guard, by_option}
use Rattle.protocol_laws.proofs.ServesOf.{serves_of}
use Rattle.protocol_laws.proofs.Standing.{slice_get-StandsIn}

-- a message that has a number was sent
message_of-StandsIn : (messages : List Sent) (number : ℕ) (sent : Sent) → message_of messages number ≡ Some sent → StandsIn sent messages
message_of-StandsIn messages number sent h = go (number == 0) h
  where
    go : (b : Bool) → cond b None (slice_get messages (number - 1)) ≡ Some sent → StandsIn sent messages
    go true e = absurd (cc e)
    go false e = slice_get-StandsIn messages (number - 1) sent e

-- a node takes an input, or there is none that runs
give_change : (tests : Tests) (version : ℕ) (w : World) (event : Event) (name : ℕ) (input : Input) → Comes w name event input → Change tests version w event (give tests version w name input)
unfolding give
give_change tests version w event name input comes =
    let P : Happening → Type 0 = Change tests version w event in
    by_guard P (is_among w.stopped name)
    (λ gone. Passes event Gone refl)
    (λ runs. by_option P (node_takes tests version w name input) (node_of w.nodes name)
    (λ none. Passes event Gone refl)
    (λ node some. let p = find-StandsIn (λ n. n.name == name) w.nodes node some in
    Acts event name node input (step tests version node input) comes some p.0 (eqb-true node.name name p.1) runs (effect_of tests version node input)))

deliver_change : (tests : Tests) (version : ℕ) (w : World) (number : ℕ) (sent : Sent) → message_of w.messages number ≡ Some sent
    → Change tests version w (DeliverNumber number) (deliver tests version w sent)
unfolding deliver
deliver_change tests version w number sent some =
    let stands : StandsIn sent w.messages = message_of-StandsIn w.messages number sent some in
    by_guard (Change tests version w (DeliverNumber number)) (sent.to == 0)
    (λ e. AtService number sent.from sent.message sent (serve (length w.nodes) w.configs sent.from sent.message)
    (ap (λ n. record { from = sent.from; to = n; message = sent.message }) (eqb-true sent.to 0 e)) some stands
    (serves_of (length w.nodes) w.configs sent.from sent.message))
    (λ e. give_change tests version w (DeliverNumber number) sent.to (inputs.Deliver sent.from sent.message) (ByMessage number sent.from sent.message sent refl some stands))

pub change_of : (tests : Tests) (version : ℕ) (w : World) (event : Event) → Change tests version w event (world_step tests version w event)
unfolding world_step
change_of tests version w (Call name input) = give_change tests version w (Call name input) name input (ByCall input)
change_of tests version w (DeliverNumber number) =
    by_option (Change tests version w (DeliverNumber number)) (deliver_if_sent tests version w) (message_of w.messages number)
    (λ none. Passes (DeliverNumber number) Unsent refl)
    (λ sent some. deliver_change tests version w number sent some)
change_of tests version w (Stop name) =
    by_guard (Change tests version w (Stop name)) (is_among w.stopped name) (λ gone. Passes (Stop name) Gone refl) (λ runs. Stops name)
