-- What an event makes of the cast, guard by guard.
use Rattle.std.proofs.Common.{◌≡◌, ℕ, ◌-◌, ◌<◌, ◌≤◌, Bool, true, false, ◌==◌, List, [], ◌∷◌, length, Option, Some, None, Result, Ok, Err, IfOk, refl, sym, ap, subst, ◌∙◌, arith}
use Rattle.std.specs.Prelude.{slice_get}
use Rattle.tcs_terms.specs.declared.inputs.Event.TheVariants.{Call, DeliverNumber, Stop}
use Rattle.tcs_terms.specs.declared.messages.Message.{Message}
use Rattle.tcs_terms.specs.Messages.{InRange}
use Rattle.protocol.specs.Service.{serve}
use Rattle.protocol_laws.proofs.ServesOf.{serves_of}
use Rattle.protocol_laws.proofs.ServiceSays.{serves_no_notes}
use Rattle.world.specs.declared.arena.Delivery.{Delivery}
use Rattle.world.specs.Posting.{IsDelivery}
use Rattle.std.proofs.lemmas.Bool.{eq-eqb}
use Rattle.std.proofs.lemmas.Bool.Decides.{nat_tests}
use Rattle.std.proofs.lemmas.Option.{slice_get_past, slice_get-get_or}
use Rattle.tcs_terms.specs.declared.inputs.Input.{Input}
use Rattle.tcs_terms.specs.declared.inputs.Input.TheVariants as inputs
use Rattle.tcs_terms.specs.declared.inputs.Result1.TheVariants.{Gone}
use Rattle.tcs_terms.specs.Places.{Membership, is_among}
use Rattle.tcs_laws.specs.Certification.{Tests}
use Rattle.protocol.specs.Choices.{when}
use Rattle.protocol.specs.Records.{NodeRecord}
use Rattle.protocol.specs.Table.{step}
use Rattle.protocol.specs.World.{Sent, message_of}
use Rattle.world.specs.declared.casts.Doing.{Doing as Told}
use Rattle.world.specs.Doings.{IsDone}
use Rattle.world.specs.Casts.{Peers, Cast, Doing, rests_with, done_by, taken, given, served, delivered, delivered_if_sent, stops_there, stopping, does, peer_of}

when_true : {A : Type 0} (b : Bool) (x y : A) → b ≡ true → when b x y ≡ x
unfolding when
when_true true x y e = refl
when_true false x y e = absurd cc

when_false : {A : Type 0} (b : Bool) (x y : A) → b ≡ false → when b x y ≡ y
unfolding when
when_false true x y e = absurd cc
when_false false x y e = refl

pub given_gone : (tests : Tests) (cast : Cast) (name : ℕ) (input : Input) → is_among cast.stopped name ≡ true → given tests cast name input ≡ rests_with cast Gone
unfolding given
given_gone tests cast name input e = when_true (is_among cast.stopped name) _ _ e

pub given_none : (tests : Tests) (cast : Cast) (name : ℕ) (input : Input) → is_among cast.stopped name ≡ false → length cast.peers.nodes < name → given tests cast name input ≡ rests_with cast Gone
unfolding given
given_none tests cast name input e past =
    when_false (is_among cast.stopped name) _ _ e ∙ ap (taken tests cast name input) (slice_get_past cast.peers.nodes (name - 1) (omega arith))

pub given_done : (tests : Tests) (cast : Cast) (name : ℕ) (input : Input) (node : NodeRecord) → is_among cast.stopped name ≡ false → peer_of cast.peers name ≡ Some node
    → given tests cast name input ≡ done_by cast name (step tests cast.peers.version node input)
unfolding given
given_done tests cast name input node e there = when_false (is_among cast.stopped name) _ _ e ∙ ap (taken tests cast name input) there

-- a node of a name within the count
pub record There (peers : Peers) (name : ℕ) : Type 0 where
  pub node : NodeRecord
  pub is : peer_of peers name ≡ Some node

pub there_is : (peers : Peers) (name : ℕ) → 1 ≤ name → name ≤ length peers.nodes → There peers name
there_is peers name low high = go peers.nodes (name - 1) refl (omega arith)
  where
    go : (nodes : List NodeRecord) (i : ℕ) → slice_get peers.nodes (name - 1) ≡ slice_get nodes i → i < length nodes → There peers name
    go [] i e lt = absurd (omega arith)
    go (n ∷ ns) i e lt = record { node = _; is = e ∙ slice_get-get_or (n ∷ ns) i n lt }

pub delivered_served : (tests : Tests) (cast : Cast) (sent : Sent) → sent.to ≡ 0 → delivered tests cast sent ≡ served cast sent.from sent.message
unfolding delivered
delivered_served tests cast sent e = when_true (sent.to == 0) _ _ (eq-eqb sent.to 0 e)

pub delivered_given : (tests : Tests) (cast : Cast) (sent : Sent) → 1 ≤ sent.to → delivered tests cast sent ≡ given tests cast sent.to (inputs.Deliver sent.from sent.message)
unfolding delivered
delivered_given tests cast sent low = when_false (sent.to == 0) _ _ (apart sent.to low)
  where
    apart : (n : ℕ) → 1 ≤ n → (n == 0) ≡ false
    apart n h = grind (arith, nat_tests)

pub stopping_gone : (cast : Cast) (name : ℕ) → is_among cast.stopped name ≡ true → stopping cast name ≡ rests_with cast Gone
unfolding stopping
stopping_gone cast name e = when_true (is_among cast.stopped name) _ _ e

pub stopping_done : (cast : Cast) (name : ℕ) → is_among cast.stopped name ≡ false → stopping cast name ≡ stops_there cast name
unfolding stopping
stopping_done cast name e = when_false (is_among cast.stopped name) _ _ e

-- what is done is done, by whatever name
pub done_as : (told : Told) (now : Cast) (d d2 : Doing) → d2 ≡ d → IsDone told now d → IsDone told now d2
done_as told now d d2 same is = subst (λ x. IsDone told now x) (sym same) is

pub done_if : {E : Type 0} (r : Result Told E) (now : Cast) (d d2 : Doing) → d2 ≡ d → IfOk r (λ told. IsDone told now d) → IfOk r (λ told. IsDone told now d2)
done_if (Ok told) now d d2 same is = done_as told now d d2 same is
done_if (Err e) now d d2 same is = is

pub does_call : (tests : Tests) (cast : Cast) (messages : List Sent) (name : ℕ) (input : Input) → does tests cast messages (Call name input) ≡ given tests cast name input
unfolding does
does_call tests cast messages name input = refl

pub does_delivery : (tests : Tests) (cast : Cast) (messages : List Sent) (number : ℕ) (o : Option Sent) → message_of messages number ≡ o
    → does tests cast messages (DeliverNumber number) ≡ delivered_if_sent tests cast o
unfolding does
does_delivery tests cast messages number o e = ap (delivered_if_sent tests cast) e

pub does_stop : (tests : Tests) (cast : Cast) (messages : List Sent) (name : ℕ) → does tests cast messages (Stop name) ≡ stopping cast name
unfolding does
does_stop tests cast messages name = refl

-- what is there to deliver
pub none_there : (o : Option Sent) → IsDelivery None o → o ≡ None
none_there None h = refl
none_there (Some s) h = absurd h

pub some_there : (d : Delivery) (o : Option Sent) → IsDelivery (Some d) o → (o ≡ Some (record { from = d.from; to = d.to; message = d.message })) × InRange d.message
some_there d None h = absurd h
some_there d (Some s) h = (ap (λ x. Some x) (sym h.is), h.in_range)

-- the service notes nothing
pub serves_silently : (nodes : ℕ) (configs : List Membership) (from : ℕ) (message : Message) → (serve nodes configs from message).notes ≡ []
serves_silently nodes configs from message = serves_no_notes nodes configs from message _ (serves_of nodes configs from message)
