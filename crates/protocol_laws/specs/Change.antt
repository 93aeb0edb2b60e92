-- What one event of a run does: to the configuration service, to a node, to the world.
use Rattle.std.specs.Prelude.{◌≡◌, ℕ, ◌+◌, false, List, [], ◌∷◌, ◌++◌, length, Some, None}
use Rattle.tcs_terms.specs.declared.inputs.Event.{Event}
use Rattle.tcs_terms.specs.declared.inputs.Event.TheVariants.{Call, DeliverNumber, Stop}
use Rattle.tcs_terms.specs.declared.inputs.Handled.{Handled}
use Rattle.tcs_terms.specs.declared.inputs.Input.{Input}
use Rattle.tcs_terms.specs.declared.inputs.Input.TheVariants as inputs
use Rattle.tcs_terms.specs.declared.inputs.Result1.{Result1}
use Rattle.tcs_terms.specs.declared.messages.Message.{Message}
use Rattle.tcs_terms.specs.declared.messages.Message.TheVariants.{Cas, Stored}
use Rattle.tcs_terms.specs.declared.messages.Outgoing.{Outgoing}
use Rattle.tcs_terms.specs.Places.{Membership, is_among}
use Rattle.tcs_laws.specs.Certification.{Tests}
use Rattle.protocol.specs.FoundNothing.{has_acted}
use Rattle.protocol.specs.Outcomes.{Out, to, acts}
use Rattle.protocol.specs.Records.{NodeRecord}
use Rattle.protocol.specs.Service.{config_at, last_config, last_epoch, tell_nodes}
use Rattle.protocol.specs.World.{World, Sent, Happening, passes, stops, happens_at, happens_at_service, node_of, message_of}
use Rattle.protocol.specs.Invariant.Time.{StandsIn}
use Rattle.protocol_laws.specs.Effect.{IsRefusal, Effect}

-- the marks against which the service holds a message: the last epoch of a shard, and 0 where it names none
pub data IsServiceMark (configs : List Membership) : ℕ → Type 0 where
  NoMark : IsServiceMark configs 0
  LastEpoch : (shard : ℕ) → IsServiceMark configs (last_epoch configs shard)

-- what the service does with a message
pub data Serves (nodes : ℕ) (configs : List Membership) (from : ℕ) : Message → Out (List Membership) → Type 0 where
  HoldsBack : (message : Message) (answer : Handled) (notices : List Outgoing) → IsRefusal (IsServiceMark configs) (inputs.Deliver from message) 0 answer notices
      → Serves nodes configs from message (record { answer = answer; kept = configs; sends = notices; notes = [] })
  Tells : (message : Message) (c : Membership) → StandsIn c configs → Serves nodes configs from message (acts configs (to from (Stored c) ∷ []))
  Stores : (c last : Membership) → config_at configs c.shard c.epoch ≡ None → last_config configs c.shard ≡ Some last → c.epoch ≡ last.epoch + 1
      → Serves nodes configs from (Cas c) (acts (configs ++ c ∷ []) (to from (Stored c) ∷ tell_nodes nodes c))

-- how an input comes to a node: by a client's call, or as a message that was sent
pub data Comes (w : World) (name : ℕ) : Event → Input → Type 0 where
  ByCall : (input : Input) → Comes w name (Call name input) input
  ByMessage : (number from : ℕ) (message : Message) (sent : Sent) → sent ≡ record { from = from; to = name; message = message } → message_of w.messages number ≡ Some sent
      → StandsIn sent w.messages → Comes w name (DeliverNumber number) (inputs.Deliver from message)

-- what an event does
pub data Change (tests : Tests) (version : ℕ) (w : World) : Event → Happening → Type 0 where
  Passes : (event : Event) (result : Result1) → has_acted result ≡ false → Change tests version w event (passes w result)
  Stops : (name : ℕ) → Change tests version w (Stop name) (stops w name)
  Acts : (event : Event) (name : ℕ) (node : NodeRecord) (input : Input) (out : Out NodeRecord)
      → Comes w name event input → node_of w.nodes name ≡ Some node → StandsIn node w.nodes → node.name ≡ name → is_among w.stopped name ≡ false
      → Effect tests version node input out → Change tests version w event (happens_at w name out)
  AtService : (number from : ℕ) (message : Message) (sent : Sent) (out : Out (List Membership)) → sent ≡ record { from = from; to = 0; message = message }
      → message_of w.messages number ≡ Some sent → StandsIn sent w.messages
      → Serves (length w.nodes) w.configs from message out → Change tests version w (DeliverNumber number) (happens_at_service w out)
