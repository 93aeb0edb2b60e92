-- One event of a run, from a moment at which the whole invariant holds; and what only grows with it.
use Rattle.std.specs.Prelude.{◌≡◌, ◌≤◌, true, List, ◌∷◌, ◌++◌, ◌⊎◌}
use Rattle.tcs_terms.specs.declared.inputs.Event.{Event}
use Rattle.tcs_terms.specs.declared.inputs.Note.{Note}
use Rattle.tcs_terms.specs.Events.{event_fits}
use Rattle.tcs_terms.specs.Places.{Membership}
use Rattle.tcs_terms.specs.Preparations.{Preparation}
use Rattle.tcs_terms.specs.Setups.{Deployment, IsDeployment}
use Rattle.tcs_laws.specs.Certification.{Tests}
use Rattle.protocol.specs.Invariant.{InvariantHolds}
use Rattle.protocol.specs.Invariant.Logs.{entries_of}
use Rattle.protocol.specs.Invariant.Time.{Moment, StandsIn, IsNode, IsStored}
use Rattle.protocol.specs.Records.{NodeRecord}
use Rattle.protocol.specs.ShardRules.{least}
use Rattle.protocol.specs.World.{Sent, Happening}
use Rattle.protocol_laws.specs.Change.{Change}

-- an event that fits the setup, at a moment at which the invariant holds
pub record Turn (tests : Tests) (setup : Deployment) (t : Moment) (event : Event) (h : Happening) : Type 0 where
  pub deployment : IsDeployment setup
  pub fits : event_fits setup event ≡ true
  pub before : InvariantHolds tests setup t
  pub change : Change tests setup.version t.now event h

-- A node and the same node one event later. Its promise does not fall; its state epoch stays, or comes to one that it
-- might still reach; while it stays, no entry goes.
pub record Grows (old new : NodeRecord) : Type 0 where
  pub name : new.name ≡ old.name
  pub shard : new.shard ≡ old.shard
  pub promised : old.promised ≤ new.promised
  pub state : (new.state ≡ old.state) ⊎ (least old ≤ new.state)
  pub next : old.next ≤ new.next
  pub entries : new.state ≡ old.state → (x : Preparation) → StandsIn x (entries_of old.rows) → StandsIn x (entries_of new.rows)

-- a node of the earlier moment, of which a later one has grown
pub record GrewFrom (t : Moment) (new : NodeRecord) : Type 0 where
  pub old : NodeRecord
  pub is : IsNode t old
  pub grows : Grows old new

-- a node of the later moment, to which an earlier one has grown
pub record GrewTo (u : Moment) (old : NodeRecord) : Type 0 where
  pub new : NodeRecord
  pub is : IsNode u new
  pub grows : Grows old new

-- What one event never takes away.
pub record Onward (t u : Moment) : Type 0 where
  pub messages : (s : Sent) → StandsIn s t.now.messages → StandsIn s u.now.messages
  pub stored : (c : Membership) → IsStored t c → IsStored u c
  pub notes : List Note
  pub history : u.now.history ≡ t.now.history ++ notes
  pub forth : (node : NodeRecord) → IsNode t node → GrewTo u node
  pub back : (node : NodeRecord) → IsNode u node → GrewFrom t node
  pub past : u.before ≡ t.now ∷ t.before
