-- What is true of every world between its steps.
use Rattle.std.specs.Prelude.{◌≡◌, ℕ, ◌≤◌, Bool, true, false, List, Option, Some, None}
use Rattle.tcs_terms.specs.declared.inputs.Note.{Note}
use Rattle.tcs_terms.specs.Setups.{Deployment, IsDeployment}
use Rattle.protocol.specs.History.{order_of}
use Rattle.protocol.specs.Limit.{frame_bytes, frame_limit}
use Rattle.protocol.specs.World.{World, Sent}
use Rattle.protocol_laws.specs.Ranges.{IsWorldInRange}
use Rattle.world.specs.Casts.{Cast}
use Rattle.world.specs.Nodes.{AreNamed}
use Rattle.world.specs.Turns.{LedgerState}

-- the world of a cast, with its messages and its history
abbrev pub world_in : Cast → List Sent → List Note → World
world_in cast messages history = record {
  nodes = cast.peers.nodes;
  configs = cast.configs;
  messages = messages;
  stopped = cast.stopped;
  history = history;
}

-- The cast follows the setup's version, and its nodes are named from 1 on; everything is in range, and the frames are
-- within the limit.
pub record GoesOn (setup : Deployment) (cast : Cast) (messages : List Sent) (history : List Note) : Type 0 where
  pub deployment : IsDeployment setup
  pub version : cast.peers.version ≡ setup.version
  pub named : AreNamed cast.peers.nodes
  pub in_range : IsWorldInRange (world_in cast messages history)
  pub within : frame_bytes messages ≤ frame_limit

-- the same until the messages would have passed the limit
abbrev pub GoesOnUnless : Option ℕ → Deployment → Cast → List Sent → List Note → Type 0
GoesOnUnless None setup cast messages history = GoesOn setup cast messages history
GoesOnUnless (Some sum) setup cast messages history = Unit {0}

-- and the order that is kept is that of the history
pub record IsSound (full : Option ℕ) (setup : Deployment) (cast : Cast) (ledger : LedgerState) : Type 0 where
  pub order_is : ledger.order ≡ order_of ledger.history
  pub goes_on : GoesOnUnless full setup cast ledger.messages ledger.history

-- a world that is spent owes nothing
abbrev pub IsSoundUnless : Bool → Option ℕ → Deployment → Cast → LedgerState → Type 0
IsSoundUnless true full setup cast ledger = Unit {0}
IsSoundUnless false full setup cast ledger = IsSound full setup cast ledger
