-- What a monitor keeps, and how it changes as a run goes on.
use Rattle.std.specs.Prelude.{◌≡◌, ℕ, ◌≤◌, Bool, ◌&&◌, ◌==◌, nat_lt, if◌then◌else◌, List, [], ◌∷◌, map, fold, length, replicate, Option, Some, None, All}
use Rattle.std.specs.Option.{option_and_then}
use Rattle.tcs_terms.specs.declared.messages.Message.{Message}
use Rattle.tcs_terms.specs.declared.messages.Message.TheVariants.{Prepare, PrepareAck, Accept, AcceptAck, DecisionFor, Probe, ProbeAck, NewConfig, NewState, ConfigChange, Last, At, Cas, Stored, OutcomeOf, Refused, StatePiece}
use Rattle.tcs_terms.specs.declared.messages.Outgoing.{Outgoing}
use Rattle.tcs_terms.specs.Places.{Membership}
use Rattle.tcs_terms.specs.Setups.{Deployment}
use Rattle.monitor.specs.declared.moves.Proposal.{Proposal}
use Rattle.monitor.specs.Tally.{counted, shard_cleared}
use Rattle.monitor.specs.Moves.{missing, move_of}

-- the setup; at which count a node is missing; the count of each node, node 1 first; the newest configuration of each
-- shard that was announced, shard 1 first
pub record Watch : Type 0 where
  pub setup : Deployment
  pub miss : ℕ
  pub counts : List ℕ
  pub configs : List Membership

-- at first every count is 0, and the configurations are the setup's
abbrev pub first_watch : Deployment → ℕ → Watch
first_watch setup miss = record { setup = setup; miss = miss; counts = replicate (length setup.nodes) 0; configs = setup.configs }

-- a newer configuration takes the place of that of its shard
abbrev pub renewed : List Membership → Membership → List Membership
renewed configs new = map (λ (old : Membership). if (old.shard == new.shard) && nat_lt old.epoch new.epoch then new else old) configs

-- a message may announce a configuration
abbrev pub announced : List Membership → Message → List Membership
announced configs (Prepare epoch txn shards payload) = configs
announced configs (PrepareAck shard epoch entry) = configs
announced configs (Accept epoch entry) = configs
announced configs (AcceptAck shard epoch slot txn) = configs
announced configs (DecisionFor epoch slot txn commit) = configs
announced configs (Probe epoch) = configs
announced configs (ProbeAck epoch state) = configs
announced configs (NewConfig config) = configs
announced configs (NewState config rows) = configs
announced configs (ConfigChange config) = renewed configs config
announced configs (Last shard) = configs
announced configs (At shard epoch) = configs
announced configs (Cas config) = configs
announced configs (Stored config) = configs
announced configs (OutcomeOf txn decision) = configs
announced configs (Refused kind why mark) = configs
announced configs (StatePiece config piece pieces rows) = configs

-- after an event sent these messages, each with its sender
abbrev pub after_event : Watch → List (ℕ × Outgoing) → Watch
after_event w sent = record w {
  counts = counted w.counts sent;
  configs = fold (λ (configs : List Membership) (letter : ℕ × Outgoing). announced configs letter.1.message) w.configs sent;
}

-- the move that is proposed now
abbrev pub proposal : Watch → Option Proposal
proposal w = option_and_then (move_of w.miss w.setup.nodes w.counts) (missing w.miss w.setup.nodes w.counts w.configs)

-- the counts after a move of a configuration was proposed, if one was
abbrev pub set_back : List ℕ → List ℕ → Option Membership → List ℕ
set_back nodes counts None = counts
set_back nodes counts (Some config) = shard_cleared nodes config.shard counts

-- after a move was asked for: where one is proposed, the counts of the nodes of its shard are set back
abbrev pub after_asking : Watch → Watch
after_asking w = record w { counts = set_back w.setup.nodes w.counts (missing w.miss w.setup.nodes w.counts w.configs) }
