-- What the service holds a message against.
use Rattle.std.specs.Prelude.{ℕ, List}
use Rattle.tcs_terms.specs.declared.messages.Message.{Message}
use Rattle.tcs_terms.specs.declared.messages.Message.TheVariants.{Prepare, PrepareAck, Accept, AcceptAck, DecisionFor, Probe, ProbeAck, NewConfig, NewState, ConfigChange, Last, At, Cas, Stored, OutcomeOf, Refused, StatePiece}
use Rattle.tcs_terms.specs.Places.{Membership}
use Rattle.protocol.specs.Service.{last_epoch}

-- the last epoch of the shard that a message names, 0 where it names none
abbrev pub mark_of : List Membership → Message → ℕ
mark_of configs (Prepare epoch txn shards part) = 0
mark_of configs (PrepareAck shard epoch entry) = last_epoch configs shard
mark_of configs (Accept epoch entry) = 0
mark_of configs (AcceptAck shard epoch slot txn) = last_epoch configs shard
mark_of configs (DecisionFor epoch slot txn commit) = 0
mark_of configs (Probe epoch) = 0
mark_of configs (ProbeAck epoch state) = 0
mark_of configs (NewConfig c) = last_epoch configs c.shard
mark_of configs (NewState c rows) = last_epoch configs c.shard
mark_of configs (ConfigChange c) = last_epoch configs c.shard
mark_of configs (Last shard) = last_epoch configs shard
mark_of configs (At shard epoch) = last_epoch configs shard
mark_of configs (Cas c) = last_epoch configs c.shard
mark_of configs (Stored c) = last_epoch configs c.shard
mark_of configs (OutcomeOf txn decision) = 0
mark_of configs (Refused kind why mark) = 0
mark_of configs (StatePiece c number pieces rows) = last_epoch configs c.shard
