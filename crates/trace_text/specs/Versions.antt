-- Which messages may stand in a trace of a version: version 1 has no ranges and sends the rows of a leader at once,
-- version 2 sends them in pieces.
use Rattle.std.specs.Prelude.{ℕ, Bool, true, ◌&&◌, ◌||◌, ◌==◌, length, Option, Some, None}
use Rattle.std.specs.List.{list_all}
use Rattle.tcs_terms.specs.declared.messages.Message.{Message}
use Rattle.tcs_terms.specs.declared.messages.Message.TheVariants.{Prepare, PrepareAck, Accept, AcceptAck, DecisionFor, Probe, ProbeAck, NewConfig, NewState, ConfigChange, Last, At, Cas, Stored, OutcomeOf, Refused, StatePiece}
use Rattle.tcs_terms.specs.declared.logs.Row.{Row}
use Rattle.tcs_terms.specs.Payloads.{Accesses}

abbrev pub payload_fits : ℕ → Option Accesses → Bool
payload_fits version None = true
payload_fits version (Some p) = (version == 2) || (length p.ranges == 0)

abbrev pub row_fits : ℕ → Row → Bool
row_fits version r = payload_fits version r.entry.payload

-- whether a message may stand in a trace of this version, 1 or 2
abbrev pub message_fits : ℕ → Message → Bool
message_fits version (Prepare epoch txn shards payload) = payload_fits version payload
message_fits version (PrepareAck shard epoch entry) = payload_fits version entry.payload
message_fits version (Accept epoch entry) = payload_fits version entry.payload
message_fits version (AcceptAck shard epoch slot txn) = true
message_fits version (DecisionFor epoch slot txn commit) = true
message_fits version (Probe epoch) = true
message_fits version (ProbeAck epoch state) = true
message_fits version (NewConfig config) = true
message_fits version (NewState config rows) = (version == 1) && list_all (row_fits version) rows
message_fits version (ConfigChange config) = true
message_fits version (Last shard) = true
message_fits version (At shard epoch) = true
message_fits version (Cas config) = true
message_fits version (Stored config) = true
message_fits version (OutcomeOf txn decision) = true
message_fits version (Refused kind why mark) = true
message_fits version (StatePiece config piece pieces rows) = version == 2
