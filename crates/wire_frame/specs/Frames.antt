-- Reading a message, and a frame whole.
use Rattle.std.specs.Prelude.{◌≡◌, ℕ, ◌-◌, Bool, ◌&&◌, ◌==◌, nat_le, if◌then◌else◌, List, length, Option, Some, None, Result, Ok, Err}
use Rattle.std.specs.Int.{w16, w32}
use Rattle.tcs_terms.specs.declared.limits.TheConstants.{MAX_SLOT, MAX_EPOCH, MAX_PIECES, MAX_PIECE_ROWS}
use Rattle.tcs_terms.specs.declared.kinds.Kind.{Kind}
use Rattle.tcs_terms.specs.declared.kinds.Kind.TheVariants as kinds
use Rattle.tcs_terms.specs.declared.messages.Message.{Message}
use Rattle.tcs_terms.specs.declared.messages.Message.TheVariants.{Prepare, PrepareAck, Accept, AcceptAck, DecisionFor, Probe, ProbeAck, NewConfig, NewState, ConfigChange, Last, At, Cas, Stored, OutcomeOf, Refused, StatePiece}
use Rattle.tcs_terms.specs.Kinds.{kind_number}
use Rattle.wire_frame.specs.declared.faults.FrameReason.{FrameReason}
use Rattle.wire_frame.specs.declared.faults.FrameReason.TheVariants as reasons
use Rattle.wire_frame.specs.declared.faults.FrameReason.TheVariants.{Range, Trailing}
use Rattle.wire_frame.specs.declared.faults.DecodeFault.{DecodeFault}
use Rattle.wire_frame.specs.declared.faults.DecodeFault.TheVariants.{Bad, OutOfMemory}
use Rattle.wire_frame.specs.declared.faults.Fault.{Fault}
use Rattle.wire_frame.specs.Reading.{Reads, fault_at, ◌>>=◌, number_at, tested}
use Rattle.wire_frame.specs.Parts.{is_up_to, kind_at, epoch_at, slot_at, shard_at, txn_at, shards_at, config_at, maybe_at, entry_at, rows_at, decision_at, commit_at, why_at}

unfoldable pub prepare_at : List ℕ → Reads Message
prepare_at bytes = do
  epoch ← epoch_at bytes
  txn ← txn_at epoch.1
  shards ← shards_at txn.1
  payload ← maybe_at shards.1
  Ok (Prepare epoch.0 txn.0 shards.0 payload.0, payload.1)

unfoldable pub prepare_ack_at : List ℕ → Reads Message
prepare_ack_at bytes = do
  shard ← shard_at bytes
  epoch ← epoch_at shard.1
  entry ← entry_at epoch.1
  Ok (PrepareAck shard.0 epoch.0 entry.0, entry.1)

unfoldable pub accept_at : List ℕ → Reads Message
accept_at bytes = do
  epoch ← epoch_at bytes
  entry ← entry_at epoch.1
  Ok (Accept epoch.0 entry.0, entry.1)

unfoldable pub accept_ack_at : List ℕ → Reads Message
accept_ack_at bytes = do
  shard ← shard_at bytes
  epoch ← epoch_at shard.1
  slot ← slot_at epoch.1
  txn ← txn_at slot.1
  Ok (AcceptAck shard.0 epoch.0 slot.0 txn.0, txn.1)

unfoldable pub decision_for_at : List ℕ → Reads Message
decision_for_at bytes = do
  epoch ← epoch_at bytes
  slot ← slot_at epoch.1
  txn ← txn_at slot.1
  commit ← commit_at txn.1
  Ok (DecisionFor epoch.0 slot.0 txn.0 commit.0, commit.1)

unfoldable pub probe_at : List ℕ → Reads Message
probe_at bytes = do
  epoch ← epoch_at bytes
  Ok (Probe epoch.0, epoch.1)

-- the last epoch in which a member was initialised, or 0
unfoldable pub state_at : List ℕ → Reads ℕ
state_at bytes = tested Range (λ n. nat_le n MAX_EPOCH) (number_at w32) bytes

unfoldable pub probe_ack_at : List ℕ → Reads Message
probe_ack_at bytes = do
  epoch ← epoch_at bytes
  state ← state_at epoch.1
  Ok (ProbeAck epoch.0 state.0, state.1)

unfoldable pub new_config_at : List ℕ → Reads Message
new_config_at bytes = do
  config ← config_at bytes
  Ok (NewConfig config.0, config.1)

unfoldable pub new_state_at : List ℕ → Reads Message
new_state_at bytes = do
  config ← config_at bytes
  rows ← rows_at MAX_SLOT config.1
  Ok (NewState config.0 rows.0, rows.1)

unfoldable pub config_change_at : List ℕ → Reads Message
config_change_at bytes = do
  config ← config_at bytes
  Ok (ConfigChange config.0, config.1)

unfoldable pub last_at : List ℕ → Reads Message
last_at bytes = do
  shard ← shard_at bytes
  Ok (Last shard.0, shard.1)

unfoldable pub at_at : List ℕ → Reads Message
at_at bytes = do
  shard ← shard_at bytes
  epoch ← epoch_at shard.1
  Ok (At shard.0 epoch.0, epoch.1)

unfoldable pub cas_at : List ℕ → Reads Message
cas_at bytes = do
  config ← config_at bytes
  Ok (Cas config.0, config.1)

unfoldable pub stored_at : List ℕ → Reads Message
stored_at bytes = do
  config ← config_at bytes
  Ok (Stored config.0, config.1)

unfoldable pub outcome_at : List ℕ → Reads Message
outcome_at bytes = do
  txn ← txn_at bytes
  decision ← decision_at txn.1
  Ok (OutcomeOf txn.0 decision.0, decision.1)

unfoldable pub refused_at : List ℕ → Reads Message
refused_at bytes = do
  kind ← kind_at Range bytes
  why ← why_at kind.1
  mark ← number_at w32 why.1
  Ok (Refused (kind_number kind.0) why.0 mark.0, mark.1)

-- the number of a piece
unfoldable pub piece_at : List ℕ → Reads ℕ
piece_at bytes = tested Range (is_up_to MAX_PIECES) (number_at w16) bytes

-- how many pieces there are: no fewer than the number of one
unfoldable pub pieces_at : ℕ → List ℕ → Reads ℕ
pieces_at piece bytes = tested Range (λ n. nat_le piece n && nat_le n MAX_PIECES) (number_at w16) bytes

unfoldable pub state_piece_at : List ℕ → Reads Message
state_piece_at bytes = do
  config ← config_at bytes
  piece ← piece_at config.1
  pieces ← pieces_at piece.0 piece.1
  rows ← rows_at MAX_PIECE_ROWS pieces.1
  Ok (StatePiece config.0 piece.0 pieces.0 rows.0, rows.1)

-- a message of this kind
unfoldable pub body_at : Kind → List ℕ → Reads Message
body_at kinds.Prepare bytes = prepare_at bytes
body_at kinds.PrepareAck bytes = prepare_ack_at bytes
body_at kinds.Accept bytes = accept_at bytes
body_at kinds.AcceptAck bytes = accept_ack_at bytes
body_at kinds.Decision bytes = decision_for_at bytes
body_at kinds.Probe bytes = probe_at bytes
body_at kinds.ProbeAck bytes = probe_ack_at bytes
body_at kinds.NewConfig bytes = new_config_at bytes
body_at kinds.NewState bytes = new_state_at bytes
body_at kinds.ConfigChange bytes = config_change_at bytes
body_at kinds.Last bytes = last_at bytes
body_at kinds.At bytes = at_at bytes
body_at kinds.Cas bytes = cas_at bytes
body_at kinds.Stored bytes = stored_at bytes
body_at kinds.Outcome bytes = outcome_at bytes
body_at kinds.Refused bytes = refused_at bytes
body_at kinds.StatePiece bytes = state_piece_at bytes

unfoldable pub message_at : List ℕ → Reads Message
message_at bytes = do
  kind ← kind_at reasons.Kind bytes
  body_at kind.0 kind.1

-- the message that the bytes spell, all of them, or the first fault from the left
unfoldable pub read_frame : List ℕ → Result Message Fault
read_frame bytes = do
  m ← message_at bytes
  if length m.1 == 0 then Ok m.0 else Err (fault_at Trailing m.1)

-- the reason of a fault in these bytes, and its place, counted from 0
abbrev pub reason_and_place : List ℕ → Result Message Fault → Option (FrameReason × ℕ)
reason_and_place bytes (Ok m) = None
reason_and_place bytes (Err f) = Some (f.reason, length bytes - f.left)

-- the reason and the place of the first fault from the left; nothing where the bytes spell a message
unfoldable pub fault : List ℕ → Option (FrameReason × ℕ)
fault bytes = reason_and_place bytes (read_frame bytes)

-- What decoding the bytes came to: the message that they spell, or their first fault, unless memory ran out.
abbrev pub Decodes : List ℕ → Result Message DecodeFault → Type 0
Decodes bytes (Ok m) = read_frame bytes ≡ Ok m
Decodes bytes (Err (Bad reason place)) = fault bytes ≡ Some (reason, place)
Decodes bytes (Err OutOfMemory) = Unit {0}

-- the answer is this message, or that memory ran out
abbrev pub IsMemoryOr : Message → Result Message DecodeFault → Type 0
IsMemoryOr m (Ok n) = n ≡ m
IsMemoryOr m (Err (Bad reason place)) = ⊥
IsMemoryOr m (Err OutOfMemory) = Unit {0}
