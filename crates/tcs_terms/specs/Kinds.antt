-- The kinds of messages, their numbers and their printed names.
use Rattle.std.specs.Prelude.{ℕ, ◌==◌, if◌then◌else◌, List, codes, Option, Some, None}
use Rattle.tcs_terms.specs.declared.kinds.Kind.{Kind}
use Rattle.tcs_terms.specs.declared.kinds.Kind.TheVariants as kinds
use Rattle.tcs_terms.specs.declared.messages.Message.{Message}
use Rattle.tcs_terms.specs.declared.messages.Message.TheVariants.{Prepare, PrepareAck, Accept, AcceptAck, DecisionFor, Probe, ProbeAck, NewConfig, NewState, ConfigChange, Last, At, Cas, Stored, OutcomeOf, Refused, StatePiece}

-- the kind of a message
abbrev pub kind_of : Message → Kind
kind_of (Prepare epoch txn shards payload) = kinds.Prepare
kind_of (PrepareAck shard epoch entry) = kinds.PrepareAck
kind_of (Accept epoch entry) = kinds.Accept
kind_of (AcceptAck shard epoch slot txn) = kinds.AcceptAck
kind_of (DecisionFor epoch slot txn commit) = kinds.Decision
kind_of (Probe epoch) = kinds.Probe
kind_of (ProbeAck epoch state) = kinds.ProbeAck
kind_of (NewConfig config) = kinds.NewConfig
kind_of (NewState config rows) = kinds.NewState
kind_of (ConfigChange config) = kinds.ConfigChange
kind_of (Last shard) = kinds.Last
kind_of (At shard epoch) = kinds.At
kind_of (Cas config) = kinds.Cas
kind_of (Stored config) = kinds.Stored
kind_of (OutcomeOf txn decision) = kinds.Outcome
kind_of (Refused kind why mark) = kinds.Refused
kind_of (StatePiece config piece pieces rows) = kinds.StatePiece

-- the number of a kind: the first byte of its frames
abbrev pub kind_number : Kind → ℕ
kind_number kinds.Prepare = 1
kind_number kinds.PrepareAck = 2
kind_number kinds.Accept = 3
kind_number kinds.AcceptAck = 4
kind_number kinds.Decision = 5
kind_number kinds.Probe = 6
kind_number kinds.ProbeAck = 7
kind_number kinds.NewConfig = 8
kind_number kinds.NewState = 9
kind_number kinds.ConfigChange = 10
kind_number kinds.Last = 11
kind_number kinds.At = 12
kind_number kinds.Cas = 13
kind_number kinds.Stored = 14
kind_number kinds.Outcome = 15
kind_number kinds.Refused = 16
kind_number kinds.StatePiece = 17

-- the kind of a number
abbrev pub kind_numbered : ℕ → Option Kind
kind_numbered number =
    if number == 1 then Some kinds.Prepare
    else if number == 2 then Some kinds.PrepareAck
    else if number == 3 then Some kinds.Accept
    else if number == 4 then Some kinds.AcceptAck
    else if number == 5 then Some kinds.Decision
    else if number == 6 then Some kinds.Probe
    else if number == 7 then Some kinds.ProbeAck
    else if number == 8 then Some kinds.NewConfig
    else if number == 9 then Some kinds.NewState
    else if number == 10 then Some kinds.ConfigChange
    else if number == 11 then Some kinds.Last
    else if number == 12 then Some kinds.At
    else if number == 13 then Some kinds.Cas
    else if number == 14 then Some kinds.Stored
    else if number == 15 then Some kinds.Outcome
    else if number == 16 then Some kinds.Refused
    else if number == 17 then Some kinds.StatePiece
    else None

-- its printed name
abbrev pub kind_word : Kind → List ℕ
kind_word kinds.Prepare = codes "PREPARE"
kind_word kinds.PrepareAck = codes "PREPARE_ACK"
kind_word kinds.Accept = codes "ACCEPT"
kind_word kinds.AcceptAck = codes "ACCEPT_ACK"
kind_word kinds.Decision = codes "DECISION"
kind_word kinds.Probe = codes "PROBE"
kind_word kinds.ProbeAck = codes "PROBE_ACK"
kind_word kinds.NewConfig = codes "NEW_CONFIG"
kind_word kinds.NewState = codes "NEW_STATE"
kind_word kinds.ConfigChange = codes "CONFIG_CHANGE"
kind_word kinds.Last = codes "LAST"
kind_word kinds.At = codes "AT"
kind_word kinds.Cas = codes "CAS"
kind_word kinds.Stored = codes "STORED"
kind_word kinds.Outcome = codes "OUTCOME"
kind_word kinds.Refused = codes "REFUSED"
kind_word kinds.StatePiece = codes "STATE_PIECE"
