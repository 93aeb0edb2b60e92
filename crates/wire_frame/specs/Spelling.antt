-- The one spelling of each message in bytes. Numbers of more than one byte have the highest byte first.
use Rattle.std.specs.Prelude.{ℕ, ◌+◌, Bool, true, false, List, [], ◌∷◌, ◌++◌, length, Option, Some, None}
use Rattle.std.specs.List.{flat_map}
use Rattle.std.specs.Int.{w16, w32, w64, to_be_bytes}
use Rattle.tcs_terms.specs.declared.ids.TxId.{TxId}
use Rattle.tcs_terms.specs.declared.payloads.ReadPart.{ReadPart}
use Rattle.tcs_terms.specs.declared.payloads.RangePart.{RangePart}
use Rattle.tcs_terms.specs.declared.payloads.WritePart.{WritePart}
use Rattle.tcs_terms.specs.declared.votes.Vote.{Vote}
use Rattle.tcs_terms.specs.declared.votes.Vote.TheVariants as votes
use Rattle.tcs_terms.specs.declared.votes.Cause.{Cause}
use Rattle.tcs_terms.specs.declared.votes.Cause.TheVariants as causes
use Rattle.tcs_terms.specs.declared.votes.Decision.{Decision}
use Rattle.tcs_terms.specs.declared.votes.Decision.TheVariants as decisions
use Rattle.tcs_terms.specs.declared.logs.Mark.{Mark}
use Rattle.tcs_terms.specs.declared.logs.Mark.TheVariants.{Undecided, Committed, Aborted}
use Rattle.tcs_terms.specs.declared.logs.Row.{Row}
use Rattle.tcs_terms.specs.declared.messages.Why.{Why}
use Rattle.tcs_terms.specs.declared.messages.Why.TheVariants.{Stale, Held, Full}
use Rattle.tcs_terms.specs.declared.messages.Message.{Message}
use Rattle.tcs_terms.specs.declared.messages.Message.TheVariants.{Prepare, PrepareAck, Accept, AcceptAck, DecisionFor, Probe, ProbeAck, NewConfig, NewState, ConfigChange, Last, At, Cas, Stored, OutcomeOf, Refused, StatePiece}
use Rattle.tcs_terms.specs.Kinds as Kinds
use Rattle.tcs_terms.specs.Kinds.{kind_number}
use Rattle.tcs_terms.specs.Payloads.{Accesses}
use Rattle.tcs_terms.specs.Places.{Membership}
use Rattle.tcs_terms.specs.Preparations.{Preparation}

-- a number in two, four and eight bytes
unfoldable pub two : ℕ → List ℕ
two n = to_be_bytes w16 n

unfoldable pub four : ℕ → List ℕ
four n = to_be_bytes w32 n

unfoldable pub eight : ℕ → List ℕ
eight n = to_be_bytes w64 n

-- one byte for how many, and then they
abbrev pub counted : List ℕ → List ℕ
counted bytes = length bytes ∷ bytes

-- a transaction: its home, and its number there in four bytes
abbrev pub spell_txn : TxId → List ℕ
spell_txn t = t.home ∷ four t.seq

abbrev pub spell_read : ReadPart → List ℕ
spell_read r = counted r.name ++ eight r.version

abbrev pub spell_range : RangePart → List ℕ
spell_range q = counted q.from ++ counted q.upto ++ eight q.version

abbrev pub spell_write : WritePart → List ℕ
spell_write w = counted w.name ++ counted w.value

-- how many reads there are; 32 is added where ranges follow them
abbrev pub reads_byte : List ReadPart → List RangePart → ℕ
reads_byte reads [] = length reads
reads_byte reads (q ∷ qs) = 32 + length reads

-- nothing, or one byte for how many ranges there are, and the ranges
abbrev pub spell_ranges : List RangePart → List ℕ
spell_ranges [] = []
spell_ranges (q ∷ qs) = length (q ∷ qs) ∷ flat_map spell_range (q ∷ qs)

-- one byte for how many writes there are, and the writes
abbrev pub spell_writes : List WritePart → List ℕ
spell_writes writes = length writes ∷ flat_map spell_write writes

-- the commit version, the reads, the ranges where there are any, and the writes
unfoldable pub spell_payload : Accesses → List ℕ
spell_payload p =
    eight p.version ++ reads_byte p.reads p.ranges ∷ [] ++ flat_map spell_read p.reads ++ spell_ranges p.ranges ++ spell_writes p.writes

-- 00, or 01 and the payload
abbrev pub spell_maybe : Option Accesses → List ℕ
spell_maybe None = 0 ∷ []
spell_maybe (Some p) = 1 ∷ spell_payload p

-- 00, or 01 and the transaction that it clashes with, or 02
abbrev pub spell_vote : Vote → List ℕ
spell_vote votes.Commit = 0 ∷ []
spell_vote (votes.Clash txn) = 1 ∷ spell_txn txn
spell_vote votes.Lost = 2 ∷ []

-- the payload where it is kept: nothing is there exactly where the vote says that the preparation was lost
abbrev pub spell_kept : Option Accesses → List ℕ
spell_kept None = []
spell_kept (Some p) = spell_payload p

-- the vote, and the payload that it speaks of
abbrev pub spell_voted : Option Accesses → Vote → List ℕ
spell_voted payload vote = spell_vote vote ++ spell_kept payload

unfoldable pub spell_entry : Preparation → List ℕ
spell_entry e = two e.slot ++ spell_txn e.txn ++ counted e.shards ++ spell_voted e.payload e.vote

abbrev pub spell_mark : Mark → ℕ
spell_mark Undecided = 0
spell_mark Committed = 1
spell_mark Aborted = 2

abbrev pub spell_row : Row → List ℕ
spell_row r = spell_entry r.entry ++ spell_mark r.mark ∷ []

-- how many rows there are in two bytes, and the rows
unfoldable pub spell_rows : List Row → List ℕ
spell_rows rows = two (length rows) ++ flat_map spell_row rows

unfoldable pub spell_config : Membership → List ℕ
spell_config c = c.shard ∷ four c.epoch ++ counted c.members ++ c.leader ∷ [] ++ c.by ∷ []

-- why a transaction aborts: 01 and the transaction that it clashes with, or 02
abbrev pub spell_cause : Cause → List ℕ
spell_cause (causes.Clash txn) = 1 ∷ spell_txn txn
spell_cause causes.Lost = 2 ∷ []

-- 00, or 01, the shard that refused and why
abbrev pub spell_decision : Decision → List ℕ
spell_decision decisions.Commit = 0 ∷ []
spell_decision (decisions.Abort shard cause) = 1 ∷ shard ∷ spell_cause cause

-- 01 where the transaction commits, 02 where it aborts
abbrev pub spell_commit : Bool → ℕ
spell_commit true = 1
spell_commit false = 2

abbrev pub spell_why : Why → ℕ
spell_why Stale = 1
spell_why Held = 2
spell_why Full = 3

-- the first byte of a message: the number of its kind
abbrev pub kind_of : Message → ℕ
kind_of m = kind_number (Kinds.kind_of m)

-- the bytes of a message after its kind
abbrev pub spell_rest : Message → List ℕ
spell_rest (Prepare epoch txn shards payload) = four epoch ++ spell_txn txn ++ counted shards ++ spell_maybe payload
spell_rest (PrepareAck shard epoch entry) = shard ∷ four epoch ++ spell_entry entry
spell_rest (Accept epoch entry) = four epoch ++ spell_entry entry
spell_rest (AcceptAck shard epoch slot txn) = shard ∷ four epoch ++ two slot ++ spell_txn txn
spell_rest (DecisionFor epoch slot txn commit) = four epoch ++ two slot ++ spell_txn txn ++ spell_commit commit ∷ []
spell_rest (Probe epoch) = four epoch
spell_rest (ProbeAck epoch state) = four epoch ++ four state
spell_rest (NewConfig config) = spell_config config
spell_rest (NewState config rows) = spell_config config ++ spell_rows rows
spell_rest (ConfigChange config) = spell_config config
spell_rest (Last shard) = shard ∷ []
spell_rest (At shard epoch) = shard ∷ four epoch
spell_rest (Cas config) = spell_config config
spell_rest (Stored config) = spell_config config
spell_rest (OutcomeOf txn decision) = spell_txn txn ++ spell_decision decision
spell_rest (Refused kind why mark) = kind ∷ spell_why why ∷ four mark
spell_rest (StatePiece config piece pieces rows) = spell_config config ++ two piece ++ two pieces ++ spell_rows rows

-- the bytes of a message
unfoldable pub spell : Message → List ℕ
spell m = kind_of m ∷ spell_rest m
