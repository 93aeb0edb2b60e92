-- Reading the parts of messages.
use Rattle.std.specs.Prelude.{ℕ, zero, suc, ◌+◌, ◌-◌, Bool, true, false, ◌&&◌, ◌||◌, not, nat_le, nat_lt, if◌then◌else◌, List, [], ◌∷◌, length, position, Option, Some, None, Ok, Err}
use Rattle.std.specs.List.{list_any}
use Rattle.std.specs.Int.{w16, w32, w64}
use Rattle.tcs_terms.specs.declared.limits.TheConstants.{MAX_SHARDS, MAX_NODES, MAX_MEMBERS, MAX_SEQUENCE, MAX_NAME, MAX_VALUE, MAX_READS, MAX_RANGES, MAX_WRITES}
use Rattle.tcs_terms.specs.declared.ids.TxId.{TxId}
use Rattle.tcs_terms.specs.declared.kinds.Kind.{Kind}
use Rattle.tcs_terms.specs.declared.payloads.ReadPart.{ReadPart}
use Rattle.tcs_terms.specs.declared.payloads.RangePart.{RangePart}
use Rattle.tcs_terms.specs.declared.payloads.WritePart.{WritePart}
use Rattle.tcs_terms.specs.declared.votes.Vote.{Vote}
use Rattle.tcs_terms.specs.declared.votes.Vote.TheVariants as votes
use Rattle.tcs_terms.specs.declared.votes.Cause.{Cause}
use Rattle.tcs_terms.specs.declared.votes.Cause.TheVariants as causes
use Rattle.tcs_terms.specs.declared.votes.Decision.{Decision}
use Rattle.tcs_terms.specs.declared.votes.Decision.TheVariants as decisions
use Rattle.tcs_terms.specs.declared.logs.Mark.{Mark}
use Rattle.tcs_terms.specs.declared.logs.Mark.TheVariants.{Undecided, Committed, Aborted}
use Rattle.tcs_terms.specs.declared.logs.Row.{Row}
use Rattle.tcs_terms.specs.declared.messages.Why.{Why}
use Rattle.tcs_terms.specs.declared.messages.Why.TheVariants.{Stale, Held, Full}
use Rattle.tcs_terms.specs.Kinds.{kind_numbered}
use Rattle.tcs_terms.specs.Objects.{is_name_byte}
use Rattle.tcs_terms.specs.Order.{name_before}
use Rattle.tcs_terms.specs.Payloads.{Accesses, reads_name}
use Rattle.tcs_terms.specs.Places.{Membership, is_shard, is_node, is_epoch, is_among}
use Rattle.tcs_terms.specs.Preparations.{Preparation}
use Rattle.tcs_terms.specs.Logs.{same_txn}
use Rattle.tcs_terms.specs.Messages.{is_slot}
use Rattle.wire_frame.specs.declared.faults.FrameReason.{FrameReason}
use Rattle.wire_frame.specs.declared.faults.FrameReason.TheVariants.{Range, Order, Unread}
use Rattle.wire_frame.specs.Reading.{Reads, short, fault_at, ◌>>=◌, byte_at, number_at, run_at, tested, each_at}

-- from 1 to the most
abbrev pub is_up_to : ℕ → ℕ → Bool
is_up_to most n = nat_le 1 n && nat_le n most

-- a kind and what follows its number; a number of no kind is refused with this reason
abbrev pub kinded : FrameReason → List ℕ → List ℕ → Option Kind → Reads Kind
kinded reason bytes rest None = Err (fault_at reason bytes)
kinded reason bytes rest (Some kind) = Ok (kind, rest)

unfoldable pub kind_at : FrameReason → List ℕ → Reads Kind
kind_at reason bytes = do
  number ← byte_at bytes
  kinded reason bytes number.1 (kind_numbered number.0)

unfoldable pub epoch_at : List ℕ → Reads ℕ
epoch_at bytes = tested Range is_epoch (number_at w32) bytes

unfoldable pub slot_at : List ℕ → Reads ℕ
slot_at bytes = tested Range is_slot (number_at w16) bytes

unfoldable pub node_at : List ℕ → Reads ℕ
node_at bytes = tested Range is_node byte_at bytes

unfoldable pub shard_at : List ℕ → Reads ℕ
shard_at bytes = tested Range is_shard byte_at bytes

unfoldable pub sequence_at : List ℕ → Reads ℕ
sequence_at bytes = tested Range (is_up_to MAX_SEQUENCE) (number_at w32) bytes

unfoldable pub txn_at : List ℕ → Reads TxId
txn_at bytes = do
  home ← node_at bytes
  seq ← sequence_at home.1
  Ok (record { home = home.0; seq = seq.0 }, seq.1)

-- ---- ascending numbers of one byte

-- one that is from 1 to the most, and above the last
unfoldable pub next_at : ℕ → ℕ → List ℕ → Reads ℕ
next_at most last bytes = tested Order (nat_lt last) (tested Range (is_up_to most) byte_at) bytes

unfoldable pub ascending_at : ℕ → ℕ → List ℕ → Reads (List ℕ)
ascending_at many most bytes = do
  count ← tested Range (is_up_to many) byte_at bytes
  each_at (next_at most) (λ last n. n) count.0 0 count.1

abbrev pub shards_at : List ℕ → Reads (List ℕ)
shards_at bytes = ascending_at MAX_SHARDS MAX_SHARDS bytes

abbrev pub members_at : List ℕ → Reads (List ℕ)
members_at bytes = ascending_at MAX_MEMBERS MAX_NODES bytes

unfoldable pub config_at : List ℕ → Reads Membership
config_at bytes = do
  shard ← shard_at bytes
  epoch ← epoch_at shard.1
  members ← members_at epoch.1
  leader ← tested Range (is_among members.0) byte_at members.1
  by ← tested Range (λ n. nat_le n MAX_NODES) byte_at leader.1
  Ok (record { shard = shard.0; epoch = epoch.0; members = members.0; leader = leader.0; by = by.0 }, by.1)

-- ---- payloads

-- a run of bytes where none is outside the alphabet of names; else there is a fault at the first that is
abbrev pub letters : List ℕ → List ℕ × List ℕ → Option ℕ → Reads (List ℕ)
letters bytes run None = Ok run
letters bytes run (Some place) = Err (record { reason = Range; left = length bytes - place })

unfoldable pub name_at : List ℕ → Reads (List ℕ)
name_at bytes = do
  count ← tested Range (is_up_to MAX_NAME) byte_at bytes
  run ← run_at count.0 count.1
  letters count.1 run (position (λ b. not (is_name_byte b)) run.0)

unfoldable pub value_at : List ℕ → Reads (List ℕ)
value_at bytes = do
  count ← tested Range (λ n. nat_le n MAX_VALUE) byte_at bytes
  run_at count.0 count.1

-- a version that was read: below the commit version
unfoldable pub seen_at : ℕ → List ℕ → Reads ℕ
seen_at version bytes = tested Range (λ v. nat_lt v version) (number_at w64) bytes

-- a name above the last one
unfoldable pub name_above : List ℕ → List ℕ → Reads (List ℕ)
name_above last bytes = tested Order (name_before last) name_at bytes

unfoldable pub read_at : ℕ → List ℕ → List ℕ → Reads ReadPart
read_at version last bytes = do
  name ← name_above last bytes
  seen ← seen_at version name.1
  Ok (record { name = name.0; version = seen.0 }, seen.1)

-- a range that begins at or after the end of the last one, and ends above its own beginning
unfoldable pub range_at : ℕ → List ℕ → List ℕ → Reads RangePart
range_at version last bytes = do
  from ← tested Order (λ name. not (name_before name last)) name_at bytes
  upto ← name_above from.0 from.1
  seen ← seen_at version upto.1
  Ok (record { from = from.0; upto = upto.0; version = seen.0 }, seen.1)

-- a write of a name that is read
unfoldable pub write_at : List ReadPart → List ℕ → List ℕ → Reads WritePart
write_at reads last bytes = do
  name ← tested Unread (reads_name reads) (name_above last) bytes
  value ← value_at name.1
  Ok (record { name = name.0; value = value.0 }, value.1)

-- the byte that says how many reads there are: 1 to 16, or from 32 to 48 where ranges follow them
abbrev pub is_reads_byte : ℕ → Bool
is_reads_byte b = is_up_to MAX_READS b || (nat_le 32 b && nat_le b (32 + MAX_READS))

abbrev pub has_ranges : ℕ → Bool
has_ranges b = nat_le 32 b

abbrev pub reads_count : ℕ → ℕ
reads_count b = if has_ranges b then b - 32 else b

unfoldable pub reads_at : ℕ → ℕ → List ℕ → Reads (List ReadPart)
reads_at version count bytes = each_at (read_at version) (λ last r. r.name) count [] bytes

unfoldable pub ranges_at : ℕ → Bool → List ℕ → Reads (List RangePart)
ranges_at version false bytes = Ok ([], bytes)
ranges_at version true bytes = do
  count ← tested Range (is_up_to MAX_RANGES) byte_at bytes
  each_at (range_at version) (λ last q. q.upto) count.0 [] count.1

unfoldable pub writes_at : List ReadPart → List ℕ → Reads (List WritePart)
writes_at reads bytes = do
  count ← tested Range (λ n. nat_le n MAX_WRITES) byte_at bytes
  each_at (write_at reads) (λ last w. w.name) count.0 [] count.1

unfoldable pub payload_at : List ℕ → Reads Accesses
payload_at bytes = do
  version ← tested Range (nat_le 1) (number_at w64) bytes
  count ← tested Range is_reads_byte byte_at version.1
  reads ← reads_at version.0 (reads_count count.0) count.1
  ranges ← ranges_at version.0 (has_ranges count.0) reads.1
  writes ← writes_at reads.0 ranges.1
  Ok (record { reads = reads.0; ranges = ranges.0; writes = writes.0; version = version.0 }, writes.1)

unfoldable pub maybe_at : List ℕ → Reads (Option Accesses)
maybe_at [] = Err short
maybe_at (zero ∷ rest) = Ok (None, rest)
maybe_at (suc zero ∷ rest) = do
  p ← payload_at rest
  Ok (Some p.0, p.1)
maybe_at (suc (suc b) ∷ rest) = Err (fault_at Range (suc (suc b) ∷ rest))

-- ---- entries and rows

-- the vote, and the payload that it speaks of
unfoldable pub vote_at : List ℕ → Reads (Option Accesses × Vote)
vote_at [] = Err short
vote_at (zero ∷ rest) = do
  p ← payload_at rest
  Ok ((Some p.0, votes.Commit), p.1)
vote_at (suc zero ∷ rest) = do
  txn ← txn_at rest
  p ← payload_at txn.1
  Ok ((Some p.0, votes.Clash txn.0), p.1)
vote_at (suc (suc zero) ∷ rest) = Ok ((None, votes.Lost), rest)
vote_at (suc (suc (suc b)) ∷ rest) = Err (fault_at Range (suc (suc (suc b)) ∷ rest))

unfoldable pub entry_at : List ℕ → Reads Preparation
entry_at bytes = do
  slot ← slot_at bytes
  txn ← txn_at slot.1
  shards ← shards_at txn.1
  vote ← vote_at shards.1
  Ok (record { slot = slot.0; txn = txn.0; shards = shards.0; payload = vote.0.0; vote = vote.0.1 }, vote.1)

unfoldable pub mark_at : List ℕ → Reads Mark
mark_at [] = Err short
mark_at (zero ∷ rest) = Ok (Undecided, rest)
mark_at (suc zero ∷ rest) = Ok (Committed, rest)
mark_at (suc (suc zero) ∷ rest) = Ok (Aborted, rest)
mark_at (suc (suc (suc b)) ∷ rest) = Err (fault_at Range (suc (suc (suc b)) ∷ rest))

-- the slot of the last row, and the transactions of all rows before
abbrev pub Before : Type 0
Before = ℕ × List TxId

-- a row whose slot is above the last one, and whose transaction stood in no row before
unfoldable pub row_at : Before → List ℕ → Reads Row
row_at before bytes = do
  slot ← tested Order (nat_lt before.0) slot_at bytes
  txn ← tested Order (λ t. not (list_any (same_txn t) before.1)) txn_at slot.1
  shards ← shards_at txn.1
  vote ← vote_at shards.1
  mark ← mark_at vote.1
  Ok (record { entry = record { slot = slot.0; txn = txn.0; shards = shards.0; payload = vote.0.0; vote = vote.0.1 }; mark = mark.0 }, mark.1)

abbrev pub with_row : Before → Row → Before
with_row before r = (r.entry.slot, r.entry.txn ∷ before.1)

-- at most so many rows
unfoldable pub rows_at : ℕ → List ℕ → Reads (List Row)
rows_at most bytes = do
  count ← tested Range (λ n. nat_le n most) (number_at w16) bytes
  each_at row_at with_row count.0 (0, []) count.1

-- ---- decisions and refusals

unfoldable pub cause_at : List ℕ → Reads Cause
cause_at [] = Err short
cause_at (zero ∷ rest) = Err (fault_at Range (zero ∷ rest))
cause_at (suc zero ∷ rest) = do
  txn ← txn_at rest
  Ok (causes.Clash txn.0, txn.1)
cause_at (suc (suc zero) ∷ rest) = Ok (causes.Lost, rest)
cause_at (suc (suc (suc b)) ∷ rest) = Err (fault_at Range (suc (suc (suc b)) ∷ rest))

unfoldable pub decision_at : List ℕ → Reads Decision
decision_at [] = Err short
decision_at (zero ∷ rest) = Ok (decisions.Commit, rest)
decision_at (suc zero ∷ rest) = do
  shard ← shard_at rest
  cause ← cause_at shard.1
  Ok (decisions.Abort shard.0 cause.0, cause.1)
decision_at (suc (suc b) ∷ rest) = Err (fault_at Range (suc (suc b) ∷ rest))

-- 01 where the transaction commits, 02 where it aborts
unfoldable pub commit_at : List ℕ → Reads Bool
commit_at [] = Err short
commit_at (zero ∷ rest) = Err (fault_at Range (zero ∷ rest))
commit_at (suc zero ∷ rest) = Ok (true, rest)
commit_at (suc (suc zero) ∷ rest) = Ok (false, rest)
commit_at (suc (suc (suc b)) ∷ rest) = Err (fault_at Range (suc (suc (suc b)) ∷ rest))

unfoldable pub why_at : List ℕ → Reads Why
why_at [] = Err short
why_at (zero ∷ rest) = Err (fault_at Range (zero ∷ rest))
why_at (suc zero ∷ rest) = Ok (Stale, rest)
why_at (suc (suc zero) ∷ rest) = Ok (Held, rest)
why_at (suc (suc (suc zero)) ∷ rest) = Ok (Full, rest)
why_at (suc (suc (suc (suc b))) ∷ rest) = Err (fault_at Range (suc (suc (suc (suc b))) ∷ rest))
