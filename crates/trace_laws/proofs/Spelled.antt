-- The spelling of a message in range is bytes.
use Rattle.std.proofs.Common.{◌≡◌, ℕ, zero, suc, ◌<◌, ◌≤◌, Bool, true, false, ◌&&◌, List, [], ◌∷◌, ◌++◌, length, Option, Some, None, inl, inr, refl, arith}
use Rattle.std.specs.Prelude.{All, IfSome, IsTrue, nat_le}
use Rattle.std.specs.Int.{byte_at, bytes_high_first}
use Rattle.std.specs.List.{flat_map, AllByRecursion}
use Rattle.std.proofs.lemmas.Bool.Decides.{nat_tests}
use Rattle.std.proofs.lemmas.List.Elements.{All-from_recursion}
use Rattle.tcs_terms.specs.declared.ids.TxId.{TxId}
use Rattle.tcs_terms.specs.declared.limits.TheConstants.{MAX_KIND}
use Rattle.tcs_terms.specs.declared.logs.Mark.{Mark}
use Rattle.tcs_terms.specs.declared.logs.Mark.TheVariants.{Undecided, Committed, Aborted}
use Rattle.tcs_terms.specs.declared.logs.Row.{Row}
use Rattle.tcs_terms.specs.declared.messages.Message.{Message}
use Rattle.tcs_terms.specs.declared.messages.Message.TheVariants.{Prepare, PrepareAck, Accept, AcceptAck, DecisionFor, Probe, ProbeAck, NewConfig, NewState, ConfigChange, Last, At, Cas, Stored, OutcomeOf, Refused, StatePiece}
use Rattle.tcs_terms.specs.declared.messages.Why.{Why}
use Rattle.tcs_terms.specs.declared.messages.Why.TheVariants as why
use Rattle.tcs_terms.specs.declared.payloads.RangePart.{RangePart}
use Rattle.tcs_terms.specs.declared.payloads.ReadPart.{ReadPart}
use Rattle.tcs_terms.specs.declared.payloads.WritePart.{WritePart}
use Rattle.tcs_terms.specs.declared.votes.Cause.{Cause}
use Rattle.tcs_terms.specs.declared.votes.Cause.TheVariants as causes
use Rattle.tcs_terms.specs.declared.votes.Decision.{Decision}
use Rattle.tcs_terms.specs.declared.votes.Decision.TheVariants as decisions
use Rattle.tcs_terms.specs.declared.votes.Vote.{Vote}
use Rattle.tcs_terms.specs.declared.votes.Vote.TheVariants as votes
use Rattle.tcs_terms.specs.Messages.{is_txn, IsVote, IsCause, IsDecision, IsEntry, AreSentRows, InRange}
use Rattle.tcs_terms.specs.Objects.{is_name_byte, IsName, IsValue}
use Rattle.tcs_terms.specs.Payloads.{Accesses, IsReadPart, IsRangePart, IsWritePart, IsPayload}
use Rattle.tcs_terms.specs.Places.{Membership, IsMembership, IsShardSet, is_shard, is_node}
use Rattle.tcs_terms.specs.Preparations.{Preparation}
use Rattle.tcs_terms.proofs.BoolLaws.{left_of}
use Rattle.wire_frame.specs.Spelling.{two, four, eight, counted, spell_txn, spell_read, spell_range, spell_write, reads_byte, spell_ranges, spell_writes, spell_payload, spell_maybe, spell_vote, spell_kept, spell_voted, spell_entry, spell_mark, spell_row, spell_rows, spell_config, spell_cause, spell_decision, spell_commit, spell_why, kind_of, spell_rest, spell}
use Rattle.wire_frame.proofs.Counts.{few_shards}
use Rattle.protocol.specs.Invariant.Time.{StandsIn}
use Rattle.protocol.proofs.Lists.{all-StandsIn, among-StandsIn}
use Rattle.protocol_laws.proofs.AllOf.{all-at}
use Rattle.trace_laws.proofs.Lists.{each-of, each-joined}

-- bytes, one by one
abbrev pub AreSmall : List ℕ → Type 0
AreSmall bytes = AllByRecursion (λ b. b < 256) bytes

small-both : (xs ys : List ℕ) → AreSmall xs → AreSmall ys → AreSmall (xs ++ ys)
small-both xs ys h k = each-joined (λ b. b < 256) xs ys h k

small-each : {X : Type 0} (f : X → List ℕ) (xs : List X) → ((x : X) → StandsIn x xs → AreSmall (f x)) → AreSmall (flat_map f xs)
small-each f [] h = tt
small-each f (x ∷ xs) h = small-both (f x) (flat_map f xs) (h x (inl refl)) (small-each f xs (λ y s. h y (inr s)))

-- ---- numbers

byte_at-small : (k n : ℕ) → byte_at k n < 256
byte_at-small zero n = omega arith
byte_at-small (suc k) n = omega arith

high-small : (k n : ℕ) → AreSmall (bytes_high_first k n)
high-small zero n = tt
high-small (suc k) n = (byte_at-small k n, high-small k n)

two-small : (n : ℕ) → AreSmall (two n)
unfolding two
two-small n = high-small 2 n

four-small : (n : ℕ) → AreSmall (four n)
unfolding four
four-small n = high-small 4 n

eight-small : (n : ℕ) → AreSmall (eight n)
unfolding eight
eight-small n = high-small 8 n

shard-small : (n : ℕ) → is_shard n ≡ true → n < 256
shard-small n h = grind (arith, nat_tests)

node-small : (n : ℕ) → is_node n ≡ true → n < 256
node-small n h = grind (arith, nat_tests)

kind-small : (n : ℕ) → (nat_le 1 n && nat_le n MAX_KIND) ≡ true → n < 256
kind-small n h = grind (arith, nat_tests)

txn-small : (t : TxId) → IsTrue (is_txn t) → AreSmall (spell_txn t)
txn-small t h = (node-small t.home (left_of (is_node t.home) _ h), four-small t.seq)

shards-small : (shards : List ℕ) → IsShardSet shards → AreSmall shards
shards-small shards k = each-of (λ b. b < 256) shards (λ s there. shard-small s (all-StandsIn is_shard shards s k.each there))

-- ---- payloads

name-byte-small : (b : ℕ) → is_name_byte b ≡ true → b < 256
name-byte-small b h = grind (arith, nat_tests)

name-small : (name : List ℕ) → IsName name → AreSmall (counted name)
name-small name k = (let short = k.short in omega (arith, short), each-of (λ b. b < 256) name (λ b s. name-byte-small b (all-StandsIn is_name_byte name b k.alphabet s)))

value-small : (value : List ℕ) → IsValue value → AreSmall (counted value)
value-small value k = (let short = k.short in omega (arith, short), each-of (λ b. b < 256) value (λ b s. all-at (λ x. x < 256) value k.are_bytes b s))

read-small : (r : ReadPart) → IsReadPart r → AreSmall (spell_read r)
read-small r k = small-both (counted r.name) (eight r.version) (name-small r.name k.name) (eight-small r.version)

range-small : (q : RangePart) → IsRangePart q → AreSmall (spell_range q)
range-small q k =
    small-both (counted q.from ++ counted q.upto) (eight q.version) (small-both (counted q.from) (counted q.upto) (name-small q.from k.from) (name-small q.upto k.upto)) (eight-small q.version)

write-small : (w : WritePart) → IsWritePart w → AreSmall (spell_write w)
write-small w k = small-both (counted w.name) (counted w.value) (name-small w.name k.name) (value-small w.value k.value)

reads-byte-small : (reads : List ReadPart) (ranges : List RangePart) → length reads ≤ 16 → reads_byte reads ranges < 256
reads-byte-small reads [] few = omega (arith, few)
reads-byte-small reads (q ∷ qs) few = omega (arith, few)

ranges-small : (ranges : List RangePart) → length ranges ≤ 3 → All IsRangePart ranges → AreSmall (spell_ranges ranges)
ranges-small [] few k = tt
ranges-small (q ∷ qs) few k = (omega (arith, few), small-each spell_range (q ∷ qs) (λ r s. range-small r (all-at IsRangePart (q ∷ qs) k r s)))

payload-small : (p : Accesses) → IsPayload p → AreSmall (spell_payload p)
unfolding spell_payload
payload-small p k =
    let reads : AreSmall (flat_map spell_read p.reads) = small-each spell_read p.reads (λ r s. read-small r (all-at IsReadPart p.reads k.read_parts r s)) in
    let writes : AreSmall (flat_map spell_write p.writes) = small-each spell_write p.writes (λ w s. write-small w (all-at IsWritePart p.writes k.write_parts w s)) in
    let few : length p.writes < 256 = (let f = k.few_writes in omega (arith, f)) in
    let one : reads_byte p.reads p.ranges < 256 = reads-byte-small p.reads p.ranges k.few_reads in
    let head : AreSmall (eight p.version ++ reads_byte p.reads p.ranges ∷ []) = small-both (eight p.version) (reads_byte p.reads p.ranges ∷ []) (eight-small p.version) (one, tt) in
    let with_reads : AreSmall (eight p.version ++ reads_byte p.reads p.ranges ∷ [] ++ flat_map spell_read p.reads) =
    small-both (eight p.version ++ reads_byte p.reads p.ranges ∷ []) (flat_map spell_read p.reads) head reads in
    let with_ranges : AreSmall (eight p.version ++ reads_byte p.reads p.ranges ∷ [] ++ flat_map spell_read p.reads ++ spell_ranges p.ranges) =
    small-both (eight p.version ++ reads_byte p.reads p.ranges ∷ [] ++ flat_map spell_read p.reads) (spell_ranges p.ranges) with_reads (ranges-small p.ranges k.few_ranges k.range_parts) in
    small-both (eight p.version ++ reads_byte p.reads p.ranges ∷ [] ++ flat_map spell_read p.reads ++ spell_ranges p.ranges) (spell_writes p.writes) with_ranges (few, writes)

maybe-small : (o : Option Accesses) → IfSome o IsPayload → AreSmall (spell_maybe o)
maybe-small None k = (omega arith, tt)
maybe-small (Some p) k = (omega arith, payload-small p k)

kept-small : (o : Option Accesses) → IfSome o IsPayload → AreSmall (spell_kept o)
kept-small None k = tt
kept-small (Some p) k = payload-small p k

-- ---- entries and rows

vote-small : (v : Vote) → IsVote v → AreSmall (spell_vote v)
vote-small votes.Commit k = (omega arith, tt)
vote-small (votes.Clash txn) k = (omega arith, txn-small txn k)
vote-small votes.Lost k = (omega arith, tt)

counted-shards : (shards : List ℕ) → IsShardSet shards → AreSmall (counted shards)
counted-shards shards k = (let few = few_shards shards k in omega (arith, few), shards-small shards k)

entry-small : (e : Preparation) → IsEntry e → AreSmall (spell_entry e)
unfolding spell_entry
entry-small e k =
    small-both (two e.slot ++ spell_txn e.txn ++ counted e.shards) (spell_voted e.payload e.vote)
    (small-both (two e.slot ++ spell_txn e.txn) (counted e.shards) (small-both (two e.slot) (spell_txn e.txn) (two-small e.slot) (txn-small e.txn k.txn)) (counted-shards e.shards k.shards))
    (small-both (spell_vote e.vote) (spell_kept e.payload) (vote-small e.vote k.vote) (kept-small e.payload k.payload))

mark-small : (m : Mark) → spell_mark m < 256
mark-small Undecided = omega arith
mark-small Committed = omega arith
mark-small Aborted = omega arith

row-small : (r : Row) → IsEntry r.entry → AreSmall (spell_row r)
row-small r k = small-both (spell_entry r.entry) (spell_mark r.mark ∷ []) (entry-small r.entry k) (mark-small r.mark, tt)

rows-small : (rows : List Row) → AreSentRows rows → AreSmall (spell_rows rows)
unfolding spell_rows
rows-small rows k = small-both (two (length rows)) (flat_map spell_row rows) (two-small (length rows)) (small-each spell_row rows (λ r s. row-small r (all-at (λ (x : Row). IsEntry x.entry) rows k.entries r s)))

-- ---- configurations and decisions

config-small : (c : Membership) → IsMembership c → AreSmall (spell_config c)
unfolding spell_config
config-small c k =
    let few : length c.members < 256 = (let f = k.few in omega (arith, f)) in
    let by : c.by < 256 = (let b = k.by in omega (arith, b)) in
    let members : AreSmall c.members = each-of (λ b. b < 256) c.members (λ n s. node-small n (all-StandsIn is_node c.members n k.each s)) in
    let leader : c.leader < 256 = node-small c.leader (all-StandsIn is_node c.members c.leader k.each (among-StandsIn c.members c.leader k.leads)) in
    let head : AreSmall (c.shard ∷ four c.epoch) = (shard-small c.shard k.shard, four-small c.epoch) in
    small-both (c.shard ∷ four c.epoch ++ counted c.members ++ c.leader ∷ []) (c.by ∷ [])
    (small-both (c.shard ∷ four c.epoch ++ counted c.members) (c.leader ∷ []) (small-both (c.shard ∷ four c.epoch) (counted c.members) head (few, members)) (leader, tt)) (by, tt)

cause-small : (c : Cause) → IsCause c → AreSmall (spell_cause c)
cause-small (causes.Clash txn) k = (omega arith, txn-small txn k)
cause-small causes.Lost k = (omega arith, tt)

decision-small : (d : Decision) → IsDecision d → AreSmall (spell_decision d)
decision-small decisions.Commit k = (omega arith, tt)
decision-small (decisions.Abort shard cause) k = (omega arith, (shard-small shard k.0, cause-small cause k.1))

commit-small : (b : Bool) → spell_commit b < 256
commit-small true = omega arith
commit-small false = omega arith

why-small : (w : Why) → spell_why w < 256
why-small why.Stale = omega arith
why-small why.Held = omega arith
why-small why.Full = omega arith

-- ---- messages

rest-small : (m : Message) → InRange m → AreSmall (spell_rest m)
rest-small (Prepare epoch txn shards payload) k =
    small-both (four epoch ++ spell_txn txn ++ counted shards) (spell_maybe payload)
    (small-both (four epoch ++ spell_txn txn) (counted shards) (small-both (four epoch) (spell_txn txn) (four-small epoch) (txn-small txn k.1)) (counted-shards shards k.2)) (maybe-small payload k.3)
rest-small (PrepareAck shard epoch entry) k = (shard-small shard k.0, small-both (four epoch) (spell_entry entry) (four-small epoch) (entry-small entry k.2))
rest-small (Accept epoch entry) k = small-both (four epoch) (spell_entry entry) (four-small epoch) (entry-small entry k.1)
rest-small (AcceptAck shard epoch slot txn) k =
    (shard-small shard k.0, small-both (four epoch ++ two slot) (spell_txn txn) (small-both (four epoch) (two slot) (four-small epoch) (two-small slot)) (txn-small txn k.3))
rest-small (DecisionFor epoch slot txn commit) k =
    small-both (four epoch ++ two slot ++ spell_txn txn) (spell_commit commit ∷ [])
    (small-both (four epoch ++ two slot) (spell_txn txn) (small-both (four epoch) (two slot) (four-small epoch) (two-small slot)) (txn-small txn k.2)) (commit-small commit, tt)
rest-small (Probe epoch) k = four-small epoch
rest-small (ProbeAck epoch state) k = small-both (four epoch) (four state) (four-small epoch) (four-small state)
rest-small (NewConfig config) k = config-small config k
rest-small (NewState config rows) k = small-both (spell_config config) (spell_rows rows) (config-small config k.0) (rows-small rows k.1)
rest-small (ConfigChange config) k = config-small config k
rest-small (Last shard) k = (shard-small shard k, tt)
rest-small (At shard epoch) k = (shard-small shard k.0, four-small epoch)
rest-small (Cas config) k = config-small config k
rest-small (Stored config) k = config-small config k
rest-small (OutcomeOf txn decision) k = small-both (spell_txn txn) (spell_decision decision) (txn-small txn k.0) (decision-small decision k.1)
rest-small (Refused kind reason mark) k = (kind-small kind k.0, (why-small reason, four-small mark))
rest-small (StatePiece config piece pieces rows) k =
    small-both (spell_config config ++ two piece ++ two pieces) (spell_rows rows)
    (small-both (spell_config config ++ two piece) (two pieces) (small-both (spell_config config) (two piece) (config-small config k.0) (two-small piece)) (two-small pieces)) (rows-small rows k.2)

kind_of-small : (m : Message) → kind_of m < 256
kind_of-small (Prepare epoch txn shards payload) = omega arith
kind_of-small (PrepareAck shard epoch entry) = omega arith
kind_of-small (Accept epoch entry) = omega arith
kind_of-small (AcceptAck shard epoch slot txn) = omega arith
kind_of-small (DecisionFor epoch slot txn commit) = omega arith
kind_of-small (Probe epoch) = omega arith
kind_of-small (ProbeAck epoch state) = omega arith
kind_of-small (NewConfig config) = omega arith
kind_of-small (NewState config rows) = omega arith
kind_of-small (ConfigChange config) = omega arith
kind_of-small (Last shard) = omega arith
kind_of-small (At shard epoch) = omega arith
kind_of-small (Cas config) = omega arith
kind_of-small (Stored config) = omega arith
kind_of-small (OutcomeOf txn decision) = omega arith
kind_of-small (Refused kind reason mark) = omega arith
kind_of-small (StatePiece config piece pieces rows) = omega arith

spell-small : (m : Message) → InRange m → AreSmall (spell m)
unfolding spell
spell-small m k = (kind_of-small m, rest-small m k)

pub spelled-bytes : (m : Message) → InRange m → All (λ b. b < 256) (spell m)
spelled-bytes m k = All-from_recursion (λ b. b < 256) (spell m) (spell-small m k)
