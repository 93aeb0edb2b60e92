-- Which shard an object lies in, the part of a payload in a shard, and what a payload saw.
use Rattle.std.specs.Prelude.{ℕ, ◌+◌, ◌%◌, Bool, ◌&&◌, ◌==◌, not, if◌then◌else◌, List, length, filter, find, sum, Option, Some, None}
use Rattle.std.specs.List.{list_any, range_with_len}
use Rattle.tcs_terms.specs.declared.payloads.ReadPart.{ReadPart}
use Rattle.tcs_terms.specs.declared.payloads.RangePart.{RangePart}
use Rattle.tcs_terms.specs.Order.{name_before}
use Rattle.tcs_terms.specs.Payloads.{Accesses, same_name}

-- the shard of a name among n shards: the sum of its bytes, modulo n, plus 1
abbrev pub shard_of : List ℕ → ℕ → ℕ
shard_of name n = sum name % n + 1

-- whether an object lies in a shard
abbrev pub lies_in : ℕ → ℕ → List ℕ → Bool
lies_in n shard name = shard_of name n == shard

-- the reads and writes of one shard, with all ranges and the commit version
abbrev pub part_in : ℕ → ℕ → Accesses → Accesses
part_in n shard p = record {
  reads = filter (λ r. lies_in n shard r.name) p.reads;
  ranges = p.ranges;
  writes = filter (λ w. lies_in n shard w.name) p.writes;
  version = p.version;
}

-- that part, or nothing where it has no read and no range
abbrev pub restricted : ℕ → ℕ → Accesses → Option Accesses
restricted n shard p =
    if (length (part_in n shard p).reads == 0) && (length p.ranges == 0) then None else Some (part_in n shard p)

-- all shards where the payload has a range, else the shards of its reads, ascending
abbrev pub shards_of : ℕ → Accesses → List ℕ
shards_of n p =
    if length p.ranges == 0
    then filter (λ shard. list_any (λ r. lies_in n shard r.name) p.reads) (range_with_len 1 n)
    else range_with_len 1 n

-- whether an object lies in a range: at or after its beginning, and before its end
abbrev pub in_range_part : List ℕ → RangePart → Bool
in_range_part name q = not (name_before name q.from) && name_before name q.upto

-- the version of a range, if there is one
abbrev pub range_version : Option RangePart → Option ℕ
range_version None = None
range_version (Some q) = Some q.version

-- the version of a read, if there is one, else that of a range
abbrev pub version_seen : Option ReadPart → Option ℕ → Option ℕ
version_seen (Some r) by_range = Some r.version
version_seen None by_range = by_range

-- the version at which a payload saw an object: that of its read by name, else that of the range in which it lies
abbrev pub seen : Accesses → List ℕ → Option ℕ
seen p name = version_seen (find (λ r. same_name r.name name) p.reads) (range_version (find (in_range_part name) p.ranges))
