-- What a payload says, and when it is well formed.
use Rattle.std.specs.Prelude.{ℕ, ◌+◌, ◌^◌, ◌<◌, ◌≤◌, Bool, not, nat_lt, List, length, map, IsTrue, All}
use Rattle.std.specs.List.{list_all, list_any}
use Rattle.std.specs.Cmp.Lexicographic.{pointwise}
use Rattle.std.specs.Prelude.{nat_eq}
use Rattle.tcs_terms.specs.declared.limits.TheConstants.{MAX_READS, MAX_RANGES, MAX_WRITES}
use Rattle.tcs_terms.specs.declared.payloads.ReadPart.{ReadPart}
use Rattle.tcs_terms.specs.declared.payloads.RangePart.{RangePart}
use Rattle.tcs_terms.specs.declared.payloads.WritePart.{WritePart}
use Rattle.tcs_terms.specs.Objects.{IsName, IsValue}
use Rattle.tcs_terms.specs.Order.{ascends_by, name_before, names_ascend}

-- what a transaction read by name and by range, what it wants to write, and the version that its writes are to have
pub record Accesses : Type 0 where
  pub reads : List ReadPart
  pub ranges : List RangePart
  pub writes : List WritePart
  pub version : ℕ

-- whether two names are one
abbrev pub same_name : List ℕ → List ℕ → Bool
same_name a b = pointwise nat_eq a b

-- whether an object is read by name
abbrev pub reads_name : List ReadPart → List ℕ → Bool
reads_name reads name = list_any (λ r. same_name r.name name) reads

-- whether the second range begins at or after the end of the first
abbrev pub range_before : RangePart → RangePart → Bool
range_before p q = not (name_before q.from p.upto)

-- a read: a name, and a version below 2 ^ 64
pub record IsReadPart (r : ReadPart) : Type 0 where
  pub name : IsName r.name
  pub version : r.version < 2 ^ 64

-- a range: two names, and a version below 2 ^ 64
pub record IsRangePart (q : RangePart) : Type 0 where
  pub from : IsName q.from
  pub upto : IsName q.upto
  pub version : q.version < 2 ^ 64

-- a write: a name and a value
pub record IsWritePart (w : WritePart) : Type 0 where
  pub name : IsName w.name
  pub value : IsValue w.value

-- Well formed: there is a read or a range; names of reads and of writes strictly ascend; ranges are not empty and
-- stand apart, ascending; each written object is read by name; and the commit version is at least 1 and above each
-- version that was read.
pub record IsPayload (p : Accesses) : Type 0 where
  pub some : 1 ≤ length p.reads + length p.ranges
  pub few_reads : length p.reads ≤ MAX_READS
  pub few_ranges : length p.ranges ≤ MAX_RANGES
  pub few_writes : length p.writes ≤ MAX_WRITES
  pub positive : 1 ≤ p.version
  pub version_fits : p.version < 2 ^ 64
  pub reads_ascend : IsTrue (names_ascend (map (λ r. r.name) p.reads))
  pub reads_below : IsTrue (list_all (λ r. nat_lt r.version p.version) p.reads)
  pub ranges_whole : IsTrue (list_all (λ q. name_before q.from q.upto) p.ranges)
  pub ranges_ascend : IsTrue (ascends_by range_before p.ranges)
  pub ranges_below : IsTrue (list_all (λ q. nat_lt q.version p.version) p.ranges)
  pub writes_ascend : IsTrue (names_ascend (map (λ w. w.name) p.writes))
  pub writes_read : IsTrue (list_all (λ w. reads_name p.reads w.name) p.writes)
  pub read_parts : All IsReadPart p.reads
  pub range_parts : All IsRangePart p.ranges
  pub write_parts : All IsWritePart p.writes
