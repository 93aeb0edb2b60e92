-- What a well-formed payload read of an object that it writes, and what a certifier that checks reads says of that.
use Rattle.std.proofs.Common.{◌≡◌, ℕ, ◌<◌, ◌≤◌, true, List, find, nat_lt, Some, ap, subst, arith, IfSome}
use Rattle.std.proofs.lemmas.Bool.{ltb-true}
use Rattle.tcs_terms.specs.declared.payloads.ReadPart.{ReadPart}
use Rattle.tcs_terms.specs.declared.payloads.WritePart.{WritePart}
use Rattle.tcs_terms.specs.Payloads.{Accesses, IsPayload, same_name, reads_name}
use Rattle.tcs_terms.specs.Shards.{seen, version_seen, range_version, in_range_part}
use Rattle.tcs_laws.specs.Certification.{Tests}
use Rattle.tcs_laws.specs.Laws.{OrdersWrites, ChecksReads}
use Rattle.tcs_laws.specs.Writing.{writes_name}
use Rattle.protocol.proofs.Lists.{all-StandsIn}
use Rattle.protocol.specs.Invariant.Time.{StandsIn}
use Rattle.protocol_laws.proofs.NamesOnce.{same_name-eq, find-once}
use Rattle.protocol_laws.proofs.Standing.{Passing, any-Passing}

-- a read of an object, found by its name, at a version below the payload's
record IsRead (p : Accesses) (name : List ℕ) : Type 0 where
  read : ReadPart
  found : find (λ r. same_name r.name name) p.reads ≡ Some read
  below : read.version < p.version

-- a read finds itself
read-found : (p : Accesses) (r : ReadPart) → IsPayload p → StandsIn r p.reads → find (λ s. same_name s.name r.name) p.reads ≡ Some r
read-found p r i s = find-once (λ (x : ReadPart). x.name) p.reads r i.reads_ascend s

-- so does a write
pub write-found : (p : Accesses) (w : WritePart) → IsPayload p → StandsIn w p.writes → find (λ v. same_name v.name w.name) p.writes ≡ Some w
write-found p w i s = find-once (λ (x : WritePart). x.name) p.writes w i.writes_ascend s

read-below : (p : Accesses) (r : ReadPart) → IsPayload p → StandsIn r p.reads → r.version < p.version
read-below p r i s = ltb-true r.version p.version (all-StandsIn (λ (x : ReadPart). nat_lt x.version p.version) p.reads r i.reads_below s)

-- each written object is read
write-IsRead : (p : Accesses) (name : List ℕ) → IsPayload p → writes_name p.writes name ≡ true → IsRead p name
write-IsRead p name i h =
    let w : Passing (λ (v : WritePart). same_name v.name name) p.writes = any-Passing (λ (v : WritePart). same_name v.name name) p.writes h in
    let same : w.one.name ≡ name = same_name-eq w.one.name name w.passes in
    let reads : reads_name p.reads name ≡ true = subst (λ n. reads_name p.reads n ≡ true) same (all-StandsIn (λ (v : WritePart). reads_name p.reads v.name) p.writes w.one i.writes_read w.there) in
    let r : Passing (λ (x : ReadPart). same_name x.name name) p.reads = any-Passing (λ (x : ReadPart). same_name x.name name) p.reads reads in
    record {
      read = r.one;
      found = subst (λ n. find (λ (s : ReadPart). same_name s.name n) p.reads ≡ Some r.one) (same_name-eq r.one.name name r.passes) (read-found p r.one i r.there);
      below = read-below p r.one i r.there;
    }

-- what is read by name is seen at that version
read-seen : (p : Accesses) (name : List ℕ) (r : ReadPart) → find (λ s. same_name s.name name) p.reads ≡ Some r → seen p name ≡ Some r.version
read-seen p name r h = ap (λ o. version_seen o (range_version (find (in_range_part name) p.ranges))) h

-- of two payloads that write one object, the newer of which passes against the older, the newer has the greater version
pub writers-rise : (tests : Tests) (old new : Accesses) (name : List ℕ) → OrdersWrites tests → IsPayload old → IsPayload new → tests.committed_ok old new ≡ true
    → writes_name old.writes name ≡ true → writes_name new.writes name ≡ true → old.version < new.version
writers-rise tests old new name o was i h a b =
    let r : IsRead new name = write-IsRead new name i b in
    let bound : old.version ≤ r.read.version = subst (λ s. IfSome s (λ v. old.version ≤ v)) (read-seen new name r.read r.found) (o.above old new was i h name a b) in
    let low : r.read.version < new.version = r.below in
    omega (arith, bound, low)

-- what a newer payload reads by name is at or above each older writer
pub reads-bound : (tests : Tests) (old new : Accesses) (r : ReadPart) → ChecksReads tests → IsPayload old → IsPayload new → tests.committed_ok old new ≡ true
    → writes_name old.writes r.name ≡ true → StandsIn r new.reads → old.version ≤ r.version
reads-bound tests old new r c was i h a s =
    subst (λ v. IfSome v (λ n. old.version ≤ n)) (read-seen new r.name r (read-found new r i s)) (c.above old new was i h r.name a)

-- a certifier that checks reads orders writes
pub checks-orders : (tests : Tests) → ChecksReads tests → OrdersWrites tests
checks-orders tests c = record { above = λ old new p q h name a b. c.above old new p q h name a }
