-- Why parts are no payload: the first fault, with its place. Places count through from 1: the reads, the ranges, the writes.
use Rattle.std.specs.Prelude.{◌≡◌, ℕ, ◌+◌, ◌||◌, ◌&&◌, not, nat_lt, ◌==◌, if◌then◌else◌, List, [], ◌∷◌, length, Option, Some, None}
use Rattle.tcs_terms.specs.declared.limits.TheConstants.{MAX_READS, MAX_RANGES, MAX_WRITES}
use Rattle.tcs_terms.specs.declared.payloads.ReadPart.{ReadPart}
use Rattle.tcs_terms.specs.declared.payloads.RangePart.{RangePart}
use Rattle.tcs_terms.specs.declared.payloads.WritePart.{WritePart}
use Rattle.tcs_terms.specs.declared.faults.BadPayload.{BadPayload}
use Rattle.tcs_terms.specs.declared.faults.BadPayload.TheVariants.{Empty, TooMany, Version, Order, Unread, OutOfMemory}
use Rattle.tcs_terms.specs.Order.{name_before}
use Rattle.tcs_terms.specs.Payloads.{Accesses, reads_name, IsPayload}

-- the first fault of reads, the first of them at this place; each name stands after the one before, and every name
-- stands after the empty one
abbrev pub reads_fault : ℕ → ℕ → List ℕ → List ReadPart → Option BadPayload
reads_fault version place before [] = None
reads_fault version place before (r ∷ rs) =
    if not (name_before before r.name) then Some (Order place)
    else if not (nat_lt r.version version) then Some (Version place)
    else reads_fault version (place + 1) r.name rs

-- the same of ranges: each is not empty, and begins at or after the end of the one before
abbrev pub ranges_fault : ℕ → ℕ → List ℕ → List RangePart → Option BadPayload
ranges_fault version place end [] = None
ranges_fault version place end (q ∷ qs) =
    if not (name_before q.from q.upto) || name_before q.from end then Some (Order place)
    else if not (nat_lt q.version version) then Some (Version place)
    else ranges_fault version (place + 1) q.upto qs

-- the same of writes: each object is read by name
abbrev pub writes_fault : List ReadPart → ℕ → List ℕ → List WritePart → Option BadPayload
writes_fault reads place before [] = None
writes_fault reads place before (w ∷ ws) =
    if not (name_before before w.name) then Some (Order place)
    else if not (reads_name reads w.name) then Some (Unread place)
    else writes_fault reads (place + 1) w.name ws

-- the first of two faults
abbrev pub first_fault : Option BadPayload → Option BadPayload → Option BadPayload
first_fault (Some fault) later = Some fault
first_fault None later = later

-- the first fault of the parts of a payload
abbrev pub payload_fault : Accesses → Option BadPayload
payload_fault p =
    if (length p.reads == 0) && (length p.ranges == 0) then Some Empty
    else if nat_lt MAX_READS (length p.reads) || nat_lt MAX_RANGES (length p.ranges) || nat_lt MAX_WRITES (length p.writes) then Some TooMany
    else if p.version == 0 then Some (Version 0)
    else first_fault (reads_fault p.version 1 [] p.reads)
    (first_fault (ranges_fault p.version (length p.reads + 1) [] p.ranges)
    (writes_fault p.reads (length p.reads + length p.ranges + 1) [] p.writes))

-- what a refusal of parts says: parts that are a payload are refused for want of memory alone
abbrev pub PayloadRefused : Accesses → BadPayload → Type 0
PayloadRefused p Empty = payload_fault p ≡ Some Empty
PayloadRefused p TooMany = payload_fault p ≡ Some TooMany
PayloadRefused p (Version place) = payload_fault p ≡ Some (Version place)
PayloadRefused p (Order place) = payload_fault p ≡ Some (Order place)
PayloadRefused p (Unread place) = payload_fault p ≡ Some (Unread place)
PayloadRefused p OutOfMemory = IsPayload p
