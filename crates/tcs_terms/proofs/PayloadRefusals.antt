-- Parts are never refused for want of memory by their faults.
use Rattle.std.proofs.Common.{◌≡◌, ℕ, ◌+◌, Bool, true, false, not, ◌||◌, ◌&&◌, cond, List, [], ◌∷◌, length, Option, Some, None}
use Rattle.std.specs.Prelude.{nat_lt, ◌==◌}
use Rattle.tcs_terms.specs.declared.limits.TheConstants.{MAX_READS, MAX_RANGES, MAX_WRITES}
use Rattle.tcs_terms.specs.declared.payloads.ReadPart.{ReadPart}
use Rattle.tcs_terms.specs.declared.payloads.RangePart.{RangePart}
use Rattle.tcs_terms.specs.declared.payloads.WritePart.{WritePart}
use Rattle.tcs_terms.specs.declared.faults.BadPayload.{BadPayload}
use Rattle.tcs_terms.specs.declared.faults.BadPayload.TheVariants.{Empty, TooMany, Version, Order, Unread, OutOfMemory}
use Rattle.tcs_terms.specs.Order.{name_before}
use Rattle.tcs_terms.specs.Payloads.{Accesses, reads_name}
use Rattle.tcs_terms.specs.PayloadFaults.{reads_fault, ranges_fault, writes_fault, first_fault, payload_fault, PayloadRefused}

-- no fault, or one of the parts
abbrev IsOfParts : Option BadPayload → Type 0
IsOfParts None = Unit {0}
IsOfParts (Some Empty) = Unit {0}
IsOfParts (Some TooMany) = Unit {0}
IsOfParts (Some (Version place)) = Unit {0}
IsOfParts (Some (Order place)) = Unit {0}
IsOfParts (Some (Unread place)) = Unit {0}
IsOfParts (Some OutOfMemory) = ⊥

tested : (b : Bool) (x : BadPayload) (y : Option BadPayload) → IsOfParts (Some x) → IsOfParts y → IsOfParts (cond b (Some x) y)
tested true x y found rest = found
tested false x y found rest = rest

either_of : (x y : Option BadPayload) → IsOfParts x → IsOfParts y → IsOfParts (first_fault x y)
either_of None y first later = later
either_of (Some x) y first later = first

of_reads : (version place : ℕ) (before : List ℕ) (rs : List ReadPart) → IsOfParts (reads_fault version place before rs)
of_reads version place before [] = tt
of_reads version place before (r ∷ rs) =
    tested (not (name_before before r.name)) (Order place) (cond (not (nat_lt r.version version)) (Some (Version place)) (reads_fault version (place + 1) r.name rs)) tt
    (tested (not (nat_lt r.version version)) (Version place) (reads_fault version (place + 1) r.name rs) tt (of_reads version (place + 1) r.name rs))

of_ranges : (version place : ℕ) (end : List ℕ) (qs : List RangePart) → IsOfParts (ranges_fault version place end qs)
of_ranges version place end [] = tt
of_ranges version place end (q ∷ qs) =
    tested (not (name_before q.from q.upto) || name_before q.from end) (Order place) (cond (not (nat_lt q.version version)) (Some (Version place)) (ranges_fault version (place + 1) q.upto qs)) tt
    (tested (not (nat_lt q.version version)) (Version place) (ranges_fault version (place + 1) q.upto qs) tt (of_ranges version (place + 1) q.upto qs))

of_writes : (reads : List ReadPart) (place : ℕ) (before : List ℕ) (ws : List WritePart) → IsOfParts (writes_fault reads place before ws)
of_writes reads place before [] = tt
of_writes reads place before (w ∷ ws) =
    tested (not (name_before before w.name)) (Order place) (cond (not (reads_name reads w.name)) (Some (Unread place)) (writes_fault reads (place + 1) w.name ws)) tt
    (tested (not (reads_name reads w.name)) (Unread place) (writes_fault reads (place + 1) w.name ws) tt (of_writes reads (place + 1) w.name ws))

of_payload : (p : Accesses) → IsOfParts (payload_fault p)
of_payload p =
    let behind = first_fault (ranges_fault p.version (length p.reads + 1) [] p.ranges) (writes_fault p.reads (length p.reads + length p.ranges + 1) [] p.writes) in
    let faults = first_fault (reads_fault p.version 1 [] p.reads) behind in
    let many = nat_lt MAX_READS (length p.reads) || nat_lt MAX_RANGES (length p.ranges) || nat_lt MAX_WRITES (length p.writes) in
    tested ((length p.reads == 0) && (length p.ranges == 0)) Empty (cond many (Some TooMany) (cond (p.version == 0) (Some (Version 0)) faults)) tt
    (tested many TooMany (cond (p.version == 0) (Some (Version 0)) faults) tt
    (tested (p.version == 0) (Version 0) faults tt
    (either_of (reads_fault p.version 1 [] p.reads) behind (of_reads p.version 1 [] p.reads)
    (either_of (ranges_fault p.version (length p.reads + 1) [] p.ranges) (writes_fault p.reads (length p.reads + length p.ranges + 1) [] p.writes)
    (of_ranges p.version (length p.reads + 1) [] p.ranges) (of_writes p.reads (length p.reads + length p.ranges + 1) [] p.writes)))))

pub refused : (p : Accesses) (fault : BadPayload) → payload_fault p ≡ Some fault → PayloadRefused p fault
refused p Empty h = h
refused p TooMany h = h
refused p (Version place) h = h
refused p (Order place) h = h
refused p (Unread place) h = h
refused p OutOfMemory h = absurd (rw h at (of_payload p))
