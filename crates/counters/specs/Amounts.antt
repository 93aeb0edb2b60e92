-- What payloads add to counters.
use Rattle.std.specs.Prelude.{ℕ, ◌+◌, ◌==◌, ◌&&◌, nat_le, if◌then◌else◌, List, length, find, filter_map, fold, Option, Some, None}
use Rattle.std.specs.Int.{w64, from_be_bytes}
use Rattle.std.specs.Option.{option_map, unwrap_or}
use Rattle.tcs_terms.specs.declared.logs.Mark.{Mark}
use Rattle.tcs_terms.specs.declared.logs.Mark.TheVariants.{Undecided, Committed, Aborted}
use Rattle.tcs_terms.specs.declared.logs.Row.{Row}
use Rattle.tcs_terms.specs.declared.payloads.WritePart.{WritePart}
use Rattle.tcs_terms.specs.Payloads.{Accesses, same_name}
use Rattle.cert_commute.specs.Commute.{is_counter}
use Rattle.counters.specs.declared.limits.TheConstants.{MAX_AMOUNT}

-- the amount that a value stands for: the number of its 8 bytes, big-endian, where it has 8 and the number is not too
-- great, else 0
abbrev pub amount_of : List ℕ → ℕ
amount_of value = if (length value == 8) && nat_le (from_be_bytes w64 value) MAX_AMOUNT then from_be_bytes w64 value else 0

-- the amount by which writes add to an object, if they do: it is a counter, and one of them writes it
abbrev pub added_by : List WritePart → List ℕ → Option ℕ
added_by writes name =
    if is_counter name then option_map (λ w. amount_of w.value) (find (λ w. same_name w.name name) writes) else None

-- the amount that a payload adds to an object, 0 where it adds nothing
abbrev pub amount : Accesses → List ℕ → ℕ
amount p name = unwrap_or (added_by p.writes name) 0

-- the sum of two amounts, where there is one at all
abbrev pub plus : Option ℕ → Option ℕ → Option ℕ
plus None b = b
plus (Some a) None = Some a
plus (Some a) (Some b) = Some (a + b)

-- the sum of the amounts by which payloads add to an object, if one of them does
abbrev pub sum_of : List Accesses → List ℕ → Option ℕ
sum_of payloads name = fold (λ sum p. plus sum (added_by p.writes name)) None payloads

-- the same, 0 where none does
abbrev pub total_of : List Accesses → List ℕ → ℕ
total_of payloads name = unwrap_or (sum_of payloads name) 0

-- the payload of a row that is marked committed, if it has one
abbrev pub payload_marked : Mark → Option Accesses → Option Accesses
payload_marked Undecided payload = None
payload_marked Committed payload = payload
payload_marked Aborted payload = None

-- the payloads of the committed rows
abbrev pub committed_in : List Row → List Accesses
committed_in rows = filter_map (λ r. payload_marked r.mark r.entry.payload) rows

-- what a node of these rows has of an object: the sum over its committed rows
abbrev pub node_total : List Row → List ℕ → ℕ
node_total rows name = total_of (committed_in rows) name
