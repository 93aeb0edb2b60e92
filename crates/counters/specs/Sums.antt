-- Sums of amounts, by counter.
use Rattle.std.specs.Prelude.{◌≡◌, ℕ, ◌<◌, ◌^◌, List, Option}
use Rattle.std.specs.BTreeMap.{BTreeMap, get}
use Rattle.std.specs.Cmp.Lexicographic.{slice_cmp}
use Rattle.std.specs.Option.{unwrap_or}
use Rattle.std.specs.Ordering.{nat_cmp}
use Rattle.std.specs.declared.cmp.Ordering.{Ordering}
use Rattle.tcs_terms.specs.declared.payloads.WritePart.{WritePart}
use Rattle.tcs_terms.specs.Payloads.{Accesses}
use Rattle.counters.specs.Amounts.{added_by, plus, sum_of}

-- a sum by name, in the order of names
abbrev pub Sums : Type 0
Sums = BTreeMap (List ℕ) ℕ

abbrev pub name_cmp : List ℕ → List ℕ → Ordering
name_cmp a b = slice_cmp nat_cmp a b

-- the sum that is kept of an object, if one is
abbrev pub sum_at : Sums → List ℕ → Option ℕ
sum_at sums name = get name_cmp sums name

-- Sums with the amounts of some writes more: exact as long as the sum is below 2 ^ 64.
abbrev pub AddsWrites : Sums → Sums → List WritePart → Type 0
AddsWrites before after writes =
    (name : List ℕ) → unwrap_or (plus (sum_at before name) (added_by writes name)) 0 < 2 ^ 64 → sum_at after name ≡ plus (sum_at before name) (added_by writes name)

-- the sums over some payloads: of each counter to which one adds, and of no other object
abbrev pub AreSums : Sums → List Accesses → Type 0
AreSums sums payloads = (name : List ℕ) → sum_at sums name ≡ sum_of payloads name
