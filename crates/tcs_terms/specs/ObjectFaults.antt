-- Which bytes are refused as a name or a value, and where.
use Rattle.std.specs.Prelude.{◌≡◌, ℕ, ◌<◌, ◌≤◌, ◌||◌, ◌==◌, not, nat_lt, if◌then◌else◌, List, length, position, Option, Some}
use Rattle.tcs_terms.specs.declared.limits.TheConstants.{MAX_NAME, MAX_VALUE}
use Rattle.tcs_terms.specs.declared.faults.NameFault.{NameFault}
use Rattle.tcs_terms.specs.declared.faults.NameFault.TheVariants as names
use Rattle.tcs_terms.specs.declared.faults.ValueFault.{ValueFault}
use Rattle.tcs_terms.specs.declared.faults.ValueFault.TheVariants as values
use Rattle.tcs_terms.specs.Objects.{is_name_byte, IsName}

-- the place at which bytes are no name: their length where it is 0 or too great, else the first byte outside the alphabet
abbrev pub name_fault : List ℕ → Option ℕ
name_fault bytes =
    if (length bytes == 0) || nat_lt MAX_NAME (length bytes) then Some (length bytes)
    else position (λ b. not (is_name_byte b)) bytes

-- what a refusal of a name says: bytes that are a name are refused for want of memory alone
abbrev pub NameRefused : List ℕ → NameFault → Type 0
NameRefused bytes (names.Bad place) = name_fault bytes ≡ Some place
NameRefused bytes names.OutOfMemory = IsName bytes

-- what a refusal of a value says
abbrev pub ValueRefused : List ℕ → ValueFault → Type 0
ValueRefused bytes (values.TooLong len) = (len ≡ length bytes) × (MAX_VALUE < length bytes)
ValueRefused bytes values.OutOfMemory = length bytes ≤ MAX_VALUE
