-- What certifiers ask of a payload's writes and of the versions that it saw.
use Rattle.std.specs.Prelude.{ℕ, Bool, false, nat_lt, Option, Some, None, List}
use Rattle.std.specs.List.{list_any}
use Rattle.tcs_terms.specs.declared.payloads.WritePart.{WritePart}
use Rattle.tcs_terms.specs.Payloads.{same_name}

-- whether an object is written
abbrev pub writes_name : List WritePart → List ℕ → Bool
writes_name writes name = list_any (λ w. same_name w.name name) writes

-- whether an object was seen, at a version below this one
abbrev pub seen_below : Option ℕ → ℕ → Bool
seen_below None version = false
seen_below (Some v) version = nat_lt v version
