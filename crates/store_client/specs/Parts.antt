-- What a session was given, by object.
use Rattle.std.specs.Prelude.{ℕ, ◌+◌, ◌≤◌, max, Bool, if◌then◌else◌, List, [], ◌∷◌, length, map, fold, Option, Some, None, is_some, IsTrue}
use Rattle.std.specs.List.{flat_map, position}
use Rattle.tcs_terms.specs.declared.limits.TheConstants.{MAX_READS}
use Rattle.tcs_terms.specs.declared.payloads.ReadPart.{ReadPart}
use Rattle.tcs_terms.specs.declared.payloads.WritePart.{WritePart}
use Rattle.tcs_terms.specs.Order.{name_before, names_ascend}
use Rattle.tcs_terms.specs.Payloads.{Accesses, same_name}
use Rattle.store_client.specs.declared.parts.Part.{Part}

-- whether an object was read
abbrev pub has : List Part → List ℕ → Bool
has parts name = is_some (position (λ (p : Part). same_name p.name name) parts)

-- a part more, before the first one whose name stands after its own
abbrev pub with_read : Part → List Part → List Part
with_read new [] = new ∷ []
with_read new (p ∷ ps) = if name_before p.name new.name then p ∷ with_read new ps else new ∷ p ∷ ps

-- the object gets this value, whatever it was to get before
abbrev pub with_put : List ℕ → List ℕ → List Part → List Part
with_put name value [] = []
with_put name value (p ∷ ps) = if same_name p.name name then record p { put = Some value } ∷ ps else p ∷ with_put name value ps

-- what was read of an object
abbrev pub read_of : Part → ReadPart
read_of p = record { name = p.name; version = p.version }

-- what was read
abbrev pub reads : List Part → List ReadPart
reads parts = map read_of parts

-- what an object is to get
abbrev pub write_of : List ℕ → Option (List ℕ) → List WritePart
write_of name None = []
write_of name (Some value) = record { name = name; value = value } ∷ []

-- what is to be written: the last value put of each object
abbrev pub writes : List Part → List WritePart
writes parts = flat_map (λ (p : Part). write_of p.name p.put) parts

-- the greatest version that was read, 0 where nothing was
abbrev pub greatest : List Part → ℕ
greatest parts = fold (λ (most : ℕ) (p : Part). max most p.version) 0 parts

-- the payload: its version is 1 above the greatest that was read
abbrev pub payload_of : List Part → Accesses
payload_of parts = record { reads = reads parts; ranges = []; writes = writes parts; version = greatest parts + 1 }

-- names ascend, and there are no more than a payload may read
pub record AreParts (parts : List Part) : Type 0 where
  pub ascend : IsTrue (names_ascend (map (λ (p : Part). p.name) parts))
  pub few : length parts ≤ MAX_READS
