-- Names and values of objects, as lists of bytes.
use Rattle.std.specs.Prelude.{ℕ, ◌<◌, ◌≤◌, Bool, ◌||◌, ◌&&◌, ◌==◌, nat_le, List, length, IsTrue, All}
use Rattle.std.specs.List.{list_all}
use Rattle.tcs_terms.specs.declared.limits.TheConstants.{MAX_NAME, MAX_VALUE}

-- whether a byte may stand in a name: a to z, 0 to 9 and the underscore
abbrev pub is_name_byte : ℕ → Bool
is_name_byte b = (nat_le 97 b && nat_le b 122) || (nat_le 48 b && nat_le b 57) || (b == 95)

-- 1 to 32 bytes that may stand in a name
pub record IsName (bytes : List ℕ) : Type 0 where
  pub some : 1 ≤ length bytes
  pub short : length bytes ≤ MAX_NAME
  pub alphabet : IsTrue (list_all is_name_byte bytes)

-- at most 64 bytes
pub record IsValue (bytes : List ℕ) : Type 0 where
  pub short : length bytes ≤ MAX_VALUE
  pub are_bytes : All (λ b. b < 256) bytes
