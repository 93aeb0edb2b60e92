-- Bytes and values in hex, in lower case.
use Rattle.std.specs.Prelude.{ℕ, ◌+◌, Bool, ◌&&◌, ◌||◌, not, ◌==◌, nat_le, if◌then◌else◌, List, [], length, codes, Option, Some, None}
use Rattle.std.specs.List.{list_all}
use Rattle.std.specs.Result.{result_ok}
use Rattle.hex.specs.Hex.{decode_of}
use Rattle.tcs_terms.specs.declared.limits.TheConstants.{MAX_VALUE}
use Rattle.tcs_terms.specs.Payloads.{same_name}

-- whether a byte is a digit 0 to 9 or a to f
abbrev pub is_lower_digit : ℕ → Bool
is_lower_digit b = (nat_le 48 b && nat_le b 57) || (nat_le 97 b && nat_le b 102)

-- the bytes that pairs of such digits write
unfoldable pub bytes_in : List ℕ → Option (List ℕ)
bytes_in text = if list_all is_lower_digit text then result_ok (decode_of text) else None

-- the value that a word writes: a dash for the empty one, else the bytes of 1 to 64 pairs of digits
abbrev pub value_in : List ℕ → Option (List ℕ)
value_in word =
    if same_name word (codes "-") then Some []
    else if not (length word == 0) && nat_le (length word) (MAX_VALUE + MAX_VALUE) then bytes_in word else None
