-- Ten accounts, and the payload that moves an amount from one to another.
use Rattle.std.specs.Prelude.{ℕ, ◌+◌, ◌-◌, ◌*◌, ◌%◌, ◌^◌, nat_lt, if◌then◌else◌, List, [], ◌∷◌, ◌++◌, fold, codes, None}
use Rattle.std.specs.Int.{w64, to_be_bytes}
use Rattle.tcs_terms.specs.Payloads.{Accesses}
use Rattle.store_client.specs.declared.parts.Part.{Part}
use Rattle.store_client.specs.Parts.{with_read, with_put, payload_of}
use Rattle.generator.specs.declared.accounts.Reading.{Reading}

-- the object of an account: acc0 to acc9
abbrev pub account_name : ℕ → List ℕ
account_name account = codes "acc" ++ (48 + account) ∷ []

-- a balance as a value: 8 bytes, the high one first
abbrev pub balance_bytes : ℕ → List ℕ
balance_bytes balance = to_be_bytes w64 balance

-- a number with one byte more behind it, within 64 bits
abbrev pub with_byte : ℕ → ℕ → ℕ
with_byte number byte = (number * 256 + byte) % 2 ^ 64

-- the balance that a value tells: 1,000 where nothing was written yet
abbrev pub balance_of : List ℕ → ℕ
balance_of [] = 1000
balance_of (b ∷ bs) = fold with_byte 0 (b ∷ bs)

-- the amount that a word names, 1 to 10, or nothing where the balance does not have it
abbrev pub amount_of : ℕ → ℕ → ℕ
amount_of balance word = if nat_lt balance (1 + word % 10) then 0 else 1 + word % 10

-- what a session is given of a reading
abbrev pub part_of : Reading → Part
part_of r = record { name = account_name r.account; version = r.version; value = r.value; put = None }

-- what a session knows that was given both readings, in their order
abbrev pub both_read : Reading → Reading → List Part
both_read from to = with_read (part_of to) (with_read (part_of from) [])

-- and that was then told to move an amount
abbrev pub moved : Reading → Reading → ℕ → List Part
moved from to amount =
    with_put (account_name to.account) (balance_bytes ((balance_of to.value + amount) % 2 ^ 64))
    (with_put (account_name from.account) (balance_bytes (balance_of from.value - amount)) (both_read from to))

-- the payload that moves the amount that a word names
abbrev pub transfer_payload : Reading → Reading → ℕ → Accesses
transfer_payload from to word = payload_of (moved from to (amount_of (balance_of from.value) word))
