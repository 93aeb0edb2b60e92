-- What moves an amount is a payload, where the versions that were read leave one above them.
use Rattle.std.proofs.Common.{◌≡◌, ℕ, zero, suc, ◌+◌, ◌-◌, ◌%◌, ◌<◌, ◌≤◌, ◌^◌, ◌==◌, nat_le, nat_eq, Bool, true, false, cond, List, [], ◌∷◌, ◌++◌, length, Some, None, refl, arith, leb-true, le-leb}
use Rattle.std.specs.Prelude.{All, IfSome, Option, max, fold}
use Rattle.std.specs.Int.{byte_at, bytes_high_first}
use Rattle.std.specs.List.{AllByRecursion}
use Rattle.std.proofs.lemmas.Bool.Decides.{nat_tests}
use Rattle.std.proofs.lemmas.List.Elements.{All-nil, All-cons}
use Rattle.tcs_terms.specs.declared.limits.TheConstants.{MAX_NAME, MAX_READS, MAX_VALUE}
use Rattle.tcs_terms.specs.Objects.{IsName, IsValue, is_name_byte}
use Rattle.tcs_terms.specs.Order.{name_before}
use Rattle.tcs_terms.specs.Payloads.{same_name, IsPayload, IsReadPart, IsWritePart}
use Rattle.store_client.specs.declared.parts.Part.{Part}
use Rattle.store_client.specs.Parts.{AreParts, with_read, with_put, read_of, reads, write_of, writes, greatest}
use Rattle.store_client.proofs.Committing.{parts_are_a_payload}
use Rattle.store_client.proofs.Putting.{with_put_are}
use Rattle.store_client.proofs.Reading.{with_read_are}
use Rattle.generator.specs.declared.accounts.Reading.{Reading}
use Rattle.generator.specs.Accounts.{account_name, balance_bytes, balance_of, amount_of, part_of, both_read, moved, transfer_payload}
use Rattle.generator.specs.Courses.{AreAccounts}

-- ---- names and values

digit_in_name : (b : ℕ) → 48 ≤ b → b ≤ 57 → is_name_byte b ≡ true
digit_in_name b low high =
    let letter : nat_le 97 b ≡ false = grind (arith, nat_tests) in
    let from : nat_le 48 b ≡ true = le-leb 48 b low in
    let upto : nat_le b 57 ≡ true = le-leb b 57 high in
    rw (letter, from, upto) refl

pub account_is_name : (account : ℕ) → account < 10 → IsName (account_name account)
account_is_name account few = record {
  some = leb-true 1 4 refl;
  short = leb-true 4 MAX_NAME refl;
  alphabet = let digit : is_name_byte (48 + account) ≡ true = digit_in_name (48 + account) (omega arith) (omega (arith, few)) in rw digit refl;
}

other_names : (a b : ℕ) → (a == b) ≡ false → same_name (account_name a) (account_name b) ≡ false
other_names a b other = let digits : nat_eq (48 + a) (48 + b) ≡ false = grind (arith, nat_tests) in rw digits refl

byte_is : (k n : ℕ) → byte_at k n < 256
byte_is zero n = omega arith
byte_is (suc k) n = omega arith

bytes_are : (k n : ℕ) → All (λ b. b < 256) (bytes_high_first k n)
bytes_are zero n = All-nil (λ b. b < 256)
bytes_are (suc k) n = All-cons (λ b. b < 256) (byte_at k n) (bytes_high_first k n) (byte_is k n) (bytes_are k n)

balance_is_value : (balance : ℕ) → IsValue (balance_bytes balance)
balance_is_value balance = record { short = leb-true 8 MAX_VALUE refl; are_bytes = bytes_are 8 balance }

-- ---- what a session was given

-- an object that was read, at a version up to this one, and what it is to get, if anything
pub record IsGiven (top : ℕ) (p : Part) : Type 0 where
  pub name : IsName p.name
  pub version : p.version ≤ top
  pub put : IfSome p.put IsValue

given_read : (top : ℕ) (new : Part) (ps : List Part) → IsGiven top new → AllByRecursion (IsGiven top) ps → AllByRecursion (IsGiven top) (with_read new ps)
given_read top new [] n h = (n, tt)
given_read top new (p ∷ ps) n h = go (name_before p.name new.name) (given_read top new ps n h.1) where
  go : (b : Bool) → AllByRecursion (IsGiven top) (with_read new ps) → AllByRecursion (IsGiven top) (cond b (p ∷ with_read new ps) (new ∷ p ∷ ps))
  go true rest = (h.0, rest)
  go false rest = (n, h)

given_put : (top : ℕ) (name value : List ℕ) (ps : List Part) → IsValue value → AllByRecursion (IsGiven top) ps → AllByRecursion (IsGiven top) (with_put name value ps)
given_put top name value [] v h = tt
given_put top name value (p ∷ ps) v h = go (same_name p.name name) (given_put top name value ps v h.1) where
  go : (b : Bool) → AllByRecursion (IsGiven top) (with_put name value ps) → AllByRecursion (IsGiven top) (cond b (record p { put = Some value } ∷ ps) (p ∷ with_put name value ps))
  go true rest = (record { name = h.0.name; version = h.0.version; put = v }, h.1)
  go false rest = (h.0, rest)

greatest_from : (top most : ℕ) (ps : List Part) → most ≤ top → AllByRecursion (IsGiven top) ps → fold (λ (most : ℕ) (p : Part). max most p.version) most ps ≤ top
greatest_from top most [] m h = m
greatest_from top most (p ∷ ps) m h = greatest_from top (max most p.version) ps (let v : p.version ≤ top = h.0.version in omega (arith, m, v)) h.1

all_reads : (top : ℕ) (ps : List Part) → top < 2 ^ 64 → AllByRecursion (IsGiven top) ps → All IsReadPart (reads ps)
all_reads top [] fits h = All-nil IsReadPart
all_reads top (p ∷ ps) fits h =
    All-cons IsReadPart (read_of p) (reads ps) (record { name = h.0.name; version = let v : p.version ≤ top = h.0.version in omega (arith, v, fits) }) (all_reads top ps fits h.1)

all_writes : (top : ℕ) (ps : List Part) → AllByRecursion (IsGiven top) ps → All IsWritePart (writes ps)
all_writes top [] h = All-nil IsWritePart
all_writes top (p ∷ ps) h = go p.put h.0.put (all_writes top ps h.1) where
  go : (put : Option (List ℕ)) → IfSome put IsValue → All IsWritePart (writes ps) → All IsWritePart (write_of p.name put ++ writes ps)
  go None v rest = rest
  go (Some value) v rest = All-cons IsWritePart (record { name = p.name; value = value }) (writes ps) (record { name = h.0.name; value = v }) rest

some_read : (new : Part) (ps : List Part) → 1 ≤ length (with_read new ps)
some_read new [] = omega arith
some_read new (p ∷ ps) = go (name_before p.name new.name) where
  go : (b : Bool) → 1 ≤ length (cond b (p ∷ with_read new ps) (new ∷ p ∷ ps))
  go true = omega arith
  go false = omega arith

some_put : (name value : List ℕ) (ps : List Part) → 1 ≤ length ps → 1 ≤ length (with_put name value ps)
some_put name value [] some = some
some_put name value (p ∷ ps) some = go (same_name p.name name) where
  go : (b : Bool) → 1 ≤ length (cond b (record p { put = Some value } ∷ ps) (p ∷ with_put name value ps))
  go true = omega arith
  go false = omega arith

-- ---- a transfer

given : (top : ℕ) (r : Reading) → r.account < 10 → r.version ≤ top → IsGiven top (part_of r)
given top r few v = record { name = account_is_name r.account few; version = v; put = tt }

nothing_are : AreParts []
nothing_are = record { ascend = refl; few = leb-true 0 MAX_READS refl }

first_are : (r : Reading) → AreParts (with_read (part_of r) [])
first_are r = with_read_are (part_of r) [] (with_read (part_of r) []) refl nothing_are refl (leb-true 1 MAX_READS refl)

both_are : (from to : Reading) → (from.account == to.account) ≡ false → AreParts (both_read from to)
both_are from to other =
    let another : same_name (account_name from.account) (account_name to.account) ≡ false = other_names from.account to.account other in
    with_read_are (part_of to) (with_read (part_of from) []) (both_read from to) refl (first_are from) (rw another refl) (leb-true 2 MAX_READS refl)

pub record IsTransferPayload (top : ℕ) (from to : Reading) (word : ℕ) : Type 0 where
  pub is : IsPayload (transfer_payload from to word)
  pub above : (transfer_payload from to word).version ≤ top + 1

pub transfer_is_payload : (top : ℕ) (from to : Reading) (word : ℕ) → AreAccounts from.account to.account → from.version ≤ top → to.version ≤ top → top + 1 < 2 ^ 64 → IsTransferPayload top from to word
transfer_is_payload top from to word a f t fits =
    let amount = amount_of (balance_of from.value) word in
    let both = both_read from to in
    let lower = with_put (account_name from.account) (balance_bytes (balance_of from.value - amount)) both in
    let all = moved from to amount in
    let lower_are : AreParts lower = with_put_are (account_name from.account) (balance_bytes (balance_of from.value - amount)) both lower refl (both_are from to a.others) in
    let all_are : AreParts all = with_put_are (account_name to.account) (balance_bytes ((balance_of to.value + amount) % 2 ^ 64)) lower all refl lower_are in
    let both_given : AllByRecursion (IsGiven top) both =
    given_read top (part_of to) (with_read (part_of from) []) (given top to a.second t) (given top from a.first f, tt) in
    let lower_given : AllByRecursion (IsGiven top) lower = given_put top (account_name from.account) (balance_bytes (balance_of from.value - amount)) both (balance_is_value (balance_of from.value - amount)) both_given in
    let all_given : AllByRecursion (IsGiven top) all =
    given_put top (account_name to.account) (balance_bytes ((balance_of to.value + amount) % 2 ^ 64)) lower (balance_is_value ((balance_of to.value + amount) % 2 ^ 64)) lower_given in
    let most : greatest all ≤ top = greatest_from top 0 all (omega arith) all_given in
    let some : 1 ≤ length all =
    some_put (account_name to.account) (balance_bytes ((balance_of to.value + amount) % 2 ^ 64)) lower
    (some_put (account_name from.account) (balance_bytes (balance_of from.value - amount)) both (some_read (part_of to) (with_read (part_of from) []))) in
    record {
      is = parts_are_a_payload all all_are some (omega (arith, most, fits)) (all_reads top all (omega (arith, fits)) all_given) (all_writes top all all_given);
      above = omega (arith, most);
    }
