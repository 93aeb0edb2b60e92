-- What is chosen is well formed: a number is that of a message, a name is one, and a payload is one.
use Rattle.std.proofs.Common.{◌≡◌, ℕ, ◌+◌, ◌/◌, ◌%◌, ◌^◌, ◌<◌, ◌≤◌, ◌==◌, nat_le, Bool, true, false, ◌&&◌, ◌||◌, if◌then◌else◌, length, List, [], ◌∷◌, Option, Some, None, refl, arith}
use Rattle.std.specs.List.{AllByRecursion}
use Rattle.std.proofs.lemmas.Bool.Decides.{nat_tests}
use Rattle.std.proofs.lemmas.Nat.{mod_below}
use Rattle.tcs_terms.proofs.BoolLaws.{neither_left, neither_right}
use Rattle.tcs_terms.specs.Objects.{IsName}
use Rattle.tcs_terms.specs.Payloads.{IsPayload}
use Rattle.generator.specs.declared.transfers.Transfer.{Transfer}
use Rattle.generator.specs.declared.transfers.Transfer.TheVariants.{Idle, Begun, Half, Whole}
use Rattle.generator.specs.declared.doings.Doing.{Doing}
use Rattle.generator.specs.declared.doings.Doing.TheVariants as doings
use Rattle.generator.specs.Choices.{fixed_at}
use Rattle.generator.specs.Courses.{CourseState, Chosen, AreAccounts, IsTransfer, does, is_collecting, first_account, second_account, begins, goes_on, delivers_first, delivers_second, by_word, fixed_or, chosen}
use Rattle.generator.specs.Words.{word, later}
use Rattle.generator.proofs.Payloads.{transfer_is_payload, account_is_name}
use Rattle.generated_runs.proofs.Choosing.{if_both, fixed-each}

-- the number of one of so many messages
pub record IsNumber (sent number : ℕ) : Type 0 where
  pub some : 1 ≤ number
  pub few : number ≤ sent

-- what was read has a version up to this one
abbrev pub IsUpTo : ℕ → Transfer → Type 0
IsUpTo top Idle = Unit {0}
IsUpTo top (Begun from to) = Unit {0}
IsUpTo top (Half from to) = from.version ≤ top
IsUpTo top (Whole from to) = (from.version ≤ top) × (to.version ≤ top)

abbrev pub IsWell : (sent top : ℕ) → Doing → Type 0
IsWell sent top doings.Stop = Unit {0}
IsWell sent top doings.FirstMove = Unit {0}
IsWell sent top doings.TakeOver = Unit {0}
IsWell sent top doings.SecondMove = Unit {0}
IsWell sent top doings.Nudge = Unit {0}
IsWell sent top (doings.Deliver number) = IsNumber sent number
IsWell sent top (doings.Read name) = IsName name
IsWell sent top (doings.Certify payload) = IsPayload payload × (payload.ranges ≡ []) × (payload.version ≤ top + 1)

-- what is kept between two events, of so many messages
pub record IsKept (sent : ℕ) (c : CourseState) : Type 0 where
  pub numbers : AllByRecursion (IsNumber sent) c.queue
  pub accounts : IsTransfer c.transfer

pub record IsChosenWell (sent top : ℕ) (x : Chosen) : Type 0 where
  pub doing : IsWell sent top x.doing
  pub kept : IsKept sent x.course

second_is_account : (from z : ℕ) → second_account from z < 10
second_is_account from z = omega arith

second_is_another : (from z : ℕ) → from < 10 → (from == second_account from z) ≡ false
second_is_another from z few =
    let k : z % 9 < 9 = omega arith in
    let differ : (from ≡ (from + 1 + z % 9) % 10) → ⊥ = λ e. omega (arith, few, k, e) in
    grind (arith, nat_tests)

are_accounts : (w z : ℕ) → AreAccounts (first_account w) (second_account (first_account w) z)
are_accounts w z = record { first = omega arith; second = second_is_account (first_account w) z; others = second_is_another (first_account w) z (omega arith) }

begins-well : (sent top : ℕ) (c : CourseState) → IsKept sent c → IsChosenWell sent top (begins c)
begins-well sent top c k =
    let a = are_accounts (word c.words) (word (later c.words)) in
    record { doing = account_is_name (first_account (word c.words)) a.first; kept = record { numbers = k.numbers; accounts = a } }

goes_on-well : (sent top : ℕ) (c : CourseState) (t : Transfer) → top + 1 < 2 ^ 64 → IsKept sent c → IsTransfer t → IsUpTo top t → IsChosenWell sent top (goes_on c t)
goes_on-well sent top c Idle fits k a v = begins-well sent top c k
goes_on-well sent top c (Begun from to) fits k a v = record { doing = account_is_name from a.first; kept = k }
goes_on-well sent top c (Half from to) fits k a v = record { doing = account_is_name to a.second; kept = k }
goes_on-well sent top c (Whole from to) fits k a v =
    let p = transfer_is_payload top from to (word c.words) a v.0 v.1 fits in
    record { doing = (p.is, refl, p.above); kept = record { numbers = k.numbers; accounts = tt } }

nudge-well : (sent top : ℕ) (c : CourseState) → IsKept sent c → IsChosenWell sent top (does doings.Nudge c)
nudge-well sent top c k = record { doing = tt; kept = k }

first-well : (sent top : ℕ) (c : CourseState) (queue : List ℕ) → IsKept sent c → AllByRecursion (IsNumber sent) queue → IsChosenWell sent top (delivers_first c queue)
first-well sent top c [] k q = nudge-well sent top c k
first-well sent top c (n ∷ ns) k q = record { doing = q.0; kept = record { numbers = q.1; accounts = k.accounts } }

second-well : (sent top : ℕ) (c : CourseState) (queue : List ℕ) → IsKept sent c → AllByRecursion (IsNumber sent) queue → IsChosenWell sent top (delivers_second c queue)
second-well sent top c [] k q = nudge-well sent top c k
second-well sent top c (n ∷ []) k q = nudge-well sent top c k
second-well sent top c (m ∷ n ∷ ns) k q = record { doing = q.1.0; kept = record { numbers = (q.0, q.1.1); accounts = k.accounts } }

-- the same as for both, with what the test says of the second
if_or : {A : Type 0} (P : A → Type 0) (b : Bool) {x y : A} → P x → (b ≡ false → P y) → P (if b then x else y)
if_or P true p q = p
if_or P false p q = q refl

repeat-well : (sent top w : ℕ) (c : CourseState) → IsKept sent c → 0 < sent → IsChosenWell sent top (does (doings.Deliver (1 + w / 16 % sent)) c)
repeat-well sent top w c k some =
    record { doing = record { some = omega arith; few = let less : w / 16 % sent < sent = mod_below (w / 16) sent some in omega (arith, less) }; kept = k }

by_word-well : (sent top : ℕ) (waits : Bool) (w : ℕ) (c : CourseState) → top + 1 < 2 ^ 64 → (0 < length c.queue → 0 < sent) → IsKept sent c → IsUpTo top c.transfer → IsChosenWell sent top (by_word waits sent w c)
by_word-well sent top waits w c fits some k v =
    if_both (IsChosenWell sent top) ((length c.queue == 0) && waits && (w % 2 == 0)) (nudge-well sent top c k)
    (if_or (IsChosenWell sent top) (is_collecting c.transfer || (length c.queue == 0) || (w % 16 == 0)) (goes_on-well sent top c c.transfer fits k k.accounts v) (λ queued.
    if_both (IsChosenWell sent top) (w % 16 == 1) (repeat-well sent top w c k (some (is_queued queued)))
    (if_both (IsChosenWell sent top) ((w % 16 == 2) && nat_le 2 (length c.queue)) (second-well sent top c c.queue k k.numbers) (first-well sent top c c.queue k k.numbers)))) where
      is_queued : (is_collecting c.transfer || (length c.queue == 0) || (w % 16 == 0)) ≡ false → 0 < length c.queue
      is_queued e =
          let first : (is_collecting c.transfer || (length c.queue == 0)) ≡ false = neither_left (is_collecting c.transfer || (length c.queue == 0)) (w % 16 == 0) e in
          let none : (length c.queue == 0) ≡ false = neither_right (is_collecting c.transfer) (length c.queue == 0) first in
          grind (arith, nat_tests)

-- what stands at a fixed place names nothing
abbrev pub IsFixedWell : Option Doing → Type 0
IsFixedWell None = Unit {0}
IsFixedWell (Some doing) = (sent top : ℕ) → IsWell sent top doing

fixed_or-well : (sent top : ℕ) (fixed : Option Doing) (waits : Bool) (c : CourseState) → IsFixedWell fixed → top + 1 < 2 ^ 64 → (0 < length c.queue → 0 < sent) → IsKept sent c → IsUpTo top c.transfer
    → IsChosenWell sent top (fixed_or fixed waits sent c)
fixed_or-well sent top None waits c f fits some k v = by_word-well sent top waits (word c.words) (record c { words = later c.words }) fits some (record { numbers = k.numbers; accounts = k.accounts }) v
fixed_or-well sent top (Some doing) waits c f fits some k v = record { doing = f sent top; kept = k }

pub chosen_well : (count place sent top : ℕ) (waits : Bool) (c : CourseState) → top + 1 < 2 ^ 64 → (0 < length c.queue → 0 < sent) → IsKept sent c → IsUpTo top c.transfer
    → IsChosenWell sent top (chosen count place waits sent c)
chosen_well count place sent top waits c =
    fixed_or-well sent top (fixed_at count place) waits c (fixed-each IsFixedWell count place (λ n v. tt) (λ n v. tt) (λ n v. tt) (λ n v. tt) tt)
