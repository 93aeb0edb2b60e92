-- What the generator keeps beside the run, and what it lets happen next.
use Rattle.std.specs.Prelude.{◌≡◌, ℕ, ◌+◌, ◌/◌, ◌%◌, ◌<◌, ◌==◌, nat_le, Bool, true, false, ◌&&◌, ◌||◌, if◌then◌else◌, List, [], ◌∷◌, length, Option, Some, None}
use Rattle.std.specs.List.{range_with_len}
use Rattle.rand_pcg.specs.Lcg.{Lcg}
use Rattle.tcs_terms.specs.declared.inputs.Note.{Note}
use Rattle.tcs_terms.specs.declared.inputs.Note.TheVariants.{Begin, Take, ReadValue, Decide}
use Rattle.generator.specs.declared.accounts.Reading.{Reading}
use Rattle.generator.specs.declared.transfers.Transfer.{Transfer}
use Rattle.generator.specs.declared.transfers.Transfer.TheVariants.{Idle, Begun, Half, Whole}
use Rattle.generator.specs.declared.doings.Doing.{Doing}
use Rattle.generator.specs.declared.doings.Doing.TheVariants.{Nudge, Deliver, Read, Certify}
use Rattle.generator.specs.Accounts.{account_name, transfer_payload}
use Rattle.generator.specs.Choices.{fixed_at}
use Rattle.generator.specs.Words.{words_from, word, later}

-- the words that are left, the numbers of messages that were sent and not yet delivered from the queue, and the transfer
-- that is being collected
pub record CourseState : Type 0 where
  pub words : Lcg
  pub queue : List ℕ
  pub transfer : Transfer

-- before the first event
abbrev pub first_course : ℕ → CourseState
first_course seed = record { words = words_from seed; queue = []; transfer = Idle }

-- what happens next, and what is kept then
pub record Chosen : Type 0 where
  pub doing : Doing
  pub course : CourseState

abbrev pub does : Doing → CourseState → Chosen
does doing c = record { doing = doing; course = c }

-- whether a transfer is being collected
abbrev pub is_collecting : Transfer → Bool
is_collecting Idle = false
is_collecting (Begun from to) = true
is_collecting (Half from to) = true
is_collecting (Whole from to) = true

-- the account that a word names
abbrev pub first_account : ℕ → ℕ
first_account word = word % 10

-- another account, by a word
abbrev pub second_account : ℕ → ℕ → ℕ
second_account account word = (account + 1 + word % 9) % 10

-- a transfer is begun: one word for each account
abbrev pub begins : CourseState → Chosen
begins c =
    let from = first_account (word c.words) in
    let to = second_account from (word (later c.words)) in
    does (Read (account_name from)) (record c { words = later (later c.words); transfer = Begun from to })

-- both accounts were read: a word names the amount
abbrev pub moves : CourseState → Reading → Reading → Chosen
moves c from to = does (Certify (transfer_payload from to (word c.words))) (record c { words = later c.words; transfer = Idle })

-- the next step of a transfer: two readings, then the payload
abbrev pub goes_on : CourseState → Transfer → Chosen
goes_on c Idle = begins c
goes_on c (Begun from to) = does (Read (account_name from)) c
goes_on c (Half from to) = does (Read (account_name to)) c
goes_on c (Whole from to) = moves c from to

-- the first of the queue is delivered
abbrev pub delivers_first : CourseState → List ℕ → Chosen
delivers_first c [] = does Nudge c
delivers_first c (n ∷ ns) = does (Deliver n) (record c { queue = ns })

-- the second of the queue is delivered
abbrev pub delivers_second : CourseState → List ℕ → Chosen
delivers_second c [] = does Nudge c
delivers_second c (n ∷ []) = does Nudge c
delivers_second c (m ∷ n ∷ ns) = does (Deliver n) (record c { queue = m ∷ ns })

-- What a word lets happen, the first of these that applies. `waits` says whether node 9 has an open case, and `sent` is
-- the number of messages so far.
abbrev pub by_word : Bool → ℕ → ℕ → CourseState → Chosen
by_word waits sent w c =
    if (length c.queue == 0) && waits && (w % 2 == 0) then does Nudge c
    else if is_collecting c.transfer || (length c.queue == 0) || (w % 16 == 0) then goes_on c c.transfer
    else if w % 16 == 1 then does (Deliver (1 + w / 16 % sent)) c
    else if (w % 16 == 2) && nat_le 2 (length c.queue) then delivers_second c c.queue
    else delivers_first c c.queue

-- a word is taken
abbrev pub with_word : Bool → ℕ → CourseState → Chosen
with_word waits sent c = by_word waits sent (word c.words) (record c { words = later c.words })

abbrev pub fixed_or : Option Doing → Bool → ℕ → CourseState → Chosen
fixed_or None waits sent c = with_word waits sent c
fixed_or (Some doing) waits sent c = does doing c

-- what happens at a place of a schedule of so many events
abbrev pub chosen : ℕ → ℕ → Bool → ℕ → CourseState → Chosen
chosen count place waits sent c = fixed_or (fixed_at count place) waits sent c

-- ---- what the event comes to

-- a reading of an account
abbrev pub reading : ℕ → ℕ → List ℕ → Reading
reading account version value = record { account = account; version = version; value = value }

-- the account that was to be read told this
abbrev pub with_reading : Transfer → ℕ → List ℕ → Transfer
with_reading Idle version value = Idle
with_reading (Begun from to) version value = Half (reading from version value) to
with_reading (Half from to) version value = Whole from (reading to version value)
with_reading (Whole from to) version value = Idle

-- the first note of a reading tells the version and the value; without one the transfer is dropped
abbrev pub with_note : Transfer → Note → Transfer
with_note t (Begin txn payload) = Idle
with_note t (Take txn) = Idle
with_note t (ReadValue name version value) = with_reading t version value
with_note t (Decide txn decision) = Idle

abbrev pub with_notes : Transfer → List Note → Transfer
with_notes t [] = Idle
with_notes t (n ∷ ns) = with_note t n

-- the numbers of so many messages behind the first so many
abbrev pub numbers_behind : ℕ → ℕ → List ℕ
numbers_behind before sent = range_with_len (before + 1) sent

-- Accounts are 0 to 9, and no transfer goes from an account to itself.
pub record AreAccounts (from to : ℕ) : Type 0 where
  pub first : from < 10
  pub second : to < 10
  pub others : (from == to) ≡ false

abbrev pub IsTransfer : Transfer → Type 0
IsTransfer Idle = Unit {0}
IsTransfer (Begun from to) = AreAccounts from to
IsTransfer (Half from to) = AreAccounts from.account to
IsTransfer (Whole from to) = AreAccounts from.account to.account

-- above the versions that a transfer read stands another
abbrev pub HasRoom : Transfer → Type 0
HasRoom Idle = Unit {0}
HasRoom (Begun from to) = Unit {0}
HasRoom (Half from to) = Unit {0}
HasRoom (Whole from to) = (from.version < 18446744073709551615) × (to.version < 18446744073709551615)
