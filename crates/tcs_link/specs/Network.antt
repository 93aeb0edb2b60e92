-- A network in memory, as its callers see it.
use Rattle.std.specs.Prelude.{◌≡◌, ℕ, Bool, true, false, ◌==◌, List, [], ◌∷◌, ◌++◌, map, filter, take, length, slice_index_or, unwrap_or}
use Rattle.std.specs.List.{list_any, slice_get}
use Rattle.tcs_io.specs.Plan.{Plan}
use Rattle.tcs_link.specs.declared.mail.Alien.{Alien}
use Rattle.tcs_link.specs.declared.mail.Fate.{Fate}
use Rattle.tcs_link.specs.declared.mail.Fate.TheVariants.{Keep, Lose, Twice, Fail}
use Rattle.tcs_link.specs.declared.telling.Arrival.{Arrival}
use Rattle.tcs_link.specs.Told.{Told}

-- the aliens, and the other frames on their way to each receiver, at its number
pub record Mail : Type 0 where
  pub aliens : List Alien
  pub queues : List (List Arrival)

-- how an alien arrives
abbrev pub arrives : Alien → Arrival
arrives alien = record { from = alien.from; bytes = alien.bytes }

-- the aliens for a receiver, as they arrive
abbrev pub aliens_for : ℕ → List Alien → List Arrival
aliens_for n aliens = map arrives (filter (λ alien. alien.to == n) aliens)

-- the other frames for a receiver
abbrev pub queue_of : List (List Arrival) → ℕ → List Arrival
queue_of queues n = slice_index_or queues n []

-- the frames that wait for a receiver, the next one first: its aliens stand before all others
abbrev pub waiting : Mail → ℕ → List Arrival
waiting mail n = aliens_for n mail.aliens ++ queue_of mail.queues n

-- the frames that come of one that is sent
abbrev pub carried : Fate → Arrival → List Arrival
carried Keep frame = frame ∷ []
carried Lose frame = []
carried Twice frame = frame ∷ frame ∷ []
carried Fail frame = []

-- whether a send of this fate fails
abbrev pub is_failing : Fate → Bool
is_failing Keep = false
is_failing Lose = false
is_failing Twice = false
is_failing Fail = true

-- The fates of the sends, of which the first is that of the first send; the frames on their way; which polls fail, by
-- their numbers from 1, with the polls and the faults so far; the failed sends so far; and what is told of the calls.
pub record Network : Type 0 where
  pub fates : List Fate
  pub mail : Mail
  pub plan : Plan
  pub failed_sends : ℕ
  pub told : Told

-- the fate of the next send
abbrev pub next_fate : Network → Fate
next_fate net = unwrap_or (slice_get net.fates (length net.told.sent)) Keep

-- the number 0 makes `attach` fail
abbrev pub fails_attach : Plan → Bool
fails_attach plan = list_any (λ number. number == 0) plan.fails

-- a frame that arrives at a buffer of this length
abbrev pub cut : ℕ → Arrival → Arrival
cut most frame = record { from = frame.from; bytes = take most frame.bytes }

-- nothing changed: the queues may lie otherwise, but hold the same
pub record IsUnchanged (old new : Network) : Type 0 where
  pub fates : new.fates ≡ old.fates
  pub mail : (n : ℕ) → waiting new.mail n ≡ waiting old.mail n
  pub plan : new.plan ≡ old.plan
  pub failed_sends : new.failed_sends ≡ old.failed_sends
  pub told : new.told ≡ old.told
