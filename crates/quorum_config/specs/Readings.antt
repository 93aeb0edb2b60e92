-- How the lines of an input are read: a word, and numbers.
use Rattle.std.specs.Prelude.{◌≡◌, ℕ, ◌+◌, ◌-◌, ◌<◌, ◌≤◌, ◌==◌, ◌&&◌, Bool, nat_le, nat_lt, if◌then◌else◌, is_none, List, [], ◌∷◌, ◌++◌, length, codes, drop, slice_index, Option, Some, None}
use Rattle.std.specs.List.{list_all}
use Rattle.tcs_terms.specs.declared.limits.TheConstants.{MAX_NODES, MAX_EPOCH, MAX_SHARDS}
use Rattle.tcs_terms.specs.Payloads.{same_name}
use Rattle.tcs_terms.specs.Places.{Membership}
use Rattle.tcs_terms.specs.ConfigFaults.{config_fault}
use Rattle.text_words.specs.PayloadWords.{number_in}
use Rattle.text_words.specs.Words.{words_of}
use Rattle.quorum_protocol.specs.declared.terms.Event.{Event}
use Rattle.quorum_protocol.specs.declared.terms.Event.TheVariants.{Cas, Deliver, Stop}
use Rattle.quorum_config.specs.declared.places.Place.{Place}
use Rattle.quorum_config.specs.declared.places.Place.TheVariants as places
use Rattle.quorum_config.specs.declared.places.Progress.{Progress}
use Rattle.quorum_config.specs.declared.places.Item.{Item}
use Rattle.quorum_config.specs.declared.places.Item.TheVariants as items
use Rattle.quorum_config.specs.declared.limits.TheConstants.{MAX_PROPOSERS, MAX_ROUND, MAX_EVENTS, MAX_MESSAGE, FIRST_PROPOSER}

-- the next step of reading, if this one gave something
infixl 10 ◌>>=◌
abbrev pub ◌>>=◌ : {A B : Type 0} → Option A → (A → Option B) → Option B
(Some x) >>= f = f x
None >>= f = None

-- ---- a line: its first word, and all others as numbers

unfoldable pub each_number : List (List ℕ) → Option (List ℕ)
each_number [] = Some []
each_number (w ∷ ws) = do
  n ← number_in w
  ns ← each_number ws
  Some (n ∷ ns)

abbrev pub parts_in : List (List ℕ) → Option (List ℕ × List ℕ)
parts_in [] = None
parts_in (w ∷ ws) = each_number ws >>= λ ns. Some (w, ns)

unfoldable pub line_parts : List ℕ → Option (List ℕ × List ℕ)
line_parts line = parts_in (words_of line)

-- ---- numbers

abbrev pub is_within : ℕ → ℕ → ℕ → Bool
is_within low high n = nat_le low n && nat_le n high

-- one number, in this range
abbrev pub only_within : ℕ → ℕ → List ℕ → Option ℕ
only_within low high ns = if (length ns == 1) && is_within low high (slice_index ns 0) then Some (slice_index ns 0) else None

-- a configuration of these numbers, if they are those of one
unfoldable pub config_in : (shard epoch by leader : ℕ) → List ℕ → Option Membership
config_in shard epoch by leader members =
    if nat_le leader MAX_NODES && list_all (λ n. nat_le n MAX_NODES) members
    then (if is_none (config_fault (record { shard = shard; epoch = epoch; members = members; leader = leader; by = by }))
    then Some (record { shard = shard; epoch = epoch; members = members; leader = leader; by = by }) else None)
    else None

-- ---- the header

-- what a line is, and where a reader stands after it
abbrev pub Read : Type 0
Read = Option (Item × Progress)

unfoldable pub version_at : Progress → List ℕ → List ℕ → Read
version_at p verb ns = if same_name verb (codes "quorum") then (only_within 1 1 ns >>= λ n. Some (items.Header, record p { place = places.Acceptors })) else None

unfoldable pub acceptors_at : Progress → List ℕ → List ℕ → Read
acceptors_at p verb ns =
    if same_name verb (codes "acceptors")
    then (only_within 3 5 ns >>= λ n. if n == 4 then None else Some (items.Header, record p { place = places.Proposers; acceptors = n })) else None

unfoldable pub proposers_at : Progress → List ℕ → List ℕ → Read
proposers_at p verb ns =
    if same_name verb (codes "proposers") then (only_within 1 MAX_PROPOSERS ns >>= λ n. Some (items.Header, record p { place = places.Shards; proposers = n })) else None

unfoldable pub shards_at : Progress → List ℕ → List ℕ → Read
shards_at p verb ns =
    if same_name verb (codes "shards") then (only_within 1 MAX_SHARDS ns >>= λ n. Some (items.Header, record p { place = places.Configs; shards = n })) else None

-- after one configuration more: the next one, or the line `events`
abbrev pub after_config : Progress → Progress
after_config p = record p { place = if p.configs + 1 == p.shards then places.Begin else places.Configs; configs = p.configs + 1 }

-- the next shard, its leader, its members
abbrev pub first_config_of : Progress → ℕ → ℕ → List ℕ → Read
first_config_of p s leader members = if s == p.configs + 1 then (config_in s 1 0 leader members >>= λ c. Some (items.Header, after_config p)) else None

abbrev pub first_config_at : Progress → List ℕ → Read
first_config_at p ns = if nat_le 2 (length ns) then first_config_of p (slice_index ns 0) (slice_index ns 1) (drop 2 ns) else None

unfoldable pub configs_at : Progress → List ℕ → List ℕ → Read
configs_at p verb ns = if same_name verb (codes "config") then first_config_at p ns else None

unfoldable pub begin_at : Progress → List ℕ → List ℕ → Read
begin_at p verb ns = if same_name verb (codes "events") && (length ns == 0) then Some (items.Begun, record p { place = places.Events }) else None

-- ---- events

-- whether a proposer, a round, a shard and an epoch are in their ranges
abbrev pub may_propose : Progress → (q r s e : ℕ) → Bool
may_propose p q r s e =
    is_within FIRST_PROPOSER (FIRST_PROPOSER - 1 + p.proposers) q && is_within 1 MAX_ROUND r && is_within 1 p.shards s && is_within 2 MAX_EPOCH e

-- the proposer, the round, the shard, the epoch, the leader, the members
unfoldable pub cas_of : Progress → (q r s e leader : ℕ) → List ℕ → Option Event
cas_of p q r s e leader members =
    if may_propose p q r s e
    then (config_in s e q leader members >>= λ c. Some (Cas r c)) else None

abbrev pub cas_at : Progress → List ℕ → Option Event
cas_at p ns =
    if nat_le 5 (length ns) then cas_of p (slice_index ns 0) (slice_index ns 1) (slice_index ns 2) (slice_index ns 3) (slice_index ns 4) (drop 5 ns) else None

abbrev pub deliver_at : List ℕ → Option Event
deliver_at ns = only_within 1 MAX_MESSAGE ns >>= λ m. Some (Deliver m)

abbrev pub stop_at : Progress → List ℕ → Option Event
stop_at p ns = only_within 1 p.acceptors ns >>= λ a. Some (Stop a)

unfoldable pub event_at : Progress → List ℕ → List ℕ → Option Event
event_at p verb ns =
    if same_name verb (codes "cas") then cas_at p ns
    else if same_name verb (codes "deliver") then deliver_at ns
    else if same_name verb (codes "stop") then stop_at p ns
    else None

abbrev pub end_at : Progress → List ℕ → Read
end_at p ns = if length ns == 0 then Some (items.End, record p { place = places.Ended }) else None

unfoldable pub events_at : Progress → List ℕ → List ℕ → Read
events_at p verb ns =
    if same_name verb (codes "end") then end_at p ns
    else if nat_lt p.events MAX_EVENTS then (event_at p verb ns >>= λ e. Some (items.Event e, record p { events = p.events + 1 })) else None

-- ---- any line

abbrev pub read_at : Progress → Place → List ℕ → List ℕ → Read
read_at p places.Version verb ns = version_at p verb ns
read_at p places.Acceptors verb ns = acceptors_at p verb ns
read_at p places.Proposers verb ns = proposers_at p verb ns
read_at p places.Shards verb ns = shards_at p verb ns
read_at p places.Configs verb ns = configs_at p verb ns
read_at p places.Begin verb ns = begin_at p verb ns
read_at p places.Events verb ns = events_at p verb ns
read_at p places.Ended verb ns = None

-- a line that may stand where the reader stands
unfoldable pub line_reading : Progress → List ℕ → Read
line_reading p line = do
  parts ← line_parts line
  read_at p p.place parts.0 parts.1

-- before the first line
abbrev pub at_start : Progress
at_start = record { place = places.Version; acceptors = 0; proposers = 0; shards = 0; configs = 0; events = 0 }

-- ---- lines one after the other

-- the event on a line, if it has one
abbrev pub events_of : Item → List Event
events_of items.Header = []
events_of items.Begun = []
events_of (items.Event e) = e ∷ []
events_of items.End = []

-- lines, one after the other: the events on them, and where a reader stands then
abbrev pub reads : Progress → List (List ℕ) → Option (List Event × Progress)
reads p [] = Some ([], p)
reads p (line ∷ lines) = line_reading p line >>= λ r. reads r.1 lines >>= λ rs. Some (events_of r.0 ++ rs.0, rs.1)
