-- What the next line does to a reader. No clause of `quorum` cites this module.
use Rattle.std.specs.Prelude.{◌≡◌, ℕ, ◌+◌, ◌-◌, ◌<◌, ◌≤◌, Bool, true, false, List, Option, Some, None}
use Rattle.tcs_terms.specs.declared.limits.TheConstants.{MAX_SHARDS}
use Rattle.quorum_protocol.specs.declared.terms.Event.{Event}
use Rattle.quorum_config.specs.declared.places.Place.{Place}
use Rattle.quorum_config.specs.declared.places.Place.TheVariants as places
use Rattle.quorum_config.specs.declared.places.Progress.{Progress}
use Rattle.quorum_config.specs.declared.places.Item.{Item}
use Rattle.quorum_config.specs.declared.places.Item.TheVariants as items
use Rattle.quorum_config.specs.Readings.{Read}
use Rattle.quorum_config.specs.declared.limits.TheConstants.{MAX_PROPOSERS, MAX_EVENTS}

-- ---- where a reader may stand

abbrev pub MayBe : Progress → Place → Type 0
MayBe p places.Version = p.configs ≡ 0
MayBe p places.Acceptors = p.configs ≡ 0
MayBe p places.Proposers = p.configs ≡ 0
MayBe p places.Shards = p.configs ≡ 0
MayBe p places.Configs = p.configs < p.shards
MayBe p places.Begin = Unit {0}
MayBe p places.Events = Unit {0}
MayBe p places.Ended = Unit {0}

-- its numbers are in their ranges, and a configuration is awaited only where one is missing
pub record IsReader (p : Progress) : Type 0 where
  pub proposers : p.proposers ≤ MAX_PROPOSERS
  pub shards : p.shards ≤ MAX_SHARDS
  pub events : p.events ≤ MAX_EVENTS
  pub place : MayBe p p.place

-- ---- how many lines may still come

abbrev pub lines_left_at : Progress → Place → ℕ
lines_left_at p places.Version = MAX_EVENTS + 7 + MAX_SHARDS
lines_left_at p places.Acceptors = MAX_EVENTS + 6 + MAX_SHARDS
lines_left_at p places.Proposers = MAX_EVENTS + 5 + MAX_SHARDS
lines_left_at p places.Shards = MAX_EVENTS + 4 + MAX_SHARDS
lines_left_at p places.Configs = MAX_EVENTS + 3 + (p.shards - p.configs)
lines_left_at p places.Begin = MAX_EVENTS + 2
lines_left_at p places.Events = MAX_EVENTS + 1 - p.events
lines_left_at p places.Ended = 0

-- at most so many
abbrev pub lines_left : Progress → ℕ
lines_left p = lines_left_at p p.place

-- ---- one line

-- these numbers, if all words were numbers
abbrev pub some_if : Bool → List ℕ → Option (List ℕ)
some_if true ns = Some ns
some_if false ns = None

-- before the line `events` was taken
abbrev pub InHeader : Place → Type 0
InHeader places.Version = Unit {0}
InHeader places.Acceptors = Unit {0}
InHeader places.Proposers = Unit {0}
InHeader places.Shards = Unit {0}
InHeader places.Configs = Unit {0}
InHeader places.Begin = Unit {0}
InHeader places.Events = ⊥
InHeader places.Ended = ⊥

-- from where to where a line leads
abbrev pub Leads : Progress → Item → Progress → Type 0
Leads p items.Header q = InHeader p.place × InHeader q.place × (q.events ≡ p.events)
Leads p items.Begun q = InHeader p.place × (q.place ≡ places.Events) × (q.events ≡ p.events)
Leads p (items.Event e) q = (p.place ≡ places.Events) × (q.place ≡ places.Events) × (q.acceptors ≡ p.acceptors) × (q.events ≡ p.events + 1)
Leads p items.End q = (p.place ≡ places.Events) × (q.place ≡ places.Ended) × (q.acceptors ≡ p.acceptors) × (q.events ≡ p.events)

pub record Walks (p : Progress) (item : Item) (q : Progress) : Type 0 where
  pub leads : Leads p item q
  pub stands : IsReader q
  pub fewer : lines_left q < lines_left p

-- what a line is, if it may stand, and where the reader stands after it, as one reading
abbrev pub read_of : Option Item → Progress → Read
read_of None q = None
read_of (Some item) q = Some (item, q)

-- whether the line `end` was taken
abbrev pub is_ended : Place → Bool
is_ended places.Version = false
is_ended places.Acceptors = false
is_ended places.Proposers = false
is_ended places.Shards = false
is_ended places.Configs = false
is_ended places.Begin = false
is_ended places.Events = false
is_ended places.Ended = true
