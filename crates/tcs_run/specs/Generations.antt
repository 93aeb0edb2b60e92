-- The numbers of a generated schedule.
use Rattle.std.specs.Prelude.{ℕ, ◌&&◌, nat_le, List, Option, Some, None, if◌then◌else◌}
use Rattle.text_words.specs.PayloadWords.{number_in}

-- the seed, and how many events
pub record Seeded : Type 0 where
  pub seed : ℕ
  pub count : ℕ

-- those that two numbers make: a schedule has 30 to 50,000 events
abbrev pub seeded : ℕ → ℕ → Option Seeded
seeded seed count = if nat_le 30 count && nat_le count 50000 then Some (record { seed = seed; count = count }) else None

-- those that two words write
abbrev pub generation_of : Option ℕ → Option ℕ → Option Seeded
generation_of (Some seed) (Some count) = seeded seed count
generation_of (Some seed) None = None
generation_of None count = None

abbrev pub generation_in : List ℕ → List ℕ → Option Seeded
generation_in seed count = generation_of (number_in seed) (number_in count)
