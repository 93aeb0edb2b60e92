-- Counts of faults, which are numbers of 64 bits and stay at their last value.
use Rattle.std.specs.Prelude.{◌≡◌, ◌⊎◌, ℕ, ◌+◌, ◌<◌, min}

-- the last value of a u64
abbrev pub last_u64 : ℕ
last_u64 = 18446744073709551615

-- the count rose: it is greater after than before, or stands at the last value of a u64
abbrev pub Rose : ℕ → ℕ → Type 0
Rose before after = (before < after) ⊎ (after ≡ last_u64)

-- one more, or the last value of a u64
abbrev pub one_more : ℕ → ℕ
one_more count = min (count + 1) last_u64
