-- A count that rose in one call rose across the calls before and after it too.
use Rattle.std.proofs.Common.{ℕ, ◌≤◌, arith}
use Rattle.tcs_io.specs.Faults.{Rose, last_u64}

pub rose_since : (first before after : ℕ) → first ≤ before → Rose before after → Rose first after
rose_since first before after earlier rose = grind arith

pub rose_until : (before after last : ℕ) → Rose before after → after ≤ last → last ≤ last_u64 → Rose before last
rose_until before after last rose later limit = grind arith
