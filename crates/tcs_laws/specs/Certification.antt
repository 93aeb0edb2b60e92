-- What a certifier is: two tests of an older payload against a newer one (after Chockler and Gotsman, DISC 2018).
use Rattle.std.specs.Prelude.{ℕ, Bool, true, Option, Some, None, List}
use Rattle.std.specs.List.{list_all, range_with_len}
use Rattle.tcs_terms.specs.Payloads.{Accesses}
use Rattle.tcs_terms.specs.Shards.{restricted}

-- The committed test says whether the newer may commit although the older has. The prepared test says whether the
-- newer may be prepared while the older is, with its outcome open. Both take the older first.
pub record Tests : Type 0 where
  pub committed_ok : Accesses → Accesses → Bool
  pub prepared_ok : Accesses → Accesses → Bool

-- the committed test against a list of older payloads: it passes against each of them
abbrev pub committed_passes : Tests → List Accesses → Accesses → Bool
committed_passes tests olds new = list_all (λ old. tests.committed_ok old new) olds

-- the prepared test against a list of older payloads
abbrev pub prepared_passes : Tests → List Accesses → Accesses → Bool
prepared_passes tests olds new = list_all (λ old. tests.prepared_ok old new) olds

-- a test of two parts: an absent part passes, on either side
abbrev pub parts_ok : (Accesses → Accesses → Bool) → Option Accesses → Option Accesses → Bool
parts_ok ok None new = true
parts_ok ok (Some old) None = true
parts_ok ok (Some old) (Some new) = ok old new

-- the committed test against a list, on the parts of all payloads in one shard of n
abbrev pub committed_passes_in : Tests → ℕ → ℕ → List Accesses → Accesses → Bool
committed_passes_in tests n shard olds new =
    list_all (λ old. parts_ok tests.committed_ok (restricted n shard old) (restricted n shard new)) olds

-- the prepared test against a list, on the parts of all payloads in one shard of n
abbrev pub prepared_passes_in : Tests → ℕ → ℕ → List Accesses → Accesses → Bool
prepared_passes_in tests n shard olds new =
    list_all (λ old. parts_ok tests.prepared_ok (restricted n shard old) (restricted n shard new)) olds

-- the committed test against a list, on the parts in every shard
abbrev pub committed_passes_in_each : Tests → ℕ → List Accesses → Accesses → Bool
committed_passes_in_each tests n olds new =
    list_all (λ shard. committed_passes_in tests n shard olds new) (range_with_len 1 n)
