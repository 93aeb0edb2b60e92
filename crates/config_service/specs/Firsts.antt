-- What a configuration service starts from.
use Rattle.std.specs.Prelude.{◌≡◌, ◌==◌, List, map, length, IsTrue, All}
use Rattle.std.specs.List.{range_with_len, list_all}
use Rattle.tcs_terms.specs.Places.{Membership, IsMembership}

-- the first configurations of a run: one for each shard, in order, of epoch 1, each well formed
pub record AreFirsts (configs : List Membership) : Type 0 where
  pub one_each : map (λ c. c.shard) configs ≡ range_with_len 1 (length configs)
  pub formed : All IsMembership configs
  pub first : IsTrue (list_all (λ c. c.epoch == 1) configs)
