-- The setup of every generated schedule: three shards of three nodes each, under the serial rule.
use Rattle.std.specs.Prelude.{ℕ, ◌+◌, [], ◌∷◌}
use Rattle.tcs_terms.specs.declared.setups.Rule.TheVariants.{Serial}
use Rattle.tcs_terms.specs.Places.{Membership}
use Rattle.tcs_terms.specs.Setups.{Deployment}

-- the first configuration of a shard: its leader and the node behind it
abbrev pub config_of : ℕ → ℕ → Membership
config_of shard leader = record { shard = shard; epoch = 1; members = leader ∷ (leader + 1) ∷ []; leader = leader; by = 0 }

unfoldable pub setup : Deployment
setup = record {
  version = 1;
  rule = Serial;
  shards = 3;
  nodes = 1 ∷ 1 ∷ 1 ∷ 2 ∷ 2 ∷ 2 ∷ 3 ∷ 3 ∷ 3 ∷ [];
  configs = config_of 1 1 ∷ config_of 2 4 ∷ config_of 3 7 ∷ [];
}
