use Rattle.std.proofs.Common.{◌≡◌, ℕ, ◌+◌, ◌<◌, get_or, drop}
use Rattle.tcs_terms.specs.Places.{Membership, IsMembership}
use Rattle.tcs_terms.specs.SetupFaults.{firsts_from}
use Rattle.tcs_terms.proofs.setup_faults.are_firsts.Given as goal

abbrev pub invariant-loop-config : goal.invariant-loop-config
invariant-loop-config l = record {
  shard : l.shard ≡ l.config-index + 1;
  firsts : firsts_from l.nodes l.shard (drop l.config-index l.configs) ≡ firsts_from l.nodes 1 l.configs;
  configs : (k : ℕ) (d : Membership) → k < l.config-index → IsMembership (get_or l.configs k d);
}
