-- What each run of a setup shows can stand in a trace.
use Rattle.std.proofs.Common.{◌≡◌, ℕ, ◌<◌, ◌≤◌, ◌^◌, true, ◌&&◌, ◌||◌, ◌==◌, nat_le, List, [], length, refl, arith}
use Rattle.std.proofs.lemmas.Bool.Decides.{nat_tests}
use Rattle.tcs_terms.specs.declared.inputs.Event.{Event}
use Rattle.tcs_terms.specs.declared.limits.TheConstants.{MAX_SHARDS}
use Rattle.tcs_terms.specs.Places.{is_shard}
use Rattle.tcs_terms.specs.Runs.{AreEventsOf}
use Rattle.tcs_terms.specs.Setups.{Deployment}
use Rattle.trace_text.specs.Traces.{IsTrace}
use Rattle.tcs_laws.specs.Certification.{Tests}
use Rattle.protocol.specs.Limit.{limited_run}
use Rattle.protocol.specs.Limit.Progress.{Live}
use Rattle.protocol.specs.World.{first_world}
use Rattle.replay_core.specs.Trace.{tests_of, run_trace}
use Rattle.trace_laws.proofs.Counted.{shown-few, sends-few, order-shown}
use Rattle.trace_laws.proofs.Shown.{shown-from}

nothing-yet : (tests : Tests) (setup : Deployment) → Live (first_world setup) 0 0 ≡ limited_run tests setup []
unfolding limited_run
nothing-yet tests setup = refl

is_version : (v : ℕ) → ((v == 1) || (v == 2)) ≡ true → (nat_le 1 v && nat_le v 2) ≡ true
is_version v h = grind (arith, nat_tests)

is_shard-of : (n : ℕ) → 1 ≤ n → n ≤ MAX_SHARDS → is_shard n ≡ true
is_shard-of n low high = grind (arith, nat_tests)

pub run_is_trace : (d : Deployment) (es : List Event) → AreEventsOf d es → length es < 2 ^ 64 → IsTrace (run_trace d es)
run_is_trace d es a few = record {
  version = is_version d.version a.deployment.version;
  shards = is_shard-of d.shards a.deployment.some_shards a.deployment.few_shards;
  happenings = shown-from (tests_of d.rule) d es [] (Live (first_world d) 0 0) (nothing-yet (tests_of d.rule) d) a;
  order = order-shown (tests_of d.rule) d es a;
  few_events = omega (arith, shown-few (tests_of d.rule) d.version (Live (first_world d) 0 0) es, few);
  few_messages = sends-few (tests_of d.rule) d es;
}
