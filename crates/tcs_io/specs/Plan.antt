-- Which calls of a source or a sink in memory fail.
use Rattle.std.specs.Prelude.{◌==◌, ℕ, Bool, List, if◌then◌else◌}
use Rattle.std.specs.List.{list_any}
use Rattle.tcs_io.specs.Faults.{one_more}

-- the numbers of the calls that fail, of which the first is 1; the calls so far; the failures so far
pub record Plan : Type 0 where
  pub fails : List ℕ
  pub calls : ℕ
  pub faults : ℕ

-- the next call is one of those that fail
abbrev pub fails_next : Plan → Bool
fails_next plan = list_any (λ number. number == one_more plan.calls) plan.fails

-- the plan after one more call
abbrev pub called : Plan → Plan
called plan = record {
  fails = plan.fails;
  calls = one_more plan.calls;
  faults = if fails_next plan then one_more plan.faults else plan.faults;
}
