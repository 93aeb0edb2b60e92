-- A run that has just begun, of a schedule whose rule is that additions commute.
use Rattle.std.proofs.Common.{◌≡◌, false, List, [], ◌∷◌, ◌++◌, Option, sym, ap, ◌∙◌, ℕ}
use Rattle.tcs_terms.specs.declared.setups.Rule.TheVariants as rules
use Rattle.tcs_terms.specs.Setups.{Deployment}
use Rattle.cert_commute.specs.Commute.{commute}
use Rattle.schedule_text.specs.declared.places.Place.TheVariants as places
use Rattle.schedule_text.specs.declared.reader.LineItem.TheVariants as items
use Rattle.protocol.specs.Limit.Progress.{Live}
use Rattle.protocol.specs.World.{first_world}
use Rattle.world.specs.WorldState.{WorldState}
use Rattle.replay_core.specs.declared.reading.Reading.{Reading}
use Rattle.replay_core.specs.Standing.{StandsBegun}
use Rattle.replay_core.specs.Trace.{tests_of}
use Rattle.replay_core.proofs.Heading.{begun_run}
use Rattle.totals_core.specs.Progressing.{BegunCommuting}

pub commute_read : (r : Reading) (first left : Option (List ℕ)) (d : Deployment) → BegunCommuting r first left d → r.reader.head.setup.rule ≡ rules.Commute
commute_read r first left d b = ap (λ (f : Deployment). f.rule) (sym b.begun.setup) ∙ b.commute

pub run_begun : (r : Reading) (first left : Option (List ℕ)) (d : Deployment) (w : WorldState) → (b : BegunCommuting r first left d)
    → w ≡ record { setup = d; progress = Live (first_world d) 0 0; spent = false } → StandsBegun commute places.Events r w.setup w.progress (b.begun.items ++ items.Begun d ∷ [])
run_begun r first left d w b is =
    begun_run commute r first left d w.setup w.progress (ap tests_of (sym b.commute)) (ap (λ (x : WorldState). x.setup) is) (ap (λ (x : WorldState). x.progress) is) b.begun
