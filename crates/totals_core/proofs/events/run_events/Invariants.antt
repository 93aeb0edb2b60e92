use Rattle.std.proofs.Common.{◌≡◌, ◌≤◌, ◌-◌, false, List}
use Rattle.schedule_text.specs.declared.places.Place.TheVariants as places
use Rattle.schedule_text.specs.declared.reader.LineItem.{LineItem}
use Rattle.replay_core.specs.Standing.{StandsBegun}
use Rattle.totals_core.specs.Progressing.{GoesOn}
use Rattle.totals_core.proofs.events.run_events.Given as goal

abbrev pub invariant-lines : goal.invariant-lines
invariant-lines g l = record {
  works : (is : List LineItem) → StandsBegun g.G.Rule.Certifier.tests places.Events l.initial.reading l.initial.world.setup l.initial.world.progress is
      → GoesOn g.G.Rule.Certifier.tests l.initial.reading (g.S.Source.left l.initial.input) is l.reading l.world.setup l.world.progress (g.S.Source.left l.input);
  lives : l.world.spent ≡ false;
  count : g.S.Source.faults l.initial.input ≤ g.S.Source.faults l.input;
}

abbrev pub decreases-lines : goal.decreases-lines
decreases-lines g l = 1000085 - l.reading.number
