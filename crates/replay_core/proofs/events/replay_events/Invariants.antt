use Rattle.std.proofs.Common.{◌≡◌, ◌≤◌, ◌-◌, false, List, ℕ}
use Rattle.schedule_text.specs.declared.places.Place.TheVariants as places
use Rattle.schedule_text.specs.declared.reader.LineItem.{LineItem}
use Rattle.replay_core.specs.Standing.{StandsBegun, GoesOn}
use Rattle.replay_core.proofs.events.replay_events.Given as goal

abbrev pub invariant-lines : goal.invariant-lines
invariant-lines g l = record {
  works : (is : List LineItem) → StandsBegun g.R.Run.tests places.Events l.initial.reading (g.R.Run.setup l.initial.run) (g.R.Run.progress l.initial.run) is
      → GoesOn g.R.Run.tests l.initial.reading (g.S.Source.left l.initial.input) (g.K.Sink.held l.initial.output) is
      l.reading (g.R.Run.setup l.run) (g.R.Run.progress l.run) (g.S.Source.left l.input) (g.K.Sink.held l.output);
  lives : g.R.Run.spent l.run ≡ false;
  read : g.S.Source.faults l.initial.input ≤ g.S.Source.faults l.input;
  wrote : g.K.Sink.faults l.initial.output ≤ g.K.Sink.faults l.output;
}

abbrev pub decreases-lines : goal.decreases-lines
decreases-lines g l = 1000085 - l.reading.number
