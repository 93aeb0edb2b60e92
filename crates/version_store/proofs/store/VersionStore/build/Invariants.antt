-- The store stands for the rows so far.
use Rattle.std.proofs.Common.{take}
use Rattle.version_store.specs.Keeping.{StandsFor}
use Rattle.version_store.proofs.store.VersionStore.build.Given as goal

abbrev pub invariant-loop-row : goal.invariant-loop-row
invariant-loop-row l = StandsFor l.store (take l.row-index l.rows)
