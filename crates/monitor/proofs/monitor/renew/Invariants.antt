-- So far the configurations before this one are renewed.
use Rattle.std.proofs.Common.{◌≡◌, ◌++◌, take, drop}
use Rattle.monitor.specs.Watch.{renewed}
use Rattle.monitor.proofs.monitor.renew.Given as goal

abbrev pub invariant-loop-i : goal.invariant-loop-i
invariant-loop-i l = l.configs ≡ renewed (take l.i l.initial.configs) l.new ++ drop l.i l.initial.configs
