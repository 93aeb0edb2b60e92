-- So far the numbers before this one are queued.
use Rattle.std.proofs.Common.{◌≡◌, ◌≤◌, ◌+◌, ◌-◌, ◌++◌}
use Rattle.generator.specs.Courses.{numbers_behind}
use Rattle.generator.proofs.course.Course.queue_sent.Given as goal

abbrev pub invariant-loop-number : goal.invariant-loop-number
invariant-loop-number l = record {
  from : l.before + 1 ≤ l.number;
  words : l.self-inside.words ≡ l.initial.self-inside.words;
  transfer : l.self-inside.transfer ≡ l.initial.self-inside.transfer;
  queue : l.self-inside.queue.items ≡ l.initial.self-inside.queue.items ++ numbers_behind l.before (l.number - (l.before + 1));
}
