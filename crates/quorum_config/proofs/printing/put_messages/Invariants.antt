use Rattle.std.proofs.Common.{◌≡◌, ◌+◌, ◌++◌, take}
use Rattle.quorum_config.specs.Texts.{message_lines}
use Rattle.quorum_config.proofs.printing.put_messages.Given as goal

abbrev pub invariant-messages : goal.invariant-messages
invariant-messages l = record {
  written : l.out.items ≡ l.initial.out.items ++ message_lines l.first (take l.m-index l.messages);
  counted : l.number ≡ l.first + l.m-index;
}
