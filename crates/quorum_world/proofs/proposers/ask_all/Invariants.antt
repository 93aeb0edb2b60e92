use Rattle.std.proofs.Common.{◌≡◌, ◌++◌, map}
use Rattle.std.specs.List.{range_with_len}
use Rattle.quorum_protocol.specs.declared.terms.Say.TheVariants.{Ask}
use Rattle.quorum_protocol.specs.Rules.{message}
use Rattle.quorum_world.proofs.proposers.ask_all.Given as goal

abbrev pub invariant-loop-to : goal.invariant-loop-to
invariant-loop-to l =
    l.messages.items ≡ l.initial.messages.items
    ++ map (λ to. message l.attempt.ballot.proposer to l.attempt.ballot l.attempt.config.shard l.attempt.config.epoch Ask) (range_with_len 1 l.to)
