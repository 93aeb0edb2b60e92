use Rattle.std.proofs.Common.{◌+◌, arith}
use Rattle.std.proofs.lemmas.Grind.{common_steps}
use Rattle.std.proofs.lemmas.List.FromFn.{map-range_with_len_more}
use Rattle.quorum_protocol.specs.declared.terms.Say.TheVariants.{Put}
use Rattle.quorum_protocol.specs.Rules.{message}
use Rattle.quorum_world.proofs.proposers.put_all.Goals as goal

pub loop-to-preserved : goal.loop-to-preserved
loop-to-preserved c =
    let a = c.args.attempt.now in
    let to = c.loop-to.to in
    let more = map-range_with_len_more (λ to. message a.ballot.proposer to a.ballot a.config.shard a.config.epoch (Put c.args.value.now)) 1 to (to + 1) (omega arith) in
    grind (arith, common_steps)
