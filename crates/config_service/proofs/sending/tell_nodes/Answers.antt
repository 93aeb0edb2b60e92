use Rattle.std.proofs.Common.{◌+◌, arith}
use Rattle.std.proofs.lemmas.Grind.{common_steps}
use Rattle.std.proofs.lemmas.List.FromFn.{map-range_with_len_more}
use Rattle.tcs_terms.specs.declared.messages.Message.TheVariants.{ConfigChange}
use Rattle.protocol.specs.Outcomes.{to}
use Rattle.config_service.proofs.sending.tell_nodes.Goals as goal

pub loop-before-preserved : goal.loop-before-preserved
loop-before-preserved c =
    let before = c.loop-before.before in
    let more = map-range_with_len_more (λ node. to node (ConfigChange c.args.config.now)) 1 before (before + 1) (omega arith) in
    grind (arith, common_steps)
