use Rattle.std.proofs.Common.{not, take, filter, flat_map}
use Rattle.std.specs.Prelude.{◌==◌}
use Rattle.tcs_terms.specs.Versions.{version_number}
use Rattle.protocol.specs.ShardRules.{state_to}
use Rattle.tcs_terms.proofs.Appending.{stops_behind}
use Rattle.state_transfer.proofs.sending.send_states.Goals as goal

pub returns-in_err-send_state-clause-err : goal.returns-in_err-send_state-clause-err
returns-in_err-send_state-clause-err c =
    stops_behind c.from_residual.result c.args.out.now.items
    (flat_map (state_to (version_number c.args.version) c.args.config.now c.args.rows.now) (filter (λ m. not (m == c.args.config.now.leader)) (take c.loop-member.member-index c.members-member-items.result.now)))
    c.loop-member.out.items c.send_state.new.out.items c.loop-member.invariant c.in_err-send_state.ensures.err
