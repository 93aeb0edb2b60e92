use Rattle.std.proofs.Common.{◌≡◌, ◌++◌, not, take, filter, flat_map}
use Rattle.std.specs.Prelude.{◌==◌}
use Rattle.tcs_terms.specs.Versions.{version_number}
use Rattle.protocol.specs.ShardRules.{state_to}
use Rattle.state_transfer.proofs.sending.send_states.Given as goal

abbrev pub invariant-loop-member : goal.invariant-loop-member
invariant-loop-member l =
    l.out.items ≡ l.initial.out.items
    ++ flat_map (state_to (version_number l.version) l.config l.rows) (filter (λ m. not (m == l.config.leader)) (take l.member-index l.member-items))
