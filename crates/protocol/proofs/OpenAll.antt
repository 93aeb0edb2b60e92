-- Opens every definition of the protocol, so that a run of it computes.
use Rattle.std.specs.Prelude.{ℕ}
use Rattle.tcs_laws.specs.Votes.{vote_on}
use Rattle.protocol.specs.Choices.{when}
use Rattle.protocol.specs.Outcomes.{refusal}
use Rattle.protocol.specs.Cases.{prepare, accept, send_part, send_case, decision_of, tell_decision}
use Rattle.protocol.specs.Coordination.{begin_case, take_over, resend, check_decision, on_prepare_ack, on_accept_ack, change_view, ask_leader, on_config}
use Rattle.protocol.specs.Probing.{start_move, probe, ask_stage, tell_leader, on_stored, on_probe_ack, lower}
use Rattle.protocol.specs.Versions.{read_of}
use Rattle.protocol.specs.ShardRules.{on_prepare, on_accept, on_decision, on_probe, state_to, on_new_config, on_new_state, on_state_piece}
use Rattle.protocol.specs.ClientRules.{certify, take, nudge, move, go_lower, read, ask}
use Rattle.protocol.specs.Notices.{with_notice}
use Rattle.protocol.specs.Table.{on_stored_config, on_outcome, receive, step}
use Rattle.protocol.specs.Service.{answer_stored, tell_nodes, store, compare_and_set, serve}
use Rattle.protocol.specs.World.{first_node, first_nodes, first_world, give, deliver, world_step}
use Rattle.protocol.specs.Run.{world_after, run, ran}
use Rattle.wire_frame.specs.Spelling.{two, four, eight, spell_payload, spell_entry, spell_rows, spell_config, spell}
use Rattle.protocol.specs.Limit.{frame_limit, limited_step, limited_run}

unfoldable pub open_all : ℕ
unfolding vote_on when refusal prepare accept send_part send_case decision_of tell_decision begin_case take_over resend check_decision on_prepare_ack on_accept_ack change_view ask_leader on_config start_move probe ask_stage tell_leader on_stored on_probe_ack lower read_of on_prepare on_accept on_decision on_probe state_to on_new_config on_new_state on_state_piece certify take nudge move go_lower read ask with_notice on_stored_config on_outcome receive step answer_stored tell_nodes store compare_and_set serve first_node first_nodes first_world give deliver world_step world_after run ran two four eight spell_payload spell_entry spell_rows spell_config spell frame_limit limited_step limited_run
open_all = 0
