use Rattle.std.proofs.Common.{◌≡◌, true, sym, ◌∙◌, ap}
use Rattle.protocol.specs.Choices.{when}
use Rattle.protocol.specs.Coordination.{is_newer, on_config, ask_leader}
use Rattle.coordinator.specs.State.{CoordinatorState}
use Rattle.coordinator.proofs.coordinator.Coordinator.change_view.Goals as goal

pub returns-clause-sends : goal.returns-clause-sends
unfolding on_config ask_leader when
returns-clause-sends c =
    let newer : is_newer c.args.self.now.kept c.args.config ≡ true =
    ap (λ (s : CoordinatorState). is_newer s.kept c.args.config) (sym c.self.view_is) ∙ sym c.is_older_than.ensures ∙ c.if-not-is_older_than.false in
    rw newer (rw (← c.self.view_is) c.in_ok-change_view.ensures.sends)
