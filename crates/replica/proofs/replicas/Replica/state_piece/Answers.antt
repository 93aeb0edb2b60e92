-- A piece is taken where the guard passes, and refused elsewhere.
use Rattle.std.proofs.Common.{◌≡◌, true, refl, sym, ap, subst, ◌∙◌, ◌&&◌, ◌==◌}
use Rattle.tcs_terms.proofs.BoolLaws.{right_of}
use Rattle.tcs_terms.specs.Versions.{version_number}
use Rattle.protocol.specs.Pieces.{takes_piece, gathering_for, with_one_more}
use Rattle.protocol.specs.Records.{Piece}
use Rattle.protocol.specs.Choices.{when}
use Rattle.protocol.specs.ShardRules.{on_state_piece}
use Rattle.state_transfer.specs.Arriving.{kept_as}
use Rattle.replica.specs.Replicas.{ReplicaState, within, can_follow}
use Rattle.replica.proofs.PieceRule.{gathers_acts, kept_alike}
use Rattle.replica.proofs.replicas.Replica.state_piece.Goals as goal

pub returns-then-not-may_take_piece-clause-answer : goal.returns-then-not-may_take_piece-clause-answer
unfolding on_state_piece when
returns-then-not-may_take_piece-clause-answer g c = λ node.
    c.refusal.ensures ∙ rw (sym c.may_take_piece.ensures ∙ c.if-not-may_take_piece.true, c.epoch.ensures.epoch, c.least.ensures) refl

pub returns-then-not-may_take_piece-clause-kept : goal.returns-then-not-may_take_piece-clause-kept
unfolding on_state_piece when
returns-then-not-may_take_piece-clause-kept g c = λ node. rw (sym c.may_take_piece.ensures ∙ c.if-not-may_take_piece.true) refl

pub gather-requires-clause-taken : goal.gather-requires-clause-taken
gather-requires-clause-taken g c =
    let can = can_follow c.args.self.now c.args.config in
    let takes = takes_piece c.args.self.now.gathering c.args.config c.args.piece.pieces (kept_as c.args.piece) in
    rw c.take-before.ensures.value (subst (λ (s : ReplicaState). takes_piece s.gathering c.args.config c.args.piece.pieces (kept_as c.args.piece) ≡ true) (sym c.self.view_is)
    (right_of ((version_number c.args.version == 2) && can) takes (sym c.may_take_piece.ensures ∙ c.if-not-may_take_piece.false)))

pub returns-clause-answer : goal.returns-clause-answer
unfolding on_state_piece when
returns-clause-answer g c = λ node.
    rw (sym c.may_take_piece.ensures ∙ c.if-not-may_take_piece.false) (sym (gathers_acts (within node c.args.self.now) c.args.config _).answer)

pub returns-clause-kept : goal.returns-clause-kept
unfolding on_state_piece when
returns-clause-kept g c = λ node.
    let piece : Piece = kept_as c.args.piece in
    let is : c.in_ok-gathering.gathering ≡ with_one_more (gathering_for c.args.self.now.gathering c.args.config c.args.piece.pieces) piece =
    c.in_ok-gathering.ensures ∙ ap (λ before. with_one_more (gathering_for before c.args.config c.args.piece.pieces) piece)
    (c.take-before.ensures.value ∙ ap (λ (s : ReplicaState). s.gathering) c.self.view_is) in
    rw (sym c.may_take_piece.ensures ∙ c.if-not-may_take_piece.false, ← is)
    (ap (λ (s : ReplicaState). within node s) c.self-2.view_is ∙ c.in_ok-go_on.ensures.kept node ∙ kept_alike c.self.view_is node c.take-before.new.self c.args.config c.in_ok-gathering.gathering)
