-- The clause fails first, or the verdict goes on behind it.
use Rattle.std.proofs.Common.{◌≡◌, sym, ap, ◌∙◌, subst}
use Rattle.std.specs.Prelude.{Option, IfOk}
use Rattle.tcs_terms.specs.declared.ids.TxId.{TxId}
use Rattle.judge.specs.declared.verdicts.Clause.TheVariants.{Clash}
use Rattle.judge.specs.declared.verdicts.Verdict.{Verdict}
use Rattle.judge.specs.Verdicts.{unless_fails, from_lost}
use Rattle.judge.proofs.judging.judge_clashes.Goals as goal

pub returns-in-Some : goal.returns-in-Some
returns-in-Some g c =
    c.incorrect.ensures ∙ ap (λ (o : Option TxId). unless_fails Clash o (from_lost c.args.history.now)) (sym c.in-Some.is ∙ c.in_ok-false_clash.ensures)

pub returns-in-None : goal.returns-in-None
returns-in-None g c =
    subst (λ (o : Option TxId). IfOk c.judge_losses.result (λ (v : Verdict). v ≡ unless_fails Clash o (from_lost c.args.history.now)))
    (sym c.in-None.is ∙ c.in_ok-false_clash.ensures) c.judge_losses.ensures
