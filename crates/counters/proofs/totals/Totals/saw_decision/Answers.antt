-- A decision to abort changes nothing.
use Rattle.std.proofs.Common.{[], ◌∷◌, ◌++◌, sym, subst, refl}
use Rattle.tcs_terms.specs.declared.inputs.Note.TheVariants.{Decide}
use Rattle.tcs_terms.specs.declared.votes.Decision.{Decision}
use Rattle.tcs_terms.specs.declared.votes.Decision.TheVariants.{Abort}
use Rattle.counters.specs.Histories.{AreTotals}
use Rattle.counters.proofs.Noting.{totals_still}
use Rattle.counters.proofs.totals.Totals.saw_decision.Goals as goal

pub returns-in-Abort : goal.returns-in-Abort
returns-in-Abort c = λ past few after are.
    subst (λ (d : Decision). AreTotals c.args.self.now (past ++ Decide c.args.txn d ∷ [])) (sym c.in-Abort.is)
    (totals_still c.args.self.now past (Decide c.args.txn (Abort c.in-Abort.shard c.in-Abort.cause)) refl (λ t. refl) are)
