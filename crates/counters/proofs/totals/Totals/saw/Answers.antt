-- A note more of each kind.
use Rattle.std.proofs.Common.{[], ◌∷◌, ◌++◌, sym, subst, refl}
use Rattle.tcs_terms.specs.declared.inputs.Note.{Note}
use Rattle.tcs_terms.specs.declared.inputs.Note.TheVariants.{Take, ReadValue}
use Rattle.counters.specs.declared.totals.Totals.{Totals}
use Rattle.counters.specs.Histories.{AreTotals}
use Rattle.counters.proofs.Noting.{totals_begin, totals_still}
use Rattle.counters.proofs.totals.Totals.saw.Goals as goal

pub returns-in_ok-keep_begun-in-Begin : goal.returns-in_ok-keep_begun-in-Begin
returns-in_ok-keep_begun-in-Begin c = λ past few may are.
    let new : Totals = record { begun = c.keep_begun.new.begun; committed = c.args.self.now.committed; sums = c.args.self.now.sums } in
    subst (λ (n : Note). AreTotals new (past ++ n ∷ [])) (sym c.in-Begin.is)
    (totals_begin c.args.self.now new past c.in-Begin.txn c.in-Begin.payload c.in_ok-payload-in-Begin.payload c.in_ok-payload-in-Begin.ensures
    c.in_ok-keep_begun-in-Begin.ensures refl refl are)

pub returns-in-Take : goal.returns-in-Take
returns-in-Take c = λ past few may are.
    subst (λ (n : Note). AreTotals c.args.self.now (past ++ n ∷ [])) (sym c.in-Take.is)
    (totals_still c.args.self.now past (Take c.in-Take.txn) refl (λ t. refl) are)

pub returns-in-ReadValue : goal.returns-in-ReadValue
returns-in-ReadValue c = λ past few may are.
    let of = c.in-ReadValue in
    subst (λ (n : Note). AreTotals c.args.self.now (past ++ n ∷ [])) (sym of.is)
    (totals_still c.args.self.now past (ReadValue of.name of.version of.value) refl (λ t. refl) are)
