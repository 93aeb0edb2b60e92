-- The index stands for the one row, and then for the row with its mark.
use Rattle.std.proofs.Common.{◌≡◌, ◌∙◌, List, [], ◌∷◌, refl, ap, subst, arith}
use Rattle.std.specs.Prelude.{◌==◌, Contains}
use Rattle.std.proofs.lemmas.Bool.{cond-true, eq-eqb}
use Rattle.tcs_terms.specs.declared.logs.Row.{Row}
use Rattle.tcs_terms.specs.declared.logs.Mark.{Mark}
use Rattle.tcs_terms.specs.declared.logs.Mark.TheVariants.{Undecided}
use Rattle.tcs_laws.specs.Rows.{marked, set_mark, first_mark}
use Rattle.conflict_index.specs.Keeping.{IsIndexOf}
use Rattle.conflict_index.proofs.tests.votes_over.Goals as goal

marked_one : (row : Row) (mark : Mark) → row.mark ≡ Undecided
    → marked (row ∷ []) row.entry.slot mark ≡ record { entry = row.entry; mark = mark } ∷ []
marked_one row mark undecided =
    let with_mark : Mark → List Row = λ m. record { entry = row.entry; mark = first_mark m mark } ∷ [] in
    ap (λ r. r ∷ []) (cond-true (row.entry.slot == row.entry.slot) (set_mark mark row) row (eq-eqb row.entry.slot row.entry.slot refl))
    ∙ ap with_mark undecided

pub vote-before-requires : goal.vote-before-requires
vote-before-requires g c = c.in_ok-prepared.ensures.put [] c.fresh-index.ensures refl

pub vote-after-requires : goal.vote-after-requires
vote-after-requires g c =
    let after : List Row → Type 0 =
    λ rows. IsIndexOf g.C.BySight.counts g.C.BySight.COUNTS_UNWRITTEN c.decided.new.self.kept rows in
    let row = c.args.row in
    let stood = c.in_ok-prepared.ensures.put [] c.fresh-index.ensures refl in
    let there : Contains (row ∷ []) row = (0, omega arith, refl) in
    subst after (marked_one row c.args.mark c.requires) (c.decided.ensures (row ∷ []) stood there c.requires)
