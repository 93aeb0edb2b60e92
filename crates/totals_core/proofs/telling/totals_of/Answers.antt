-- One note more is counted.
use Rattle.std.proofs.Common.{◌≡◌, ◌<◌, List, [], ◌∷◌, ◌++◌, length, take, arith, sym, ap, ◌∙◌, subst}
use Rattle.std.proofs.lemmas.List.{length-take-le, take_more}
use Rattle.tcs_terms.specs.declared.inputs.Note.{Note}
use Rattle.counters.specs.Histories.{AreTotals}
use Rattle.totals_core.proofs.Countable.{note_follows}
use Rattle.totals_core.proofs.telling.totals_of.Goals as goal

pub loop-note-preserved : goal.loop-note-preserved
loop-note-preserved c =
    let h = c.args.history.now in
    let i = c.loop-note.note-index in
    let n = c.note-item.result in
    let within : i < length h = omega arith in
    let taken : length (take i h) ≡ i = length-take-le i h (omega arith) in
    let few = c.requires.few in
    subst (λ (ns : List Note). AreTotals c.saw.new.self ns) (sym (take_more h i n within ∙ ap (λ (x : Note). take i h ++ x ∷ []) (sym c.note-item.is)))
    (c.in_ok-saw.ensures (take i h) (omega arith) (note_follows h i n c.requires.agreement within c.note-item.is) c.loop-note.invariant)
