-- A node that is not spent keeps what is true of it, and what it sends is in range; a step that does not act leaves all.
use Rattle.std.proofs.Common.{sym, ◌∙◌, ap, subst, append-nil, ◌++◌, List}
use Rattle.tcs_terms.specs.declared.inputs.Handled.{Handled}
use Rattle.tcs_terms.specs.declared.inputs.Note.{Note}
use Rattle.tcs_terms.specs.declared.inputs.Result1.TheVariants as results
use Rattle.protocol.specs.FoundNothing.{has_acted}
use Rattle.protocol.specs.Records.{NodeRecord}
use Rattle.protocol_laws.proofs.RangesWorld.{step-in_range}
use Rattle.protocol_laws.proofs.RefusedInputs.{step-refused}
use Rattle.node_core.specs.Soundness.{IsKept}
use Rattle.node_core.proofs.Keeping.{step_kept, unspent}
use Rattle.node_core.proofs.nodes.Node.step.Goals as goal

pub take_input-requires-clause-kept : goal.take_input-requires-clause-kept
take_input-requires-clause-kept g c = unspent c.self.inside.spent c.self.inside.parts c.if-self.false c.self.invariant

pub invariant_of-self-2 : goal.invariant_of-self-2
invariant_of-self-2 g c =
    let k = unspent c.self.inside.spent c.self.inside.parts c.if-self.false c.self.invariant in
    subst (λ (n : NodeRecord). IsKept n) (sym c.in_ok-handled.ensures.kept) (step_kept _ _ c.self.inside.parts c.args.input k (c.requires, c.promise.ensures))

pub returns-clause-range : goal.returns-clause-range
returns-clause-range g c =
    let k = unspent c.self.inside.spent c.self.inside.parts c.if-self.false c.self.invariant in
    rw (← c.self.view_is) (step-in_range _ _ c.self.inside.parts c.args.input k.range (c.requires, c.promise.ensures)).sends

pub returns-clause-unchanged : goal.returns-clause-unchanged
returns-clause-unchanged g c = λ still.
    let refused = ap (λ (h : Handled). has_acted (results.Node h)) (sym c.in_ok-handled.ensures.answer) ∙ still in
    rw (← c.self.view_is) (c.in_ok-handled.ensures.kept ∙ (step-refused _ _ c.self.inside.parts c.args.input refused).kept)

pub returns-clause-silent : goal.returns-clause-silent
returns-clause-silent g c = λ still.
    let refused = ap (λ (h : Handled). has_acted (results.Node h)) (sym c.in_ok-handled.ensures.answer) ∙ still in
    c.in_ok-handled.ensures.notes
    ∙ ap (λ (more : List Note). c.args.notes.now.items ++ more) (step-refused _ _ c.self.inside.parts c.args.input refused).noted
    ∙ append-nil c.args.notes.now.items
