-- What is stored is well formed, so what is sent of a message in range is in range; what is held back changes nothing.
use Rattle.std.proofs.Common.{◌≡◌, List, false, sym, ◌∙◌, ap, subst, Ok, Err, IfOk, OnOk, Result}
use Rattle.std.specs.Prelude.{All}
use Rattle.tcs_terms.specs.declared.inputs.Handled.{Handled}
use Rattle.tcs_terms.specs.declared.inputs.Result1.TheVariants.{Node}
use Rattle.tcs_terms.specs.Places.{Membership, IsMembership}
use Rattle.protocol.specs.FoundNothing.{has_acted}
use Rattle.protocol.specs.Outcomes.{Out}
use Rattle.protocol.specs.Service.{serve}
use Rattle.protocol_laws.proofs.RangesWorld.{serve-in_range}
use Rattle.protocol_laws.proofs.RefusedInputs.{serve-refused}
use Rattle.config_service.proofs.service.ConfigService.serve.Goals as goal

always : {T E P : Type 0} (r : Result T E) → P → OnOk r P
always (Ok x) p = p
always (Err e) p = record {}

held : {E : Type 0} (r : Result Handled E) (before after : List Membership) (out : Out (List Membership)) → IfOk r (λ h. h ≡ out.answer) → OnOk r (after ≡ out.kept)
    → (has_acted (Node out.answer) ≡ false → out.kept ≡ before) → IfOk r (λ h. has_acted (Node h) ≡ false → after ≡ before)
held (Ok h) before after out answer kept law = λ still. kept ∙ law (ap (λ (x : Handled). has_acted (Node x)) (sym answer) ∙ still)
held (Err e) before after out answer kept law = record {}

pub returns-clause-range : goal.returns-clause-range
returns-clause-range c = λ few range.
    let stored = subst (λ (configs : List Membership). All IsMembership configs) c.self.view_is c.self.invariant.formed in
    always c.hear.result (serve-in_range c.args.nodes c.args.self.now c.args.from c.args.message.now few stored range).sends

pub returns-clause-unchanged : goal.returns-clause-unchanged
returns-clause-unchanged c =
    let law = serve-refused c.args.nodes c.args.self.now c.args.from c.args.message.now in
    held c.hear.result c.args.self.now c.hear.new.self (serve c.args.nodes c.args.self.now c.args.from c.args.message.now)
    c.hear.ensures.answer c.hear.ensures.kept (λ refused. (law refused).kept)
