-- A write more is put at the end, and it is one.
use Rattle.std.proofs.Common.{◌++◌, sym, ap, subst, ◌∙◌}
use Rattle.std.specs.Prelude.{All}
use Rattle.std.proofs.lemmas.List.{append-nil}
use Rattle.std.proofs.lemmas.List.Elements.{All-push}
use Rattle.tcs_terms.specs.Payloads.{IsWritePart}
use Rattle.store_client.specs.Parts.{write_of}
use Rattle.store_client.proofs.parts.add_write.Goals as goal

pub returns-in-None-clause-added : goal.returns-in-None-clause-added
returns-in-None-clause-added c =
    sym (ap (λ put. c.args.list.now.items ++ write_of c.args.part.now.name put) c.in-None.is ∙ append-nil c.args.list.now.items)

pub returns-in_ok-push-in-Some-clause-parts : goal.returns-in_ok-push-in-Some-clause-parts
returns-in_ok-push-in-Some-clause-parts c = λ are.
    subst (All IsWritePart) (sym c.in_ok-push-in-Some.ensures.items) (All-push IsWritePart c.args.list.now.items c.write_of.result are c.write_of.ensures.part)
