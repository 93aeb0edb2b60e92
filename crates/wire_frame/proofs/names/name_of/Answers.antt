use Rattle.std.proofs.Common.{arith}
use Rattle.wire_frame.proofs.NameFields.{name_found}
use Rattle.wire_frame.proofs.names.name_of.Goals as goal

pub returns-clause-name : goal.returns-clause-name
returns-clause-name c = name_found (λ x. x.0.now) (λ x. x.1.now) c.args.bytes.now c.letters_of.result (λ i. omega (arith, c.type_inv.bytes i)) c.letters_of.ensures
