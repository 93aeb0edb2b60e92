use Rattle.std.proofs.Common.{arith}
use Rattle.wire_frame.proofs.FrameLaws.{is_found, is_only}
use Rattle.wire_frame.proofs.decoding.decode.Goals as goal

pub returns-clause-found : goal.returns-clause-found
returns-clause-found c = is_found c.args.frame.now c.placed.result (λ i. omega (arith, c.type_inv.frame i)) c.placed.ensures

pub returns-clause-only : goal.returns-clause-only
returns-clause-only c = λ m is same. is_only c.args.frame.now m c.placed.result is same c.placed.ensures
