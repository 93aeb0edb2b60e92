use Rattle.std.proofs.Common.{◌≡◌, ◌+◌, ◌++◌, ◌≤◌, length, arith, length-append, ap}
use Rattle.std.proofs.lemmas.Grind.{common_steps}
use Rattle.wire_frame.specs.Spelling.{spell}
use Rattle.protocol.specs.Limit.{frame_limit}
use Rattle.world.proofs.Letters.{limit_is}
use Rattle.world.proofs.arena.write_one.Goals as goal

pub returns-then-sum-gt-FRAME_LIMIT-clause-bytes : goal.returns-then-sum-gt-FRAME_LIMIT-clause-bytes
returns-then-sum-gt-FRAME_LIMIT-clause-bytes c = λ low. absurd (omega (arith, limit_is))

pub returns-then-sum-gt-FRAME_LIMIT-clause-letters : goal.returns-then-sum-gt-FRAME_LIMIT-clause-letters
returns-then-sum-gt-FRAME_LIMIT-clause-letters c = λ low. absurd (omega (arith, limit_is))

pub returns-clause-small : goal.returns-clause-small
returns-clause-small c =
    let wrote : c.encode_into.new.out.items ≡ c.args.bytes.now.items ++ spell c.args.sent.now.message = c.in_ok-encode_into.ensures.ok in
    let sum : c.in_ok-sum.sum ≡ c.args.before + length (spell c.args.sent.now.message) = grind (arith, common_steps) in
    let low : c.args.before ≤ frame_limit = omega (arith, limit_is) in
    omega (arith, limit_is, c.requires.before low, ap length wrote, length-append c.args.bytes.now.items (spell c.args.sent.now.message))
