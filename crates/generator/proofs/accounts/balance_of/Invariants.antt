use Rattle.std.proofs.Common.{◌≡◌, take, fold}
use Rattle.generator.specs.Accounts.{with_byte}
use Rattle.generator.proofs.accounts.balance_of.Given as goal

abbrev pub invariant-loop-byte : goal.invariant-loop-byte
invariant-loop-byte l = l.number ≡ fold with_byte 0 (take l.byte-index l.bytes)
