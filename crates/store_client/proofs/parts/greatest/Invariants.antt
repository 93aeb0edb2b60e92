-- So far this is the greatest version of the parts before.
use Rattle.std.proofs.Common.{◌≡◌, take}
use Rattle.store_client.specs.Parts.{greatest}
use Rattle.store_client.proofs.parts.greatest.Given as goal

abbrev pub invariant-loop-part : goal.invariant-loop-part
invariant-loop-part l = l.most ≡ greatest (take l.part-index l.parts)
