-- So far the writes of the parts before this one are copied.
use Rattle.std.proofs.Common.{◌≡◌, take}
use Rattle.std.specs.Prelude.{All}
use Rattle.tcs_terms.specs.Payloads.{IsWritePart}
use Rattle.store_client.specs.Parts.{writes}
use Rattle.store_client.proofs.parts.writes.Given as goal

abbrev pub invariant-loop-part : goal.invariant-loop-part
invariant-loop-part l = record {
  copied : l.list.items ≡ writes (take l.part-index l.parts);
  are : All IsWritePart l.list.items;
}
