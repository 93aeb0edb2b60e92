-- So far the parts before this one are copied.
use Rattle.std.proofs.Common.{◌≡◌, take}
use Rattle.std.specs.Prelude.{All}
use Rattle.tcs_terms.specs.Payloads.{IsReadPart}
use Rattle.store_client.specs.Parts.{reads}
use Rattle.store_client.proofs.parts.reads.Given as goal

abbrev pub invariant-loop-part : goal.invariant-loop-part
invariant-loop-part l = record {
  copied : l.list.items ≡ reads (take l.part-index l.parts);
  are : All IsReadPart l.list.items;
}
