use Rattle.std.proofs.Common.{sym}
use Rattle.tcs_terms.proofs.NameLaws.{is_name_without_fault}
use Rattle.tcs_terms.proofs.objects.Name.build.Goals as goal

pub of-requires : goal.of-requires
of-requires c = is_name_without_fault c.args.bytes.now (sym c.in-None.ensures)
