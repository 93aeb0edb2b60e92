use Rattle.tcs_terms.proofs.RunLaws.{node_in_range, shard_in_range, txn_in_range, input_in_range}
use Rattle.tcs_terms.proofs.runs.what_fits_is_in_range.Goals as goal

pub returns : goal.returns
returns c = record { node = node_in_range; shard = shard_in_range; txn = txn_in_range; input = input_in_range }
