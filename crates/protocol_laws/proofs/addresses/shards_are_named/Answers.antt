use Rattle.protocol_laws.proofs.ShardNaming.{run-names_shards}
use Rattle.protocol_laws.proofs.addresses.shards_are_named.Goals as goal

pub returns : goal.returns
returns c = run-names_shards
