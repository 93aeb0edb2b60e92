use Rattle.tcs_terms.proofs.ShardLaws.{shards_are_a_set}
use Rattle.tcs_terms.proofs.payloads.Payload.shards.Goals as goal

pub of-requires : goal.of-requires
of-requires c = rw (c.deref.ensures.value, c.in_ok-list.ensures.list) (shards_are_a_set c.args.n c.args.self.now c.requires.some c.requires.few c.in_ok-list.ensures.payload)
