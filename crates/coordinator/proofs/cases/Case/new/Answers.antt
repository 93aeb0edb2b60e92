use Rattle.std.proofs.Common.{◌∙◌, ap, map}
use Rattle.protocol.specs.Records.{Part}
use Rattle.protocol.specs.Cases.{asked}
use Rattle.coordinator.proofs.PartLaws.{parts_asked}
use Rattle.coordinator.proofs.cases.Case.new.Goals as goal

pub invariant_of-result : goal.invariant_of-result
invariant_of-result c = record {
  shards = c.list.ensures.set;
  each = ap (map (λ (p : Part). p.shard)) c.in_ok-parts.ensures ∙ ap (λ xs. map (λ (p : Part). p.shard) (map asked xs)) c.list.ensures.list ∙ parts_asked c.args.shards;
}
