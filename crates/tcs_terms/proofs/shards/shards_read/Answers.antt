use Rattle.std.proofs.Common.{ℕ, Bool, sym, ap, ◌∙◌, arith}
use Rattle.std.specs.List.{list_any}
use Rattle.tcs_terms.specs.Shards.{lies_in}
use Rattle.tcs_terms.proofs.OrderLaws.{filter_takes, filter_leaves}
use Rattle.tcs_terms.proofs.shards.shards_read.Goals as goal
use Rattle.tcs_terms.proofs.shards.shards_read.Goals.{then-reads_some+in_ok-push, else-reads_some}

pub loop-shard-preserved : goal.loop-shard-preserved
loop-shard-preserved c =
    let test : ℕ → Bool = λ shard. list_any (λ r. lies_in c.args.n shard r.name) c.args.reads.now in
    elim c.if-reads_some.branch [
      | then-reads_some+in_ok-push w ↦ filter_takes test c.loop-shard.shard c.loop-shard.list.items c.if-reads_some.list.items (omega arith)
          (sym c.reads_some.ensures ∙ w.if-reads_some.true) c.loop-shard.invariant (ap (λ v. v.items) w.list-is ∙ w.in_ok-push.ensures.items)
      | else-reads_some w ↦ filter_leaves test c.loop-shard.shard c.loop-shard.list.items c.if-reads_some.list.items (omega arith)
          (sym c.reads_some.ensures ∙ w.if-reads_some.false) c.loop-shard.invariant (ap (λ v. v.items) w.list-is)
    ]
