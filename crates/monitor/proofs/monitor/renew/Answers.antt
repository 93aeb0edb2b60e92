-- A step of the loop renews one configuration more.
use Rattle.std.proofs.Common.{ap, ◌∙◌, arith, get_or, ◌==◌}
use Rattle.std.specs.Prelude.{◌&&◌, nat_lt, slice_set, if◌then◌else◌}
use Rattle.std.proofs.lemmas.List.Edits.{map_over_more}
use Rattle.tcs_terms.specs.Places.{Membership}
use Rattle.monitor.proofs.monitor.renew.Goals as goal

pub loop-i-preserved : goal.loop-i-preserved
loop-i-preserved c =
    let new = c.args.new.now in
    ap (slice_set c.loop-i.configs c.loop-i.i) c.renew_one.ensures
    ∙ map_over_more (λ (old : Membership). if (old.shard == new.shard) && nat_lt old.epoch new.epoch then new else old) c.args.configs.now c.loop-i.configs c.loop-i.i (get_or c.loop-i.configs c.loop-i.i c.index-configs-i.result)
    (omega (arith, c.loop-i-test.true)) c.loop-i.invariant (ap (get_or c.loop-i.configs c.loop-i.i) c.index-configs-i.is)
