use Rattle.std.proofs.Common.{List, subst}
use Rattle.tcs_terms.specs.declared.payloads.WritePart.{WritePart}
use Rattle.counters.specs.Sums.{AddsWrites}
use Rattle.counters.proofs.Adding.{sums_with}
use Rattle.counters.proofs.sums.add.Goals as goal

pub returns : goal.returns
returns c = λ ps few are.
    sums_with c.args.sums.now c.add_writes.new.sums c.args.payload.now
    (subst (λ (ws : List WritePart). AddsWrites c.args.sums.now c.add_writes.new.sums ws) c.writes.ensures.writes c.in_ok-add_writes.ensures)
    ps few are
