use Rattle.std.proofs.Common.{List, subst}
use Rattle.tcs_terms.specs.declared.payloads.WritePart.{WritePart}
use Rattle.judge.specs.Newest.{KeepsWrites}
use Rattle.judge.proofs.Kept.{newest_with}
use Rattle.judge.proofs.newest.put.Goals as goal

pub returns : goal.returns
returns c = λ olds are.
    newest_with c.args.newest.now c.keep_writes.new.newest c.args.payload.now c.writes-parts.ensures.payload
    (subst (λ (ws : List WritePart). KeepsWrites c.args.newest.now c.keep_writes.new.newest c.args.payload.now ws) c.writes-parts.ensures.writes c.in_ok-keep_writes.ensures)
    olds are
