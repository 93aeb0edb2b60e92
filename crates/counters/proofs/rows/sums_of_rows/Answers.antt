-- One row more is added.
use Rattle.std.proofs.Common.{◌≡◌, ◌<◌, List, length, take, arith, sym, subst}
use Rattle.tcs_terms.specs.Payloads.{Accesses}
use Rattle.counters.specs.declared.limits.TheConstants.{MAX_PAYLOADS}
use Rattle.counters.specs.Amounts.{committed_in}
use Rattle.counters.specs.Sums.{AreSums}
use Rattle.counters.proofs.CommittedRows.{committed_more, committed_few}
use Rattle.std.proofs.lemmas.List.{length-take-le}
use Rattle.counters.proofs.rows.sums_of_rows.Goals as goal

pub loop-row-preserved : goal.loop-row-preserved
loop-row-preserved c =
    let rows = c.args.rows.now in
    let i = c.loop-row.row-index in
    let within : i < length rows = omega arith in
    let taken : length (take i rows) ≡ i = length-take-le i rows (omega arith) in
    let some = committed_few (take i rows) in
    let few : length (committed_in (take i rows)) < MAX_PAYLOADS = omega arith in
    subst (λ (ps : List Accesses). AreSums c.add_row.new.sums ps) (sym (committed_more rows i c.row-item.result within c.row-item.is))
    (c.in_ok-add_row.ensures (committed_in (take i rows)) few c.loop-row.invariant)
