-- One row more is added.
use Rattle.std.proofs.Common.{◌≡◌, ◌+◌, ◌<◌, ◌≤◌, List, length, take, arith, sym, ap, ◌∙◌}
use Rattle.tcs_terms.specs.Payloads.{Accesses}
use Rattle.counters.specs.declared.limits.TheConstants.{MAX_AMOUNT}
use Rattle.counters.specs.Amounts.{committed_in, node_total, total_of}
use Rattle.counters.proofs.CommittedRows.{payload_at, committed_more, total_with, row_few}
use Rattle.counters.proofs.rows.node_total.Goals as goal

pub loop-row-preserved : goal.loop-row-preserved
loop-row-preserved c =
    let rows = c.args.rows.now in
    let name = c.args.name.now in
    let i = c.loop-row.row-index in
    let r = c.row-item.result in
    let within : i < length rows = omega arith in
    let more : node_total (take (i + 1) rows) name ≡ node_total (take i rows) name + c.row_amount-total.result
    = ap (λ (ps : List Accesses). total_of ps name) (committed_more rows i r within c.row-item.is)
    ∙ total_with (committed_in (take i rows)) (payload_at r) name
    ∙ ap (λ n. node_total (take i rows) name + n) (sym c.row_amount-total.ensures) in
    let few : c.row_amount-total.result ≤ MAX_AMOUNT = rw c.row_amount-total.ensures (row_few (payload_at r) name) in
    let before = c.loop-row.invariant.1 in
    (ap (λ n. n + c.row_amount-total.result) c.loop-row.invariant.0 ∙ sym more, omega arith)
