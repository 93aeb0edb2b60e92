use Rattle.std.proofs.Common.{Err, arith, ap, sym, ◌∙◌}
use Rattle.std.proofs.lemmas.Result.{err_from_is_err_and}
use Rattle.replay_core.proofs.Heading.{header_fewer, header_no_event, header_no_end, header_unwritten}
use Rattle.replay_core.proofs.Taking.{few_taken}
use Rattle.totals_core.proofs.CommutingHeader.{commuting_begun, commuting_on, commuting_stops, other_stops}
use Rattle.totals_core.proofs.header.commuting_header.Goals as goal

pub take-requires : goal.take-requires
take-requires g c = omega (arith, few_taken c.lines.reading _ c.lines.invariant.stands.header.standing)

pub returns-in_err-take-clause-stopped : goal.returns-in_err-take-clause-stopped
returns-in_err-take-clause-stopped g c =
    let p = err_from_is_err_and c.from_residual.result c.from_residual.ensures.1 in
    rw (p.1, p.2) (commuting_stops c.lines.reading _ _ _ _ c.lines.invariant.stands c.in_err-take.ensures.stop)

pub returns-in_err-take-clause-unwritten : goal.returns-in_err-take-clause-unwritten
returns-in_err-take-clause-unwritten g c = λ told.
    let p = err_from_is_err_and c.from_residual.result c.from_residual.ensures.1 in
    header_unwritten c.lines.reading _ _ _ c.in_err-take.ensures.stop (ap Err (sym p.2) ∙ sym p.1 ∙ told)

-- line 2 names another rule
pub returns-in_err-rule_allowed-in-Header-clause-stopped : goal.returns-in_err-rule_allowed-in-Header-clause-stopped
returns-in_err-rule_allowed-in-Header-clause-stopped g c =
    let p = err_from_is_err_and c.from_residual-in_err-rule_allowed-in-Header.result c.from_residual-in_err-rule_allowed-in-Header.ensures.1 in
    rw (p.1, p.2, c.in_err-rule_allowed-in-Header.ensures.stop)
    (other_stops c.lines.reading c.take.new.self _ _ _ c.lines.invariant.stands (rw c.in-Header.is at c.in_ok-take.ensures.item) c.in_err-rule_allowed-in-Header.ensures.line
    c.in_err-rule_allowed-in-Header.ensures.other)

pub lines-smaller : goal.lines-smaller
lines-smaller g c =
    omega (arith, header_fewer c.lines.reading c.take.new.self _ _ _ _ c.lines.invariant.stands.header c.in_ok-take.ensures.item, c.in_ok-take.ensures.item.one_more)

pub lines-preserved : goal.lines-preserved
lines-preserved g c = record {
  stands = commuting_on c.lines.reading c.take.new.self _ _ _ c.lines.invariant.stands (rw c.in-Header.is at c.in_ok-take.ensures.item) c.in_ok-rule_allowed-in-Header.ensures.ok;
  count = omega (arith, c.lines.invariant.count, c.take.ensures.count);
}

pub returns-in-Begun-clause-begun : goal.returns-in-Begun-clause-begun
returns-in-Begun-clause-begun g c = commuting_begun c.lines.reading c.take.new.self _ _ _ _ c.lines.invariant.stands (rw c.in-Begun.is at c.in_ok-take.ensures.item)

pub unreachable-requires : goal.unreachable-requires
unreachable-requires g c = header_no_event c.lines.reading c.take.new.self _ _ _ _ c.lines.invariant.stands.header (rw c.in-Event.is at c.in_ok-take.ensures.item)

pub unreachable-requires-in-End : goal.unreachable-requires-in-End
unreachable-requires-in-End g c = header_no_end c.lines.reading c.take.new.self _ _ _ c.lines.invariant.stands.header (rw c.in-End.is at c.in_ok-take.ensures.item)
