use Rattle.schedule_text.proofs.lines.Lines.look.Goals as goal

pub returns-then-count-eq0-clause-last : goal.returns-then-count-eq0-clause-last
returns-then-count-eq0-clause-last g c = λ rest told _.
    let before = c.reads.invariant.kept rest told in
    c.in_ok-count.ensures.end before.rest before.told c.if-count-eq0.true
