-- The history is gone through up to the first note that does not pass.
use Rattle.std.proofs.Common.{◌≡◌, ◌<◌, List, length, take, true, arith, sym, ◌∙◌, subst, refl}
use Rattle.tcs_terms.specs.declared.inputs.Note.{Note}
use Rattle.judge.proofs.Failing.{front_at, failing_next, decision_here, decision_none}
use Rattle.judge.proofs.watch.first_decision.Goals as goal

pub loop-note-init : goal.loop-note-init
loop-note-init g c = record { stands = c.fresh-watch.ensures; found = refl }

pub loop-note-preserved : goal.loop-note-preserved
loop-note-preserved g c =
    let h = c.args.history.now in
    let i = c.loop-note.note-index in
    let n = c.note-item.result in
    let test = g.W.Watch.test c.args.shards in
    let within : i < length h = omega arith in
    let stood = c.loop-note.invariant.stands in
    let passes : test (take i h) n ≡ true = sym (c.in_ok-passes.ensures.passes (take i h) stood) ∙ c.if-not-passes.false in
    record {
      stands = subst (λ (ns : List Note). g.W.Watch.StandsFor c.take.new.self ns) (sym (front_at h i n within c.note-item.is))
          (c.in_ok-passes.ensures.stands c.if-not-passes.false (take i h) stood);
      found = c.loop-note.invariant.found ∙ failing_next test h i n within c.note-item.is passes;
    }

pub returns-then-not-passes : goal.returns-then-not-passes
returns-then-not-passes g c =
    let h = c.args.history.now in
    let i = c.loop-note.note-index in
    let test = g.W.Watch.test c.args.shards in
    let stood = c.loop-note.invariant.stands in
    c.decided_in.ensures ∙ decision_here test h i c.note-item.result (omega arith) c.note-item.is c.loop-note.invariant.found
    (sym (c.in_ok-passes.ensures.passes (take i h) stood) ∙ c.if-not-passes.true)

pub returns : goal.returns
returns g c = decision_none (g.W.Watch.test c.args.shards) c.args.history.now c.loop-note.note-index (omega arith) c.loop-note.invariant.found
