-- STORED, by whether the prober awaits it.
use Rattle.std.proofs.Common.{refl, sym, ◌∙◌, ap, append_assoc}
use Rattle.std.proofs.lemmas.Result.{on_ok_weaker}
use Rattle.protocol.specs.Coordination.{on_config}
use Rattle.node_core.specs.Parts.{node_of}
use Rattle.node_core.proofs.Storing.{unawaited, awaited}
use Rattle.node_core.proofs.parts.Parts.hear_stored.Goals as goal

pub returns-then-not-awaits-clause-answer : goal.returns-then-not-awaits-clause-answer
returns-then-not-awaits-clause-answer g c =
    rw ((unawaited c.args.self.now c.args.config (sym c.awaits.ensures ∙ c.if-not-awaits.true)).answer, ← c.self.view_is) c.on_config.ensures.answer

pub returns-then-not-awaits-clause-kept : goal.returns-then-not-awaits-clause-kept
returns-then-not-awaits-clause-kept g c = let s = c.self.inside in
    rw ((unawaited c.args.self.now c.args.config (sym c.awaits.ensures ∙ c.if-not-awaits.true)).kept, ← c.self.view_is)
    (on_ok_weaker c.on_config.result (λ kept. ap (λ k. node_of s.replica s.next k s.prober s.outcomes.entries) kept) c.on_config.ensures.kept)

pub returns-then-not-awaits-clause-sends : goal.returns-then-not-awaits-clause-sends
returns-then-not-awaits-clause-sends g c =
    rw ((unawaited c.args.self.now c.args.config (sym c.awaits.ensures ∙ c.if-not-awaits.true)).sends, ← c.self.view_is) c.on_config.ensures.sends

pub returns-clause-answer : goal.returns-clause-answer
returns-clause-answer g c = sym (awaited c.args.self.now c.args.config (sym c.awaits.ensures ∙ c.if-not-awaits.false)).answer

pub returns-clause-kept : goal.returns-clause-kept
returns-clause-kept g c =
    let a = awaited c.args.self.now c.args.config (sym c.awaits.ensures ∙ c.if-not-awaits.false) in
    rw (a.kept, ← c.self.view_is, c.in_ok-on_config.ensures.kept, c.in_ok-on_stored.ensures.kept, c.name-me.ensures, c.in_ok-copy.ensures) refl

pub returns-clause-sends : goal.returns-clause-sends
returns-clause-sends g c =
    let a = awaited c.args.self.now c.args.config (sym c.awaits.ensures ∙ c.if-not-awaits.false) in
    rw (a.sends, ← c.self.view_is)
    (c.in_ok-on_stored.ensures.sends
    ∙ rw (c.in_ok-on_config.ensures.sends, c.name-me.ensures, c.in_ok-copy.ensures) (append_assoc c.args.out.now.items (on_config c.self.inside.coordinator.kept c.args.config).sends _))
