use Rattle.std.proofs.Common.{refl, sym, ap, ◌∙◌, arith}
use Rattle.world.specs.Casts.{Peers, Cast}
use Rattle.tcs_terms.specs.declared.inputs.Handled.{Handled}
use Rattle.tcs_terms.specs.declared.inputs.Result1.TheVariants.{Node}
use Rattle.world.proofs.CastLaws.{done_as, given_gone, given_none, given_done, There, there_is}
use Rattle.world.proofs.casts.Cast.give.Goals as goal

pub returns-then-has : goal.returns-then-has
returns-then-has g c =
    let e = c.nothing.ensures in
    rw (← c.self.view_is) (done_as _ _ _ _ (given_gone _ _ c.args.name c.args.input (sym c.has.ensures ∙ c.if-has.true))
    (record { result = e.result; from = e.from; sends = e.sends; notes = e.notes; after = refl }))

pub returns-then-name-len : goal.returns-then-name-len
returns-then-name-len g c =
    let e = c.nothing-then-name-len.ensures in
    rw (← c.self.view_is) (done_as _ _ _ _ (given_none _ _ c.args.name c.args.input (sym c.has.ensures ∙ c.if-has.false) (omega (arith, c.len.ensures.count)))
    (record { result = e.result; from = e.from; sends = e.sends; notes = e.notes; after = refl }))

pub returns : goal.returns
returns g c =
    let t : There c.self.inside.peers c.args.name = there_is c.self.inside.peers c.args.name c.requires.from_one (omega (arith, c.len.ensures.count)) in
    let e = c.in_ok-handled.ensures in
    rw (← c.self.view_is) (done_as _ _ _ _ (given_done _ _ c.args.name c.args.input t.node (sym c.has.ensures ∙ c.if-has.false) t.is)
    (record {
      result = ap (λ (h : Handled). Node h) (e.answer t.node t.is);
      from = refl;
      sends = rw c.new-sends.ensures.items at (e.sends t.node t.is);
      notes = rw c.new-notes.ensures.items at (e.notes t.node t.is);
      after = ap (λ (p : Peers). let k : Cast = record { peers = p; configs = c.self.inside.service; stopped = c.self.inside.stopped } in k) (e.kept t.node t.is);
    }))
