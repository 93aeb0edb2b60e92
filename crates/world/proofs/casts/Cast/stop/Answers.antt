use Rattle.std.proofs.Common.{ℕ, List, refl, sym, ap, ◌∙◌}
use Rattle.world.specs.Casts.{Cast}
use Rattle.world.proofs.CastLaws.{done_as, stopping_gone, stopping_done}
use Rattle.world.proofs.casts.Cast.stop.Goals as goal

pub returns-then-has : goal.returns-then-has
returns-then-has g c =
    let e = c.nothing.ensures in
    rw (← c.self.view_is) (done_as _ _ _ _ (stopping_gone _ c.args.name (sym c.has.ensures ∙ c.if-has.true))
    (record { result = e.result; from = e.from; sends = e.sends; notes = e.notes; after = refl }))

pub returns : goal.returns
returns g c =
    let e = c.nothing-2.ensures in
    rw (← c.self.view_is) (done_as _ _ _ _ (stopping_done _ c.args.name (sym c.has.ensures ∙ c.if-has.false))
    (record {
      result = e.result;
      from = e.from;
      sends = e.sends;
      notes = e.notes;
      after = ap (λ (s : List ℕ). let k : Cast = record { peers = c.self.inside.peers; configs = c.self.inside.service; stopped = s } in k) c.in_ok-add.ensures;
    }))
