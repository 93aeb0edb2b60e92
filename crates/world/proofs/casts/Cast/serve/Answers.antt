use Rattle.std.proofs.Common.{List, length, refl, sym, ap, ◌∙◌}
use Rattle.tcs_terms.specs.declared.inputs.Handled.{Handled}
use Rattle.tcs_terms.specs.declared.inputs.Result1.TheVariants.{Node}
use Rattle.tcs_terms.specs.Places.{Membership}
use Rattle.world.specs.Casts.{Cast}
use Rattle.world.proofs.CastLaws.{serves_silently}
use Rattle.world.proofs.casts.Cast.serve.Goals as goal

pub returns : goal.returns
returns g c =
    let e = rw c.len-nodes.ensures.count at c.in_ok-handled.ensures in
    rw (← c.self.view_is) (record {
      result = ap (λ (h : Handled). Node h) e.answer;
      from = refl;
      sends = rw c.new-sends.ensures.items at e.sends;
      notes = c.new.ensures.items ∙ sym (serves_silently (length c.self.inside.peers.nodes) c.self.inside.service c.args.from c.args.message.now);
      after = ap (λ (s : List Membership). let k : Cast = record { peers = c.self.inside.peers; configs = s; stopped = c.self.inside.stopped } in k) e.kept;
    })
