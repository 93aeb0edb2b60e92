use Rattle.std.proofs.Common.{◌∙◌, ap, sym}
use Rattle.tcs_terms.specs.Places.{is_among}
use Rattle.prober.proofs.StageLaws.{is_node-member}
use Rattle.prober.proofs.moves.on_probe_ack.Goals as goal

pub proposed-requires-clause-leader : goal.proposed-requires-clause-leader
proposed-requires-clause-leader c =
    is_node-member c.in-Probing.probed c.args.from c.members.ensures.config (ap (λ ms. is_among ms c.args.from) (sym c.members.ensures.members) ∙ sym c.is_among.ensures ∙ c.if-not-is_among.false)
