use Rattle.std.proofs.Common.{◌∙◌, Result, Ok, Err, OnErr, map, take}
use Rattle.tcs_terms.specs.declared.messages.Message.TheVariants.{Probe}
use Rattle.protocol.specs.Outcomes.{to}
use Rattle.prober.proofs.requests.probe.Goals as goal

on_err : {A E P : Type 0} (r : Result A E) → P → OnErr r P
on_err (Ok x) p = tt
on_err (Err e) p = p

pub returns-in_err-push-clause-err : goal.returns-in_err-push-clause-err
returns-in_err-push-clause-err c =
    on_err c.from_residual.result (map (λ node. to node (Probe c.args.epoch)) (take c.members.member-index c.args.members.now), c.in_err-push.ensures.items ∙ c.members.invariant)
