use Rattle.std.proofs.Common.{◌≡◌, refl, sym, Some}
use Rattle.tcs_terms.specs.Setups.{Deployment}
use Rattle.tcs_terms.specs.SetupFaults.{setup_fault}
use Rattle.tcs_terms.proofs.SetupLaws.{is_deployment_without_fault, no_fault_of_a_deployment}
use Rattle.tcs_terms.proofs.setups.Setup.build_version.Goals as goal

pub invariant_of-result : goal.invariant_of-result
invariant_of-result c =
    let d : Deployment = record { version = c.args.version; rule = c.args.rule; shards = c.args.shards; nodes = c.deref.result.now; configs = c.deref-2.result.now } in
    rw (← c.deref.ensures.value, ← c.deref-2.ensures.value) (is_deployment_without_fault d c.in-None.ensures.configs (sym c.in-None.ensures.fault))

pub returns-in-None-clause-ok : goal.returns-in-None-clause-ok
returns-in-None-clause-ok c =
    let d : Deployment = record { version = c.args.version; rule = c.args.rule; shards = c.args.shards; nodes = c.deref.result.now; configs = c.deref-2.result.now } in
    (λ _. rw (← c.deref.ensures.value, ← c.deref-2.ensures.value) (is_deployment_without_fault d c.in-None.ensures.configs (sym c.in-None.ensures.fault)), λ _. refl)

pub returns-in-Some-clause-ok : goal.returns-in-Some-clause-ok
returns-in-Some-clause-ok c =
    let d : Deployment = record { version = c.args.version; rule = c.args.rule; shards = c.args.shards; nodes = c.args.nodes.items; configs = c.args.configs.items } in
    let fault : setup_fault d ≡ Some c.in-Some.fault = rw (← c.deref.ensures.value, ← c.deref-2.ensures.value) (sym c.in-Some.ensures.fault) in
    (λ e. absurd cc, λ h. absurd (let none = no_fault_of_a_deployment d h in cc))
