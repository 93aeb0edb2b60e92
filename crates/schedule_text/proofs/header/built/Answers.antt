use Rattle.std.proofs.Common.{refl}
use Rattle.tcs_terms.specs.Setups.{Deployment}
use Rattle.tcs_terms.proofs.SetupLaws.{no_fault_of_a_deployment}
use Rattle.schedule_text.proofs.header.built.Goals as goal

pub returns-in-Ok : goal.returns-in-Ok
returns-in-Ok c =
    let d : Deployment = record { version = c.args.version; rule = c.args.rule; shards = c.args.shards; nodes = c.args.nodes.items; configs = c.args.configs.items } in
    rw (no_fault_of_a_deployment d (c.in-Ok.ensures.ok.0 refl), c.in-Ok.ensures.value) refl
