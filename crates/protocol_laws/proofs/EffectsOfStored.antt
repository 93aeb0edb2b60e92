-- What a node does with a stored configuration, read backwards: as coordinator and as prober.
use Rattle.std.proofs.Common.{◌≡◌, ℕ, true, ◌&&◌, ◌||◌, ◌==◌, eqb-true, leb-true, ltb-true, nat_le, nat_lt, refl}
use Rattle.std.proofs.lemmas.Bool.{and_parts}
use Rattle.tcs_terms.specs.declared.limits.TheConstants.{MAX_EPOCH}
use Rattle.tcs_terms.specs.declared.inputs.Input.TheVariants as inputs
use Rattle.tcs_terms.specs.declared.messages.Message.TheVariants.{Stored}
use Rattle.tcs_terms.specs.Places.{Membership}
use Rattle.tcs_laws.specs.Certification.{Tests}
use Rattle.protocol.specs.Coordination.{is_newer, on_config}
use Rattle.protocol.specs.Outcomes.{Out, refusal}
use Rattle.protocol.specs.Probing.{awaits, on_stored}
use Rattle.protocol.specs.Records.{Coordinator, Stage, NodeRecord}
use Rattle.protocol.specs.Records.Stage.{Idle, AskedLast, Probing, AskedLower, CasSent}
use Rattle.protocol.specs.Table.{is_awaited, next_stage, on_stored_config}
use Rattle.protocol.specs.Views.{view_epoch}
use Rattle.protocol_laws.specs.Effect.{IsMark, Viewed, Effect, Sees, Replaces, Keeps as KeepsView, Hears, Waits, ProbesLast, ProbesLower, IsDone, Learns}
use Rattle.protocol_laws.proofs.Guards.{by_guard, refusal-tells, rests_quietly}

on_config-Sees : (c : Coordinator) (config : Membership) → Sees c config (on_config c config).kept (on_config c config).sends
unfolding on_config
on_config-Sees c config = by_guard {A = Out Coordinator} (λ out. Sees c config out.kept out.sends) (is_newer c config) (λ e. Replaces e) (λ e. KeepsView e)

-- a stage that awaits the configuration goes on
on_stored-Hears : (me : ℕ) (config : Membership) (view : ℕ) (stage : Stage) → awaits stage config view ≡ true → Hears me config view stage (on_stored me stage config).kept (on_stored me stage config).sends
unfolding on_stored
on_stored-Hears me config view Idle h = absurd (cc h)
on_stored-Hears me config view (AskedLast shard want) h =
    let p = and_parts ((config.shard == shard) && nat_le view config.epoch) (nat_lt config.epoch MAX_EPOCH) h in
    let q = and_parts (config.shard == shard) (nat_le view config.epoch) p.0 in
    ProbesLast shard want (eqb-true config.shard shard q.0) (leb-true view config.epoch q.1) (ltb-true config.epoch MAX_EPOCH p.1)
on_stored-Hears me config view (Probing shard want epoch probed low) h = absurd (cc h)
on_stored-Hears me config view (AskedLower shard want epoch asked) h =
    let p = and_parts (config.shard == shard) (config.epoch == asked) h in
    ProbesLower shard want epoch asked (eqb-true config.shard shard p.0) (eqb-true config.epoch asked p.1)
on_stored-Hears me config view (CasSent kept) h =
    let p = and_parts (config.shard == kept.shard) (config.epoch == kept.epoch) h in
    IsDone kept (eqb-true config.shard kept.shard p.0) (eqb-true config.epoch kept.epoch p.1)

next_stage-Hears : (node : NodeRecord) (config : Membership)
    → Hears node.name config (view_epoch node.coordinator.views config.shard) node.prober (next_stage (is_awaited node config) node config).kept (next_stage (is_awaited node config) node config).sends
next_stage-Hears node config =
    by_guard {A = Out Stage} (λ out. Hears node.name config (view_epoch node.coordinator.views config.shard) node.prober out.kept out.sends) (is_awaited node config)
    (λ e. on_stored-Hears node.name config (view_epoch node.coordinator.views config.shard) node.prober e)
    (λ e. Waits node.prober)

pub stored_effect : (tests : Tests) (version : ℕ) (node : NodeRecord) (from : ℕ) (config : Membership) → Effect tests version node (inputs.Deliver from (Stored config)) (on_stored_config node config)
unfolding on_stored_config
stored_effect tests version node from config =
    by_guard (Effect tests version node (inputs.Deliver from (Stored config))) (is_awaited node config || is_newer node.coordinator config)
    (λ e. Learns from config _ _ _ _ (on_config-Sees node.coordinator config) (next_stage-Hears node config))
    (λ e. rests_quietly tests version node (inputs.Deliver from (Stored config)) (refusal config.epoch (view_epoch node.coordinator.views config.shard))
    (refusal-tells (IsMark node) config.epoch (view_epoch node.coordinator.views config.shard) (Viewed config.shard)) refl)
