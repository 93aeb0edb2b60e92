use Rattle.std.proofs.Common.{◌≡◌, refl, sym, Some}
use Rattle.tcs_terms.specs.Places.{Membership}
use Rattle.tcs_terms.specs.ConfigFaults.{config_fault}
use Rattle.tcs_terms.proofs.PlaceLaws.{is_membership_without_fault, no_fault_of_a_membership}
use Rattle.tcs_terms.proofs.configurations.Config.build.Goals as goal

pub of-requires : goal.of-requires
of-requires c =
    let m : Membership = record { shard = c.args.shard; epoch = c.args.epoch; members = c.deref.result.now; leader = c.args.leader; by = c.args.by } in
    rw (c.deref-in-None.ensures.value, ← c.deref.ensures.value) (is_membership_without_fault m (sym c.in-None.ensures))

pub returns-clause-ok : goal.returns-clause-ok
returns-clause-ok c =
    let m : Membership = record { shard = c.args.shard; epoch = c.args.epoch; members = c.deref.result.now; leader = c.args.leader; by = c.args.by } in
    (λ _. rw (← c.deref.ensures.value) (is_membership_without_fault m (sym c.in-None.ensures)), λ _. refl)

pub returns-in-Some-clause-ok : goal.returns-in-Some-clause-ok
returns-in-Some-clause-ok c =
    let m : Membership = record { shard = c.args.shard; epoch = c.args.epoch; members = c.args.members.items; leader = c.args.leader; by = c.args.by } in
    let fault : config_fault m ≡ Some c.in-Some.fault = rw (← c.deref.ensures.value) (sym c.in-Some.ensures) in
    (λ e. absurd cc, λ h. absurd (let none = no_fault_of_a_membership m h in cc))
