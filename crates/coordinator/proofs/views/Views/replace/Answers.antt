use Rattle.std.proofs.Common.{◌≡◌, Some, None, sym}
use Rattle.tcs_terms.specs.Places.{Membership}
use Rattle.coordinator.specs.InOrder.{place_among}
use Rattle.coordinator.proofs.ByKey.{no_place}
use Rattle.coordinator.proofs.ViewLaws.{view_place, still_views}
use Rattle.coordinator.proofs.views.Views.replace.Goals as goal

pub index_mut-requires : goal.index_mut-requires
index_mut-requires c =
    let there : place_among c.self.inside.list.items c.args.config.shard ≡ Some c.in-Some.at = cc in
    rw (← c.deref.ensures.len, c.deref.ensures.value) ((view_place c.self.inside.list.items c.args.config.shard c.in-Some.at c.self.invariant there).within)

pub invariant_of-self : goal.invariant_of-self
invariant_of-self c =
    let there : place_among c.self.inside.list.items c.args.config.shard ≡ Some c.in-Some.at = cc in
    still_views c.self.inside.list.items c.in-Some.at c.args.config c.self.invariant there

pub returns-in-Some : goal.returns-in-Some
returns-in-Some c =
    let there : place_among c.self.inside.list.items c.args.config.shard ≡ Some c.in-Some.at = cc in
    let p = view_place c.self.inside.list.items c.args.config.shard c.in-Some.at c.self.invariant there in
    rw (← c.self.view_is) (sym (p.put c.args.config))

pub returns-in_default : goal.returns-in_default
returns-in_default c =
    let none : place_among c.self.inside.list.items c.args.config.shard ≡ None = cc in
    rw (← c.self.view_is) (sym ((no_place (λ (v : Membership). v.shard) c.args.config.shard 0 c.self.inside.list.items none).put c.args.config))
