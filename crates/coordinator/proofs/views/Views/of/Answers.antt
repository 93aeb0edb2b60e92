use Rattle.std.proofs.Common.{◌≡◌, Some, None, sym, ap}
use Rattle.std.proofs.lemmas.Option.{slice_get-get_or}
use Rattle.tcs_terms.specs.Places.{Membership}
use Rattle.coordinator.specs.InOrder.{place_among}
use Rattle.coordinator.proofs.ByKey.{no_place}
use Rattle.coordinator.proofs.ViewLaws.{view_place}
use Rattle.coordinator.proofs.views.Views.of.Goals as goal

pub returns-in-None : goal.returns-in-None
returns-in-None c =
    let none : place_among c.self.inside.list.items c.args.shard ≡ None = cc in
    rw (← c.self.view_is) (sym ((no_place (λ (v : Membership). v.shard) c.args.shard 0 c.self.inside.list.items none).found))

pub returns-in-Some : goal.returns-in-Some
returns-in-Some c =
    let there : place_among c.self.inside.list.items c.args.shard ≡ Some c.in-Some.at = cc in
    let p = view_place c.self.inside.list.items c.args.shard c.in-Some.at c.self.invariant there in
    let got = slice_get-get_or c.self.inside.list.items c.in-Some.at c.index-list-at.result p.within in
    rw (← c.self.view_is, p.found, got, ← c.as_slice-list.ensures.value) (ap (λ (v : Membership). Some v) c.index-list-at.is)
