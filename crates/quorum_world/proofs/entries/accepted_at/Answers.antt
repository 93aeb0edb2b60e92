use Rattle.std.proofs.Common.{◌≡◌, Some, sym, ◌∙◌, ap}
use Rattle.std.specs.Map.{lookup}
use Rattle.std.specs.Option.{option_copied}
use Rattle.quorum_world.proofs.Keyed.{is_place, lookup_place}
use Rattle.quorum_world.proofs.entries.accepted_at.Goals as goal

pub returns-in_ok-copy_of-in-Some : goal.returns-in_ok-copy_of-in-Some
returns-in_ok-copy_of-in-Some c =
    let there : option_copied c.get.result ≡ lookup (is_place c.args.place) c.args.accepted.now.entries = c.get.ensures.value in
    let copied = ap Some c.in_ok-copy_of-in-Some.ensures in
    copied ∙ (ap option_copied (sym c.in-Some.is) ∙ (there ∙ lookup_place c.args.accepted.now.entries c.args.place))

pub returns-in-None : goal.returns-in-None
returns-in-None c =
    let there : option_copied c.get.result ≡ lookup (is_place c.args.place) c.args.accepted.now.entries = c.get.ensures.value in
    ap option_copied (sym c.in-None.is) ∙ (there ∙ lookup_place c.args.accepted.now.entries c.args.place)
