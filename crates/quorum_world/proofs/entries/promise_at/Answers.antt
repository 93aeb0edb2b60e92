use Rattle.std.proofs.Common.{◌≡◌, sym, ◌∙◌, ap}
use Rattle.std.specs.Map.{lookup}
use Rattle.std.specs.Option.{option_copied}
use Rattle.quorum_protocol.specs.Ballots.{no_ballot, or_else}
use Rattle.quorum_world.proofs.Keyed.{is_place, lookup_place}
use Rattle.quorum_world.proofs.entries.promise_at.Goals as goal

pub returns-in-Some : goal.returns-in-Some
returns-in-Some c =
    let there : option_copied c.get.result ≡ lookup (is_place c.args.place) c.args.promises.now.entries = c.get.ensures.value in
    ap (or_else no_ballot) (ap option_copied (sym c.in-Some.is) ∙ (there ∙ lookup_place c.args.promises.now.entries c.args.place))

pub returns-in-None : goal.returns-in-None
returns-in-None c =
    let there : option_copied c.get.result ≡ lookup (is_place c.args.place) c.args.promises.now.entries = c.get.ensures.value in
    ap (or_else no_ballot) (ap option_copied (sym c.in-None.is) ∙ (there ∙ lookup_place c.args.promises.now.entries c.args.place))
