use Rattle.std.proofs.Common.{sym, ◌∙◌, ap}
use Rattle.std.specs.Option.{option_copied}
use Rattle.quorum_protocol.specs.Ballots.{same_knows, or_else}
use Rattle.quorum_world.proofs.Keyed.{lookup_gets}
use Rattle.quorum_world.proofs.entries.known_at.Goals as goal

pub returns-in-Some : goal.returns-in-Some
returns-in-Some c = ap (or_else 1) (ap option_copied (sym c.in-Some.is) ∙ c.get.ensures.value ∙ lookup_gets same_knows c.args.known.now.entries c.args.knows)

pub returns-in-None : goal.returns-in-None
returns-in-None c = ap (or_else 1) (ap option_copied (sym c.in-None.is) ∙ c.get.ensures.value ∙ lookup_gets same_knows c.args.known.now.entries c.args.knows)
