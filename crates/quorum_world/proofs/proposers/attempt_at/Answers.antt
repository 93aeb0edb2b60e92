use Rattle.std.proofs.Common.{◌≡◌, nat_eq, Some, sym, ◌∙◌, ap}
use Rattle.std.specs.Map.{lookup}
use Rattle.std.specs.Option.{option_copied}
use Rattle.quorum_world.proofs.Keyed.{lookup_gets}
use Rattle.quorum_world.proofs.proposers.attempt_at.Goals as goal

pub returns-in_ok-copy-in-Some : goal.returns-in_ok-copy-in-Some
returns-in_ok-copy-in-Some c =
    let there : option_copied c.get.result ≡ lookup (nat_eq c.args.proposer) c.args.attempts.now.entries = c.get.ensures.value in
    let copied = ap Some c.in_ok-copy-in-Some.ensures in
    copied ∙ (ap option_copied (sym c.in-Some.is) ∙ (there ∙ lookup_gets nat_eq c.args.attempts.now.entries c.args.proposer))

pub returns-in-None : goal.returns-in-None
returns-in-None c =
    let there : option_copied c.get.result ≡ lookup (nat_eq c.args.proposer) c.args.attempts.now.entries = c.get.ensures.value in
    ap option_copied (sym c.in-None.is) ∙ (there ∙ lookup_gets nat_eq c.args.attempts.now.entries c.args.proposer)
