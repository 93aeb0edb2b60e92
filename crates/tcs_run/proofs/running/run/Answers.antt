-- Words that name a command name no other, so that what is said of the others is said of no run.
use Rattle.std.proofs.Common.{sym, inl, inr}
use Rattle.tcs_run.specs.declared.command.Command.TheVariants.{Replay, Audit, Quorum, Totals, Restore, Generate, Soak}
use Rattle.tcs_run.proofs.Naming.{one_command, no_command}
use Rattle.tcs_run.proofs.running.run.Goals as goal

pub returns-in-None-clause-named : goal.returns-in-None-clause-named
returns-in-None-clause-named g c = λ command named. absurd (no_command command c.args.words.now (sym c.in-None.ensures) named)

pub returns-in-None-clause-replays : goal.returns-in-None-clause-replays
returns-in-None-clause-replays g c = λ named. absurd (no_command Replay c.args.words.now (sym c.in-None.ensures) named)

pub returns-in-None-clause-audits : goal.returns-in-None-clause-audits
returns-in-None-clause-audits g c = λ named. absurd (no_command Audit c.args.words.now (sym c.in-None.ensures) named)

pub returns-in-None-clause-stores : goal.returns-in-None-clause-stores
returns-in-None-clause-stores g c = λ named. absurd (no_command Quorum c.args.words.now (sym c.in-None.ensures) named)

pub returns-in-None-clause-totals : goal.returns-in-None-clause-totals
returns-in-None-clause-totals g c = λ named. absurd (no_command Totals c.args.words.now (sym c.in-None.ensures) named)

pub returns-in-None-clause-restores : goal.returns-in-None-clause-restores
returns-in-None-clause-restores g c = λ named. absurd (no_command Restore c.args.words.now (sym c.in-None.ensures) named)

pub returns-in-None-clause-generates : goal.returns-in-None-clause-generates
returns-in-None-clause-generates g c = λ numbers named. absurd (no_command (Generate numbers) c.args.words.now (sym c.in-None.ensures) named)

pub returns-in-None-clause-soaks : goal.returns-in-None-clause-soaks
returns-in-None-clause-soaks g c = λ numbers named. absurd (no_command (Soak numbers) c.args.words.now (sym c.in-None.ensures) named)

pub returns-in-None-clause-seeded : goal.returns-in-None-clause-seeded
returns-in-None-clause-seeded g c = λ numbers either. elim either [
  | inl named ↦ absurd (no_command (Generate numbers) c.args.words.now (sym c.in-None.ensures) named)
  | inr named ↦ absurd (no_command (Soak numbers) c.args.words.now (sym c.in-None.ensures) named)
]

pub returns-in-Some-clause-unnamed : goal.returns-in-Some-clause-unnamed
returns-in-Some-clause-unnamed g c = λ none. absurd (none c.in-Some.command (sym c.in-Some.ensures))

pub returns-in-Some-clause-headline : goal.returns-in-Some-clause-headline
returns-in-Some-clause-headline g c = λ named bytes before told holds ok.
    (c.perform.ensures.replays (one_command c.in-Some.command Replay c.args.words.now (sym c.in-Some.ensures) named) bytes before told holds).whole ok

pub returns-in-Some-clause-replays : goal.returns-in-Some-clause-replays
returns-in-Some-clause-replays g c = λ named. c.perform.ensures.replays (one_command c.in-Some.command Replay c.args.words.now (sym c.in-Some.ensures) named)

pub returns-in-Some-clause-audits : goal.returns-in-Some-clause-audits
returns-in-Some-clause-audits g c = λ named. c.perform.ensures.audits (one_command c.in-Some.command Audit c.args.words.now (sym c.in-Some.ensures) named)

pub returns-in-Some-clause-stores : goal.returns-in-Some-clause-stores
returns-in-Some-clause-stores g c = λ named. c.perform.ensures.stores (one_command c.in-Some.command Quorum c.args.words.now (sym c.in-Some.ensures) named)

pub returns-in-Some-clause-totals : goal.returns-in-Some-clause-totals
returns-in-Some-clause-totals g c = λ named. c.perform.ensures.totals (one_command c.in-Some.command Totals c.args.words.now (sym c.in-Some.ensures) named)

pub returns-in-Some-clause-restores : goal.returns-in-Some-clause-restores
returns-in-Some-clause-restores g c = λ named. c.perform.ensures.restores (one_command c.in-Some.command Restore c.args.words.now (sym c.in-Some.ensures) named)

pub returns-in-Some-clause-generates : goal.returns-in-Some-clause-generates
returns-in-Some-clause-generates g c = λ numbers named.
    c.perform.ensures.generates numbers (one_command c.in-Some.command (Generate numbers) c.args.words.now (sym c.in-Some.ensures) named)

pub returns-in-Some-clause-soaks : goal.returns-in-Some-clause-soaks
returns-in-Some-clause-soaks g c = λ numbers named.
    c.perform.ensures.soaks numbers (one_command c.in-Some.command (Soak numbers) c.args.words.now (sym c.in-Some.ensures) named)

pub returns-in-Some-clause-seeded : goal.returns-in-Some-clause-seeded
returns-in-Some-clause-seeded g c = λ numbers either. elim either [
  | inl named ↦ c.perform.ensures.seeded numbers (inl (one_command c.in-Some.command (Generate numbers) c.args.words.now (sym c.in-Some.ensures) named))
  | inr named ↦ c.perform.ensures.seeded numbers (inr (one_command c.in-Some.command (Soak numbers) c.args.words.now (sym c.in-Some.ensures) named))
]
