use Rattle.std.proofs.Common.{◌≡◌, ◌∙◌, ap, rules, subst, sym, map, string_bytes, Err}
use Rattle.clap.specs.Words.{App, HasKind, app_of, fault_of, is_simple, is_simple_and_free, matches_of}
use Rattle.net_words.specs.Definition.{definition}
use Rattle.net_words.proofs.Answered.{asks, lent, no_memory, refuses}
use Rattle.net_words.proofs.PlainAnswers.{plain_answers}
use Rattle.net_words.proofs.ReadableMatches.{readable}
use Rattle.net_words.proofs.request.Request.from_words.Goals as goal

pub returns-in_err-command-clause-answers : goal.returns-in_err-command-clause-answers
returns-in_err-command-clause-answers c = let modes = lent c.args.words in (modes, no_memory (definition modes) _ c.from_residual.result (search rules))

pub returns-in-Ok-clause-answers : goal.returns-in-Ok-clause-answers
returns-in-Ok-clause-answers c =
    let modes = c.in_ok-command.ensures.0 in
    let is : app_of c.in_ok-command.command ≡ definition modes = c.in_ok-command.ensures.1 in
    let words = map string_bytes c.args.words.now in
    let taken = ap (λ (a : App). fault_of a words) (sym is) ∙ c.in-Ok.ensures.kinds (ap is_simple_and_free is) in
    let rows = (c.in-Ok.ensures.matches (ap is_simple is)).0 ∙ ap (λ (a : App). matches_of a words) is in (
      modes,
      asks modes words _ c.asked.result c.ok_or.result taken rows
          (c.asked.ensures (readable c.in_ok-command.command c.in-Ok.matches modes is c.in-Ok.ensures.parsed)) c.ok_or.ensures.value,
    )

pub returns-in-Ok-clause-plain : goal.returns-in-Ok-clause-plain
returns-in-Ok-clause-plain c = plain_answers _ _ (returns-in-Ok-clause-answers c)

pub returns-in-Err-clause-answers : goal.returns-in-Err-clause-answers
returns-in-Err-clause-answers c =
    let modes = c.in_ok-command.ensures.0 in
    let is : app_of c.in_ok-command.command ≡ definition modes = c.in_ok-command.ensures.1 in
    let words = map string_bytes c.args.words.now in
    let has = subst (λ (a : App). HasKind (fault_of a words) c.in-Err.error) is (c.in-Err.ensures.kinds (ap is_simple_and_free is)) in
    (modes, refuses _ _ c.of.result c.of.ensures has)

pub returns-in-Err-clause-plain : goal.returns-in-Err-clause-plain
returns-in-Err-clause-plain c = plain_answers _ (Err c.of.result) (returns-in-Err-clause-answers c)
