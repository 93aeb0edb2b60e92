use Rattle.std.proofs.Common.{take}
use Rattle.schedule_text.specs.Text.{numbers_text}
use Rattle.tcs_terms.proofs.Appending.{stops_behind}
use Rattle.schedule_text.proofs.printing.put_numbers.Goals as goal

pub returns-in_err-put_spaced-clause-err : goal.returns-in_err-put_spaced-clause-err
returns-in_err-put_spaced-clause-err c =
    stops_behind c.from_residual.result _ (numbers_text (take c.numbers.number-index c.args.numbers.now)) c.numbers.out.items _ c.numbers.invariant c.in_err-put_spaced.ensures.err
