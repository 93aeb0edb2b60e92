use Rattle.trace_text.proofs.LineWords.{line_again, line_takes}
use Rattle.trace_text.proofs.laws.one_reading.Goals as goal

pub returns-clause-again : goal.returns-clause-again
returns-clause-again c = λ s line i h. line_again s line i h

pub returns-clause-only : goal.returns-clause-only
returns-clause-only c = λ s text line h. line_takes s text line h
