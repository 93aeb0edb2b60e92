-- What a sender hears of a message that was not acted on.
use Rattle.std.specs.Prelude.{ℕ, List, [], ◌∷◌, ◌++◌}
use Rattle.tcs_terms.specs.declared.inputs.Handled.{Handled}
use Rattle.tcs_terms.specs.declared.inputs.Handled.TheVariants.{Acted, Stale, Held, Full}
use Rattle.tcs_terms.specs.declared.messages.Why.TheVariants as why
use Rattle.tcs_terms.specs.declared.messages.Message.TheVariants.{Refused}
use Rattle.tcs_terms.specs.declared.messages.Outgoing.{Outgoing}
use Rattle.protocol.specs.Outcomes.{Out, to}

-- the notice of an answer that is not to act; the number is the mark where the log is full
abbrev pub notice_of : Handled → ℕ → ℕ → ℕ → List Outgoing
notice_of Acted from kind full_mark = []
notice_of (Stale mark) from kind full_mark = to from (Refused kind why.Stale mark) ∷ []
notice_of (Held mark) from kind full_mark = to from (Refused kind why.Held mark) ∷ []
notice_of Full from kind full_mark = to from (Refused kind why.Full full_mark) ∷ []

-- a rule's outcome, with the notice to the sender where the message did not act; a rule that does not act sends nothing
-- of its own
unfoldable pub with_notice : {A : Type 0} → ℕ → ℕ → ℕ → Out A → Out A
with_notice from kind full_mark out = record {
  answer = out.answer;
  kept = out.kept;
  sends = notice_of out.answer from kind full_mark ++ out.sends;
  notes = out.notes;
}
