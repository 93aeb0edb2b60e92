-- What a rule makes of an input: an answer, what is kept then, what is sent, and what is noted for the history.
use Rattle.std.specs.Prelude.{ℕ, List, [], nat_lt}
use Rattle.tcs_terms.specs.declared.inputs.Handled.{Handled}
use Rattle.tcs_terms.specs.declared.inputs.Handled.TheVariants.{Acted, Stale, Held}
use Rattle.tcs_terms.specs.declared.inputs.Note.{Note}
use Rattle.tcs_terms.specs.declared.messages.Message.{Message}
use Rattle.tcs_terms.specs.declared.messages.Outgoing.{Outgoing}
use Rattle.protocol.specs.Choices.{when}

-- `kept` is what the rule works on: a node, or the part of one that the rule is about
pub record Out (A : Type 0) : Type 0 where
  pub answer : Handled
  pub kept : A
  pub sends : List Outgoing
  pub notes : List Note

-- a message to a node, or to the configuration service, which is 0
abbrev pub to : ℕ → Message → Outgoing
to node message = record { to = node; message = message }

-- the rule acts: this is kept, sent and noted
abbrev pub tells : {A : Type 0} → A → List Outgoing → List Note → Out A
tells kept sends notes = record { answer = Acted; kept = kept; sends = sends; notes = notes }

-- the rule acts, and notes nothing
abbrev pub acts : {A : Type 0} → A → List Outgoing → Out A
acts kept sends = tells kept sends []

-- the rule does not act: nothing changes, and nothing is sent
abbrev pub rests : {A : Type 0} → Handled → A → Out A
rests answer kept = record { answer = answer; kept = kept; sends = []; notes = [] }

-- an input of this epoch does not act against this mark: it is stale where its epoch is below the mark, else held
unfoldable pub refusal : ℕ → ℕ → Handled
refusal epoch mark = when (nat_lt epoch mark) (Stale mark) (Held mark)

-- the rule does not act on an input of that epoch, against that mark
abbrev pub refuses : {A : Type 0} → ℕ → ℕ → A → Out A
refuses epoch mark kept = rests (refusal epoch mark) kept
