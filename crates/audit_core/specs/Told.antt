-- What a trace tells of a history, line by line, and the verdict on it.
use Rattle.std.specs.Prelude.{ℕ, ◌≤◌, ⊤, Bool, true, false, if◌then◌else◌, List, [], ◌∷◌, ◌++◌, Option, Some, None}
use Rattle.tcs_terms.specs.declared.limits.TheConstants.{MAX_SHARDS}
use Rattle.tcs_terms.specs.declared.ids.TxId.{TxId}
use Rattle.tcs_terms.specs.declared.inputs.Note.{Note}
use Rattle.tcs_terms.specs.declared.setups.Rule.{Rule}
use Rattle.tcs_terms.specs.declared.setups.Rule.TheVariants.{Serial}
use Rattle.tcs_terms.specs.Logs.{same_txn}
use Rattle.protocol.specs.History.{order_of}
use Rattle.trace_text.specs.declared.items.TraceItem.{TraceItem}
use Rattle.trace_text.specs.declared.items.TraceItem.TheVariants.{Head, Event, NoteLine, MessageLine, Order, End}
use Rattle.judge.specs.declared.verdicts.Clause.TheVariants as clauses
use Rattle.judge.specs.declared.verdicts.Verdict.{Verdict}
use Rattle.judge.specs.declared.verdicts.Verdict.TheVariants.{Correct, Incorrect}
use Rattle.judge.specs.Verdicts.{tests_of, unless_fails, verdict_on}

-- the rule, the number of shards, the notes so far, the order that is told, and whether the last line came
pub record Told : Type 0 where
  pub rule : Rule
  pub shards : ℕ
  pub notes : List Note
  pub order : List TxId
  pub ended : Bool

-- before the first line
abbrev pub nothing_told : Told
nothing_told = record { rule = Serial; shards = 1; notes = []; order = []; ended = false }

-- with what one more line says
abbrev pub with_item : Told → TraceItem → Told
with_item told (Head rule shards) = record { rule = rule; shards = shards; notes = told.notes; order = told.order; ended = told.ended }
with_item told Event = told
with_item told (NoteLine note) = record { rule = told.rule; shards = told.shards; notes = told.notes ++ note ∷ []; order = told.order; ended = told.ended }
with_item told MessageLine = told
with_item told (Order order) = record { rule = told.rule; shards = told.shards; notes = told.notes; order = order; ended = told.ended }
with_item told End = record { rule = told.rule; shards = told.shards; notes = told.notes; order = told.order; ended = true }

-- the first transaction of the told order that is not that of its place in the order, or is left over; or else the
-- first one that the told order lacks
abbrev pub first_difference : (told order : List TxId) → Option TxId
first_difference [] [] = None
first_difference [] (t ∷ ts) = Some t
first_difference (t ∷ ts) [] = Some t
first_difference (t ∷ ts) (u ∷ us) = if same_txn t u then first_difference ts us else Some t

-- a verdict with one clause more, which is tried last
abbrev pub and_last : Verdict → Option TxId → Verdict
and_last (Correct decided committed aborted) fails = unless_fails clauses.Order fails (Correct decided committed aborted)
and_last (Incorrect which txn) fails = Incorrect which txn

-- the verdict on what is told: that on the history, and then whether the told order is that of its first commits
abbrev pub verdict_told : Told → Verdict
verdict_told told =
    and_last (verdict_on (tests_of told.rule) told.shards told.notes) (first_difference told.order (order_of told.notes))

-- the order of the line of the order, if it came
abbrev pub order_told : Option (List TxId) → List TxId
order_told None = []
order_told (Some order) = order

-- the number of shards of a first line is 1 to 16
abbrev pub HasShards : TraceItem → Type 0
HasShards (Head rule shards) = (1 ≤ shards) × (shards ≤ MAX_SHARDS)
HasShards Event = ⊤
HasShards (NoteLine note) = ⊤
HasShards MessageLine = ⊤
HasShards (Order order) = ⊤
HasShards End = ⊤
