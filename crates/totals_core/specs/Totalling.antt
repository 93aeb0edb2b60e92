-- What `totals` answers, and what it has read and written by then.
use Rattle.std.specs.Prelude.{◌≡◌, ◌⊎◌, ℕ, ◌+◌, ◌≤◌, IsTrue, true, List, [], ◌∷◌, ◌++◌, length, Option, Some}
use Rattle.tcs_terms.specs.declared.inputs.Event.{Event}
use Rattle.tcs_terms.specs.declared.inputs.Note.{Note}
use Rattle.tcs_terms.specs.declared.setups.Rule.TheVariants as rules
use Rattle.text_words.specs.declared.words.Reason.TheVariants as reasons
use Rattle.tcs_terms.specs.Payloads.{Accesses}
use Rattle.tcs_terms.specs.Setups.{Deployment}
use Rattle.tcs_terms.specs.Shards.{lies_in}
use Rattle.cert_commute.specs.Commute.{commute}
use Rattle.schedule_text.specs.declared.limits.TheConstants.{LINE_LIMIT}
use Rattle.schedule_text.specs.declared.reader.LineItem.{LineItem}
use Rattle.schedule_text.specs.Bytes.{IsText, Taken}
use Rattle.schedule_text.specs.Schedules.{Progress}
use Rattle.protocol.specs.History.{order_of, payloads_of}
use Rattle.protocol.specs.Invariant.Time.{StandsIn}
use Rattle.protocol.specs.Records.{NodeRecord}
use Rattle.protocol_laws.specs.Exchange.{may_commit, OnlyAdds}
use Rattle.protocol_laws.specs.Promises.{world_of}
use Rattle.counters.specs.Histories.{total}
use Rattle.counter_laws.specs.Marked.{HasEach}
use Rattle.replay_core.specs.declared.stops.ReplayStop.{ReplayStop}
use Rattle.replay_core.specs.declared.stops.ReplayStop.TheVariants as stops
use Rattle.replay_core.specs.Trace.{run_of}
use Rattle.replay_core.specs.Replays.{Kept, Stopped, Worked}
use Rattle.totals_core.specs.Telling.{IsTold}

-- ---- the rule

-- the first two lines may stand there, and name a rule in which additions do not commute
pub record NamesOther (bytes : List ℕ) : Type 0 where
  pub lines : List (List ℕ)
  pub items : List LineItem
  pub progress : Progress
  pub behind : List ℕ
  pub taken : Taken bytes lines items progress behind
  pub two : length lines ≡ 2
  pub other : progress.head.setup.rule ≡ rules.Commute → ⊥

-- ---- how it ends

-- Two neighbours of the order, where each object that the second one writes and the first one reads is a counter to which
-- both add, may be exchanged: the transactions may still commit in that order.
abbrev pub ExchangesAdditions : List Note → Type 0
ExchangesAdditions h =
    (front : List Accesses) (a b : Accesses) (back : List Accesses) → payloads_of h (order_of h) ≡ front ++ (a ∷ b ∷ back)
    → OnlyAdds b a → may_commit commute (front ++ (b ∷ a ∷ back)) ≡ true

-- Ok: the bytes are the text of a schedule by the rule in which additions commute, whose run keeps within the limit and
-- keeps its promises; all was read, and what is told of its counters was written. What is told as held of a counter is at
-- most the sum over the order, and as much where a node of its shard has each committed addition marked; neighbours of the
-- order that only add may be exchanged.
pub record Totals (bytes left written : List ℕ) : Type 0 where
  pub setup : Deployment
  pub events : List Event
  pub text : IsText bytes setup events
  pub commute : setup.rule ≡ rules.Commute
  pub kept : Kept setup events
  pub at_end : left ≡ []
  pub told : IsTold setup.shards (world_of (run_of setup events)) written
  pub within : (name : List ℕ) → told.held name ≤ total (world_of (run_of setup events)).history name
  pub equal : (node : NodeRecord) → StandsIn node (world_of (run_of setup events)).nodes → (name : List ℕ) → IsTrue (lies_in setup.shards node.shard name)
      → HasEach (world_of (run_of setup events)).history node.rows name → told.held name ≡ total (world_of (run_of setup events)).history name
  pub exchange : ExchangesAdditions (world_of (run_of setup events)).history

-- another rule is named; of what follows these two lines at most 4,097 bytes were read
pub record StopsAtRule (bytes left : List ℕ) : Type 0 where
  pub names : NamesOther bytes
  pub ahead : List ℕ
  pub read : names.behind ≡ ahead ++ left
  pub few : length ahead ≤ LINE_LIMIT + 1

-- as a replay of these bytes stops, with the same bytes left, whatever it would have written by then
abbrev pub AsReplay : List ℕ → List ℕ → ReplayStop → Type 0
AsReplay bytes left stop = (shown : List ℕ) × Stopped bytes left shown stop

-- these lines were worked through, and name no other rule
pub record ReadOn (bytes left : List ℕ) : Type 0 where
  pub items : List LineItem
  pub progress : Progress
  pub behind : List ℕ
  pub worked : Worked bytes left items progress behind
  pub commute : 2 ≤ length worked.lines → progress.head.setup.rule ≡ rules.Commute

-- all was read, and a part of what is told was written
pub record StopsTelling (bytes left written : List ℕ) : Type 0 where
  pub text : List ℕ
  pub totals : Totals bytes left text
  pub rest : List ℕ
  pub part : text ≡ written ++ rest

-- What each stop says of the bytes, of what is left of them, and of what was written: nothing before the input's end.
abbrev pub Stops : List ℕ → List ℕ → List ℕ → ReplayStop → Type 0
Stops bytes left written (stops.Bad number reason) = (written ≡ [])
    × (((NamesOther bytes → ⊥) × AsReplay bytes left (stops.Bad number reason)) ⊎ ((number ≡ 2) × (reason ≡ reasons.Word) × StopsAtRule bytes left))
Stops bytes left written stops.ReadFault = (written ≡ []) × ReadOn bytes left × AsReplay bytes left stops.ReadFault
Stops bytes left written stops.WriteFault = StopsTelling bytes left written
Stops bytes left written (stops.Full sum) = (written ≡ []) × (NamesOther bytes → ⊥) × AsReplay bytes left (stops.Full sum)
Stops bytes left written stops.OutOfMemory = ((written ≡ []) × ReadOn bytes left × AsReplay bytes left stops.OutOfMemory) ⊎ StopsTelling bytes left written

-- ---- the source and the sink behind it

-- Ok: the source tells what is left, and the sink holds what it held before and what was written.
pub record Finishes (bytes before : List ℕ) (left held : Option (List ℕ)) : Type 0 where
  pub rest : List ℕ
  pub told : left ≡ Some rest
  pub written : List ℕ
  pub holds : held ≡ Some (before ++ written)
  pub totals : Totals bytes rest written

-- A stop: they do so as well, and the stop says the rest.
pub record Ends (bytes before : List ℕ) (left held : Option (List ℕ)) (stop : ReplayStop) : Type 0 where
  pub rest : List ℕ
  pub told : left ≡ Some rest
  pub written : List ℕ
  pub holds : held ≡ Some (before ++ written)
  pub stopped : Stops bytes rest written stop
