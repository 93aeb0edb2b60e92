-- What the generator looks up in the world of its run, and the event that comes of it.
use Rattle.std.specs.Prelude.{ℕ, Bool, false, not, ◌&&◌, ◌==◌, List, [], ◌∷◌, length, find, Option, Some, None, is_none}
use Rattle.tcs_terms.specs.declared.ids.TxId.{TxId}
use Rattle.tcs_terms.specs.declared.inputs.Input.TheVariants.{Certify, Take, Nudge as NudgeInput, Move, ReadName}
use Rattle.tcs_terms.specs.declared.inputs.Event.{Event}
use Rattle.tcs_terms.specs.declared.inputs.Event.TheVariants.{Call, DeliverNumber, Stop as StopEvent}
use Rattle.tcs_terms.specs.declared.logs.Row.{Row}
use Rattle.protocol.specs.ClientRules.{is_undecided}
use Rattle.tcs_terms.specs.Places.{Membership}
use Rattle.tcs_terms.specs.Shards.{shard_of}
use Rattle.protocol.specs.Coordination.{case_of}
use Rattle.protocol.specs.Records.{NodeRecord, Coordinator}
use Rattle.protocol.specs.Views.{view_of}
use Rattle.protocol.specs.World.{World, node_of}
use Rattle.generator.specs.declared.doings.Doing.{Doing}
use Rattle.generator.specs.declared.doings.Doing.TheVariants as doings

-- whether a node has an open case
abbrev pub has_open_case : Option NodeRecord → Bool
has_open_case None = false
has_open_case (Some node) = not (length node.coordinator.cases == 0)

-- node 9 hands in the payloads, and is the node that is nudged
abbrev pub waits_in : World → Bool
waits_in w = has_open_case (node_of w.nodes 9)

abbrev pub leader_of : Option Membership → ℕ
leader_of None = 9
leader_of (Some c) = c.leader

abbrev pub known_leader : Option NodeRecord → ℕ → ℕ
known_leader None shard = 9
known_leader (Some node) shard = leader_of (view_of node.coordinator.views shard)

-- the leader that node 9 knows of an object's shard
abbrev pub reader_in : World → List ℕ → ℕ
reader_in w name = known_leader (node_of w.nodes 9) (shard_of name 3)

-- whether a row is undecided and the node has no case of its transaction
abbrev pub is_orphan : Coordinator → Row → Bool
is_orphan c row = is_undecided row.mark && is_none (case_of c row.entry.txn)

abbrev pub txn_of_row : Option Row → Option TxId
txn_of_row None = None
txn_of_row (Some row) = Some row.entry.txn

-- the transaction of the lowest such row
abbrev pub orphan_of : Option NodeRecord → Option TxId
orphan_of None = None
orphan_of (Some node) = txn_of_row (find (is_orphan node.coordinator) node.rows)

abbrev pub nudged : Event
nudged = Call 9 NudgeInput

abbrev pub taken_over : Option TxId → Event
taken_over None = nudged
taken_over (Some txn) = Call 5 (Take txn)

-- a node moves a shard, with itself wanted
abbrev pub moved_by : ℕ → ℕ → Event
moved_by node shard = Call node (Move shard (node ∷ []))

-- the event of what happens next
abbrev pub event_of : World → Doing → Event
event_of w doings.Stop = StopEvent 1
event_of w doings.FirstMove = moved_by 3 1
event_of w doings.TakeOver = taken_over (orphan_of (node_of w.nodes 5))
event_of w doings.SecondMove = moved_by 6 2
event_of w doings.Nudge = nudged
event_of w (doings.Deliver number) = DeliverNumber number
event_of w (doings.Read name) = Call (reader_in w name) (ReadName name)
event_of w (doings.Certify payload) = Call 9 (Certify payload)
