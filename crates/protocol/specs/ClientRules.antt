-- The rules for what a client asks of a node (this project's own).
use Rattle.std.specs.Prelude.{ℕ, ◌+◌, Bool, true, false, not, ◌&&◌, ◌||◌, ◌==◌, nat_lt, nat_le, List, [], ◌∷◌, ◌++◌, length, Option, Some, None, is_none}
use Rattle.tcs_terms.specs.declared.limits.TheConstants.{MAX_SEQUENCE}
use Rattle.tcs_terms.specs.declared.ids.TxId.{TxId}
use Rattle.tcs_terms.specs.declared.logs.Row.{Row}
use Rattle.tcs_terms.specs.declared.logs.Mark.{Mark}
use Rattle.tcs_terms.specs.declared.logs.Mark.TheVariants.{Undecided, Committed, Aborted}
use Rattle.tcs_terms.specs.declared.inputs.Handled.TheVariants.{Held, Full}
use Rattle.tcs_terms.specs.declared.inputs.Note.TheVariants as notes
use Rattle.tcs_terms.specs.declared.messages.Message.TheVariants.{Last}
use Rattle.tcs_terms.specs.Payloads.{Accesses}
use Rattle.tcs_terms.specs.Shards.{lies_in}
use Rattle.protocol.specs.Choices.{when}
use Rattle.protocol.specs.Outcomes.{Out, to, acts, tells, rests}
use Rattle.protocol.specs.Records.{Coordinator, Stage, NodeRecord}
use Rattle.protocol.specs.Log.{row_of}
use Rattle.protocol.specs.Coordination.{case_of, begin_case, take_over, resend}
use Rattle.protocol.specs.Probing.{start_move, ask_stage, lower}
use Rattle.protocol.specs.Versions.{Reading, read_of, value_or_empty}

-- a rule of the node's coordinator, as a rule of the node
abbrev pub coordinates : NodeRecord → Out Coordinator → Out NodeRecord
coordinates node out = record {
  answer = out.answer;
  kept = record node { coordinator = out.kept };
  sends = out.sends;
  notes = out.notes;
}

-- a rule of the node's prober, as a rule of the node
abbrev pub probes : NodeRecord → Out Stage → Out NodeRecord
probes node out = record {
  answer = out.answer;
  kept = record node { prober = out.kept };
  sends = out.sends;
  notes = out.notes;
}

-- the transaction that the node makes next
abbrev pub next_txn : NodeRecord → TxId
next_txn node = record { home = node.name; seq = node.next }

-- a new transaction of a client begins
abbrev pub begins_txn : NodeRecord → Accesses → Out Coordinator → Out NodeRecord
begins_txn node payload out =
    tells (record node { next = node.next + 1; coordinator = out.kept }) out.sends (notes.Begin (next_txn node) payload ∷ [])

-- certify: a new transaction with this payload, while numbers are left.
unfoldable pub certify : NodeRecord → Accesses → Out NodeRecord
certify node payload =
    when (nat_le node.next MAX_SEQUENCE)
    (begins_txn node payload (begin_case node.coordinator (next_txn node) payload))
    (rests Full node)

-- whether a row's outcome is not known
abbrev pub is_undecided : Mark → Bool
is_undecided Undecided = true
is_undecided Committed = false
is_undecided Aborted = false

-- whether a transaction may exist as far as a node knows: it is another node's, or the node gave its number
abbrev pub may_exist : NodeRecord → TxId → Bool
may_exist node txn = not (txn.home == node.name) || nat_lt txn.seq node.next

-- a transaction is taken over: the history notes it
abbrev pub taken_over : NodeRecord → TxId → Out Coordinator → Out NodeRecord
taken_over node txn out = tells (record node { coordinator = out.kept }) out.sends (notes.Take txn ∷ [])

-- the same, given the row of the transaction
abbrev pub take_row : NodeRecord → TxId → Option Row → Out NodeRecord
take_row node txn None = rests (Held node.state) node
take_row node txn (Some row) =
    when (is_undecided row.mark && is_none (case_of node.coordinator txn) && may_exist node txn)
    (taken_over node txn (take_over node.coordinator txn row.entry.shards))
    (rests (Held node.state) node)

-- take: a transaction that a row holds undecided, and of which the node has no case, is taken over.
unfoldable pub take : NodeRecord → TxId → Out NodeRecord
take node txn = take_row node txn (row_of node.rows txn)

-- nudge: all that the node waits for is asked again.
unfoldable pub nudge : NodeRecord → Out NodeRecord
nudge node = acts node (resend node.coordinator ++ ask_stage node.prober)

-- move: the node begins to move a shard.
unfoldable pub move : NodeRecord → ℕ → List ℕ → Out NodeRecord
move node shard want = probes node (start_move shard want)

-- lower: the node's prober goes down one epoch.
unfoldable pub go_lower : NodeRecord → Out NodeRecord
go_lower node = probes node (lower node.prober)

-- what a reading notes
abbrev pub reads_value : NodeRecord → List ℕ → Reading → Out NodeRecord
reads_value node name r = tells node [] (notes.ReadValue name r.version (value_or_empty r.value) ∷ [])

-- read: an object of the node's own shard.
unfoldable pub read : NodeRecord → List ℕ → Out NodeRecord
read node name =
    when (lies_in (length node.coordinator.views) node.shard name)
    (reads_value node name (read_of node.rows name))
    (rests (Held node.state) node)

-- ask: LAST of a shard to the configuration service.
unfoldable pub ask : NodeRecord → ℕ → Out NodeRecord
ask node shard = acts node (to 0 (Last shard) ∷ [])
