-- The rules of a node in its own shard (after Bravo and Gotsman, PODC 2019): preparing, accepting, marking, promising,
-- and becoming leader or follower of a new configuration.
use Rattle.std.specs.Prelude.{ℕ, ◌+◌, max, Bool, true, false, not, ◌&&◌, ◌==◌, nat_le, List, [], ◌∷◌, ◌++◌, map, flat_map, Option, Some, None}
use Rattle.std.specs.List.{range_with_len}
use Rattle.tcs_terms.specs.declared.ids.TxId.{TxId}
use Rattle.tcs_terms.specs.declared.logs.Row.{Row}
use Rattle.tcs_terms.specs.declared.inputs.Handled.TheVariants.{Full}
use Rattle.tcs_terms.specs.declared.messages.Message.TheVariants.{PrepareAck, AcceptAck, ProbeAck, NewState, StatePiece}
use Rattle.tcs_terms.specs.declared.messages.Outgoing.{Outgoing}
use Rattle.tcs_terms.specs.Payloads.{Accesses}
use Rattle.tcs_terms.specs.Places.{Membership, is_among}
use Rattle.tcs_terms.specs.Preparations.{Preparation}
use Rattle.tcs_laws.specs.Certification.{Tests}
use Rattle.protocol.specs.Choices.{when}
use Rattle.protocol.specs.Outcomes.{Out, to, acts, rests, refuses}
use Rattle.protocol.specs.Records.{Role, NodeRecord, Gathering, Piece}
use Rattle.protocol.specs.Records.Role.{Fenced, Leader, Follower}
use Rattle.protocol.specs.Views.{followers, is_follower}
use Rattle.protocol.specs.Log.{row_of, is_full, new_entry, undecided, has_at, is_taken, accepted, marked, mark_of}
use Rattle.protocol.specs.Pieces.{piece_count, piece_of, takes_piece, gathering_for, with_one_more, is_whole, rows_of, gathered_from}

-- whether a node leads
abbrev pub is_leader : Role → Bool
is_leader Fenced = false
is_leader (Leader config) = true
is_leader (Follower config) = false

-- whether a node follows
abbrev pub is_following : Role → Bool
is_following Fenced = false
is_following (Leader config) = false
is_following (Follower config) = true

-- whether a node is fenced
abbrev pub is_fenced : Role → Bool
is_fenced Fenced = true
is_fenced (Leader config) = false
is_fenced (Follower config) = false

-- the least epoch that a node may still promise or reach
abbrev pub least : NodeRecord → ℕ
least node = max node.promised (node.state + 1)

-- a node with these rows
abbrev pub with_rows : NodeRecord → List Row → NodeRecord
with_rows node rows = record node { rows = rows }

-- the entry of a known transaction is answered again; a new one is appended with its vote, where a slot is left
abbrev pub prepared : Tests → NodeRecord → ℕ → ℕ → TxId → List ℕ → Option Accesses → Option Row → Out NodeRecord
prepared tests node from epoch txn shards part (Some row) =
    acts node (to from (PrepareAck node.shard epoch row.entry) ∷ [])
prepared tests node from epoch txn shards part None = let entry = new_entry tests node.rows txn shards part in
    when (is_full node.rows)
    (rests Full node)
    (acts (with_rows node (node.rows ++ undecided entry ∷ [])) (to from (PrepareAck node.shard epoch entry) ∷ []))

-- PREPARE: to the leader of that epoch, for a transaction of its shard.
unfoldable pub on_prepare : Tests → NodeRecord → ℕ → ℕ → TxId → List ℕ → Option Accesses → Out NodeRecord
on_prepare tests node from epoch txn shards part =
    when (is_leader node.role && (node.state == epoch) && is_among shards node.shard)
    (prepared tests node from epoch txn shards part (row_of node.rows txn))
    (refuses epoch node.promised node)

-- ACCEPT: to a follower of that epoch, unless the slot or the transaction is taken.
unfoldable pub on_accept : NodeRecord → ℕ → ℕ → Preparation → Out NodeRecord
on_accept node from epoch entry =
    when (is_following node.role && (node.state == epoch) && not (is_taken node.rows entry))
    (acts (with_rows node (accepted node.rows entry)) (to from (AcceptAck node.shard epoch entry.slot entry.txn) ∷ []))
    (refuses epoch node.promised node)

-- DECISION: the row of that slot and transaction is marked, in this epoch or a later one.
unfoldable pub on_decision : NodeRecord → ℕ → ℕ → TxId → Bool → Out NodeRecord
on_decision node epoch slot txn commit =
    when (nat_le epoch node.state && has_at node.rows slot txn)
    (acts (with_rows node (marked node.rows slot (mark_of commit))) [])
    (refuses epoch node.state node)

-- PROBE: the node is fenced, and promises to reach no lower epoch. What it gathered for a lower one is dropped.
unfoldable pub on_probe : NodeRecord → ℕ → ℕ → Out NodeRecord
on_probe node from epoch =
    when (nat_le (least node) epoch)
    (acts (record node { role = Fenced; promised = epoch; gathering = gathered_from epoch node.gathering })
    (to from (ProbeAck epoch node.state) ∷ []))
    (refuses epoch (least node) node)

-- a leader's rows to one follower: in pieces under version 2, else whole
unfoldable pub state_to : ℕ → Membership → List Row → ℕ → List Outgoing
state_to version config rows node =
    when (version == 2)
    (map (λ k. to node (StatePiece config k (piece_count rows) (piece_of rows k))) (range_with_len 1 (piece_count rows)))
    (to node (NewState config rows) ∷ [])

-- NEW_CONFIG: a fenced node that promised this epoch becomes its leader, and sends its rows to the followers.
unfoldable pub on_new_config : ℕ → NodeRecord → Membership → Out NodeRecord
on_new_config version node config =
    when ((config.shard == node.shard) && is_fenced node.role && (node.promised == config.epoch) && (config.leader == node.name))
    (acts (record node { role = Leader config; state = config.epoch })
    (flat_map (state_to version config node.rows) (followers config)))
    (refuses config.epoch (least node) node)

-- whether a node may follow a configuration: it is of its shard and a member, and the epoch is not below its least
abbrev pub may_follow : NodeRecord → Membership → Bool
may_follow node config = (config.shard == node.shard) && nat_le (least node) config.epoch && is_follower config node.name

-- a node becomes follower of a configuration, with the leader's rows
abbrev pub follows : NodeRecord → Membership → List Row → Option Gathering → NodeRecord
follows node config rows gathering = record node {
  role = Follower config;
  state = config.epoch;
  promised = config.epoch;
  rows = rows;
  gathering = gathering;
}

-- NEW_STATE, under version 1: the node becomes follower with these rows.
unfoldable pub on_new_state : ℕ → NodeRecord → Membership → List Row → Out NodeRecord
on_new_state version node config rows =
    when ((version == 1) && may_follow node config)
    (acts (follows node config rows (gathered_from config.epoch node.gathering)) [])
    (refuses config.epoch (least node) node)

-- what the node comes to with a piece more: a follower once all are there
abbrev pub gathers : NodeRecord → Membership → Gathering → Out NodeRecord
gathers node config g =
    when (is_whole g)
    (acts (follows node config (rows_of g.kept) None) [])
    (acts (record node { gathering = Some g }) [])

-- STATE_PIECE, under version 2: the piece is added to what is gathered for its configuration.
unfoldable pub on_state_piece : ℕ → NodeRecord → Membership → ℕ → Piece → Out NodeRecord
on_state_piece version node config pieces piece =
    when ((version == 2) && may_follow node config && takes_piece node.gathering config pieces piece)
    (gathers node config (with_one_more (gathering_for node.gathering config pieces) piece))
    (refuses config.epoch (least node) node)
