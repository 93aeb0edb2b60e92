-- Open cases as they are kept: in order of opening, with the places of closed ones left empty, and a table of places.
use Rattle.std.specs.Prelude.{◌≡◌, ℕ, Bool, true, false, List, [], ◌∷◌, length, Option, Some, None, if◌then◌else◌}
use Rattle.std.specs.List.{position_from}
use Rattle.std.specs.Map.{lookup}
use Rattle.tcs_terms.specs.declared.ids.TxId.{TxId}
use Rattle.tcs_terms.specs.declared.messages.Outgoing.{Outgoing}
use Rattle.tcs_terms.specs.Logs.{same_txn, txns_differ}
use Rattle.tcs_terms.specs.Places.{Membership}
use Rattle.protocol.specs.Cases.{prepare, send_case}
use Rattle.protocol.specs.Coordination.{ask_again, has_part}
use Rattle.protocol.specs.Records.{Case}

-- what stands at the places that are not empty
abbrev pub taken : {X : Type 0} → List (Option X) → List X
taken [] = []
taken (None ∷ slots) = taken slots
taken (Some x ∷ slots) = x ∷ taken slots

-- the transaction at a place
abbrev pub txn_at : {X : Type 0} → Option (TxId × X) → Option TxId
txn_at None = None
txn_at (Some e) = Some e.0

-- whether a place has this transaction
abbrev pub is_of : TxId → Option TxId → Bool
is_of txn None = false
is_of txn (Some t) = same_txn txn t

-- the table has of each transaction its place, and no transaction stands twice
pub record IsPlaced (places : List (TxId × ℕ)) (txns : List (Option TxId)) : Type 0 where
  pub found : (txn : TxId) → lookup (same_txn txn) places ≡ position_from (is_of txn) 0 txns
  pub differ : txns_differ (taken txns) ≡ true
  pub count : length places ≡ length (taken txns)

-- a shard got a new configuration: the case at a place asks the shard again
abbrev pub asked_at : ℕ → Option (TxId × Case) → Option (TxId × Case)
asked_at shard None = None
asked_at shard (Some e) = Some (e.0, ask_again shard e.1)

-- and what it sends, to the leader of the configuration
abbrev pub asks_at : ℕ → Membership → Option (TxId × Case) → List Outgoing
asks_at n config None = []
asks_at n config (Some e) = if has_part e.1 config.shard then prepare n e.0 e.1 (Some config) else []

-- what the case at a place still waits for
abbrev pub sends_at : List Membership → Option (TxId × Case) → List Outgoing
sends_at views None = []
sends_at views (Some e) = send_case views e.0 e.1
