-- What a leader does with a transaction of its shard, in the words of a log.
use Rattle.std.proofs.Common.{◌≡◌, ℕ, Bool, true, false, ◌&&◌, ◌==◌, [], ◌∷◌, List, Some, None, Option, Ok, Err, refl}
use Rattle.tcs_terms.specs.declared.ids.TxId.{TxId}
use Rattle.tcs_terms.specs.declared.logs.Row.{Row}
use Rattle.tcs_terms.specs.declared.inputs.Handled.TheVariants.{Full}
use Rattle.tcs_terms.specs.declared.messages.Message.TheVariants.{PrepareAck}
use Rattle.tcs_terms.specs.Payloads.{Accesses}
use Rattle.tcs_terms.specs.Places.{is_among}
use Rattle.tcs_terms.specs.Preparations.{Preparation}
use Rattle.tcs_laws.specs.Certification.{Tests}
use Rattle.protocol.specs.Choices.{when}
use Rattle.protocol.specs.Outcomes.{to, acts, rests}
use Rattle.protocol.specs.Records.{NodeRecord}
use Rattle.protocol.specs.ShardRules.{is_leader, with_rows, prepared, on_prepare}
use Rattle.protocol.specs.Log.{row_of, new_entry}
use Rattle.cert_log.specs.Preparing.{entry_by, rows_by, no_room_by, prepared_entry, prepared_rows, finds_no_room}

module _ (tests : Tests) (node : NodeRecord) (from epoch : ℕ) (txn : TxId) (shards : List ℕ) (part : Option Accesses) where
  prepared_one : (found : Option Row) → no_room_by found node.rows ≡ false
      → prepared tests node from epoch txn shards part found
      ≡ acts (with_rows node (rows_by found node.rows (new_entry tests node.rows txn shards part))) (to from (PrepareAck node.shard epoch (entry_by found (new_entry tests node.rows txn shards part))) ∷ [])
  unfolding when
  prepared_one None room = rw room refl
  prepared_one (Some row) room = refl

  prepared_none : (found : Option Row) → no_room_by found node.rows ≡ true → prepared tests node from epoch txn shards part found ≡ rests Full node
  unfolding when
  prepared_none None full = rw full refl
  prepared_none (Some row) full = absurd cc

  -- the transaction has or gets an entry, which is answered
  pub prepares : (is_leader node.role && (node.state == epoch) && is_among shards node.shard) ≡ true → finds_no_room node.rows txn ≡ false
      → on_prepare tests node from epoch txn shards part
      ≡ acts (with_rows node (prepared_rows tests node.rows txn shards part)) (to from (PrepareAck node.shard epoch (prepared_entry tests node.rows txn shards part)) ∷ [])
  unfolding on_prepare when
  prepares leads room = rw leads (prepared_one (row_of node.rows txn) room)

  -- it is new, and no slot is left
  pub has_no_room : (is_leader node.role && (node.state == epoch) && is_among shards node.shard) ≡ true → finds_no_room node.rows txn ≡ true
      → on_prepare tests node from epoch txn shards part ≡ rests Full node
  unfolding on_prepare when
  has_no_room leads full = rw leads (prepared_none (row_of node.rows txn) full)

-- ---- what an answer of the log tells

pub room_where_ok : {A E : Type 0} (full : Bool) (x : A) (e : E) → (full ≡ true → Ok x ≡ Err e) → full ≡ false
room_where_ok true x e told = let other = told refl in absurd cc
room_where_ok false x e told = refl
