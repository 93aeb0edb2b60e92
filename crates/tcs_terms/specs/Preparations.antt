-- What an entry of a log says.
use Rattle.std.specs.Prelude.{◌≡◌, ℕ, Bool, true, false, is_none, Option, List}
use Rattle.tcs_terms.specs.declared.ids.TxId.{TxId}
use Rattle.tcs_terms.specs.declared.votes.Vote.{Vote}
use Rattle.tcs_terms.specs.declared.votes.Vote.TheVariants.{Commit, Clash, Lost}
use Rattle.tcs_terms.specs.Payloads.{Accesses}

-- a shard's preparation of a transaction: its slot, its shards, the part of its payload in the shard, and the vote
pub record Preparation : Type 0 where
  pub slot : ℕ
  pub txn : TxId
  pub shards : List ℕ
  pub payload : Option Accesses
  pub vote : Vote

-- whether a vote is that the preparation was lost
abbrev pub is_lost : Vote → Bool
is_lost Commit = false
is_lost (Clash txn) = false
is_lost Lost = true

-- there is no payload exactly where the vote is that the preparation was lost
abbrev pub KeepsPayload : Option Accesses → Vote → Type 0
KeepsPayload payload vote = is_none payload ≡ is_lost vote
