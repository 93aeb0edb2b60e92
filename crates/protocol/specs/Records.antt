-- What a node keeps.
use Rattle.std.specs.Prelude.{ℕ, List, Option}
use Rattle.tcs_terms.specs.declared.ids.TxId.{TxId}
use Rattle.tcs_terms.specs.declared.logs.Row.{Row}
use Rattle.tcs_terms.specs.declared.votes.Decision.{Decision}
use Rattle.tcs_terms.specs.Payloads.{Accesses}
use Rattle.tcs_terms.specs.Places.{Membership}
use Rattle.tcs_terms.specs.Preparations.{Preparation}

-- A shard of a case. It is asked while it has no entry; then it is voted, with the entry that the shard's leader
-- answered and the followers that acknowledged it.
pub record Part : Type 0 where
  pub shard : ℕ
  pub entry : Option Preparation
  pub acks : List ℕ

-- A transaction that the node coordinates: its shards, its payload where the node has it, and a part for each shard.
pub record Case : Type 0 where
  pub shards : List ℕ
  pub payload : Option Accesses
  pub parts : List Part

-- What a node coordinates with: the last configuration that it saw of each shard, shard 1 first, and its cases by
-- transaction, in order of opening.
pub record Coordinator : Type 0 where
  pub views : List Membership
  pub cases : List (TxId × Case)

-- What a node does in its shard. A fenced node takes nothing into its log.
pub data Role : Type 0 where
  Fenced : Role
  Leader : Membership → Role
  Follower : Membership → Role

-- The stages of moving a shard to a new configuration. Probing and AskedLower tell the shard, the wanted nodes, the
-- epoch that is to come, and then the configuration that is probed with its members that answered low, or the epoch
-- whose configuration was asked for. CasSent keeps the configuration that was proposed.
pub data Stage : Type 0 where
  Idle : Stage
  AskedLast : (shard : ℕ) → (want : List ℕ) → Stage
  Probing : (shard : ℕ) → (want : List ℕ) → (epoch : ℕ) → (probed : Membership) → (low : List ℕ) → Stage
  AskedLower : (shard : ℕ) → (want : List ℕ) → (epoch : ℕ) → (asked : ℕ) → Stage
  CasSent : (config : Membership) → Stage

-- a piece of a leader's rows, numbered from 1
pub record Piece : Type 0 where
  pub number : ℕ
  pub rows : List Row

-- pieces of the rows of a configuration's leader: how many there are, and those that came, by number
pub record Gathering : Type 0 where
  pub config : Membership
  pub pieces : ℕ
  pub kept : List Piece

-- A node: its name and shard; its role; its state epoch, the last one in which it was initialised, 0 if never; the
-- greatest epoch that it has promised; the rows of its log; the number of the next transaction that it makes; what it
-- coordinates; what it moves; the outcomes of its own transactions; and the state that it gathers.
pub record NodeRecord : Type 0 where
  pub name : ℕ
  pub shard : ℕ
  pub role : Role
  pub state : ℕ
  pub promised : ℕ
  pub rows : List Row
  pub next : ℕ
  pub coordinator : Coordinator
  pub prober : Stage
  pub outcomes : List (TxId × Decision)
  pub gathering : Option Gathering
