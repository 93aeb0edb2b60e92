-- What nodes held in an epoch, and what became of it.
use Rattle.std.specs.Prelude.{◌≡◌, ℕ, ◌<◌, ◌≤◌, List, [], ◌∷◌, ◌++◌, map, ◌⊎◌}
use Rattle.tcs_terms.specs.declared.logs.Row.{Row}
use Rattle.tcs_terms.specs.Places.{Membership}
use Rattle.tcs_terms.specs.Preparations.{Preparation}
use Rattle.protocol.specs.Records.{NodeRecord}
use Rattle.protocol.specs.Records.Role.{Leader}
use Rattle.protocol.specs.World.{World}
use Rattle.protocol.specs.Invariant.Time.{Moment, worlds, StandsIn, IsNode, IsStored, WasIn}

-- the entries of rows
abbrev pub entries_of : List Row → List Preparation
entries_of rows = map (λ r. r.entry) rows

-- A node reached an epoch: it was initialised there, at this or an earlier moment.
pub record Reached (t : Moment) (epoch name : ℕ) : Type 0 where
  pub node : NodeRecord
  pub was : WasIn t epoch name node
  pub some : 1 ≤ epoch

-- A node held an entry in an epoch, at this or an earlier moment.
pub record Held (t : Moment) (epoch name : ℕ) (entry : Preparation) : Type 0 where
  pub node : NodeRecord
  pub was : WasIn t epoch name node
  pub some : 1 ≤ epoch
  pub holds : StandsIn entry (entries_of node.rows)

-- The moment at which the leader of a configuration became its leader, with these rows.
pub record BecameLeader (t : Moment) (c : Membership) (rows : List Row) : Type 0 where
  pub later : List World
  pub after : World
  pub before : World
  pub earlier : List World
  pub moments : worlds t ≡ later ++ (after ∷ before ∷ earlier)
  pub old : NodeRecord
  pub old_node : StandsIn old before.nodes
  pub old_name : old.name ≡ c.leader
  pub old_state : old.state < c.epoch
  pub node : NodeRecord
  pub new_node : StandsIn node after.nodes
  pub new_name : node.name ≡ c.leader
  pub leads : node.role ≡ Leader c
  pub state : node.state ≡ c.epoch
  pub rows_then : node.rows ≡ rows

-- The initial entries of a stored configuration: none in epoch 1, else those with which its leader became leader. They
-- are not defined before that moment.
pub record Initial (t : Moment) (c : Membership) (entries : List Preparation) : Type 0 where
  pub stored : IsStored t c
  pub begun : ((c.epoch ≡ 1) × (entries ≡ [])) ⊎ ((rows : List Row) × BecameLeader t c rows × (entries ≡ entries_of rows))

-- A configuration has its initial entries.
abbrev pub HasInitial : Moment → Membership → Type 0
HasInitial t c = (entries : List Preparation) × Initial t c entries

-- An entry is in the list of a configuration: its leader held it there.
pub record Listed (t : Moment) (c : Membership) (entry : Preparation) : Type 0 where
  pub initial : HasInitial t c
  pub held : Held t c.epoch c.leader entry

-- An entry is accepted in a configuration: every member held it there.
pub record Accepted (t : Moment) (c : Membership) (entry : Preparation) : Type 0 where
  pub stored : IsStored t c
  pub held : (name : ℕ) → StandsIn name c.members → Held t c.epoch name entry

-- An epoch of a shard is skipped: a member of its configuration promised a later one and never reached it. So nothing
-- is ever accepted there that is not yet.
pub record Skipped (t : Moment) (shard epoch : ℕ) : Type 0 where
  pub config : Membership
  pub stored : IsStored t config
  pub of_shard : config.shard ≡ shard
  pub of_epoch : config.epoch ≡ epoch
  pub node : NodeRecord
  pub is : IsNode t node
  pub member : StandsIn node.name config.members
  pub promised : epoch < node.promised
  pub never : Reached t epoch node.name → ⊥

-- A node will hold no more in an epoch: it has gone on to a later one, or it promised a later one and never reached it.
abbrev pub HoldsNoMore : Moment → ℕ → NodeRecord → Type 0
HoldsNoMore t epoch node = (epoch < node.state) ⊎ ((epoch < node.promised) × (Reached t epoch node.name → ⊥))
