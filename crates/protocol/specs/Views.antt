-- Configurations as a node sees them: one view of each shard.
use Rattle.std.specs.Prelude.{ℕ, Bool, false, not, ◌&&◌, ◌==◌, nat_eq, nat_lt, if◌then◌else◌, List, filter, find, map, Option, Some, None}
use Rattle.std.specs.Cmp.Lexicographic.{pointwise}
use Rattle.tcs_terms.specs.Places.{Membership, is_among}

-- the view of a shard, if the run has that shard
abbrev pub view_of : List Membership → ℕ → Option Membership
view_of views shard = find (λ v. v.shard == shard) views

-- the epoch of a configuration, 0 where there is none
abbrev pub epoch_of : Option Membership → ℕ
epoch_of None = 0
epoch_of (Some v) = v.epoch

-- the epoch of a shard's view, 0 where the run does not have the shard
abbrev pub view_epoch : List Membership → ℕ → ℕ
view_epoch views shard = epoch_of (view_of views shard)

-- the members of a configuration that do not lead it
abbrev pub followers : Membership → List ℕ
followers c = filter (λ m. not (m == c.leader)) c.members

-- whether a node is a member that does not lead
abbrev pub is_follower : Membership → ℕ → Bool
is_follower c node = is_among c.members node && not (node == c.leader)

-- whether the view of the configuration's shard is older than it
abbrev pub is_older : Option Membership → Membership → Bool
is_older None c = false
is_older (Some v) c = nat_lt v.epoch c.epoch

-- the views with a configuration in the place of its shard's
abbrev pub replaced : List Membership → Membership → List Membership
replaced views c = map (λ v. if v.shard == c.shard then c else v) views

-- whether two configurations are one
abbrev pub same_config : Membership → Membership → Bool
same_config a b =
    (a.shard == b.shard) && (a.epoch == b.epoch) && pointwise nat_eq a.members b.members && (a.leader == b.leader) && (a.by == b.by)
