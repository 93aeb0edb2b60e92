-- Which move is proposed.
use Rattle.std.specs.Prelude.{ℕ, min, Bool, if◌then◌else◌, ◌&&◌, ◌||◌, ◌==◌, not, nat_lt, nat_le, List, [], ◌∷◌, length, filter, find, take, fold, count_by, Option, Some, None, is_some}
use Rattle.std.specs.List.{list_any, range_with_len}
use Rattle.std.specs.Option.{option_and_then}
use Rattle.tcs_terms.specs.declared.limits.TheConstants.{MAX_WANTED}
use Rattle.tcs_terms.specs.declared.inputs.Event.TheVariants.{Call}
use Rattle.tcs_terms.specs.declared.inputs.Input.TheVariants.{Move}
use Rattle.tcs_terms.specs.Places.{Membership}
use Rattle.tcs_terms.specs.Setups.{is_node_of}
use Rattle.monitor.specs.declared.moves.Proposal.{Proposal}
use Rattle.monitor.specs.Tally.{count_of}

-- the nodes of a shard other than this one, ascending
abbrev pub others : List ℕ → ℕ → ℕ → List ℕ
others nodes shard missed = filter (λ n. is_node_of nodes shard n && not (n == missed)) (range_with_len 1 (length nodes))

-- whether a shard has another node
abbrev pub has_other : List ℕ → ℕ → ℕ → Bool
has_other nodes shard member =
    list_any (λ n. is_node_of nodes shard n && not (n == member)) (range_with_len 1 (length nodes))

-- whether a member's count is at least the bound, and its shard has another node
abbrev pub is_missing : ℕ → List ℕ → List ℕ → ℕ → ℕ → Bool
is_missing miss nodes counts shard member = nat_le miss (count_of counts member) && has_other nodes shard member

-- the lowest such member of a configuration
abbrev pub missing_in : ℕ → List ℕ → List ℕ → Membership → Option ℕ
missing_in miss nodes counts config = find (is_missing miss nodes counts config.shard) config.members

-- the configuration of the lowest shard that has such a member
abbrev pub missing : ℕ → List ℕ → List ℕ → List Membership → Option Membership
missing miss nodes counts configs = find (λ (config : Membership). is_some (missing_in miss nodes counts config)) configs

-- whether the first node stands before the second: by count, then by number
abbrev pub before : List ℕ → ℕ → ℕ → Bool
before counts m n = nat_lt (count_of counts m) (count_of counts n) || ((count_of counts m == count_of counts n) && nat_lt m n)

-- the one of these that stands before all others
abbrev pub first_of : List ℕ → ℕ → List ℕ → ℕ
first_of counts n ns = fold (λ (best : ℕ) (m : ℕ). if before counts m best then m else best) n ns

-- those of these nodes before which fewer than so many stand, no more than so many, in the order given
abbrev pub first_ones : List ℕ → ℕ → List ℕ → List ℕ
first_ones counts most nodes = take most (filter (λ n. nat_lt (count_by (λ m. before counts m n) nodes) most) nodes)

-- how many nodes a move wants: at most 6, and at most as many as the configuration has members and as there are
abbrev pub wanted : Membership → List ℕ → ℕ
wanted config spares = min MAX_WANTED (min (length config.members) (length spares))

-- the move of a configuration with this missing member to these other nodes of the shard
abbrev pub move_to : List ℕ → Membership → ℕ → List ℕ → Option Proposal
move_to counts config missed [] = None
move_to counts config missed (n ∷ ns) = Some (record {
  event = Call (first_of counts n ns) (Move config.shard (first_ones counts (wanted config (n ∷ ns)) (n ∷ ns)));
  missed = missed;
  count = count_of counts missed;
})

-- the move that is proposed of a configuration
abbrev pub move_of : ℕ → List ℕ → List ℕ → Membership → Option Proposal
move_of miss nodes counts config = option_and_then (λ missed. move_to counts config missed (others nodes config.shard missed)) (missing_in miss nodes counts config)
