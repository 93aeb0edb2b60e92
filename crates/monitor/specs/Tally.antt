-- How many messages each node left without any of its own.
use Rattle.std.specs.Prelude.{ℕ, ◌+◌, ◌-◌, ◌≤◌, min, Bool, ◌==◌, ◌||◌, ◌&&◌, nat_lt, if◌then◌else◌, List, length, replicate, fold, slice_index_or, slice_set, All}
use Rattle.std.specs.List.{range_with_len}
use Rattle.tcs_terms.specs.declared.messages.Outgoing.{Outgoing}
use Rattle.tcs_terms.specs.Setups.{has_node, is_node_of}

-- the counts of nodes 1, 2 and so on; none is above this
abbrev pub most : ℕ
most = 1000000

-- the count of a node, 0 where there is no such node
abbrev pub count_of : List ℕ → ℕ → ℕ
count_of counts n = if has_node counts n then slice_index_or counts (n - 1) 0 else 0

-- the count of a node is set back
abbrev pub cleared : List ℕ → ℕ → List ℕ
cleared counts n = if has_node counts n then slice_set counts (n - 1) 0 else counts

-- the count of a node rises by 1, up to the most
abbrev pub raised : List ℕ → ℕ → List ℕ
raised counts n = if has_node counts n then slice_set counts (n - 1) (min (slice_index_or counts (n - 1) 0 + 1) most) else counts

-- the counts after these senders were heard of
abbrev pub heard : List ℕ → List (ℕ × Outgoing) → List ℕ
heard counts sent = fold (λ (counts : List ℕ) (letter : ℕ × Outgoing). cleared counts letter.0) counts sent

-- the counts after one message: its receiver owes one more, unless it is the sender or the configuration service
abbrev pub owes : List ℕ → ℕ × Outgoing → List ℕ
owes counts letter = if (letter.1.to == letter.0) || (letter.1.to == 0) then counts else raised counts letter.1.to

-- the counts after messages were sent at once: first every sender was heard of
abbrev pub counted : List ℕ → List (ℕ × Outgoing) → List ℕ
counted counts sent = fold owes (heard counts sent) sent

-- the counts of a shard's nodes are set back
abbrev pub shard_cleared : List ℕ → ℕ → List ℕ → List ℕ
shard_cleared nodes shard counts = fold (λ (counts : List ℕ) (n : ℕ). if is_node_of nodes shard n then cleared counts n else counts) counts (range_with_len 1 (length nodes))
