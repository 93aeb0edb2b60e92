use Rattle.std.proofs.Common.{◌≡◌, ◌+◌, ◌-◌, ◌≤◌, vec_len}
use Rattle.schedule_text.specs.Words.{nodes_at}
use Rattle.schedule_text.proofs.NodeLoops.{with_front}
use Rattle.schedule_text.proofs.node_lists.nodes.Given as goal

abbrev pub invariant-nodes : goal.invariant-nodes
invariant-nodes l = record {
  few : vec_len l.list ≤ l.most;
  so_far : with_front l.list.items (nodes_at l.all l.shard (l.most - vec_len l.list) l.last l.words) ≡ nodes_at l.all l.shard l.most 0 l.initial.words;
}

abbrev pub decreases-nodes : goal.decreases-nodes
decreases-nodes l = l.most + 1 - vec_len l.list
