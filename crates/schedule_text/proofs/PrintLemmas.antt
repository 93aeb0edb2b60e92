-- What printers write in a loop, and what they keep.
use Rattle.std.proofs.Common.{◌≡◌, ℕ, ◌+◌, ◌<◌, List, [], ◌∷◌, ◌++◌, length, get_or, take, sym, ◌∙◌, ap, append_assoc, arith}
use Rattle.std.specs.List.{flat_map}
use Rattle.std.proofs.lemmas.List.{append-nil, take_more, length-take-le}
use Rattle.std.proofs.lemmas.List.Concat.{flat_map-append}
use Rattle.schedule_text.specs.Text.{node_line, node_lines, with_feed}

pub node_lines_end : (first : ℕ) (ss : List ℕ) (s : ℕ) → node_lines first (ss ++ s ∷ []) ≡ node_lines first ss ++ node_line (first + length ss) s ∷ []
node_lines_end first [] s = ap (λ n. node_line n s ∷ []) (omega arith)
node_lines_end first (x ∷ ss) s =
    ap (λ (ls : List (List ℕ)). node_line first x ∷ ls) (node_lines_end (first + 1) ss s ∙ ap (λ n. node_lines (first + 1) ss ++ node_line n s ∷ []) (omega arith))

-- one more node
pub one_more_node : (before out written : List ℕ) (nodes : List ℕ) (i shard node : ℕ) → i < length nodes → node ≡ i + 1
    → written ≡ before ++ flat_map with_feed (node_lines 1 (take i nodes)) → out ≡ written ++ with_feed (node_line node (get_or nodes i shard))
    → out ≡ before ++ flat_map with_feed (node_lines 1 (take (i + 1) nodes))
one_more_node before out written nodes i shard node inside counted so_far now =
    let front = node_lines 1 (take i nodes) in
    let line = node_line node (get_or nodes i shard) in
    let place : 1 + length (take i nodes) ≡ node = omega (arith, length-take-le i nodes (omega arith)) in
    let lines : node_lines 1 (take (i + 1) nodes) ≡ front ++ line ∷ [] =
    ap (node_lines 1) (take_more nodes i shard inside) ∙ node_lines_end 1 (take i nodes) (get_or nodes i shard) ∙ ap (λ n. front ++ node_line n (get_or nodes i shard) ∷ []) place in
    now ∙ ap (λ (t : List ℕ). t ++ with_feed line) so_far ∙ append_assoc before (flat_map with_feed front) (with_feed line)
    ∙ ap (λ (t : List ℕ). before ++ t) (sym (ap (flat_map with_feed) lines ∙ flat_map-append with_feed front (line ∷ []) ∙ ap (λ (t : List ℕ). flat_map with_feed front ++ t) (append-nil (with_feed line))))
