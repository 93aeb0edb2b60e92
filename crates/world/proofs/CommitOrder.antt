-- The order of commits, with more notes.
use Rattle.std.proofs.Common.{◌≡◌, ℕ, ◌+◌, ◌<◌, length, get_or, take, List, [], ◌∷◌, ◌++◌, sym, ap, ◌∙◌, append_assoc}
use Rattle.std.proofs.lemmas.List.{append-nil, take_more}
use Rattle.std.proofs.lemmas.List.Sums.{fold-append}
use Rattle.tcs_terms.specs.declared.ids.TxId.{TxId}
use Rattle.tcs_terms.specs.declared.inputs.Note.{Note}
use Rattle.protocol.specs.History.{commit_in, order_of}
use Rattle.protocol_laws.specs.Growth.{with_commit}
use Rattle.protocol_laws.proofs.OrderOn.{order-on}
use Rattle.world.specs.Orders.{with_commits}

pub order-after : (h ns : List Note) → order_of (h ++ ns) ≡ with_commits (order_of h) ns
order-after h [] = ap order_of (append-nil h)
order-after h (n ∷ ns) =
    ap order_of (sym (append_assoc h (n ∷ []) ns)) ∙ order-after (h ++ n ∷ []) ns ∙ ap (λ order. with_commits order ns) (order-on h n)

-- the order after the notes up to the next place
pub order-next : (order : List TxId) (ns : List Note) (i : ℕ) (n : Note) → i < length ns → n ≡ get_or ns i n
    → with_commits order (take (i + 1) ns) ≡ with_commit (with_commits order (take i ns)) (commit_in n)
order-next order ns i n lt is =
    ap (with_commits order) (take_more ns i n lt ∙ ap (λ m. take i ns ++ m ∷ []) (sym is))
    ∙ fold-append (λ (so_far : List TxId) note. with_commit so_far (commit_in note)) order (take i ns) (n ∷ [])
