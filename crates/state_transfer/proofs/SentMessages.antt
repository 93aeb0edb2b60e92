-- One message more.
use Rattle.std.proofs.Common.{◌≡◌, ℕ, ◌+◌, List, [], ◌∷◌, ◌++◌, map, refl, arith, append_assoc}
use Rattle.std.specs.List.{range_with_len}
use Rattle.std.proofs.lemmas.List.FromFn.{map-range_with_len_more}
use Rattle.tcs_terms.specs.declared.logs.Row.{Row}
use Rattle.tcs_terms.specs.declared.messages.Message.{Message}
use Rattle.tcs_terms.specs.declared.messages.Message.TheVariants.{StatePiece}
use Rattle.tcs_terms.specs.declared.messages.Outgoing.{Outgoing}
use Rattle.tcs_terms.specs.Places.{Membership}
use Rattle.protocol.specs.Outcomes.{to}
use Rattle.protocol.specs.Pieces.{piece_count, piece_of}
use Rattle.state_transfer.specs.Sent.{piece_to}

pub piece_more : (config : Membership) (rows : List Row) (node before : ℕ) (front sent more : List Outgoing) (message : Message)
    → sent ≡ front ++ map (piece_to config rows node) (range_with_len 1 before) → message ≡ StatePiece config (before + 1) (piece_count rows) (piece_of rows (before + 1)) → more ≡ sent ++ to node message ∷ []
    → more ≡ front ++ map (piece_to config rows node) (range_with_len 1 (before + 1))
piece_more config rows node before front sent more message so_far is pushed =
    let last : to node message ≡ piece_to config rows node (before + 1) = rw is refl in
    rw (pushed, so_far, last, map-range_with_len_more (piece_to config rows node) 1 before (before + 1) (omega arith))
    (append_assoc front (map (piece_to config rows node) (range_with_len 1 before)) (piece_to config rows node (before + 1) ∷ []))
