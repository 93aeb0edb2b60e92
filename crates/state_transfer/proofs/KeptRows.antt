-- Pieces that are kept, and one more among them.
use Rattle.std.proofs.Common.{◌≡◌, ◌<◌, Bool, true, false, ◌&&◌, ◌||◌, List, [], ◌∷◌, ◌++◌, length, inl, inr, refl, sym, ap, ◌∙◌}
use Rattle.std.specs.List.{list_any, list_all, insert}
use Rattle.std.proofs.lemmas.Bool.{ltb-true}
use Rattle.std.proofs.lemmas.Bool.Decides.{same_from_decides}
use Rattle.std.proofs.lemmas.List.{map-append}
use Rattle.std.proofs.lemmas.List.Folds.{list_all-append, list_any-append}
use Rattle.std.proofs.Math.Seq.{drop-append_seam, take-append_seam}
use Rattle.tcs_terms.specs.declared.ids.TxId.{TxId}
use Rattle.tcs_terms.specs.declared.logs.Row.{Row}
use Rattle.tcs_terms.specs.Logs.{same_txn, AreRows, SameTxns}
use Rattle.tcs_terms.proofs.BoolLaws.{both, left_of, right_of}
use Rattle.protocol.specs.Invariant.Time.{StandsIn}
use Rattle.protocol.specs.Records.{Piece}
use Rattle.protocol.specs.Pieces.{are_whole, rows_of, with_piece, is_kept}
use Rattle.state_transfer.specs.Apart.{stands_apart, are_new}
use Rattle.state_transfer.specs.Keeping.{KeepsRows}
use Rattle.state_transfer.proofs.Chains.{Chain, cut, joined, Rising, rises_along, ascends_along}
use Rattle.state_transfer.proofs.Wholeness.{txns_of, Precedes, chain_of_whole, whole_of_chain}
use Rattle.state_transfer.proofs.LogParts.{has_slot, chain_of_rows, rows_of_chain}
use Rattle.state_transfer.proofs.Parting.{lower, upper, number_of, parted, lower_number, upper_number}
use Rattle.state_transfer.proofs.Fitting.{parted_rows, Beside, all_rows, whole_with, apart_in_whole}

beside : (kept : List Piece) (keys : List TxId) (piece : Piece) → KeepsRows kept keys → is_kept kept piece.number ≡ false → AreRows piece.rows → Beside kept piece
beside kept keys piece keeps new rows =
    record { whole = chain_of_rows (rows_of kept) keeps.rows; numbers = rises_along number_of kept keeps.numbers; rows = chain_of_rows piece.rows rows; new = new }

-- it does not matter in which order the transactions are kept
new_same : (a b : List TxId) (rows : List Row) → SameTxns a b → are_new a rows ≡ are_new b rows
new_same a b [] same = refl
new_same a b (r ∷ rows) same = rw (same r.entry.txn, new_same a b rows same) refl

-- there is room for a piece exactly where its rows stand apart from each other piece and its transactions are new
pub room_is : (kept : List Piece) (keys : List TxId) (piece : Piece) → KeepsRows kept keys → is_kept kept piece.number ≡ false → AreRows piece.rows
    → (list_all (stands_apart piece.number piece.rows) kept && are_new keys piece.rows) ≡ are_whole (rows_of (with_piece kept piece))
room_is kept keys piece keeps new rows =
    let b = beside kept keys piece keeps new rows in
    let apart = list_all (stands_apart piece.number piece.rows) kept in
    rw (new_same keys (txns_of (rows_of kept)) piece.rows keeps.txns)
    (same_from_decides {P = Chain Precedes (rows_of (with_piece kept piece))} (apart && are_new (txns_of (rows_of kept)) piece.rows) (are_whole (rows_of (with_piece kept piece))) (
      λ h. whole_with kept piece b (left_of apart (are_new (txns_of (rows_of kept)) piece.rows) h) (right_of apart (are_new (txns_of (rows_of kept)) piece.rows) h),
      λ chain. let a = apart_in_whole kept piece b chain in both apart (are_new (txns_of (rows_of kept)) piece.rows) a.apart a.new,
    ) (chain_of_whole (rows_of (with_piece kept piece)), whole_of_chain (rows_of (with_piece kept piece))))

-- ---- a piece more

-- where the piece goes
pub put_in_place : (kept : List Piece) (keys : List TxId) (piece : Piece) → KeepsRows kept keys → is_kept kept piece.number ≡ false
    → insert kept (length (lower piece.number kept)) piece ≡ with_piece kept piece
put_in_place kept keys piece keeps new =
    let low = lower piece.number kept in
    let up = upper piece.number kept in
    let e : kept ≡ low ++ up = sym (parted piece.number kept (rises_along number_of kept keeps.numbers) new) in
    ap (λ (ps : List Piece). insert ps (length low) piece) e ∙ rw (take-append_seam low up, drop-append_seam low up) refl

numbers_rise : (kept : List Piece) (piece : Piece) → Chain (Rising number_of) kept → is_kept kept piece.number ≡ false → Chain (Rising number_of) (with_piece kept piece)
numbers_rise kept piece chain new =
    let low = lower piece.number kept in
    let up = upper piece.number kept in
    let c = cut (Rising number_of) low up (rw (sym (parted piece.number kept chain new)) at chain) in
    let below : (p : Piece) → StandsIn p low → p.number < piece.number = λ p s. ltb-true p.number piece.number (lower_number kept piece p s).1 in
    joined (Rising number_of) low (piece ∷ up) (record {
      first = c.first;
      second = (λ q s. ltb-true piece.number q.number (upper_number kept piece q s).1, c.second);
      across = λ p q s t. elim t [ inl e ↦ rw e (below p s) | inr later ↦ c.across p q s later ];
    })

slots_with : (low rows up : List Row) → list_all has_slot (low ++ up) ≡ true → list_all has_slot rows ≡ true → list_all has_slot (low ++ (rows ++ up)) ≡ true
slots_with low rows up old new =
    let o : (list_all has_slot low && list_all has_slot up) ≡ true = sym (list_all-append has_slot low up) ∙ old in
    rw (list_all-append has_slot low (rows ++ up), list_all-append has_slot rows up)
    (both (list_all has_slot low) (list_all has_slot rows && list_all has_slot up) (left_of (list_all has_slot low) (list_all has_slot up) o)
    (both (list_all has_slot rows) (list_all has_slot up) new (right_of (list_all has_slot low) (list_all has_slot up) o)))

moved : (a b c : Bool) → (b || (a || c)) ≡ (a || (b || c))
moved true true c = refl
moved true false c = refl
moved false b c = refl

txns_with : (keys more : List TxId) (low rows up : List Row) → SameTxns keys (txns_of (low ++ up)) → SameTxns more (txns_of rows ++ keys) → SameTxns more (txns_of (low ++ (rows ++ up)))
txns_with keys more low rows up same added t =
    let p = same_txn t in
    let old : list_any p keys ≡ (list_any p (txns_of low) || list_any p (txns_of up))
    = same t ∙ ap (λ (ts : List TxId). list_any p ts) (map-append (λ r. r.entry.txn) low up) ∙ list_any-append p (txns_of low) (txns_of up) in
    let all : list_any p (txns_of (low ++ (rows ++ up))) ≡ (list_any p (txns_of low) || (list_any p (txns_of rows) || list_any p (txns_of up)))
    = rw (map-append (λ r. r.entry.txn) low (rows ++ up), map-append (λ r. r.entry.txn) rows up, list_any-append p (txns_of low) (txns_of rows ++ txns_of up), list_any-append p (txns_of rows) (txns_of up)) refl in
    added t ∙ list_any-append p (txns_of rows) keys ∙ rw (old, all) (moved (list_any p (txns_of low)) (list_any p (txns_of rows)) (list_any p (txns_of up)))

-- what is kept with a piece more, for which there was room
pub keeps_with : (kept : List Piece) (keys more : List TxId) (piece : Piece) → KeepsRows kept keys → is_kept kept piece.number ≡ false → AreRows piece.rows
    → are_whole (rows_of (with_piece kept piece)) ≡ true → SameTxns more (txns_of piece.rows ++ keys) → KeepsRows (with_piece kept piece) more
keeps_with kept keys more piece keeps new rows whole added =
    let low = lower piece.number kept in
    let up = upper piece.number kept in
    let b = beside kept keys piece keeps new rows in
    let e : rows_of kept ≡ rows_of low ++ rows_of up = parted_rows kept piece b in
    let slots : list_all has_slot (rows_of kept) ≡ true = keeps.rows.slots in
    record {
      numbers = ascends_along number_of (with_piece kept piece) (numbers_rise kept piece b.numbers new);
      rows = rows_of_chain (rows_of (with_piece kept piece)) (chain_of_whole (rows_of (with_piece kept piece)) whole)
          (rw (all_rows kept piece) (slots_with (rows_of low) piece.rows (rows_of up) (rw e at slots) rows.slots));
      txns = rw (all_rows kept piece) (txns_with keys more (rows_of low) piece.rows (rows_of up) (rw e at keeps.txns) added);
    }
