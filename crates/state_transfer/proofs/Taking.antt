-- A piece that may be taken fits what is gathered for its configuration.
use Rattle.std.proofs.Common.{◌≡◌, ℕ, ◌≤◌, Bool, true, false, ◌&&◌, ◌||◌, ltb, leb, eqb, cond, [], Option, Some, None, refl, arith}
use Rattle.std.specs.Prelude.{nat_eq}
use Rattle.std.specs.Cmp.Lexicographic.{pointwise}
use Rattle.std.proofs.lemmas.Bool.{eqb-true, eq-eqb, le-leb, ltb-true}
use Rattle.std.proofs.lemmas.List.{append-nil}
use Rattle.tcs_terms.specs.Logs.{AreRows}
use Rattle.tcs_terms.specs.Places.{Membership}
use Rattle.tcs_terms.proofs.BoolLaws.{both, left_of, right_of}
use Rattle.protocol.specs.Records.{Piece, Gathering}
use Rattle.protocol.specs.Pieces.{are_whole, begun, fits, gathering_for, is_gathering_of, is_kept, rows_of, takes_piece, with_piece}
use Rattle.protocol.specs.Views.{same_config}
use Rattle.state_transfer.proofs.Wholeness.{whole_of_chain}
use Rattle.state_transfer.proofs.LogParts.{chain_of_rows}

-- a piece, its number in range and its rows those of a log
record IsPiece (pieces : ℕ) (piece : Piece) : Type 0 where
  from_one : 1 ≤ piece.number
  one_of : piece.number ≤ pieces
  rows : AreRows piece.rows

first_fits : (config : Membership) (pieces : ℕ) (piece : Piece) → IsPiece pieces piece → fits (begun config pieces) pieces piece ≡ true
first_fits config pieces piece is =
    let whole : are_whole (rows_of (with_piece [] piece)) ≡ true = rw (append-nil piece.rows) (whole_of_chain piece.rows (chain_of_rows piece.rows is.rows)) in
    both (eqb pieces pieces && leb 1 piece.number && leb piece.number pieces) (is_kept [] piece.number || are_whole (rows_of (with_piece [] piece)))
    (both (eqb pieces pieces && leb 1 piece.number) (leb piece.number pieces)
    (both (eqb pieces pieces) (leb 1 piece.number) (eq-eqb pieces pieces refl) (le-leb 1 piece.number is.from_one)) (le-leb piece.number pieces is.one_of))
    whole

same_epoch : (a b : Membership) → same_config a b ≡ true → a.epoch ≡ b.epoch
same_epoch a b same =
    eqb-true a.epoch b.epoch (right_of (eqb a.shard b.shard) (eqb a.epoch b.epoch)
    (left_of (eqb a.shard b.shard && eqb a.epoch b.epoch) (pointwise nat_eq a.members b.members)
    (left_of (eqb a.shard b.shard && eqb a.epoch b.epoch && pointwise nat_eq a.members b.members) (eqb a.leader b.leader)
    (left_of (eqb a.shard b.shard && eqb a.epoch b.epoch && pointwise nat_eq a.members b.members && eqb a.leader b.leader) (eqb a.by b.by) same))))

fits_itself : (g : Gathering) (pieces : ℕ) (piece : Piece) → fits g pieces piece ≡ true → fits g g.pieces piece ≡ true
fits_itself g pieces piece h =
    let kept = is_kept g.kept piece.number || are_whole (rows_of (with_piece g.kept piece)) in
    let numbers = left_of (eqb g.pieces pieces && leb 1 piece.number && leb piece.number pieces) kept h in
    let same = eqb-true g.pieces pieces (left_of (eqb g.pieces pieces) (leb 1 piece.number) (left_of (eqb g.pieces pieces && leb 1 piece.number) (leb piece.number pieces) numbers)) in
    rw (← same) at h

fits_for : (gathering : Option Gathering) (config : Membership) (pieces : ℕ) (piece : Piece) → IsPiece pieces piece → takes_piece gathering config pieces piece ≡ true
    → fits (gathering_for gathering config pieces) (gathering_for gathering config pieces).pieces piece ≡ true
fits_for None config pieces piece is takes = first_fits config pieces piece is
fits_for (Some g) config pieces piece is takes = go (is_gathering_of g config) refl (ltb g.config.epoch config.epoch) refl takes where
  go : (own : Bool) → is_gathering_of g config ≡ own → (lower : Bool) → ltb g.config.epoch config.epoch ≡ lower → (lower || (own && fits g pieces piece)) ≡ true
      → fits (cond own g (begun config pieces)) (cond own g (begun config pieces)).pieces piece ≡ true
  go true e true f takes = absurd (let same = same_epoch g.config config e in let below = ltb-true g.config.epoch config.epoch f in omega arith)
  go true e false f takes = fits_itself g pieces piece takes
  go false e lower f takes = first_fits config pieces piece is

pub fits_once_taken : (gathering : Option Gathering) (config : Membership) (pieces : ℕ) (piece : Piece) → takes_piece gathering config pieces piece ≡ true
    → 1 ≤ piece.number → piece.number ≤ pieces → AreRows piece.rows → fits (gathering_for gathering config pieces) (gathering_for gathering config pieces).pieces piece ≡ true
fits_once_taken gathering config pieces piece takes from_one one_of rows = fits_for gathering config pieces piece (record { from_one = from_one; one_of = one_of; rows = rows }) takes
