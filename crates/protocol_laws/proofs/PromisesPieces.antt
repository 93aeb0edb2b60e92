-- The rows that a node gathers may stand in a log, piece by piece.
use Rattle.std.proofs.Common.{◌≡◌, ℕ, ◌<◌, Bool, true, false, cond, List, [], ◌∷◌, ◌++◌, map, filter, take, drop, Option, Some, None, ◌==◌, ◌&&◌, ◌||◌, ◌⊎◌, inl, inr, sym, subst, refl, arith, ltb-true, nat_le, nat_lt, ◌*◌, ◌-◌, ap}
use Rattle.std.proofs.lemmas.List.{map-append, append-nil, take-append-drop}
use Rattle.std.proofs.lemmas.Grind.{flat_map-append}
use Rattle.tcs_terms.specs.declared.limits.TheConstants.{MAX_PIECE_ROWS}
use Rattle.tcs_terms.specs.declared.logs.Row.{Row}
use Rattle.tcs_terms.specs.Logs.{txns_differ, AreRows}
use Rattle.tcs_terms.specs.Order.{ascends}
use Rattle.tcs_terms.specs.Places.{Membership}
use Rattle.tcs_terms.proofs.BoolLaws.{left_of, right_of}
use Rattle.protocol.specs.Pieces.{piece_of, is_kept, with_piece, rows_of, are_whole, fits, with_one_more, begun, is_gathering_of, takes_piece, gathering_for}
use Rattle.protocol.specs.Records.{Piece, Gathering}
use Rattle.protocol.specs.Invariant.Logs.{entries_of}
use Rattle.protocol.specs.Invariant.Time.{StandsIn}
use Rattle.protocol.proofs.Lists.{StandsIn-append, all-StandsIn}
use Rattle.protocol_laws.proofs.PromisesOrder.{slot_fits, InOrder, rows-in_order, in_order-rows, in_order-left, in_order-right}
use Rattle.protocol_laws.proofs.Standing.{StandsIn-left, StandsIn-right, all-from}
use Rattle.std.proofs.lemmas.Bool.{false_from_ne_true}
use Rattle.protocol_laws.proofs.TransferPieces.{same_config-is}

-- a part of rows that may stand in a log may stand in one
pub piece-rows : (rows : List Row) (number : ℕ) → AreRows rows → AreRows (piece_of rows number)
piece-rows rows number a = take-rows MAX_PIECE_ROWS (drop (MAX_PIECE_ROWS * (number - 1)) rows) (drop-rows (MAX_PIECE_ROWS * (number - 1)) rows a)
  where
    parts : (n : ℕ) (xs : List Row) → AreRows xs → InOrder (entries_of (take n xs) ++ entries_of (drop n xs))
    parts n xs b = subst InOrder (map-append (λ r. r.entry) (take n xs) (drop n xs)) (subst (λ ys. InOrder (entries_of ys)) (sym (take-append-drop n xs)) (rows-in_order xs b))

    take-rows : (n : ℕ) (xs : List Row) → AreRows xs → AreRows (take n xs)
    take-rows n xs b = in_order-rows (take n xs) (in_order-left (entries_of (take n xs)) (entries_of (drop n xs)) (parts n xs b))

    drop-rows : (n : ℕ) (xs : List Row) → AreRows xs → AreRows (drop n xs)
    drop-rows n xs b = in_order-rows (drop n xs) (in_order-right (entries_of (take n xs)) (entries_of (drop n xs)) (parts n xs b))

filtered-rows : (test : Piece → Bool) (kept : List Piece) (r : Row) → StandsIn r (rows_of (filter test kept)) → StandsIn r (rows_of kept)
filtered-rows test [] r s = s
filtered-rows test (p ∷ ps) r s = go (test p) s (filtered-rows test ps r)
  where
    go : (b : Bool) → StandsIn r (rows_of (cond b (p ∷ filter test ps) (filter test ps))) → (StandsIn r (rows_of (filter test ps)) → StandsIn r (rows_of ps)) → StandsIn r (p.rows ++ rows_of ps)
    go true q ih = elim (StandsIn-append p.rows (rows_of (filter test ps)) r q) [ inl a ↦ StandsIn-left p.rows (rows_of ps) r a | inr b ↦ StandsIn-right p.rows (rows_of ps) r (ih b) ]
    go false q ih = StandsIn-right p.rows (rows_of ps) r (ih q)

-- a row of pieces with one more is of the pieces, or of that one
more-rows : (kept : List Piece) (piece : Piece) (r : Row) → StandsIn r (rows_of (with_piece kept piece)) → StandsIn r (rows_of kept) ⊎ StandsIn r piece.rows
more-rows kept piece r s =
    let low : List Piece = filter (λ p. nat_lt p.number piece.number) kept in
    let high : List Piece = filter (λ p. nat_lt piece.number p.number) kept in
    elim (StandsIn-append (rows_of low) (piece.rows ++ rows_of high) r (subst (λ rs. StandsIn r rs) (flat_map-append (λ p. p.rows) low (piece ∷ high)) s)) [
      | inl a ↦ inl (filtered-rows (λ p. nat_lt p.number piece.number) kept r a)
      | inr b ↦ elim (StandsIn-append piece.rows (rows_of high) r b) [ inl c ↦ inr c | inr d ↦ inl (filtered-rows (λ p. nat_lt piece.number p.number) kept r d) ]
    ]

row-fits : (rows : List Row) (r : Row) → AreRows rows → StandsIn r rows → slot_fits r.entry ≡ true
row-fits rows r a s = all-StandsIn (λ q. slot_fits q.entry) rows r a.slots s

-- one piece alone
alone-rows : (config : Membership) (pieces : ℕ) (piece : Piece) → AreRows piece.rows → AreRows (rows_of (with_one_more (begun config pieces) piece).kept)
alone-rows config pieces piece a = subst AreRows (sym (append-nil piece.rows)) a

-- pieces that are whole with one more
whole-rows : (kept : List Piece) (piece : Piece) → AreRows (rows_of kept) → AreRows piece.rows → are_whole (rows_of (with_piece kept piece)) ≡ true → AreRows (rows_of (with_piece kept piece))
whole-rows kept piece a b w =
    let rows : List Row = rows_of (with_piece kept piece) in
    record {
      slots_ascend = left_of (ascends (map (λ r. r.entry.slot) rows)) (txns_differ (map (λ r. r.entry.txn) rows)) w;
      slots = all-from (λ r. slot_fits r.entry) rows (λ r s. elim (more-rows kept piece r s) [ inl p ↦ row-fits (rows_of kept) r a p | inr q ↦ row-fits piece.rows r b q ]);
      txns_differ = right_of (ascends (map (λ r. r.entry.slot) rows)) (txns_differ (map (λ r. r.entry.txn) rows)) w;
    }

not-below : (a b : ℕ) → a ≡ b → nat_lt a b ≡ false
not-below a b e = false_from_ne_true (nat_lt a b) (λ q. let l : a < b = ltb-true a b q in omega (arith, l, e))

-- what is gathered after a piece that may be taken
pub gathered-rows : (g : Option Gathering) (config : Membership) (pieces : ℕ) (piece : Piece) → takes_piece g config pieces piece ≡ true → AreRows piece.rows
    → ((old : Gathering) → g ≡ Some old → AreRows (rows_of old.kept)) → AreRows (rows_of (with_one_more (gathering_for g config pieces) piece).kept)
gathered-rows None config pieces piece t a h = alone-rows config pieces piece a
gathered-rows (Some g) config pieces piece t a h = go (is_gathering_of g config) refl t
  where
    into : (b : Bool) → is_kept g.kept piece.number ≡ b → (b || are_whole (rows_of (with_piece g.kept piece))) ≡ true → AreRows (rows_of (cond b g (record { config = g.config; pieces = g.pieces; kept = with_piece g.kept piece })).kept)
    into true e w = h g refl
    into false e w = whole-rows g.kept piece (h g refl) a w

    take : (b : Bool) → b ≡ false → (b || fits g pieces piece) ≡ true → fits g pieces piece ≡ true
    take true e k = absurd (cc e)
    take false e k = k

    go : (b : Bool) → is_gathering_of g config ≡ b → (nat_lt g.config.epoch config.epoch || (b && fits g pieces piece)) ≡ true → AreRows (rows_of (with_one_more (cond b g (begun config pieces)) piece).kept)
    go true e k =
        let f : fits g pieces piece ≡ true = take (nat_lt g.config.epoch config.epoch) (not-below g.config.epoch config.epoch (ap (λ (c : Membership). c.epoch) (same_config-is g.config config e))) k in
        into (is_kept g.kept piece.number) refl (right_of ((g.pieces == pieces) && nat_le 1 piece.number && nat_le piece.number pieces) (is_kept g.kept piece.number || are_whole (rows_of (with_piece g.kept piece))) f)
    go false e k = alone-rows config pieces piece a
