-- State in pieces (this project's own): how a leader's rows are cut, and how a follower gathers them.
use Rattle.std.specs.Prelude.{ℕ, ◌+◌, ◌-◌, ◌*◌, ◌/◌, max, Bool, true, ◌&&◌, ◌||◌, ◌==◌, nat_lt, nat_le, if◌then◌else◌, List, [], ◌∷◌, ◌++◌, filter, map, length, take, drop, Option, Some, None, flat_map}
use Rattle.std.specs.List.{list_any}
use Rattle.tcs_terms.specs.declared.limits.TheConstants.{MAX_PIECE_ROWS}
use Rattle.tcs_terms.specs.declared.logs.Row.{Row}
use Rattle.tcs_terms.specs.Logs.{txns_differ}
use Rattle.tcs_terms.specs.Order.{ascends}
use Rattle.tcs_terms.specs.Places.{Membership}
use Rattle.protocol.specs.Records.{Piece, Gathering}
use Rattle.protocol.specs.Views.{same_config}

-- into how many pieces of at most 24 rows a list of rows is cut: at least one
abbrev pub piece_count : List Row → ℕ
piece_count rows = max 1 ((length rows + 23) / MAX_PIECE_ROWS)

-- the piece of that number, from 1
abbrev pub piece_of : List Row → ℕ → List Row
piece_of rows number = take MAX_PIECE_ROWS (drop (MAX_PIECE_ROWS * (number - 1)) rows)

-- whether a piece of that number is kept
abbrev pub is_kept : List Piece → ℕ → Bool
is_kept kept number = list_any (λ p. p.number == number) kept

-- the pieces with one more in its place
abbrev pub with_piece : List Piece → Piece → List Piece
with_piece kept piece =
    filter (λ p. nat_lt p.number piece.number) kept ++ piece ∷ filter (λ p. nat_lt piece.number p.number) kept

-- all rows of the pieces, in order
abbrev pub rows_of : List Piece → List Row
rows_of kept = flat_map (λ p. p.rows) kept

-- whether rows may stand together in a log: slots ascend and transactions are distinct
abbrev pub are_whole : List Row → Bool
are_whole rows = ascends (map (λ r. r.entry.slot) rows) && txns_differ (map (λ r. r.entry.txn) rows)

-- Whether a piece fits what is gathered: the number of pieces is the same, its own number is one of them, and it is
-- kept already or its rows stand well between those that are kept.
abbrev pub fits : Gathering → ℕ → Piece → Bool
fits g pieces piece =
    (g.pieces == pieces) && nat_le 1 piece.number && nat_le piece.number pieces
    && (is_kept g.kept piece.number || are_whole (rows_of (with_piece g.kept piece)))

-- a piece is added; one that is kept already stays
abbrev pub with_one_more : Gathering → Piece → Gathering
with_one_more g piece = if is_kept g.kept piece.number then g else
    record { config = g.config; pieces = g.pieces; kept = with_piece g.kept piece }

-- whether every piece is there
abbrev pub is_whole : Gathering → Bool
is_whole g = length g.kept == g.pieces

-- a gathering as it begins
abbrev pub begun : Membership → ℕ → Gathering
begun config pieces = record { config = config; pieces = pieces; kept = [] }

-- whether what is gathered is for that configuration
abbrev pub is_gathering_of : Gathering → Membership → Bool
is_gathering_of g config = same_config g.config config

-- Whether a piece for a configuration may be taken: nothing is gathered, or for a lower epoch, or for this
-- configuration and the piece fits.
abbrev pub takes_piece : Option Gathering → Membership → ℕ → Piece → Bool
takes_piece None config pieces piece = true
takes_piece (Some g) config pieces piece =
    nat_lt g.config.epoch config.epoch || (is_gathering_of g config && fits g pieces piece)

-- what is gathered for a configuration: what was, if it was for that configuration, else nothing yet
abbrev pub gathering_for : Option Gathering → Membership → ℕ → Gathering
gathering_for None config pieces = begun config pieces
gathering_for (Some g) config pieces = if is_gathering_of g config then g else begun config pieces

-- what is gathered once an epoch is promised: nothing for a lower epoch
abbrev pub gathered_from : ℕ → Option Gathering → Option Gathering
gathered_from epoch None = None
gathered_from epoch (Some g) = if nat_lt g.config.epoch epoch then None else Some g
