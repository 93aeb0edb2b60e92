-- A piece as it comes.
use Rattle.protocol.specs.Records.{Piece}
use Rattle.state_transfer.specs.declared.pieces.StatePiece.{StatePiece}

-- what is kept of it: its number, and its rows
abbrev pub kept_as : StatePiece → Piece
kept_as piece = record { number = piece.number; rows = piece.rows }
