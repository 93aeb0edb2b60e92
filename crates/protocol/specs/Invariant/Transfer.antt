-- State transfer: a new leader has whatever was or will be accepted before, and its followers have what it had.
use Rattle.std.specs.Prelude.{◌≡◌, ℕ, ◌<◌, ◌≤◌, List, map, Some, IsTrue}
use Rattle.tcs_terms.specs.declared.logs.Row.{Row}
use Rattle.tcs_terms.specs.declared.messages.Message.TheVariants.{NewState, StatePiece}
use Rattle.tcs_terms.specs.Order.{ascends}
use Rattle.tcs_terms.specs.Places.{Membership}
use Rattle.tcs_terms.specs.Preparations.{Preparation}
use Rattle.protocol.specs.Pieces.{piece_count, piece_of}
use Rattle.protocol.specs.Records.{Gathering, Piece, NodeRecord}
use Rattle.protocol.specs.Invariant.Time.{Moment, StandsIn, IsNode, IsStored, WasSent}
use Rattle.protocol.specs.Invariant.Logs.{entries_of, Reached, Held, Initial, HasInitial, Listed, HoldsNoMore}

-- a member of an earlier configuration that will hold no more there, and whose entries of it are all among the initial
-- ones of the later one
pub record IsHandedOn (t : Moment) (earlier : Membership) (entries : List Preparation) : Type 0 where
  pub node : NodeRecord
  pub is : IsNode t node
  pub member : StandsIn node.name earlier.members
  pub no_more : HoldsNoMore t earlier.epoch node
  pub inside : (entry : Preparation) → Held t earlier.epoch node.name entry → StandsIn entry entries

-- the rows that a leader sends in pieces: one list, whose entries are the initial ones
pub record IsSentInPieces (t : Moment) (c : Membership) (all : List Row) : Type 0 where
  pub initial : Initial t c (entries_of all)
  pub pieces : (from to number pieces : ℕ) (rows : List Row) → WasSent t from to (StatePiece c number pieces rows)
      → (pieces ≡ piece_count all) × (1 ≤ number) × (number ≤ pieces) × (rows ≡ piece_of all number)

-- a kept piece is that of a message to the node, of the same configuration and number of pieces
abbrev pub IsKeptOf : Moment → NodeRecord → Gathering → Piece → Type 0
IsKeptOf t node g piece =
    (from : ℕ) × WasSent t from node.name (StatePiece g.config piece.number g.pieces piece.rows)

-- Where a configuration has its initial entries, each earlier one is handed on to it. What is sent as its state is those
-- entries. Kept pieces ascend by number, so that all of them together are what was sent. A member that reached it holds
-- at least those, and at most its list. Its initial entries are defined exactly where its leader reached it, and wherever
-- a node reached it or its state was sent.
pub record TransferHolds (t : Moment) : Type 0 where
  pub handed_on : (c earlier : Membership) (entries : List Preparation) → Initial t c entries → IsStored t earlier → earlier.shard ≡ c.shard → earlier.epoch < c.epoch
      → IsHandedOn t earlier entries
  pub once : (c : Membership) (xs ys : List Preparation) → Initial t c xs → Initial t c ys → xs ≡ ys
  pub whole : (from to : ℕ) (c : Membership) (rows : List Row) → WasSent t from to (NewState c rows) → Initial t c (entries_of rows)
  pub pieces : (from to number pieces : ℕ) (c : Membership) (rows : List Row) → WasSent t from to (StatePiece c number pieces rows)
      → (all : List Row) × IsSentInPieces t c all
  pub kept : (node : NodeRecord) (g : Gathering) (piece : Piece) → IsNode t node → node.gathering ≡ Some g → StandsIn piece g.kept → IsKeptOf t node g piece
  pub in_order : (node : NodeRecord) (g : Gathering) → IsNode t node → node.gathering ≡ Some g → IsTrue (ascends (map (λ p. p.number) g.kept))
  pub at_least : (c : Membership) (name : ℕ) (entries : List Preparation) (entry : Preparation) → Initial t c entries → StandsIn name c.members → Reached t c.epoch name
      → StandsIn entry entries → Held t c.epoch name entry
  pub at_most : (c : Membership) (name : ℕ) (entry : Preparation) → IsStored t c → StandsIn name c.members → Held t c.epoch name entry → Listed t c entry
  pub led : (c : Membership) → IsStored t c → Reached t c.epoch c.leader → HasInitial t c
  pub leader_reached : (c : Membership) → HasInitial t c → Reached t c.epoch c.leader
  pub reached_has_initial : (c : Membership) (name : ℕ) → IsStored t c → StandsIn name c.members → Reached t c.epoch name → HasInitial t c
