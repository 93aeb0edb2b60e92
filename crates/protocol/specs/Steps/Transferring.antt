-- Steps of nodes that become leader or follower of a new configuration.
use Rattle.std.specs.Prelude.{◌≡◌, ℕ, List, [], ◌∷◌, Some}
use Rattle.tcs_terms.specs.declared.logs.Mark.TheVariants.{Undecided}
use Rattle.tcs_terms.specs.declared.logs.Row.{Row}
use Rattle.tcs_terms.specs.declared.messages.Message.TheVariants.{NewConfig, NewState, StatePiece}
use Rattle.tcs_terms.specs.Places.{Membership}
use Rattle.protocol.specs.Outcomes.{to, acts}
use Rattle.protocol.specs.Records.{Gathering, Piece, NodeRecord}
use Rattle.protocol.specs.Records.Role.{Leader, Follower}
use Rattle.protocol.specs.Steps.Nodes.{given, given_2, held_back, too_old, second_1, reads_b, undecided_b, committed_b, leader, follower, fenced, spare}
use Rattle.protocol.specs.Worked.Words.{config, txn, entry, row}
use Rattle.tcs_terms.specs.declared.votes.Vote.TheVariants as votes

-- two rows of a leader, and each alone
abbrev pub row_1 : Row
row_1 = row (entry 1 (txn 4 1) (1 ∷ []) (Some reads_b) votes.Commit) Undecided

abbrev pub two_rows : List Row
two_rows = row_1 ∷ committed_b ∷ []

-- what is gathered for a configuration: its pieces, by number, of so many
abbrev pub gathered : Membership → ℕ → List Piece → Gathering
gathered config pieces kept = record { config = config; pieces = pieces; kept = kept }

abbrev pub piece : ℕ → List Row → Piece
piece number rows = record { number = number; rows = rows }

-- a spare node that gathers
abbrev pub gathering : Gathering → NodeRecord
gathering g = record spare { gathering = Some g }

-- the spare node as follower of the second configuration
abbrev pub following : List Row → NodeRecord
following rows = record spare { role = Follower second_1; state = 2; promised = 2; rows = rows }

-- the second configuration, as another leader would have it, and a later one
abbrev pub rival_1 : Membership
rival_1 = config 1 2 (1 ∷ 2 ∷ 3 ∷ []) 1 4

abbrev pub third_1 : Membership
third_1 = config 1 3 (2 ∷ 3 ∷ []) 2 4

-- NEW_CONFIG makes a fenced node the leader of the epoch that it promised, and its rows go to the followers, whole or
-- in pieces.
pub record Leading : Type 0 where
  pub leads : given fenced 3 (NewConfig second_1)
      ≡ acts (record fenced { role = Leader second_1; state = 2 }) (to 1 (NewState second_1 (undecided_b ∷ [])) ∷ to 3 (NewState second_1 (undecided_b ∷ [])) ∷ [])
  pub leads_in_pieces : given_2 fenced 3 (NewConfig second_1)
      ≡ acts (record fenced { role = Leader second_1; state = 2 }) (to 1 (StatePiece second_1 1 1 (undecided_b ∷ [])) ∷ to 3 (StatePiece second_1 1 1 (undecided_b ∷ [])) ∷ [])
  pub no_rows_are_one_piece : given_2 (record fenced { rows = [] }) 3 (NewConfig second_1)
      ≡ acts (record fenced { role = Leader second_1; state = 2; rows = [] }) (to 1 (StatePiece second_1 1 1 []) ∷ to 3 (StatePiece second_1 1 1 []) ∷ [])
  pub gathering_stays : given_2 (record fenced { gathering = Some (gathered third_1 2 []) }) 3 (NewConfig second_1)
      ≡ acts (record fenced { role = Leader second_1; state = 2; gathering = Some (gathered third_1 2 []) }) (to 1 (StatePiece second_1 1 1 (undecided_b ∷ [])) ∷ to 3 (StatePiece second_1 1 1 (undecided_b ∷ [])) ∷ [])
  pub not_fenced : given (record fenced { role = Leader second_1; state = 2 }) 3 (NewConfig second_1)
      ≡ too_old (record fenced { role = Leader second_1; state = 2 }) 3 8 3
  pub follower : given follower 3 (NewConfig second_1) ≡ held_back follower 3 8 2
  pub lower_promise : given fenced 3 (NewConfig third_1) ≡ held_back fenced 3 8 2
  pub higher_promise : given (record fenced { promised = 3 }) 3 (NewConfig second_1)
      ≡ too_old (record fenced { promised = 3 }) 3 8 3
  pub other_leads : given fenced 3 (NewConfig rival_1) ≡ held_back fenced 3 8 2
  pub other_shard : given fenced 3 (NewConfig (config 2 2 (2 ∷ 4 ∷ []) 2 4)) ≡ held_back fenced 3 8 2

-- NEW_STATE makes a member that does not lead a follower, at an epoch that it may still reach. It acts under version
-- 1 alone.
pub record Following : Type 0 where
  pub follows : given spare 2 (NewState second_1 two_rows) ≡ acts (following two_rows) []
  pub from_an_older_epoch : given (record leader { rows = [] }) 2 (NewState second_1 two_rows)
      ≡ acts (record leader { role = Follower second_1; state = 2; promised = 2; rows = two_rows }) []
  pub own_epoch : given (following two_rows) 2 (NewState second_1 []) ≡ too_old (following two_rows) 2 9 3
  pub below_the_promise : given (record spare { promised = 3 }) 2 (NewState second_1 two_rows)
      ≡ too_old (record spare { promised = 3 }) 2 9 3
  pub no_member : given spare 2 (NewState (config 1 2 (1 ∷ 2 ∷ []) 2 3) two_rows) ≡ held_back spare 2 9 1
  pub the_leader_itself : given fenced 2 (NewState second_1 two_rows) ≡ held_back fenced 2 9 2
  pub other_shard : given spare 2 (NewState (config 2 2 (3 ∷ 4 ∷ []) 4 3) two_rows) ≡ held_back spare 2 9 1
  pub under_version_2 : given_2 spare 2 (NewState second_1 two_rows) ≡ held_back spare 2 9 1

-- STATE_PIECE adds a piece that fits what is gathered for its configuration; with the last one the node follows. It
-- acts under version 2 alone.
pub record GatheringPieces : Type 0 where
  pub first_piece : given_2 spare 2 (StatePiece second_1 2 2 (committed_b ∷ []))
      ≡ acts (gathering (gathered second_1 2 (piece 2 (committed_b ∷ []) ∷ []))) []
  pub last_piece : given_2 (gathering (gathered second_1 2 (piece 2 (committed_b ∷ []) ∷ []))) 2 (StatePiece second_1 1 2 (row_1 ∷ []))
      ≡ acts (following two_rows) []
  pub in_the_middle : given_2 (gathering (gathered second_1 3 (piece 2 (committed_b ∷ []) ∷ []))) 2 (StatePiece second_1 1 3 (row_1 ∷ []))
      ≡ acts (gathering (gathered second_1 3 (piece 1 (row_1 ∷ []) ∷ piece 2 (committed_b ∷ []) ∷ []))) []
  pub only_piece : given_2 spare 2 (StatePiece second_1 1 1 two_rows) ≡ acts (following two_rows) []
  pub kept_piece_stays : given_2 (gathering (gathered second_1 2 (piece 2 (committed_b ∷ []) ∷ []))) 2 (StatePiece second_1 2 2 (row_1 ∷ []))
      ≡ acts (gathering (gathered second_1 2 (piece 2 (committed_b ∷ []) ∷ []))) []
  pub lower_gathering_is_replaced : given_2 (gathering (gathered second_1 2 (piece 2 (committed_b ∷ []) ∷ []))) 2 (StatePiece third_1 1 2 (row_1 ∷ []))
      ≡ acts (gathering (gathered third_1 2 (piece 1 (row_1 ∷ []) ∷ []))) []
  pub other_number_of_pieces : given_2 (gathering (gathered second_1 2 (piece 2 (committed_b ∷ []) ∷ []))) 2 (StatePiece second_1 1 3 (row_1 ∷ []))
      ≡ held_back (gathering (gathered second_1 2 (piece 2 (committed_b ∷ []) ∷ []))) 2 17 1
  pub slots_do_not_ascend : given_2 (gathering (gathered second_1 2 (piece 2 (row_1 ∷ []) ∷ []))) 2 (StatePiece second_1 1 2 (committed_b ∷ []))
      ≡ held_back (gathering (gathered second_1 2 (piece 2 (row_1 ∷ []) ∷ []))) 2 17 1
  pub transaction_twice : given_2 (gathering (gathered second_1 2 (piece 2 (committed_b ∷ []) ∷ []))) 2 (StatePiece second_1 1 2 (row (entry 1 (txn 3 1) (1 ∷ []) (Some reads_b) votes.Commit) Undecided ∷ []))
      ≡ held_back (gathering (gathered second_1 2 (piece 2 (committed_b ∷ []) ∷ []))) 2 17 1
  pub number_too_great : given_2 (gathering (gathered second_1 2 (piece 1 (row_1 ∷ []) ∷ []))) 2 (StatePiece second_1 3 2 (committed_b ∷ []))
      ≡ held_back (gathering (gathered second_1 2 (piece 1 (row_1 ∷ []) ∷ []))) 2 17 1
  pub rival_configuration : given_2 (gathering (gathered second_1 2 (piece 2 (committed_b ∷ []) ∷ []))) 1 (StatePiece rival_1 1 2 (row_1 ∷ []))
      ≡ held_back (gathering (gathered second_1 2 (piece 2 (committed_b ∷ []) ∷ []))) 1 17 1
  pub higher_gathering_stays : given_2 (gathering (gathered third_1 2 (piece 1 (row_1 ∷ []) ∷ []))) 2 (StatePiece second_1 1 2 (row_1 ∷ []))
      ≡ held_back (gathering (gathered third_1 2 (piece 1 (row_1 ∷ []) ∷ []))) 2 17 1
  pub own_epoch : given_2 (following two_rows) 2 (StatePiece second_1 1 1 []) ≡ too_old (following two_rows) 2 17 3
  pub no_member : given_2 spare 2 (StatePiece (config 1 2 (1 ∷ 2 ∷ []) 2 3) 1 1 two_rows) ≡ held_back spare 2 17 1
  pub other_shard : given_2 spare 2 (StatePiece (config 2 2 (3 ∷ 4 ∷ []) 4 3) 1 1 two_rows) ≡ held_back spare 2 17 1
  pub under_version_1 : given spare 2 (StatePiece second_1 1 1 two_rows) ≡ held_back spare 2 17 1
