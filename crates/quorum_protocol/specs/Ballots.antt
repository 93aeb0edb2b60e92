-- Ballots and their order, places, and lists of pairs that are read and written by key.
use Rattle.std.specs.Prelude.{ℕ, ◌+◌, ◌==◌, ◌&&◌, ◌||◌, Bool, nat_lt, nat_le, if◌then◌else◌, List, [], ◌∷◌, Option, Some, None}
use Rattle.quorum_protocol.specs.declared.terms.Ballot.{Ballot}
use Rattle.quorum_protocol.specs.declared.terms.Place.{Place}
use Rattle.quorum_protocol.specs.declared.terms.Knows.{Knows}

-- the first is the second
abbrev pub same_ballot : Ballot → Ballot → Bool
same_ballot a b = (a.round == b.round) && (a.proposer == b.proposer)

-- the first is at most the second: its round is below, or the rounds are equal and its proposer is at most
unfoldable pub ballot_le : Ballot → Ballot → Bool
ballot_le a b = nat_lt a.round b.round || ((a.round == b.round) && nat_le a.proposer b.proposer)

-- the ballot below all others
abbrev pub no_ballot : Ballot
no_ballot = record { round = 0; proposer = 0 }

abbrev pub same_place : Place → Place → Bool
same_place a b = (a.acceptor == b.acceptor) && (a.shard == b.shard) && (a.epoch == b.epoch)

abbrev pub same_knows : Knows → Knows → Bool
same_knows a b = (a.proposer == b.proposer) && (a.shard == b.shard)

-- what a list of pairs has under a key, by a test of which keys are one
abbrev pub get : {K X : Type 0} → (K → K → Bool) → List (K × X) → K → Option X
get same [] k = None
get same (e ∷ es) k = if same k e.0 then Some e.1 else get same es k

-- the pairs with this under the key: in the place of what stood there, else as the last
abbrev pub put : {K X : Type 0} → (K → K → Bool) → List (K × X) → K → X → List (K × X)
put same [] k x = (k, x) ∷ []
put same (e ∷ es) k x = if same k e.0 then (e.0, x) ∷ es else e ∷ put same es k x

-- what there is, or else this
abbrev pub or_else : {X : Type 0} → X → Option X → X
or_else x None = x
or_else x (Some y) = y

-- so many are more than half of so many
abbrev pub is_majority : ℕ → ℕ → Bool
is_majority all n = nat_lt all (n + n)
