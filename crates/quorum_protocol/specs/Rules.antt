-- What an acceptor and a proposer do with a message: the rules, one after the other.
use Rattle.std.specs.Prelude.{ℕ, ◌==◌, ◌&&◌, Bool, true, false, if◌then◌else◌, List, [], ◌∷◌, ◌++◌, length, map, Option, Some, None}
use Rattle.std.specs.List.{range_with_len}
use Rattle.tcs_terms.specs.Places.{Membership, is_among}
use Rattle.quorum_protocol.specs.declared.terms.Ballot.{Ballot}
use Rattle.quorum_protocol.specs.declared.terms.Accepted.{Accepted}
use Rattle.quorum_protocol.specs.declared.terms.Message.{Message}
use Rattle.quorum_protocol.specs.declared.terms.Say.{Say}
use Rattle.quorum_protocol.specs.declared.terms.Say.TheVariants.{Put}
use Rattle.quorum_protocol.specs.Ballots.{same_ballot, ballot_le, is_majority}

-- ---- an attempt of a proposer

-- It asks: these acceptors have told, and of the accepted pairs that each told first this is the one of the greatest
-- ballot. It puts: this configuration, and these acceptors keep it. Or it has ended.
pub data Stage : Type 0 where
  Asking : (told : List ℕ) (greatest : Option Accepted) → Stage
  Putting : (value : Membership) (keepers : List ℕ) → Stage
  Ended : Stage

-- a ballot, the configuration that is proposed, and how far the attempt has come
pub record Attempt : Type 0 where
  pub ballot : Ballot
  pub config : Membership
  pub stage : Stage

-- ---- what is sent

abbrev pub message : (from to : ℕ) → Ballot → (shard epoch : ℕ) → Say → Message
message from to ballot shard epoch say = record { from = from; to = to; ballot = ballot; shard = shard; epoch = epoch; say = say }

-- the answer to a message, of its ballot, shard and epoch
abbrev pub answer : Message → Say → Message
answer m say = message m.to m.from m.ballot m.shard m.epoch say

-- the same from the proposer of an attempt to each of so many acceptors
abbrev pub to_all : ℕ → Attempt → Say → List Message
to_all acceptors a say = map (λ to. message a.ballot.proposer to a.ballot a.config.shard a.config.epoch say) (range_with_len 1 acceptors)

-- ---- the accepted pair of the greatest ballot

-- the one of the greater ballot
abbrev pub greater : Option Accepted → Option Accepted → Option Accepted
greater None b = b
greater (Some a) None = Some a
greater (Some a) (Some b) = if ballot_le b.ballot a.ballot then Some a else Some b

-- the configuration to put: that of the greatest accepted ballot told, else the own
abbrev pub value_of : Option Accepted → Membership → Membership
value_of None own = own
value_of (Some a) own = a.config

-- ---- the answers that a proposer counts

-- an acceptor, once
abbrev pub add_once : List ℕ → ℕ → List ℕ
add_once xs x = if is_among xs x then xs else xs ++ x ∷ []

-- the greatest accepted pair told, after an acceptor's answer, of which only the first counts
abbrev pub hear : List ℕ → Option Accepted → ℕ → Option Accepted → Option Accepted
hear told greatest from accepted = if is_among told from then greatest else greater greatest accepted

-- it asks, until a majority has told
abbrev pub asking_or_putting : (acceptors : ℕ) → Membership → (told : List ℕ) (greatest : Option Accepted) → Stage
asking_or_putting acceptors own told greatest =
    if is_majority acceptors (length told) then Putting (value_of greatest own) [] else Asking told greatest

-- the stage after an acceptor told
abbrev pub after_told : (acceptors : ℕ) → Membership → Stage → ℕ → Option Accepted → Stage
after_told acceptors own (Asking told greatest) from accepted = asking_or_putting acceptors own (add_once told from) (hear told greatest from accepted)
after_told acceptors own (Putting value keepers) from accepted = Putting value keepers
after_told acceptors own Ended from accepted = Ended

-- it puts, until a majority keeps
abbrev pub putting_or_ended : (acceptors : ℕ) → Membership → (keepers : List ℕ) → Stage
putting_or_ended acceptors value keepers = if is_majority acceptors (length keepers) then Ended else Putting value keepers

-- the stage after an acceptor kept
abbrev pub after_kept : (acceptors : ℕ) → Stage → ℕ → Stage
after_kept acceptors (Asking told greatest) from = Asking told greatest
after_kept acceptors (Putting value keepers) from = putting_or_ended acceptors value (add_once keepers from)
after_kept acceptors Ended from = Ended

-- what is put with a stage that an answer led to: nothing, unless it puts
abbrev pub puts : (acceptors : ℕ) → Attempt → Stage → List Message
puts acceptors a (Asking told greatest) = []
puts acceptors a (Putting value keepers) = to_all acceptors a (Put value)
puts acceptors a Ended = []

-- what was put, where the attempt ends with it
abbrev pub learns : Stage → Stage → Option Membership
learns (Asking told greatest) new = None
learns (Putting value keepers) (Asking told greatest) = None
learns (Putting value keepers) (Putting value' keepers') = None
learns (Putting value keepers) Ended = Some value
learns Ended new = None

-- ---- which attempt a message is for

abbrev pub is_asking : Stage → Bool
is_asking (Asking told greatest) = true
is_asking (Putting value keepers) = false
is_asking Ended = false

abbrev pub is_putting : Stage → Bool
is_putting (Asking told greatest) = false
is_putting (Putting value keepers) = true
is_putting Ended = false

-- the message is of the attempt's shard, epoch and ballot
abbrev pub is_of : Attempt → Message → Bool
is_of a m = (m.shard == a.config.shard) && (m.epoch == a.config.epoch) && same_ballot m.ballot a.ballot
