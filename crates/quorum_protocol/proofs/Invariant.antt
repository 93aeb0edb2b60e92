-- What holds of the world of every run: the ballot invariant of Paxos, part by part.
use Rattle.std.proofs.Common.{◌≡◌, ℕ, ◌+◌, ◌<◌, ◌≤◌, true, List, length, Option, Some}
use Rattle.tcs_terms.specs.Places.{Membership}
use Rattle.quorum_protocol.specs.declared.terms.Ballot.{Ballot}
use Rattle.quorum_protocol.specs.declared.terms.Accepted.{Accepted}
use Rattle.quorum_protocol.specs.declared.terms.Place.{Place}
use Rattle.quorum_protocol.specs.declared.terms.Knows.{Knows}
use Rattle.quorum_protocol.specs.declared.terms.Message.{Message}
use Rattle.quorum_protocol.specs.declared.terms.Say.{Say}
use Rattle.quorum_protocol.specs.declared.terms.Say.TheVariants.{Ask, Told, Put, Kept}
use Rattle.quorum_protocol.specs.declared.terms.Event.{Event}
use Rattle.quorum_protocol.specs.declared.terms.Stored.{Stored}
use Rattle.quorum_protocol.specs.Ballots.{is_majority}
use Rattle.quorum_protocol.specs.Rules.{Stage, Attempt, is_asking}
use Rattle.quorum_protocol.specs.Rules.Stage.{Asking, Putting, Ended}
use Rattle.quorum_protocol.specs.World.{World, promise_of, accepted_of, attempt_of, round_of, known_of}
use Rattle.quorum_protocol.specs.Theorem.{StandsIn, IsProposed, HasNote}
use Rattle.quorum_protocol.proofs.BallotLaws.{Le, Lt}
use Rattle.quorum_protocol.proofs.Standing.{Distinct}

-- ---- what was sent

-- this configuration was put in this ballot
pub record WasPut (w : World) (shard epoch : ℕ) (ballot : Ballot) (config : Membership) : Type 0 where
  pub sent : Message
  pub stands : StandsIn sent w.messages
  pub say_is : sent.say ≡ Put config
  pub ballot_is : sent.ballot ≡ ballot
  pub shard_is : sent.shard ≡ shard
  pub epoch_is : sent.epoch ≡ epoch

-- this acceptor kept what was put in this ballot
pub record WasKept (w : World) (shard epoch : ℕ) (ballot : Ballot) (acceptor : ℕ) : Type 0 where
  pub sent : Message
  pub stands : StandsIn sent w.messages
  pub say_is : sent.say ≡ Kept
  pub from_is : sent.from ≡ acceptor
  pub ballot_is : sent.ballot ≡ ballot
  pub shard_is : sent.shard ≡ shard
  pub epoch_is : sent.epoch ≡ epoch

-- there is a pair, of this ballot or a greater one
pub record Covers (pair : Option Accepted) (ballot : Ballot) : Type 0 where
  pub one : Accepted
  pub is : pair ≡ Some one
  pub above : Le ballot one.ballot

-- this acceptor told in this ballot, and what it told is not above this pair
pub record HasTold (w : World) (shard epoch : ℕ) (ballot : Ballot) (greatest : Option Accepted) (acceptor : ℕ) : Type 0 where
  pub sent : Message
  pub stands : StandsIn sent w.messages
  pub pair : Option Accepted
  pub say_is : sent.say ≡ Told pair
  pub from_is : sent.from ≡ acceptor
  pub ballot_is : sent.ballot ≡ ballot
  pub shard_is : sent.shard ≡ shard
  pub epoch_is : sent.epoch ≡ epoch
  pub covered : (x : Accepted) → pair ≡ Some x → Covers greatest x.ballot

-- these acceptors told in this ballot, and this is the greatest pair that they told: it was put in a lower ballot
pub record Heard (w : World) (shard epoch : ℕ) (ballot : Ballot) (told : List ℕ) (greatest : Option Accepted) : Type 0 where
  pub distinct : Distinct told
  pub each : (a : ℕ) → StandsIn a told → HasTold w shard epoch ballot greatest a
  pub put : (x : Accepted) → greatest ≡ Some x → WasPut w shard epoch x.ballot x.config
  pub below : (x : Accepted) → greatest ≡ Some x → Lt x.ballot ballot

-- a majority told in this ballot, and the configuration is that of the greatest pair told, if there was any
pub record Safe (w : World) (shard epoch : ℕ) (ballot : Ballot) (config : Membership) : Type 0 where
  pub told : List ℕ
  pub greatest : Option Accepted
  pub heard : Heard w shard epoch ballot told greatest
  pub many : is_majority w.acceptors (length told) ≡ true
  pub value : (x : Accepted) → greatest ≡ Some x → config ≡ x.config

-- these acceptors keep what was put in this ballot
pub record Keeps (w : World) (shard epoch : ℕ) (ballot : Ballot) (config : Membership) (keepers : List ℕ) : Type 0 where
  pub put : WasPut w shard epoch ballot config
  pub distinct : Distinct keepers
  pub each : (a : ℕ) → StandsIn a keepers → WasKept w shard epoch ballot a

-- a majority does: the configuration is chosen
pub record Chosen (w : World) (config : Membership) : Type 0 where
  pub ballot : Ballot
  pub keepers : List ℕ
  pub keep : Keeps w config.shard config.epoch ballot config keepers
  pub many : is_majority w.acceptors (length keepers) ≡ true

-- ---- what each message says

abbrev pub IsAcceptor : World → ℕ → Type 0
IsAcceptor w a = (1 ≤ a) × (a ≤ w.acceptors)

-- what the sender has of the message's shard and epoch
abbrev pub place_from : Message → Place
place_from m = record { acceptor = m.from; shard = m.shard; epoch = m.epoch }

-- an acceptor that told promised; what it told was put, and is not below what it kept before
pub record ToldFits (w : World) (m : Message) (pair : Option Accepted) : Type 0 where
  pub within : IsAcceptor w m.from
  pub promised : Le m.ballot (promise_of w (place_from m))
  pub put : (x : Accepted) → pair ≡ Some x → WasPut w m.shard m.epoch x.ballot x.config
  pub below : (x : Accepted) → pair ≡ Some x → Le x.ballot m.ballot
  pub covers : (k : Message) → StandsIn k w.messages → k.say ≡ Kept → place_from k ≡ place_from m → Lt k.ballot m.ballot → Covers pair k.ballot

-- what is put is safe, and the one configuration of its ballot; it was proposed
pub record PutFits (w : World) (es : List Event) (m : Message) (config : Membership) : Type 0 where
  pub within : IsAcceptor w m.to
  pub shard_is : config.shard ≡ m.shard
  pub epoch_is : config.epoch ≡ m.epoch
  pub proposed : IsProposed es config
  pub begun : m.ballot.round ≤ round_of w m.ballot.proposer
  pub asked : (a : Attempt) → attempt_of w m.ballot.proposer ≡ Some a → a.ballot ≡ m.ballot → is_asking a.stage ≡ true → ⊥
  pub safe : Safe w m.shard m.epoch m.ballot config
  pub one : (k : Message) (d : Membership) → StandsIn k w.messages → k.say ≡ Put d → k.ballot ≡ m.ballot → d ≡ config

-- an acceptor that kept has accepted in this ballot, or in a greater one since
pub record KeptFits (w : World) (m : Message) : Type 0 where
  pub within : IsAcceptor w m.from
  pub accepted : Covers (accepted_of w (place_from m)) m.ballot

abbrev pub MessageFits : World → List Event → Message → Say → Type 0
MessageFits w es m Ask = IsAcceptor w m.to
MessageFits w es m (Told pair) = ToldFits w m pair
MessageFits w es m (Put config) = PutFits w es m config
MessageFits w es m Kept = KeptFits w m

-- ---- what acceptors and proposers have

-- what is accepted was put, in a ballot that is promised
pub record AcceptedFits (w : World) (q : Place) (x : Accepted) : Type 0 where
  pub put : WasPut w q.shard q.epoch x.ballot x.config
  pub promised : Le x.ballot (promise_of w q)

abbrev pub StageFits : World → Attempt → Stage → Type 0
StageFits w a (Asking told greatest) = Heard w a.config.shard a.config.epoch a.ballot told greatest
StageFits w a (Putting value keepers) = Keeps w a.config.shard a.config.epoch a.ballot value keepers
StageFits w a Ended = Unit {0}

-- a proposer learned of each epoch between the first and this one
abbrev pub Climbed : List Stored → ℕ → ℕ → ℕ → Type 0
Climbed notes proposer shard epoch = (e : ℕ) → 1 < e → e < epoch → HasNote notes proposer shard e

-- an attempt is of its proposer, for a configuration that was proposed, and stands where its messages say
pub record AttemptFits (w : World) (es : List Event) (notes : List Stored) (p : ℕ) (a : Attempt) : Type 0 where
  pub proposer_is : a.ballot.proposer ≡ p
  pub proposed : IsProposed es a.config
  pub climbed : Climbed notes p a.config.shard a.config.epoch
  pub stage : StageFits w a a.stage

-- ---- all of it

pub record Invariant (w : World) (es : List Event) (notes : List Stored) : Type 0 where
  pub messages : (m : Message) → StandsIn m w.messages → MessageFits w es m m.say
  pub accepted : (q : Place) (x : Accepted) → accepted_of w q ≡ Some x → AcceptedFits w q x
  pub attempts : (p : ℕ) (a : Attempt) → attempt_of w p ≡ Some a → AttemptFits w es notes p a
  pub chosen : (n : Stored) → StandsIn n notes → Chosen w n.config
  pub known : (k : Knows) → Climbed notes k.proposer k.shard (known_of w k + 1)

-- what only grows
pub record Grows (w w' : World) : Type 0 where
  pub acceptors : w'.acceptors ≡ w.acceptors
  pub messages : (m : Message) → StandsIn m w.messages → StandsIn m w'.messages
  pub promises : (q : Place) → Le (promise_of w q) (promise_of w' q)
  pub accepted : (q : Place) (b : Ballot) → Covers (accepted_of w q) b → Covers (accepted_of w' q) b
  pub rounds : (p : ℕ) → round_of w p ≤ round_of w' p
