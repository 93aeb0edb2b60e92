-- A run's world, its events, and what each of them comes to.
use Rattle.std.specs.Prelude.{ℕ, ◌+◌, ◌-◌, ◌==◌, ◌&&◌, nat_lt, if◌then◌else◌, List, [], ◌∷◌, ◌++◌, Option, Some, None, slice_get, nat_eq}
use Rattle.tcs_terms.specs.Places.{Membership, is_among}
use Rattle.quorum_protocol.specs.declared.terms.Ballot.{Ballot}
use Rattle.quorum_protocol.specs.declared.terms.Accepted.{Accepted}
use Rattle.quorum_protocol.specs.declared.terms.Place.{Place}
use Rattle.quorum_protocol.specs.declared.terms.Knows.{Knows}
use Rattle.quorum_protocol.specs.declared.terms.Message.{Message}
use Rattle.quorum_protocol.specs.declared.terms.Say.{Say}
use Rattle.quorum_protocol.specs.declared.terms.Say.TheVariants.{Ask, Told, Put, Kept}
use Rattle.quorum_protocol.specs.declared.terms.Event.{Event}
use Rattle.quorum_protocol.specs.declared.terms.Event.TheVariants.{Cas, Deliver, Stop}
use Rattle.quorum_protocol.specs.declared.terms.Outcome.{Outcome}
use Rattle.quorum_protocol.specs.declared.terms.Outcome.TheVariants.{Acted, Held, Stale, Gone, Unsent}
use Rattle.quorum_protocol.specs.declared.terms.Stored.{Stored}
use Rattle.quorum_protocol.specs.Ballots.{ballot_le, no_ballot, same_place, same_knows, get, put, or_else}
use Rattle.quorum_protocol.specs.Rules.{Stage, Attempt, answer, to_all, after_told, after_kept, puts, learns, is_asking, is_putting, is_of}
use Rattle.quorum_protocol.specs.Rules.Stage.{Asking}

-- How many acceptors there are, numbered from 1; which ballot each promised and which pair it accepted last, for a
-- shard and epoch; the last attempt of each proposer, and the greatest epoch of a shard that it knows; the messages
-- that were sent, numbered from 1, of which none is ever taken away; the acceptors that stopped.
pub record World : Type 0 where
  pub acceptors : ℕ
  pub promises : List (Place × Ballot)
  pub accepted : List (Place × Accepted)
  pub attempts : List (ℕ × Attempt)
  pub known : List (Knows × ℕ)
  pub messages : List Message
  pub stopped : List ℕ

abbrev pub first_world : ℕ → World
first_world acceptors = record { acceptors = acceptors; promises = []; accepted = []; attempts = []; known = []; messages = []; stopped = [] }

-- ---- what is asked of a world

-- the ballot that an acceptor promised
abbrev pub promise_of : World → Place → Ballot
promise_of w p = or_else no_ballot (get same_place w.promises p)

-- the pair that it accepted last
abbrev pub accepted_of : World → Place → Option Accepted
accepted_of w p = get same_place w.accepted p

-- a proposer's last attempt
abbrev pub attempt_of : World → ℕ → Option Attempt
attempt_of w p = get nat_eq w.attempts p

abbrev pub round_in : Option Attempt → ℕ
round_in None = 0
round_in (Some a) = a.ballot.round

-- the round of a proposer's last attempt, 0 before the first one
abbrev pub round_of : World → ℕ → ℕ
round_of w p = round_in (attempt_of w p)

-- the greatest epoch of a shard that a proposer knows; it knows those below too, and the first from the start
abbrev pub known_of : World → Knows → ℕ
known_of w k = or_else 1 (get same_knows w.known k)

-- ---- what an event comes to

-- its result, what a proposer learned, what is sent, and the world after it
pub record Happening : Type 0 where
  pub result : Outcome
  pub stored : Option Stored
  pub sent : List Message
  pub after : World

-- nothing happens
abbrev pub passes : World → Outcome → Happening
passes w result = record { result = result; stored = None; sent = []; after = w }

-- messages end the list
abbrev pub sending : World → List Message → World
sending w ms = record w { messages = w.messages ++ ms }

-- it happens, and these are sent
abbrev pub acts : World → List Message → Happening
acts w ms = record { result = Acted; stored = None; sent = ms; after = sending w ms }

-- ---- acceptors

-- the place of a message's receiver
abbrev pub place_at : Message → Place
place_at m = record { acceptor = m.to; shard = m.shard; epoch = m.epoch }

abbrev pub with_promise : World → Place → Ballot → World
with_promise w p b = record w { promises = put same_place w.promises p b }

abbrev pub with_accepted : World → Place → Accepted → World
with_accepted w p a = record w { accepted = put same_place w.accepted p a }

-- ASK: a ballot that is at least the promised one is promised, and the accepted pair told
abbrev pub on_ask : World → Message → Happening
on_ask w m =
    if ballot_le (promise_of w (place_at m)) m.ballot
    then acts (with_promise w (place_at m) m.ballot) (answer m (Told (accepted_of w (place_at m))) ∷ [])
    else passes w (Stale (promise_of w (place_at m)).round)

-- PUT: in a ballot that is at least the promised one the configuration is accepted, and the ballot promised
abbrev pub on_put : World → Message → Membership → Happening
on_put w m config =
    if ballot_le (promise_of w (place_at m)) m.ballot
    then acts (with_accepted (with_promise w (place_at m) m.ballot) (place_at m) (record { ballot = m.ballot; config = config })) (answer m Kept ∷ [])
    else passes w (Stale (promise_of w (place_at m)).round)

-- ---- proposers

abbrev pub with_attempt : World → ℕ → Attempt → World
with_attempt w p a = record w { attempts = put nat_eq w.attempts p a }

abbrev pub with_known : World → Knows → ℕ → World
with_known w k epoch = record w { known = put same_knows w.known k epoch }

abbrev pub knows : ℕ → Membership → Knows
knows p config = record { proposer = p; shard = config.shard }

-- the attempt as it begins
abbrev pub begun : ℕ → Membership → Attempt
begun round config = record { ballot = record { round = round; proposer = config.by }; config = config; stage = Asking [] None }

-- cas: in a round above each earlier one, for the epoch after the last that the proposer knows, an attempt begins
abbrev pub propose : World → ℕ → Membership → Happening
propose w round config =
    if nat_lt (round_of w config.by) round && (config.epoch == known_of w (knows config.by config) + 1)
    then acts (with_attempt w config.by (begun round config)) (to_all w.acceptors (begun round config) Ask)
    else passes w (Held (known_of w (knows config.by config)))

-- TOLD, at the attempt that it is for
abbrev pub hears_told : World → Message → Option Accepted → Attempt → Stage → Happening
hears_told w m accepted a stage = acts (with_attempt w m.to (record a { stage = stage })) (puts w.acceptors a stage)

-- TOLD: an acceptor's answer is kept
abbrev pub on_told : World → Message → Option Accepted → Option Attempt → Happening
on_told w m accepted None = passes w (Held 0)
on_told w m accepted (Some a) =
    if is_of a m && is_asking a.stage
    then hears_told w m accepted a (after_told w.acceptors a.config a.stage m.from accepted)
    else passes w (Held a.ballot.round)

-- what was put is known to be stored, where the attempt ends with it
abbrev pub learning : World → ℕ → Option Membership → World
learning w p None = w
learning w p (Some config) = with_known w (knows p config) config.epoch

abbrev pub note_of : ℕ → Option Membership → Option Stored
note_of p None = None
note_of p (Some config) = Some (record { proposer = p; config = config })

-- KEPT, at the attempt that it is for
abbrev pub hears_kept : World → Message → Attempt → Stage → Happening
hears_kept w m a stage = record {
  result = Acted;
  stored = note_of m.to (learns a.stage stage);
  sent = [];
  after = learning (with_attempt w m.to (record a { stage = stage })) m.to (learns a.stage stage);
}

-- KEPT: an acceptor is counted among those that keep what was put
abbrev pub on_kept : World → Message → Option Attempt → Happening
on_kept w m None = passes w (Held 0)
on_kept w m (Some a) =
    if is_of a m && is_putting a.stage
    then hears_kept w m a (after_kept w.acceptors a.stage m.from)
    else passes w (Held a.ballot.round)

-- ---- deliveries

-- a message reaches its receiver, by what it says
unfoldable pub reaches : World → Message → Say → Happening
reaches w m Ask = on_ask w m
reaches w m (Told accepted) = on_told w m accepted (attempt_of w m.to)
reaches w m (Put config) = on_put w m config
reaches w m Kept = on_kept w m (attempt_of w m.to)

-- a message is delivered, if it was sent and its receiver has not stopped
abbrev pub delivers : World → Option Message → Happening
delivers w None = passes w Unsent
delivers w (Some m) = if is_among w.stopped m.to then passes w Gone else reaches w m m.say

-- the message of a number, from 1
abbrev pub message_of : List Message → ℕ → Option Message
message_of messages number = if number == 0 then None else slice_get messages (number - 1)

-- an acceptor stops
abbrev pub stops : World → ℕ → Happening
stops w a = record { result = Acted; stored = None; sent = []; after = record w { stopped = w.stopped ++ a ∷ [] } }

-- one event of a run
unfoldable pub step : World → Event → Happening
step w (Cas round config) = propose w round config
step w (Deliver number) = delivers w (message_of w.messages number)
step w (Stop a) = if is_among w.stopped a then passes w Gone else stops w a

-- ---- runs

-- the world after the events, in order
abbrev pub run_from : World → List Event → World
run_from w [] = w
run_from w (e ∷ es) = run_from (step w e).after es

-- the world after a run over so many acceptors
unfoldable pub run : ℕ → List Event → World
run acceptors es = run_from (first_world acceptors) es

-- a list of what there is
abbrev pub listed : {X : Type 0} → Option X → List X
listed None = []
listed (Some x) = x ∷ []

-- the notes of the events, in order
abbrev pub notes_from : World → List Event → List Stored
notes_from w [] = []
notes_from w (e ∷ es) = listed (step w e).stored ++ notes_from (step w e).after es

-- the notes of a run
unfoldable pub history : ℕ → List Event → List Stored
history acceptors es = notes_from (first_world acceptors) es
