-- The text of a run of the quorum store.
use Rattle.std.specs.Prelude.{ℕ, ◌+◌, List, [], ◌∷◌, ◌++◌, length, codes, Option, Some, None}
use Rattle.tcs_terms.specs.Places.{Membership}
use Rattle.schedule_text.specs.Text.{spaced_number, numbers_text, with_feed}
use Rattle.quorum_protocol.specs.declared.terms.Event.{Event}
use Rattle.quorum_protocol.specs.declared.terms.Message.{Message}
use Rattle.quorum_protocol.specs.declared.terms.Outcome.{Outcome}
use Rattle.quorum_protocol.specs.declared.terms.Outcome.TheVariants.{Acted, Held, Stale, Gone, Unsent}
use Rattle.quorum_protocol.specs.declared.terms.Say.{Say}
use Rattle.quorum_protocol.specs.declared.terms.Say.TheVariants.{Ask, Told, Put, Kept}
use Rattle.quorum_protocol.specs.declared.terms.Stored.{Stored}
use Rattle.quorum_protocol.specs.declared.terms.Accepted.{Accepted}
use Rattle.quorum_protocol.specs.World.{World, Happening, first_world, step, run}

-- ---- words

abbrev pub outcome_text : Outcome → List ℕ
outcome_text Acted = codes "acted"
outcome_text (Held mark) = codes "held" ++ spaced_number mark
outcome_text (Stale round) = codes "stale" ++ spaced_number round
outcome_text Gone = codes "gone"
outcome_text Unsent = codes "unsent"

-- the leader, the proposer, the members
abbrev pub config_words : Membership → List ℕ
config_words c = spaced_number c.leader ++ (spaced_number c.by ++ numbers_text c.members)

abbrev pub say_text : Say → List ℕ
say_text Ask = codes "ASK"
say_text (Told pair) = codes "TOLD"
say_text (Put config) = codes "PUT"
say_text Kept = codes "KEPT"

abbrev pub pair_words : Option Accepted → List ℕ
pair_words None = codes " none"
pair_words (Some a) = spaced_number a.ballot.round ++ (spaced_number a.ballot.proposer ++ config_words a.config)

-- what follows the shard and the epoch
abbrev pub rest_words : Say → List ℕ
rest_words Ask = []
rest_words (Told pair) = pair_words pair
rest_words (Put config) = config_words config
rest_words Kept = []

-- ---- lines

-- the number of an event, and its result
abbrev pub result_line : ℕ → Outcome → List ℕ
result_line k result = codes "e" ++ (spaced_number k ++ (codes " " ++ outcome_text result))

abbrev pub stored_line : Stored → List ℕ
stored_line n = codes "stored" ++ (spaced_number n.proposer ++ (spaced_number n.config.shard ++ (spaced_number n.config.epoch ++ config_words n.config)))

-- the ballot of a message, its shard and its epoch
abbrev pub about_words : Message → List ℕ
about_words m = spaced_number m.ballot.round ++ (spaced_number m.ballot.proposer ++ (spaced_number m.shard ++ spaced_number m.epoch))

-- the number of a message and its ends
abbrev pub ends_words : ℕ → Message → List ℕ
ends_words number m = spaced_number number ++ (spaced_number m.from ++ spaced_number m.to)

abbrev pub message_line : ℕ → Message → List ℕ
message_line number m = codes "q" ++ (ends_words number m ++ (codes " " ++ (say_text m.say ++ (about_words m ++ rest_words m.say))))

-- the messages, numbered from this number on
abbrev pub message_lines : ℕ → List Message → List ℕ
message_lines number [] = []
message_lines number (m ∷ ms) = with_feed (message_line number m) ++ message_lines (number + 1) ms

abbrev pub stored_text : Option Stored → List ℕ
stored_text None = []
stored_text (Some n) = with_feed (stored_line n)

-- what belongs to an event, by its number and that of the next message
abbrev pub happening_text : ℕ → ℕ → Happening → List ℕ
happening_text k first h = with_feed (result_line k h.result) ++ (stored_text h.stored ++ message_lines first h.sent)

-- ---- the whole text

-- the first line
abbrev pub head_text : ℕ → List ℕ
head_text acceptors = with_feed (codes "quorum 1" ++ spaced_number acceptors)

-- the last line: how many events and messages there were
abbrev pub end_text : ℕ → ℕ → List ℕ
end_text events messages = with_feed (codes "end" ++ (spaced_number events ++ spaced_number messages))

-- what belongs to the events from here on, of which the first has this number
abbrev pub events_text : World → ℕ → List Event → List ℕ
events_text w k [] = []
events_text w k (e ∷ es) = happening_text k (length w.messages + 1) (step w e) ++ events_text (step w e).after (k + 1) es

-- the text of a run without its last line
abbrev pub run_front : ℕ → List Event → List ℕ
run_front acceptors es = head_text acceptors ++ events_text (first_world acceptors) 1 es

-- the text of a run
abbrev pub run_text : ℕ → List Event → List ℕ
run_text acceptors es = run_front acceptors es ++ end_text (length es) (length (run acceptors es).messages)
