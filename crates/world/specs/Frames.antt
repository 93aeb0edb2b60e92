-- The messages of a run as frames, one after the other in one run of bytes.
use Rattle.std.specs.Prelude.{◌≡◌, ℕ, ◌+◌, ◌-◌, ◌==◌, ◌≤◌, if◌then◌else◌, List, [], ◌∷◌, length, map, slice_get, slice_range, Option, None, Result, Ok, Err, All}
use Rattle.std.specs.List.{flat_map}
use Rattle.tcs_terms.specs.declared.messages.Message.{Message}
use Rattle.tcs_terms.specs.declared.messages.Message.TheVariants.{Last}
use Rattle.tcs_terms.specs.Messages.{InRange}
use Rattle.wire_frame.specs.Spelling.{spell}
use Rattle.wire_frame.specs.Frames.{read_frame}
use Rattle.protocol.specs.Limit.{frame_limit}
use Rattle.protocol.specs.World.{Sent}
use Rattle.world.specs.declared.arena.Letter.{Letter}

-- the frame of a message that was sent
abbrev pub frame_of : Sent → List ℕ
frame_of s = spell s.message

-- the frames of messages, one after the other
abbrev pub frames : List Sent → List ℕ
frames sent = flat_map frame_of sent

-- where the frame of a message lies that begins at that place
abbrev pub letter_of : ℕ → Sent → Letter
letter_of begin s = record { from = s.from; to = s.to; begin = begin; end = begin + length (frame_of s) }

-- where the frames lie, the first one beginning at that place
abbrev pub letters_of : ℕ → List Sent → List Letter
letters_of begin [] = []
letters_of begin (s ∷ ss) = letter_of begin s ∷ letters_of (begin + length (frame_of s)) ss

-- the letter of a number, from 1
abbrev pub letter_at : List Letter → ℕ → Option Letter
letter_at letters number = if number == 0 then None else slice_get letters (number - 1)

-- the message that was read, any one where none was
abbrev pub message_in : {E : Type 0} → Result Message E → Message
message_in (Ok m) = m
message_in (Err e) = Last 0

-- what a letter holds
abbrev pub read_letter : List ℕ → Letter → Sent
read_letter bytes l = record { from = l.from; to = l.to; message = message_in (read_frame (slice_range bytes l.begin l.end)) }

-- what all letters hold
abbrev pub read_all : List ℕ → List Letter → List Sent
read_all bytes letters = map (λ l. read_letter bytes l) letters

-- bytes and letters are those of these messages, each of which is in range
pub record IsArenaOf (bytes : List ℕ) (letters : List Letter) (sent : List Sent) : Type 0 where
  pub in_range : All (λ s. InRange s.message) sent
  pub bytes_are : bytes ≡ frames sent
  pub letters_are : letters ≡ letters_of 0 sent

-- bytes and letters are those of some messages, and are within the limit
pub record IsArena (bytes : List ℕ) (letters : List Letter) : Type 0 where
  pub sent : List Sent
  pub holds : IsArenaOf bytes letters sent
  pub within : length bytes ≤ frame_limit
