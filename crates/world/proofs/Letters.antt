-- Frames that lie one after the other are read back.
use Rattle.std.proofs.Common.{◌≡◌, Bool, true, false, cond, ◌==◌, ℕ, zero, suc, ◌+◌, ◌-◌, ◌≤◌, List, [], ◌∷◌, ◌++◌, length, take, drop, Option, Some, None, refl, sym, ap, subst, ◌∙◌, arith, append_assoc, length-append}
use Rattle.std.specs.Prelude.{slice_range, slice_get, All}
use Rattle.std.specs.Option.{option_map}
use Rattle.std.proofs.lemmas.Option.{slice_get-map}
use Rattle.std.proofs.Math.Seq.{drop-append_seam, take-append_seam}
use Rattle.std.proofs.lemmas.List.{append-nil}
use Rattle.std.proofs.lemmas.Grind.{flat_map-append}
use Rattle.std.proofs.lemmas.List.Concat.{length-flat_map}
use Rattle.std.proofs.lemmas.List.Elements.{All-append}
use Rattle.tcs_terms.specs.declared.messages.Message.{Message}
use Rattle.tcs_terms.specs.Messages.{InRange}
use Rattle.wire_frame.specs.Spelling.{spell}
use Rattle.wire_frame.specs.Frames.{read_frame}
use Rattle.wire_frame.proofs.FrameLaws.{frame_again}
use Rattle.protocol.specs.Limit.{frame_bytes, frame_limit}
use Rattle.protocol.specs.World.{Sent, message_of}
use Rattle.world.specs.declared.arena.Letter.{Letter}
use Rattle.world.specs.Frames.{frame_of, frames, letter_of, letters_of, letter_at, message_in, read_letter, read_all, IsArenaOf, IsArena}

-- the part of a list that stands behind its front
part_behind : (pre mid post : List ℕ) → slice_range (pre ++ (mid ++ post)) (length pre) (length pre + length mid) ≡ mid
part_behind pre mid post =
    let count : length pre + length mid - length pre ≡ length mid = omega arith in
    ap (λ n. take n (drop (length pre) (pre ++ (mid ++ post)))) count
    ∙ ap (λ xs. take (length mid) xs) (drop-append_seam pre (mid ++ post))
    ∙ take-append_seam mid post

-- a letter holds the message that was put there
pub letter_holds : (pre post : List ℕ) (s : Sent) → InRange s.message → read_letter (pre ++ (frame_of s ++ post)) (letter_of (length pre) s) ≡ s
letter_holds pre post s range =
    ap (λ (m : Message). let sent : Sent = record { from = s.from; to = s.to; message = m } in sent)
    (ap (λ bytes. message_in (read_frame bytes)) (part_behind pre (frame_of s) post) ∙ ap message_in (frame_again s.message range))

tail_all : {X : Type 0} (P : X → Type 0) (x : X) (xs : List X) → All P (x ∷ xs) → All P xs
tail_all P x xs all = λ k d lt. all (suc k) d (omega arith)

-- where a message lies, behind what was put before
pub record Lies (bytes : List ℕ) (l : Letter) (s : Sent) : Type 0 where
  pub from : l.from ≡ s.from
  pub dest : l.to ≡ s.to
  pub ordered : l.begin ≤ l.end
  pub within : l.end ≤ length bytes
  pub frame : slice_range bytes l.begin l.end ≡ frame_of s
  pub in_range : InRange s.message
  pub is : read_letter bytes l ≡ s

lies_here : (pre post : List ℕ) (s : Sent) → InRange s.message → Lies (pre ++ (frame_of s ++ post)) (letter_of (length pre) s) s
lies_here pre post s range = record {
  from = refl;
  dest = refl;
  ordered = omega arith;
  within = omega (arith, length-append pre (frame_of s ++ post), length-append (frame_of s) post);
  frame = part_behind pre (frame_of s) post;
  in_range = range;
  is = letter_holds pre post s range;
}

-- a letter and a message at one place
abbrev pub BothLie : List ℕ → Option Letter → Option Sent → Type 0
BothLie bytes None None = Unit {0}
BothLie bytes None (Some s) = ⊥
BothLie bytes (Some l) None = ⊥
BothLie bytes (Some l) (Some s) = Lies bytes l s

regrouped : (pre : List ℕ) (s : Sent) (ss : List Sent) (post : List ℕ) → pre ++ (frames (s ∷ ss) ++ post) ≡ (pre ++ frame_of s) ++ (frames ss ++ post)
regrouped pre s ss post =
    ap (λ xs. pre ++ xs) (append_assoc (frame_of s) (frames ss) post) ∙ sym (append_assoc pre (frame_of s) (frames ss ++ post))

lies_from : (pre : List ℕ) (sent : List Sent) (post : List ℕ) (k : ℕ) → All (λ s. InRange s.message) sent
    → BothLie (pre ++ (frames sent ++ post)) (slice_get (letters_of (length pre) sent) k) (slice_get sent k)
lies_from pre [] post k range = tt
lies_from pre (s ∷ ss) post zero range =
    subst (λ bytes. Lies bytes (letter_of (length pre) s) s) (ap (λ xs. pre ++ xs) (sym (append_assoc (frame_of s) (frames ss) post)))
    (lies_here pre (frames ss ++ post) s (range 0 s (omega arith)))
lies_from pre (s ∷ ss) post (suc k) range =
    let at : length pre + length (frame_of s) ≡ length (pre ++ frame_of s) = sym (length-append pre (frame_of s)) in
    let more = lies_from (pre ++ frame_of s) ss post k (tail_all (λ (x : Sent). InRange x.message) s ss range) in
    subst (λ bytes. BothLie bytes (slice_get (letters_of (length pre + length (frame_of s)) ss) k) (slice_get ss k)) (sym (regrouped pre s ss post))
    (subst (λ n. BothLie ((pre ++ frame_of s) ++ (frames ss ++ post)) (slice_get (letters_of n ss) k) (slice_get ss k)) (sym at) more)

-- all letters are read back
read_from : (pre : List ℕ) (sent : List Sent) (post : List ℕ) → All (λ s. InRange s.message) sent
    → read_all (pre ++ (frames sent ++ post)) (letters_of (length pre) sent) ≡ sent
read_from pre [] post range = refl
read_from pre (s ∷ ss) post range =
    let here : read_letter (pre ++ (frames (s ∷ ss) ++ post)) (letter_of (length pre) s) ≡ s =
    ap (λ bytes. read_letter bytes (letter_of (length pre) s)) (ap (λ xs. pre ++ xs) (append_assoc (frame_of s) (frames ss) post))
    ∙ letter_holds pre (frames ss ++ post) s (range 0 s (omega arith)) in
    let at : length pre + length (frame_of s) ≡ length (pre ++ frame_of s) = sym (length-append pre (frame_of s)) in
    let more = read_from (pre ++ frame_of s) ss post (tail_all (λ (x : Sent). InRange x.message) s ss range) in
    let rest : read_all (pre ++ (frames (s ∷ ss) ++ post)) (letters_of (length pre + length (frame_of s)) ss) ≡ ss =
    ap (λ bytes. read_all bytes (letters_of (length pre + length (frame_of s)) ss)) (regrouped pre s ss post)
    ∙ ap (λ n. read_all ((pre ++ frame_of s) ++ (frames ss ++ post)) (letters_of n ss)) at ∙ more in
    ap (λ (x : Sent). x ∷ read_all (pre ++ (frames (s ∷ ss) ++ post)) (letters_of (length pre + length (frame_of s)) ss)) here ∙ ap (λ xs. s ∷ xs) rest

-- what an arena of these messages is seen as
pub seen : (bytes : List ℕ) (letters : List Letter) (sent : List Sent) → IsArenaOf bytes letters sent → read_all bytes letters ≡ sent
seen bytes letters sent a =
    ap (λ bs. read_all bs letters) (a.bytes_are ∙ sym (append-nil (frames sent))) ∙ ap (λ ls. read_all (frames sent ++ []) ls) a.letters_are
    ∙ read_from [] sent [] a.in_range

-- where the messages of an arena lie
pub lies_in : (bytes : List ℕ) (letters : List Letter) (sent : List Sent) → IsArenaOf bytes letters sent → (k : ℕ)
    → BothLie bytes (slice_get letters k) (slice_get sent k)
lies_in bytes letters sent a k =
    subst (λ bs. BothLie bs (slice_get letters k) (slice_get sent k)) (sym (a.bytes_are ∙ sym (append-nil (frames sent))))
    (subst (λ ls. BothLie (frames sent ++ []) (slice_get ls k) (slice_get sent k)) (sym a.letters_are) (lies_from [] sent [] k a.in_range))

-- letters of more messages
pub letters-append : (begin : ℕ) (xs ys : List Sent) → letters_of begin (xs ++ ys) ≡ letters_of begin xs ++ letters_of (begin + length (frames xs)) ys
letters-append begin [] ys = ap (λ n. letters_of n ys) (omega arith)
letters-append begin (x ∷ xs) ys =
    let at : begin + length (frame_of x) + length (frames xs) ≡ begin + length (frames (x ∷ xs)) = omega (arith, length-append (frame_of x) (frames xs)) in
    ap (λ ls. letter_of begin x ∷ ls) (letters-append (begin + length (frame_of x)) xs ys ∙ ap (λ n. letters_of (begin + length (frame_of x)) xs ++ letters_of n ys) at)

-- an arena with more messages
pub with_more : (bytes : List ℕ) (letters : List Letter) (sent more : List Sent) → IsArenaOf bytes letters sent → All (λ s. InRange s.message) more
    → IsArenaOf (bytes ++ frames more) (letters ++ letters_of (length bytes) more) (sent ++ more)
with_more bytes letters sent more a range = record {
  in_range = All-append (λ (s : Sent). InRange s.message) sent more a.in_range range;
  bytes_are = ap (λ bs. bs ++ frames more) a.bytes_are ∙ sym (flat_map-append frame_of sent more);
  letters_are = ap (λ ls. ls ++ letters_of (length bytes) more) a.letters_are
      ∙ ap (λ bs. letters_of 0 sent ++ letters_of (length bs) more) a.bytes_are
      ∙ ap (λ n. letters_of 0 sent ++ letters_of n more) (let e : length (frames sent) ≡ 0 + length (frames sent) = omega arith in e) ∙ sym (letters-append 0 sent more);
}

-- the bytes of an arena are the frame bytes of its messages
pub bytes_sum : (bytes : List ℕ) (letters : List Letter) (sent : List Sent) → IsArenaOf bytes letters sent → length bytes ≡ frame_bytes sent
bytes_sum bytes letters sent a = ap length a.bytes_are ∙ length-flat_map frame_of sent

pub frames_sum : (sent : List Sent) → length (frames sent) ≡ frame_bytes sent
frames_sum sent = length-flat_map frame_of sent

-- a frame has a byte, and so messages are no more than bytes
frame_has_byte : (m : Message) → 1 ≤ length (spell m)
unfolding spell
frame_has_byte m = omega arith

pub sent_few : (sent : List Sent) → length sent ≤ length (frames sent)
sent_few [] = omega arith
sent_few (s ∷ ss) = omega (arith, sent_few ss, frame_has_byte s.message, length-append (frame_of s) (frames ss))

letters_count : (begin : ℕ) (sent : List Sent) → length (letters_of begin sent) ≡ length sent
letters_count begin [] = refl
letters_count begin (s ∷ ss) = ap suc (letters_count (begin + length (frame_of s)) ss)

-- there are as many letters as messages, and no more than bytes
pub letters_few : (bytes : List ℕ) (letters : List Letter) (sent : List Sent) → IsArenaOf bytes letters sent → length letters ≤ length bytes
letters_few bytes letters sent a =
    omega (arith, ap length a.letters_are, letters_count 0 sent, sent_few sent, ap length a.bytes_are)

-- the limit as a number
pub limit_is : frame_limit ≡ 268435456
unfolding frame_limit
limit_is = refl

-- a letter of an arena lies there, and holds the message of its number
pub record Found (bytes : List ℕ) (letters : List Letter) (number : ℕ) (l : Letter) : Type 0 where
  pub is : message_of (read_all bytes letters) number ≡ Some (read_letter bytes l)
  pub lies : Lies bytes l (read_letter bytes l)

read_at : (bytes : List ℕ) (letters : List Letter) (number : ℕ) → message_of (read_all bytes letters) number ≡ option_map (read_letter bytes) (letter_at letters number)
read_at bytes letters number = go (number == 0)
  where
    go : (b : Bool) → cond b None (slice_get (read_all bytes letters) (number - 1)) ≡ option_map (read_letter bytes) (cond b None (slice_get letters (number - 1)))
    go true = refl
    go false = slice_get-map (read_letter bytes) letters (number - 1)

lies_as_read : (bytes : List ℕ) (l : Letter) (o : Option Sent) → BothLie bytes (Some l) o → Lies bytes l (read_letter bytes l)
lies_as_read bytes l None h = absurd h
lies_as_read bytes l (Some s) h = subst (λ x. Lies bytes l x) (sym h.is) h

lies_at : (bytes : List ℕ) (letters : List Letter) (sent : List Sent) → IsArenaOf bytes letters sent → (number : ℕ) (l : Letter) → letter_at letters number ≡ Some l
    → Lies bytes l (read_letter bytes l)
lies_at bytes letters sent a number l e = go (number == 0) e
  where
    go : (b : Bool) → cond b None (slice_get letters (number - 1)) ≡ Some l → Lies bytes l (read_letter bytes l)
    go true h = absurd cc
    go false h = lies_as_read bytes l (slice_get sent (number - 1))
        (subst (λ x. BothLie bytes x (slice_get sent (number - 1))) h (lies_in bytes letters sent a (number - 1)))

pub found : (bytes : List ℕ) (letters : List Letter) → IsArena bytes letters → (number : ℕ) (l : Letter) → letter_at letters number ≡ Some l → Found bytes letters number l
found bytes letters a number l e = record {
  is = read_at bytes letters number ∙ ap (option_map (read_letter bytes)) e;
  lies = lies_at bytes letters a.sent a.holds number l e;
}

pub not_found : (bytes : List ℕ) (letters : List Letter) (number : ℕ) → letter_at letters number ≡ None → message_of (read_all bytes letters) number ≡ None
not_found bytes letters number e = read_at bytes letters number ∙ ap (option_map (read_letter bytes)) e

-- an arena with more messages that keep within the limit
pub arena_with : (bytes : List ℕ) (letters : List Letter) (more : List Sent) (bytes2 : List ℕ) (letters2 : List Letter) → IsArena bytes letters → All (λ s. InRange s.message) more
    → bytes2 ≡ bytes ++ frames more → letters2 ≡ letters ++ letters_of (length bytes) more → length bytes2 ≤ frame_limit
    → IsArena bytes2 letters2 × (read_all bytes2 letters2 ≡ read_all bytes letters ++ more)
arena_with bytes letters more bytes2 letters2 a range eb el low =
    let b : IsArenaOf (bytes ++ frames more) (letters ++ letters_of (length bytes) more) (a.sent ++ more) = with_more bytes letters a.sent more a.holds range in
    let c : IsArenaOf bytes2 letters2 (a.sent ++ more) = subst (λ x. IsArenaOf x letters2 (a.sent ++ more)) (sym eb) (subst (λ x. IsArenaOf (bytes ++ frames more) x (a.sent ++ more)) (sym el) b) in (
      record { sent = a.sent ++ more; holds = c; within = low },
      seen bytes2 letters2 (a.sent ++ more) c ∙ ap (λ xs. xs ++ more) (sym (seen bytes letters a.sent a.holds)),
    )

-- the bytes of an arena are the frame bytes of what it is seen as
pub arena_sum : (bytes : List ℕ) (letters : List Letter) → IsArena bytes letters → length bytes ≡ frame_bytes (read_all bytes letters)
arena_sum bytes letters a = bytes_sum bytes letters a.sent a.holds ∙ ap frame_bytes (sym (seen bytes letters a.sent a.holds))

pub no_messages : IsArena [] []
unfolding frame_limit
no_messages = record { sent = []; holds = record { in_range = λ k d lt. absurd (omega arith); bytes_are = refl; letters_are = refl }; within = omega arith }
