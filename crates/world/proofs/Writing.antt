-- What is written of messages to an arena, one after the other.
use Rattle.std.proofs.Common.{◌≡◌, ℕ, ◌+◌, ◌<◌, ◌≤◌, List, [], ◌∷◌, ◌++◌, length, take, get_or, sym, ap, ◌∙◌, arith, append_assoc, length-append}
use Rattle.std.specs.Prelude.{All}
use Rattle.std.proofs.lemmas.List.{append-nil, take_more}
use Rattle.std.proofs.lemmas.List.{map-append}
use Rattle.std.proofs.lemmas.Grind.{flat_map-append}
use Rattle.std.proofs.lemmas.List.Elements.{All-map}
use Rattle.std.proofs.lemmas.List.Sums.{sum_by-append}
use Rattle.tcs_terms.specs.declared.messages.Outgoing.{Outgoing}
use Rattle.tcs_terms.specs.Messages.{InRange}
use Rattle.wire_frame.specs.Spelling.{spell}
use Rattle.protocol.specs.Limit.{frame_bytes, frame_limit}
use Rattle.protocol.specs.World.{Sent, sent_by}
use Rattle.world.specs.declared.arena.Letter.{Letter}
use Rattle.world.specs.Frames.{frame_of, frames, letters_of, read_all, IsArena}
use Rattle.world.specs.Writing.{Grown}
use Rattle.world.proofs.Letters.{letters-append, frames_sum, arena_with, arena_sum}

-- nothing is written yet
pub grown-none : (from : ℕ) (bytes : List ℕ) (letters : List Letter) → Grown from bytes letters [] (length bytes) bytes letters
grown-none from bytes letters = record {
  sum_is = omega arith;
  bytes_are = λ low. sym (append-nil bytes);
  letters_are = λ low. sym (append-nil letters);
}

-- the sum is that of what is kept, while all is kept
pub grown-count : (from : ℕ) (b0 : List ℕ) (l0 : List Letter) (sends : List Outgoing) (sum : ℕ) (b : List ℕ) (l : List Letter) → Grown from b0 l0 sends sum b l
    → sum ≤ frame_limit → sum ≡ length b
grown-count from b0 l0 sends sum b l g low =
    omega (arith, g.sum_is, ap length (g.bytes_are low), length-append b0 (frames (sent_by from sends)), frames_sum (sent_by from sends))

-- one more message is written
pub grown-more : (from : ℕ) (b0 : List ℕ) (l0 : List Letter) (sends : List Outgoing) (o : Outgoing) (sum : ℕ) (b : List ℕ) (l : List Letter) (sum2 : ℕ) (b2 : List ℕ) (l2 : List Letter)
    → Grown from b0 l0 sends sum b l → sum2 ≡ sum + length (spell o.message)
    → (sum2 ≤ frame_limit → b2 ≡ b ++ spell o.message)
    → (sum2 ≤ frame_limit → l2 ≡ l ++ letters_of (length b) (record { from = from; to = o.to; message = o.message } ∷ []))
    → Grown from b0 l0 (sends ++ o ∷ []) sum2 b2 l2
grown-more from b0 l0 sends o sum b l sum2 b2 l2 g s hb hl =
    let one : Sent = record { from = from; to = o.to; message = o.message } in
    let all : sent_by from (sends ++ o ∷ []) ≡ sent_by from sends ++ one ∷ [] = map-append (λ (x : Outgoing). let y : Sent = record { from = from; to = x.to; message = x.message } in y) sends (o ∷ []) in
    record {
      sum_is = s ∙ omega (arith, g.sum_is, ap frame_bytes all, sum_by-append (λ (x : Sent). length (spell x.message)) (sent_by from sends) (one ∷ []));
      bytes_are = λ low.
          let before : sum ≤ frame_limit = omega (arith, s) in
          hb low ∙ ap (λ bs. bs ++ spell o.message) (g.bytes_are before)
          ∙ append_assoc b0 (frames (sent_by from sends)) (spell o.message)
          ∙ ap (λ bs. b0 ++ (frames (sent_by from sends) ++ bs)) (sym (append-nil (spell o.message)))
          ∙ ap (λ bs. b0 ++ bs) (sym (flat_map-append frame_of (sent_by from sends) (one ∷ [])))
          ∙ ap (λ sent. b0 ++ frames sent) (sym all);
      letters_are = λ low.
          let before : sum ≤ frame_limit = omega (arith, s) in
          let at : length b ≡ length b0 + length (frames (sent_by from sends)) = ap length (g.bytes_are before) ∙ length-append b0 (frames (sent_by from sends)) in
          hl low ∙ ap (λ ls. ls ++ letters_of (length b) (one ∷ [])) (g.letters_are before)
          ∙ append_assoc l0 (letters_of (length b0) (sent_by from sends)) (letters_of (length b) (one ∷ []))
          ∙ ap (λ n. l0 ++ (letters_of (length b0) (sent_by from sends) ++ letters_of n (one ∷ []))) at
          ∙ ap (λ ls. l0 ++ ls) (sym (letters-append (length b0) (sent_by from sends) (one ∷ [])))
          ∙ ap (λ sent. l0 ++ letters_of (length b0) sent) (sym all);
    }

-- the messages up to the next place
pub up_to_next : (sends : List Outgoing) (i : ℕ) (o : Outgoing) → i < length sends → o ≡ get_or sends i o → take (i + 1) sends ≡ take i sends ++ o ∷ []
up_to_next sends i o lt is = take_more sends i o lt ∙ ap (λ x. take i sends ++ x ∷ []) (sym is)

-- what is written whole is kept
pub record KeptAll (from : ℕ) (bytes : List ℕ) (letters : List Letter) (sends : List Outgoing) (sum : ℕ) (bytes2 : List ℕ) (letters2 : List Letter) : Type 0 where
  pub arena : IsArena bytes2 letters2
  pub seen : read_all bytes2 letters2 ≡ read_all bytes letters ++ sent_by from sends
  pub sum_is : frame_bytes (read_all bytes letters) + frame_bytes (sent_by from sends) ≡ sum

pub kept_all : (from : ℕ) (bytes : List ℕ) (letters : List Letter) (sends : List Outgoing) (sum : ℕ) (bytes2 : List ℕ) (letters2 : List Letter) → IsArena bytes letters
    → All (λ o. InRange o.message) sends → Grown from bytes letters sends sum bytes2 letters2 → sum ≤ frame_limit → KeptAll from bytes letters sends sum bytes2 letters2
kept_all from bytes letters sends sum bytes2 letters2 a range g low =
    let more = sent_by from sends in
    let both_are = arena_with bytes letters more bytes2 letters2 a
    (All-map (λ (s : Sent). InRange s.message) (λ (o : Outgoing). let s : Sent = record { from = from; to = o.to; message = o.message } in s) sends range)
    (g.bytes_are low) (g.letters_are low) (omega (arith, grown-count from bytes letters sends sum bytes2 letters2 g low)) in
    record {
      arena = both_are.0;
      seen = both_are.1;
      sum_is = omega (arith, g.sum_is, arena_sum bytes letters a);
    }
