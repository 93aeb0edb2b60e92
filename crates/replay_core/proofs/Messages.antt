-- The lines of the messages of an event, one after the other.
use Rattle.std.proofs.Common.{◌≡◌, ℕ, zero, ◌+◌, ◌-◌, ◌≤◌, ◌<◌, Bool, true, false, nat_eq, cond, List, [], ◌∷◌, ◌++◌, length, map, get_or, take, drop, Option, Some, None, refl, sym, ◌∙◌, ap, append_assoc, arith}
use Rattle.std.specs.List.{flat_map, slice_get}
use Rattle.std.proofs.lemmas.Bool.{ne_eqb}
use Rattle.std.proofs.lemmas.Grind.{flat_map-append}
use Rattle.std.proofs.lemmas.List.{append-nil, take_more, take_all, get_or-drop, length-take-le, length-drop, length-map, map-append}
use Rattle.std.proofs.lemmas.Option.{get_or_from_slice_get, slice_get-get_or}
use Rattle.std.specs.Prelude.{◌&&◌, nat_le, slice_index}
use Rattle.tcs_terms.specs.declared.limits.TheConstants.{MAX_KIND}
use Rattle.wire_frame.specs.Spelling.{spell}
use Rattle.wire_frame.proofs.FrameLaws.{kind_is, is_kind_of}
use Rattle.trace_text.specs.Lines.{Line, MessageLine, printed}
use Rattle.trace_text.specs.Traces.{Sending, message_lines}
use Rattle.protocol.specs.World.{Sent, message_of}
use Rattle.replay_core.specs.Steps.{IsPosted}
use Rattle.replay_core.specs.Trace.{sending}

none_is_some : (s : Sent) → ◌≡◌ {A = Option Sent} None (Some s) → ⊥
none_is_some s e = absurd cc

number_there : (ms : List Sent) (number : ℕ) → 1 ≤ number → message_of ms number ≡ slice_get ms (number - 1)
number_there ms number positive = go (nat_eq number 0) refl where
  go : (b : Bool) → nat_eq number 0 ≡ b → cond b None (slice_get ms (number - 1)) ≡ slice_get ms (number - 1)
  go false e = refl
  go true e = absurd (differ e (ne_eqb number 0 (λ z. absurd (omega (arith, z, positive))))) where
    differ : nat_eq number 0 ≡ true → nat_eq number 0 ≡ false → ⊥
    differ x y = absurd cc

-- a number up to the last one is that of a message
pub no_gap : (ms : List Sent) (number : ℕ) → 1 ≤ number → number ≤ length ms → message_of ms number ≡ None → ⊥
no_gap ms number positive within none =
    let first = get_or ms (number - 1) in
    go ms refl where
      go : (xs : List Sent) → ms ≡ xs → ⊥
      go [] e = absurd (omega (arith, ap length e, positive, within))
      go (x ∷ xs) e = none_is_some _ (sym none ∙ number_there ms number positive ∙ slice_get-get_or ms (number - 1) x (omega arith))

lines_more : (n : ℕ) (xs : List Sending) (x : Sending) → message_lines n (xs ++ x ∷ []) ≡ message_lines n xs ++ MessageLine (n + length xs) x.from x.to x.frame ∷ []
lines_more n [] x = ap (λ k. MessageLine k x.from x.to x.frame ∷ []) (omega arith)
lines_more n (y ∷ xs) x =
    ap (λ (ls : List Line). MessageLine n y.from y.to y.frame ∷ ls)
    (lines_more (n + 1) xs x ∙ ap (λ k. message_lines (n + 1) xs ++ MessageLine k x.from x.to x.frame ∷ []) (omega arith))

-- the lines of messages from this number on, up to another one
abbrev pub lines_to : ℕ → ℕ → List Sent → List ℕ
lines_to first number ms = flat_map printed (message_lines first (map sending (take (number - first) (drop (first - 1) ms))))

pub none_shown : (first : ℕ) (ms : List Sent) (text : List ℕ) → text ≡ text ++ lines_to first first ms
none_shown first ms text =
    sym (append-nil text) ∙ ap (λ n. text ++ flat_map printed (message_lines first (map sending (take n (drop (first - 1) ms))))) (zero_is first) where
      zero_is : (n : ℕ) → ◌≡◌ {A = ℕ} 0 (n - n)
      zero_is n = omega arith

pub shows_more : (first number : ℕ) (ms : List Sent) (s : Sent) (old text next : List ℕ) → 1 ≤ first → first ≤ number → number ≤ length ms → message_of ms number ≡ Some s
    → text ≡ old ++ lines_to first number ms → next ≡ text ++ printed (MessageLine number s.from s.to (spell s.message)) → next ≡ old ++ lines_to first (number + 1) ms
shows_more first number ms s old text next positive after within found before one =
    let n = number - first in
    let others = drop (first - 1) ms in
    let place : first - 1 + n ≡ number - 1 = omega arith in
    let many : length others ≡ length ms - (first - 1) = length-drop (first - 1) ms in
    let here : get_or others n s ≡ s =
    get_or-drop (first - 1) ms n s ∙ ap (λ k. get_or ms k s) place ∙ get_or_from_slice_get ms (number - 1) s s (sym (number_there ms number (omega arith)) ∙ found) in
    let grown : take (number + 1 - first) others ≡ take n others ++ s ∷ [] =
    ap (λ k. take k others) (step_is first number after) ∙ take_more others n s (omega arith) ∙ ap (λ x. take n others ++ x ∷ []) here in
    let taken : length (map sending (take n others)) ≡ n = length-map (take n others) sending ∙ length-take-le n others (omega arith) in
    let lines = ap (λ (xs : List Sent). message_lines first (map sending xs)) grown
    ∙ ap (message_lines first) (map-append sending (take n others) (s ∷ []))
    ∙ lines_more first (map sending (take n others)) (sending s)
    ∙ ap (λ k. message_lines first (map sending (take n others)) ++ MessageLine k s.from s.to (spell s.message) ∷ []) (ap (λ k. first + k) taken ∙ back first number after) in
    let shown = ap (flat_map printed) lines ∙ flat_map-append printed (message_lines first (map sending (take n others))) (MessageLine number s.from s.to (spell s.message) ∷ [])
    ∙ ap (λ (t : List ℕ). lines_to first number ms ++ t) (append-nil (printed (MessageLine number s.from s.to (spell s.message)))) in
    one ∙ ap (λ (t : List ℕ). t ++ printed (MessageLine number s.from s.to (spell s.message))) before
    ∙ append_assoc old (lines_to first number ms) (printed (MessageLine number s.from s.to (spell s.message))) ∙ ap (λ (t : List ℕ). old ++ t) (sym shown) where
      step_is : (a b : ℕ) → a ≤ b → b + 1 - a ≡ b - a + 1
      step_is a b le = omega arith

      back : (a b : ℕ) → a ≤ b → a + (b - a) ≡ b
      back a b le = omega arith

-- all of them
pub all_shown : (first last : ℕ) (ms : List Sent) (old text : List ℕ) → 1 ≤ first → last ≡ length ms + 1 → text ≡ old ++ lines_to first last ms
    → text ≡ old ++ flat_map printed (message_lines first (map sending (drop (first - 1) ms)))
all_shown first last ms old text positive all shown =
    shown ∙ ap (λ (xs : List Sent). old ++ flat_map printed (message_lines first (map sending xs)))
    (take_all (last - first) (drop (first - 1) ms) (omega (arith, length-drop (first - 1) ms, all)))

-- ---- one that is told

-- its frame begins with the number of a kind
pub framed : (o : Option Sent) (from to : ℕ) (frame : List ℕ) → IsPosted o from to frame → (nat_le 1 (slice_index frame 0) && nat_le (slice_index frame 0) MAX_KIND) ≡ true
framed None from to frame h = absurd h
framed (Some s) from to frame h = rw (h.2, kind_is s.message) (is_kind_of s.message)

pub posted_more : (first number : ℕ) (ms : List Sent) (o : Option Sent) (from to : ℕ) (frame old text next : List ℕ) → 1 ≤ first → first ≤ number → number ≤ length ms → message_of ms number ≡ o
    → IsPosted o from to frame → text ≡ old ++ lines_to first number ms → next ≡ text ++ printed (MessageLine number from to frame) → next ≡ old ++ lines_to first (number + 1) ms
posted_more first number ms None from to frame old text next positive after within is h before one = absurd h
posted_more first number ms (Some s) from to frame old text next positive after within is h before one =
    shows_more first number ms s old text next positive after within is before
    (one ∙ ap (λ n. text ++ printed (MessageLine number n to frame)) h.0 ∙ ap (λ n. text ++ printed (MessageLine number s.from n frame)) h.1
    ∙ ap (λ (f : List ℕ). text ++ printed (MessageLine number s.from s.to f)) h.2)
