-- The lines of messages, one after the other.
use Rattle.std.proofs.Common.{◌≡◌, ℕ, ◌+◌, ◌<◌, List, [], ◌∷◌, ◌++◌, length, get_or, take, sym, ◌∙◌, ap, append_assoc, arith}
use Rattle.std.proofs.lemmas.List.{append-nil, take_more, length-take-le}
use Rattle.schedule_text.specs.Text.{with_feed}
use Rattle.quorum_protocol.specs.declared.terms.Message.{Message}
use Rattle.quorum_config.specs.Texts.{message_line, message_lines}

lines_end : (first : ℕ) (ms : List Message) (m : Message) → message_lines first (ms ++ m ∷ []) ≡ message_lines first ms ++ with_feed (message_line (first + length ms) m)
lines_end first [] m = append-nil (with_feed (message_line first m)) ∙ ap (λ (n : ℕ). with_feed (message_line n m)) (omega arith)
lines_end first (x ∷ ms) m =
    let here = with_feed (message_line first x) in
    ap (λ (t : List ℕ). here ++ t) (lines_end (first + 1) ms m)
    ∙ sym (append_assoc here (message_lines (first + 1) ms) (with_feed (message_line (first + 1 + length ms) m)))
    ∙ ap (λ (n : ℕ). (here ++ message_lines (first + 1) ms) ++ with_feed (message_line n m)) (omega arith)

-- one more message
pub one_more_message : (before out written : List ℕ) (ms : List Message) (i first : ℕ) (m : Message) (number : ℕ) → i < length ms → m ≡ get_or ms i m → number ≡ first + i
    → written ≡ before ++ message_lines first (take i ms) → out ≡ written ++ with_feed (message_line number m)
    → out ≡ before ++ message_lines first (take (i + 1) ms)
one_more_message before out written ms i first m number inside is counted so_far now =
    let front = message_lines first (take i ms) in
    let line = with_feed (message_line number m) in
    let place : first + length (take i ms) ≡ number = omega (arith, length-take-le i ms (omega arith)) in
    let lines : message_lines first (take (i + 1) ms) ≡ front ++ line =
    ap (message_lines first) (take_more ms i m inside ∙ ap (λ (x : Message). take i ms ++ x ∷ []) (sym is)) ∙ lines_end first (take i ms) m
    ∙ ap (λ (n : ℕ). front ++ with_feed (message_line n m)) place in
    now ∙ ap (λ (t : List ℕ). t ++ line) so_far ∙ append_assoc before front line ∙ ap (λ (t : List ℕ). before ++ t) (sym lines)
