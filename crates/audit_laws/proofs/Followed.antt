-- The answer to lines that are read one by one.
use Rattle.std.proofs.Common.{◌≡◌, ℕ, ◌+◌, ◌≤◌, true, false, ◌&&◌, ◌||◌, ◌==◌, nat_le, nat_lt, List, [], ◌∷◌, length, fold, Option, Some, None, refl, sym, ap, subst, ◌∙◌, arith}
use Rattle.std.specs.Prelude.{All}
use Rattle.std.proofs.lemmas.Bool.{cond-false}
use Rattle.std.proofs.lemmas.Bool.Decides.{nat_tests}
use Rattle.std.proofs.lemmas.List.Elements.{All-head, All-tail}
use Rattle.tcs_terms.specs.declared.limits.TheConstants.{MAX_SHARDS}
use Rattle.tcs_terms.proofs.BoolLaws.{right_of}
use Rattle.schedule_text.specs.Lines.{has_feed}
use Rattle.trace_text.specs.declared.items.TraceItem.{TraceItem}
use Rattle.trace_text.specs.Lines.{Line, HeadLine, EventLine, NoteLine, MessageLine, OrderLine, EndLine, Standing, IsStanding, MayStand, after, item_of}
use Rattle.trace_text.specs.Readings.{line_in}
use Rattle.trace_text.specs.Traces.{read_lines}
use Rattle.trace_text.specs.Words.{◌>>=◌}
use Rattle.trace_text.proofs.Feeds.{line_has_no_feed}
use Rattle.trace_text.proofs.LineWords.{line_takes}
use Rattle.audit_core.specs.declared.limits.TheConstants.{MAX_LINE, MAX_TRACE}
use Rattle.audit_core.specs.Texts.{is_too_long}
use Rattle.audit_core.specs.Told.{Told, with_item, verdict_told}
use Rattle.audit_core.specs.Audits.{Answer, Judged, BadLine, at_end, with_line, answer_from}
use Rattle.audit_laws.proofs.Spread.{HaveNoFeed, size_of}

-- ---- the first of the lines

-- it is read, and so are those behind it
record Reads (s : Standing) (text : List ℕ) (texts : List (List ℕ)) (items : List TraceItem) (end : Standing) : Type 0 where
  line : Line
  taken : line_in s text ≡ Some line
  others : List TraceItem
  behind : read_lines (after s line) texts ≡ Some (others, end)
  items_are : item_of line ∷ others ≡ items

-- the items that were read, and where the reader then stands
abbrev items_in : Option (List TraceItem × Standing) → List TraceItem
items_in None = []
items_in (Some x) = x.0

abbrev end_in : Standing → Option (List TraceItem × Standing) → Standing
end_in s None = s
end_in s (Some x) = x.1

-- the items of a line and of those behind it
abbrev joined : Line → List TraceItem × Standing → Option (List TraceItem × Standing)
joined line others = Some (item_of line ∷ others.0, others.1)

reads-first : (s : Standing) (text : List ℕ) (texts : List (List ℕ)) (items : List TraceItem) (end : Standing) → read_lines s (text ∷ texts) ≡ Some (items, end) → Reads s text texts items end
unfolding read_lines
reads-first s text texts items end e = go (line_in s text) refl e
  where
    more : (line : Line) → line_in s text ≡ Some line → (o : Option (List TraceItem × Standing)) → read_lines (after s line) texts ≡ o
        → (◌>>=◌ {B = List TraceItem × Standing} o (joined line)) ≡ Some (items, end) → Reads s text texts items end
    more line t None q h = absurd cc
    more line t (Some others) q h = record {
      line = line;
      taken = t;
      others = others.0;
      behind = q ∙ ap (λ (x : Standing). Some (others.0, x)) (ap (end_in s) h);
      items_are = ap items_in h;
    }

    go : (o : Option Line) → line_in s text ≡ o
        → (◌>>=◌ {B = List TraceItem × Standing} o (λ line. ◌>>=◌ {B = List TraceItem × Standing} (read_lines (after s line) texts) (joined line))) ≡ Some (items, end)
        → Reads s text texts items end
    go None q h = absurd cc
    go (Some line) q h = more line q (read_lines (after s line) texts) refl h

-- ---- no line feed

is_version : (n : ℕ) → (nat_le 1 n && nat_le n 2) ≡ true → ((n == 1) || (n == 2)) ≡ true
is_version n h = grind (arith, nat_tests)

few_shards : (n : ℕ) → nat_le n MAX_SHARDS ≡ true → n ≤ MAX_SHARDS
few_shards n h = grind (arith, nat_tests)

standing-after : (s : Standing) (line : Line) → IsStanding s → MayStand s line → IsStanding (after s line)
standing-after s (HeadLine version rule shards) i h =
    record { version = is_version version h.1; shards = few_shards shards (right_of (nat_le 1 shards) (nat_le shards MAX_SHARDS) h.2); events = i.events; messages = i.messages }
standing-after s (EventLine k r) i h = record { version = i.version; shards = i.shards; events = h.2; messages = i.messages }
standing-after s (NoteLine note) i h = i
standing-after s (MessageLine number from to frame) i h = record { version = i.version; shards = i.shards; events = i.events; messages = h.2 }
standing-after s (OrderLine order) i h = record { version = i.version; shards = i.shards; events = i.events; messages = i.messages }
standing-after s (EndLine events messages) i h = record { version = i.version; shards = i.shards; events = i.events; messages = i.messages }

pub read-no_feed : (s : Standing) (texts : List (List ℕ)) (items : List TraceItem) (end : Standing) → IsStanding s → read_lines s texts ≡ Some (items, end) → HaveNoFeed texts
read-no_feed s [] items end i e = tt
read-no_feed s (text ∷ texts) items end i e =
    let r : Reads s text texts items end = reads-first s text texts items end e in
    let l = line_takes s text r.line r.taken in (
      subst (λ (t : List ℕ). has_feed t ≡ false) (sym l.1) (line_has_no_feed s r.line i l.0),
      read-no_feed (after s r.line) texts r.others end (standing-after s r.line i l.0) r.behind,
    )

-- ---- the answer

not_over : (most last used : ℕ) (n : ℕ) → n ≤ most → used + n + 1 ≤ last → (nat_lt most n || nat_lt last (used + n + 1)) ≡ false
not_over most last used n short within = grind (arith, nat_tests)

-- where the last of the items ends the trace, it is judged
pub answer-read : (s : Standing) (texts : List (List ℕ)) (items : List TraceItem) (end : Standing) (told : Told) (lines used : ℕ) → read_lines s texts ≡ Some (items, end)
    → All (λ text. length text ≤ MAX_LINE) texts → used + size_of texts ≤ MAX_TRACE
    → (fold with_item told items).ended ≡ true → answer_from s told lines used texts [] ≡ Judged (verdict_told (fold with_item told items))
unfolding read_lines
answer-read s [] items end told lines used e short within =
    let none : [] ≡ items = ap items_in e in
    subst (λ (is : List TraceItem). (fold with_item told is).ended ≡ true → at_end told.ended told lines [] ≡ Judged (verdict_told (fold with_item told is))) none
    (λ ended. ap (λ b. at_end b told lines []) ended)
answer-read s (text ∷ texts) items end told lines used e short within =
    let r : Reads s text texts items end = reads-first s text texts items end e in
    let more : Line → Answer = λ l. answer_from (after s l) (with_item told (item_of l)) (lines + 1) (used + length text + 1) texts [] in
    subst (λ (is : List TraceItem). (fold with_item told is).ended ≡ true → answer_from s told lines used (text ∷ texts) [] ≡ Judged (verdict_told (fold with_item told is))) r.items_are
    (λ ended.
    cond-false (is_too_long used text) (BadLine (lines + 1)) (with_line (line_in s text) (lines + 1) more)
    (not_over MAX_LINE MAX_TRACE used (length text) (All-head (λ (t : List ℕ). length t ≤ MAX_LINE) text texts short) (omega (arith, within)))
    ∙ ap (λ o. with_line o (lines + 1) more) r.taken
    ∙ answer-read (after s r.line) texts r.others end (with_item told (item_of r.line)) (lines + 1) (used + length text + 1) r.behind
    (All-tail (λ (t : List ℕ). length t ≤ MAX_LINE) text texts short) (omega (arith, within)) ended)
