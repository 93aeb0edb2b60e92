-- The answer to a trace, line by line.
use Rattle.std.proofs.Common.{◌≡◌, ℕ, ◌+◌, ◌<◌, ◌≤◌, Bool, true, false, ◌==◌, List, [], ◌∷◌, ◌++◌, length, refl, sym, ap, ◌∙◌, subst, length-append, arith}
use Rattle.std.specs.Prelude.{Option, Some, None, nat_le}
use Rattle.std.specs.Option.{option_map}
use Rattle.std.proofs.lemmas.Bool.{cond_both, cond-true, cond-false, and_parts, leb-true}
use Rattle.tcs_terms.specs.declared.limits.TheConstants.{MAX_SHARDS}
use Rattle.schedule_text.specs.Lines.{line_feed, has_feed}
use Rattle.trace_text.specs.declared.items.TraceItem.{TraceItem}
use Rattle.trace_text.specs.declared.items.TraceItem.TheVariants as items
use Rattle.trace_text.specs.Lines.{Line, HeadLine, EventLine, NoteLine, MessageLine, OrderLine, EndLine, Standing, MayStand, after, item_of}
use Rattle.trace_text.specs.Readings.{line_in, Takes, Accepts}
use Rattle.trace_text.specs.Words.{cut}
use Rattle.audit_core.specs.Audits.{Answer, Judged, BadLine, at_end, with_line, answer_from}
use Rattle.audit_core.specs.Texts.{Lines, with_byte, lines_of, is_too_long}
use Rattle.audit_core.specs.Told.{Told, HasShards, with_item, verdict_told}
use Rattle.audit_core.proofs.Lines.{both, put_before, lines_behind, line_then, no_line, still_long}

-- the answer to bytes, from here on
abbrev pub answer_bytes : Standing → Told → ℕ → ℕ → List ℕ → Answer
answer_bytes s told lines used bytes = answer_from s told lines used (lines_of bytes).whole (lines_of bytes).rest

-- bytes behind the last whole line
pub left_over : (ended : Bool) (told : Told) (lines : ℕ) (bytes : List ℕ) → 0 < length bytes → at_end ended told lines bytes ≡ BadLine (lines + 1)
left_over true told lines [] some = absurd (omega arith)
left_over true told lines (b ∷ bs) some = refl
left_over false told lines bytes some = refl

pub not_ended : (told : Told) (lines : ℕ) (bytes : List ℕ) → told.ended ≡ false → at_end told.ended told lines bytes ≡ BadLine (lines + 1)
not_ended told lines bytes none = ap (λ b. at_end b told lines bytes) none

pub ended : (told : Told) (lines : ℕ) (bytes : List ℕ) → told.ended ≡ true → length bytes ≡ 0 → at_end told.ended told lines bytes ≡ Judged (verdict_told told)
ended told lines [] last none = ap (λ b. at_end b told lines []) last
ended told lines (b ∷ bs) last none = absurd (omega arith)

-- the input ends behind a text
pub answer_at_end : (s : Standing) (told : Told) (lines used : ℕ) (all text : List ℕ) → has_feed text ≡ false → all ≡ text
    → answer_bytes s told lines used all ≡ at_end told.ended told lines text
answer_at_end s told lines used all text none is =
    ap (answer_bytes s told lines used) is ∙ ap (λ (l : Lines). answer_from s told lines used l.whole l.rest) (no_line text none)

-- a line feed ends a text
pub answer_behind_text : (s : Standing) (told : Told) (lines used : ℕ) (all text more : List ℕ) → has_feed text ≡ false → all ≡ text ++ line_feed ∷ more
    → answer_bytes s told lines used all ≡ answer_from s told lines used (text ∷ (lines_of more).whole) (lines_of more).rest
answer_behind_text s told lines used all text more none is =
    ap (answer_bytes s told lines used) is ∙ ap (λ (l : Lines). answer_from s told lines used l.whole l.rest) (line_then text more none)

-- bytes with no whole line are what stands behind the last one
unbroken : (bytes : List ℕ) → (lines_of bytes).whole ≡ [] → (lines_of bytes).rest ≡ bytes
unbroken [] e = refl
unbroken (b ∷ bs) e =
    cond_both (b == line_feed) (both ([] ∷ (lines_of bs).whole) (lines_of bs).rest) (with_byte b (lines_of bs).whole (lines_of bs).rest)
    (λ (l : Lines). l.whole ≡ [] → l.rest ≡ b ∷ bs) (λ _ k. absurd cc) (λ _ k. go (lines_of bs).whole (lines_of bs).rest (unbroken bs) k) e
  where
    go : (whole : List (List ℕ)) (rest : List ℕ) → (whole ≡ [] → rest ≡ bs) → (with_byte b whole rest).whole ≡ [] → (with_byte b whole rest).rest ≡ b ∷ bs
    go [] rest same k = ap (λ (ys : List ℕ). b ∷ ys) (same refl)
    go (line ∷ lines) rest same k = absurd cc

-- a text is too long
pub answer_long : (s : Standing) (told : Told) (lines used : ℕ) (all text more : List ℕ) → has_feed text ≡ false → all ≡ text ++ more
    → 0 < length all → is_too_long used text ≡ true → answer_bytes s told lines used all ≡ BadLine (lines + 1)
answer_long s told lines used all text more none is some long =
    ap (answer_bytes s told lines used) is ∙ ap (λ (l : Lines). answer_from s told lines used l.whole l.rest) (lines_behind text more none)
    ∙ go (lines_of more).whole (lines_of more).rest (unbroken more)
  where
    go : (whole : List (List ℕ)) (rest : List ℕ) → (whole ≡ [] → rest ≡ more)
        → answer_from s told lines used (put_before text whole rest).whole (put_before text whole rest).rest ≡ BadLine (lines + 1)
    go [] rest same = left_over told.ended told lines (text ++ rest) (subst (λ (bs : List ℕ). 0 < length bs) (is ∙ ap (λ (bs : List ℕ). text ++ bs) (sym (same refl))) some)
    go (line ∷ others) rest same = cond-true (is_too_long used (text ++ line)) (BadLine (lines + 1))
        (with_line (line_in s (text ++ line)) (lines + 1) (λ l. answer_from (after s l) (with_item told (item_of l)) (lines + 1) (used + length (text ++ line) + 1) others rest))
        (still_long used text line long)

-- ---- one line

-- the line of an item that was taken
pub record Took (s s' : Standing) (text : List ℕ) (item : TraceItem) : Type 0 where
  pub line : Line
  pub read : line_in s text ≡ Some line
  pub item_is : item ≡ item_of line
  pub behind : s' ≡ after s line

pub took : (s s' : Standing) (text : List ℕ) (item : TraceItem) → Takes s s' (Some item) (line_in s text) → Took s s' text item
took s s' text item takes = go (line_in s text) refl takes
  where
    go : (o : Option Line) → line_in s text ≡ o → Takes s s' (Some item) o → Took s s' text item
    go None e t = absurd (let no : Some item ≡ None = t.item_is in cc)
    go (Some line) e t = record { line = line; read = e; item_is = (let one : Some item ≡ Some (item_of line) = t.item_is in cc); behind = t.stands }

-- the answer goes on behind it
pub answer_on : (s s' : Standing) (told : Told) (lines used : ℕ) (text : List ℕ) (item : TraceItem) → is_too_long used text ≡ false
    → Took s s' text item → (texts : List (List ℕ)) (rest : List ℕ)
    → answer_from s told lines used (text ∷ texts) rest ≡ answer_from s' (with_item told item) (lines + 1) (used + length text + 1) texts rest
answer_on s s' told lines used text item short t texts rest =
    let more : Line → Answer = λ l. answer_from (after s l) (with_item told (item_of l)) (lines + 1) (used + length text + 1) texts rest in
    cond-false (is_too_long used text) (BadLine (lines + 1)) (with_line (line_in s text) (lines + 1) more) short
    ∙ ap (λ o. with_line o (lines + 1) more) t.read
    ∙ ap (λ (u : Standing). answer_from u (with_item told (item_of t.line)) (lines + 1) (used + length text + 1) texts rest) (sym t.behind)
    ∙ ap (λ (i : TraceItem). answer_from s' (with_item told i) (lines + 1) (used + length text + 1) texts rest) (sym t.item_is)

-- no line was read: it is bad
pub answer_bad : (s s' : Standing) (told : Told) (lines used : ℕ) (text : List ℕ) → is_too_long used text ≡ false
    → Takes s s' None (line_in s text) → (texts : List (List ℕ)) (rest : List ℕ)
    → answer_from s told lines used (text ∷ texts) rest ≡ BadLine (lines + 1)
answer_bad s s' told lines used text short takes texts rest =
    let more : Line → Answer = λ l. answer_from (after s l) (with_item told (item_of l)) (lines + 1) (used + length text + 1) texts rest in
    cond-false (is_too_long used text) (BadLine (lines + 1)) (with_line (line_in s text) (lines + 1) more) short
    ∙ ap (λ o. with_line o (lines + 1) more) (none (line_in s text) takes.item_is)
  where
    none : (o : Option Line) → None ≡ option_map item_of o → o ≡ None
    none None e = refl
    none (Some line) e = absurd cc

-- ---- what each line brings

-- a line has a byte at least
pub some_byte : (s : Standing) (text : List ℕ) (line : Line) → line_in s text ≡ Some line → 1 ≤ length text
unfolding line_in cut
some_byte s [] line e = absurd cc
some_byte s (b ∷ bs) line e = omega arith

-- the first line has 1 to 16 shards
pub has_shards : (s : Standing) (line : Line) → MayStand s line → HasShards (item_of line)
has_shards s (HeadLine version rule shards) may =
    let parts = and_parts (nat_le 1 shards) (nat_le shards MAX_SHARDS) may.2 in
    (leb-true 1 shards parts.0, leb-true shards MAX_SHARDS parts.1)
has_shards s (EventLine k result) may = tt
has_shards s (NoteLine note) may = tt
has_shards s (MessageLine number from to frame) may = tt
has_shards s (OrderLine order) may = tt
has_shards s (EndLine events messages) may = tt

pub shards_of : (s s' : Standing) (text : List ℕ) (item : TraceItem) → Accepts s text s' item → HasShards item
shards_of s s' text item a = subst HasShards (sym a.item_is) (has_shards s a.line a.stands)

-- a line tells one note at most
pub one_note : (told : Told) (item : TraceItem) → length (with_item told item).notes ≤ length told.notes + 1
one_note told (items.Head rule shards) = omega arith
one_note told items.Event = omega arith
one_note told (items.NoteLine note) = omega (arith, length-append told.notes (note ∷ []))
one_note told items.MessageLine = omega arith
one_note told (items.Order order) = omega arith
one_note told items.End = omega arith
