-- One line of a trace more, and the end.
use Rattle.std.proofs.Common.{◌≡◌, ℕ, ◌+◌, ◌*◌, ◌<◌, ◌≤◌, false, List, [], ◌∷◌, ◌++◌, length, refl, sym, ap, ◌∙◌, subst, arith}
use Rattle.std.specs.Prelude.{Option, Some, None, Ok, Err}
use Rattle.trace_text.specs.declared.items.TraceItem.{TraceItem}
use Rattle.trace_text.specs.Lines.{Standing, at_start}
use Rattle.trace_text.specs.Readings.{line_in, Takes as Reads}
use Rattle.judge.specs.declared.verdicts.Verdict.{Verdict}
use Rattle.audit_core.specs.declared.limits.TheConstants.{MAX_TRACE}
use Rattle.audit_core.specs.declared.reading.Reading.{Reading}
use Rattle.audit_core.specs.declared.stops.AuditStop.{AuditStop}
use Rattle.audit_core.specs.declared.stops.AuditStop.TheVariants as stops
use Rattle.audit_core.specs.declared.texts.TextEnd.TheVariants.{Whole, Long, Ended}
use Rattle.audit_core.specs.Audits.{Answer, BadLine, Ends, at_end, answer_from, answer_of}
use Rattle.audit_core.specs.Steps.{IsFresh, IsCounted, Goes, GoesOn, Says, Takes, answer_behind, answer_here}
use Rattle.audit_core.specs.Texts.{lines_of, is_too_long, Yields}
use Rattle.audit_core.specs.Told.{Told, with_item, nothing_told}
use Rattle.audit_core.proofs.Lines.{has_room}
use Rattle.audit_core.proofs.Answering.{answer_at_end, answer_behind_text, answer_long, answer_on, took, Took, some_byte, one_note}

module _ (s s' : Standing) (told told' : Told) (lines lines' used used' : ℕ) (text : List ℕ) (item : TraceItem)
    (short : is_too_long used text ≡ false) (takes : Reads s s' (Some item) (line_in s text))
    (told_is : told' ≡ with_item told item) (lines_is : lines' ≡ lines + 1) (used_is : used' ≡ used + length text + 1) where
  -- a line was taken: the answer goes on
  pub take_on : (texts : List (List ℕ)) (rest : List ℕ) → answer_from s told lines used (text ∷ texts) rest ≡ answer_from s' told' lines' used' texts rest
  take_on texts rest =
      answer_on s s' told lines used text item short (took s s' text item takes) texts rest
      ∙ ap (λ t. answer_from s' t (lines + 1) (used + length text + 1) texts rest) (sym told_is)
      ∙ ap (λ n. answer_from s' told' n (used + length text + 1) texts rest) (sym lines_is)
      ∙ ap (λ n. answer_from s' told' lines' n texts rest) (sym used_is)

  -- and the counts stay in bounds
  pub take_counts : 2 * lines ≤ used → length told.notes ≤ lines
      → (used' ≤ MAX_TRACE) × (2 * lines' ≤ used') × (length told'.notes ≤ lines') × (used < used')
  take_counts twice few =
      let t : Took s s' text item = took s s' text item takes in
      let some = some_byte s text t.line t.read in
      let fits = has_room used text short in
      let one = one_note told item in
      let notes : length told'.notes ≤ length told.notes + 1 = subst (λ (x : Told). length x.notes ≤ length told.notes + 1) (sym told_is) one in
      (omega (arith, fits.1, used_is), omega (arith, twice, some, lines_is, used_is), omega (arith, notes, few, lines_is), omega (arith, used_is))

-- a text that is too long
pub long_here : (r : Reading) (all text held : List ℕ) (left : Option (List ℕ)) → Yields Long r.used all text held left
    → answer_here r all ≡ BadLine (r.lines + 1)
long_here r all text held left y =
    answer_long r.reader r.history r.lines r.used all text y.divided.0 y.one_line y.divided.1 y.divided.2 y.divided.3

-- a whole line
pub whole_here : (r : Reading) (all text held : List ℕ) (left : Option (List ℕ)) (y : Yields Whole r.used all text held left)
    → answer_here r all ≡ answer_behind r (text ∷ (lines_of (held ++ y.rest)).whole) (lines_of (held ++ y.rest)).rest
whole_here r all text held left y =
    answer_behind_text r.reader r.history r.lines r.used all text (held ++ y.rest) y.one_line y.divided.0

-- the end
pub end_here : (r : Reading) (all text held : List ℕ) (left : Option (List ℕ)) → Yields Ended r.used all text held left
    → answer_here r all ≡ at_end r.history.ended r.history r.lines text
end_here r all text held left y = answer_at_end r.reader r.history r.lines r.used all text y.one_line y.divided.0

pub left_empty : (used : ℕ) (all text held : List ℕ) (left : Option (List ℕ)) → Yields Ended used all text held left → left ≡ Some []
left_empty used all text held left y = y.told ∙ ap (λ (xs : List ℕ). Some xs) y.divided.2

-- ---- what the next line answers

-- the reader of lines stopped
pub stopped_goes : (old : Reading) (rest : List ℕ) (new : Reading) (left : Option (List ℕ)) (stop : AuditStop)
    → ((line : ℕ) → stop ≡ stops.BadTrace line → ⊥) → Goes old rest new left (Err stop)
stopped_goes old rest new left (stops.BadTrace line) good = absurd (good line refl)
stopped_goes old rest new left stops.ReadFault good = tt
stopped_goes old rest new left stops.WriteFault good = tt
stopped_goes old rest new left stops.OutOfMemory good = tt

-- the input has ended, and there is no verdict
pub ended_goes : (old : Reading) (rest : List ℕ) (new : Reading) (left : Option (List ℕ)) (text held : List ℕ) (stop : AuditStop)
    → Yields Ended old.used (old.texts ++ rest) text held left → Says (at_end old.history.ended old.history old.lines text) (Err stop)
    → Goes old rest new left (Err stop)
ended_goes old rest new left text held (stops.BadTrace line) y says = end_here old (old.texts ++ rest) text held left y ∙ says
ended_goes old rest new left text held stops.ReadFault y says = tt
ended_goes old rest new left text held stops.WriteFault y says = tt
ended_goes old rest new left text held stops.OutOfMemory y says = tt

-- the verdict is there
pub judged_goes : (old : Reading) (rest : List ℕ) (new : Reading) (left : Option (List ℕ)) (text held : List ℕ) (verdict : Verdict)
    → Yields Ended old.used (old.texts ++ rest) text held left → Says (at_end old.history.ended old.history old.lines text) (Ok verdict)
    → Goes old rest new left (Ok (Some verdict))
judged_goes old rest new left text held verdict y says =
    (end_here old (old.texts ++ rest) text held left y ∙ says, left_empty old.used (old.texts ++ rest) text held left y)

-- the line was not taken
pub refused_goes : (old : Reading) (rest : List ℕ) (new : Reading) (left : Option (List ℕ)) (text held : List ℕ) (stop : AuditStop)
    → Yields Whole old.used (old.texts ++ rest) text held left → Takes (λ texts more. answer_behind old (text ∷ texts) more) new (Err stop)
    → Goes old rest new left (Err stop)
refused_goes old rest new left text held (stops.BadTrace line) y takes =
    whole_here old (old.texts ++ rest) text held left y ∙ takes (lines_of (held ++ y.rest)).whole (lines_of (held ++ y.rest)).rest
refused_goes old rest new left text held stops.ReadFault y takes = tt
refused_goes old rest new left text held stops.WriteFault y takes = tt
refused_goes old rest new left text held stops.OutOfMemory y takes = tt

-- the line was taken
pub taken_goes : (old : Reading) (rest : List ℕ) (new : Reading) (left : Option (List ℕ)) (text held : List ℕ)
    → Yields Whole old.used (old.texts ++ rest) text held left → ((texts : List (List ℕ)) (more : List ℕ) → answer_behind old (text ∷ texts) more ≡ answer_behind new texts more)
    → new.texts ≡ held → Goes old rest new left (Ok None)
taken_goes old rest new left text held y takes same = record {
  rest = y.rest;
  told = y.told;
  same = whole_here old (old.texts ++ rest) text held left y ∙ takes (lines_of (held ++ y.rest)).whole (lines_of (held ++ y.rest)).rest
      ∙ ap (λ (xs : List ℕ). answer_here new (xs ++ y.rest)) (sym same);
}

-- ---- line by line

-- the answer stays behind one more line
pub goes_next : (answer : Answer) (old new : Reading) (left left' : Option (List ℕ)) (g : GoesOn answer old left)
    → GoesOn (answer_here old (old.texts ++ g.rest)) new left' → GoesOn answer new left'
goes_next answer old new left left' g next = record { rest = next.rest; told = next.told; same = g.same ∙ next.same }

-- or it is told
pub ends_stopped : (bytes : List ℕ) (old new : Reading) (left left' : Option (List ℕ)) (stop : AuditStop) (g : GoesOn (answer_of bytes) old left)
    → Goes old g.rest new left' (Err stop) → Ends bytes left' (Err stop)
ends_stopped bytes old new left left' (stops.BadTrace line) g goes = g.same ∙ goes
ends_stopped bytes old new left left' stops.ReadFault g goes = tt
ends_stopped bytes old new left left' stops.WriteFault g goes = tt
ends_stopped bytes old new left left' stops.OutOfMemory g goes = tt

pub ends_judged : (bytes : List ℕ) (old new : Reading) (left left' : Option (List ℕ)) (verdict : Verdict) (g : GoesOn (answer_of bytes) old left)
    → Goes old g.rest new left' (Ok (Some verdict)) → Ends bytes left' (Ok verdict)
ends_judged bytes old new left left' verdict g goes = (g.same ∙ goes.0, goes.1)

-- before the first line
pub fresh_goes : (r : Reading) (bytes : List ℕ) (left : Option (List ℕ)) → IsFresh r → left ≡ Some bytes → GoesOn (answer_of bytes) r left
fresh_goes r bytes left f told = record { rest = bytes; told = told; same = same }
  where
    from : Standing → Told → ℕ → ℕ → List ℕ → Answer
    from s t n used all = answer_from s t n used (lines_of all).whole (lines_of all).rest

    same : answer_of bytes ≡ answer_here r (r.texts ++ bytes)
    same = sym (ap (λ x. from x r.history r.lines r.used (r.texts ++ bytes)) f.reader
        ∙ ap (λ x. from at_start x r.lines r.used (r.texts ++ bytes)) f.history
        ∙ ap (λ x. from at_start nothing_told x r.used (r.texts ++ bytes)) f.no_lines
        ∙ ap (λ x. from at_start nothing_told 0 x (r.texts ++ bytes)) f.no_bytes
        ∙ ap (λ (x : List ℕ). from at_start nothing_told 0 0 (x ++ bytes)) f.nothing_held)

pub fresh_counted : (r : Reading) → IsFresh r → IsCounted r
fresh_counted r f = record {
  within = omega (arith, f.no_bytes);
  lines = omega (arith, f.no_lines, f.no_bytes);
  notes = omega (arith, ap (λ (t : Told). length t.notes) f.history);
}
