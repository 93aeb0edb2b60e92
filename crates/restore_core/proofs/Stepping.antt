-- One line of a file more, and the end.
use Rattle.std.proofs.Common.{◌≡◌, ℕ, ◌+◌, Bool, true, false, List, [], ◌∷◌, ◌++◌, sym, ap, ◌∙◌, subst}
use Rattle.std.specs.Prelude.{Option, Some, Ok, Err}
use Rattle.schedule_text.specs.declared.lines.LinesStop.{LinesStop}
use Rattle.schedule_text.specs.declared.lines.LinesStop.TheVariants as lines
use Rattle.backup_machine.specs.declared.objects.Kept.{Kept}
use Rattle.backup_text.specs.declared.items.BackupItem.{BackupItem}
use Rattle.backup_text.specs.declared.limits.TheConstants.{MAX_LINE}
use Rattle.backup_text.specs.Lines.{Standing, MayStand, after, at_start}
use Rattle.backup_text.specs.Readings.{line_in, Takes as Reads}
use Rattle.backup_text.proofs.LineWords.{line_takes}
use Rattle.restore_core.specs.declared.reading.Reading.{Reading}
use Rattle.restore_core.specs.declared.stops.RestoreStop.{RestoreStop}
use Rattle.restore_core.specs.declared.stops.RestoreStop.TheVariants as stops
use Rattle.long_lines.specs.declared.texts.TextEnd.TheVariants.{Whole, Long, Ended}
use Rattle.restore_core.specs.Files.{Answer, Restores, BadLine, answer_from, answer_of, is_ended}
use Rattle.restore_core.specs.Stops.{stop_of_lines}
use Rattle.restore_core.specs.Steps.{Behind, IsFresh, IsBehind, Goes, GoesOn, Says, Takes, answer_behind, answer_here, ended_with, ends_here, kept_with}
use Rattle.long_lines.specs.Texts.{lines_of, is_too_long, Yields}
use Rattle.restore_core.proofs.Answering.{Took, answer_at_end, answer_behind_text, answer_long, answer_on, same_kept, took}
use Rattle.restore_core.proofs.Objects.{behind_more, ended_more, lines_behind, none_behind, one_line_more}

module _ (s s' : Standing) (kept kept' : List Kept) (lines lines' : ℕ) (text : List ℕ) (item : BackupItem)
    (takes : Reads s s' (Some item) (line_in s text)) (kept_is : kept' ≡ kept_with kept item) (lines_is : lines' ≡ lines + 1) where
  t : Took s s' text item
  t = took s s' text item takes

  may : MayStand s t.line
  may = (line_takes s text t.line t.read).0

  -- a line was taken: the answer goes on
  pub take_on : is_too_long MAX_LINE text ≡ false → (texts : List (List ℕ)) (rest : List ℕ) → answer_from s kept lines (text ∷ texts) rest ≡ answer_from s' kept' lines' texts rest
  take_on short texts rest =
      answer_on s s' kept lines text item short t texts rest
      ∙ ap (λ (ks : List Kept). answer_from s' ks (lines + 1) texts rest) (sym kept_is)
      ∙ ap (λ n. answer_from s' kept' n texts rest) (sym lines_is)

  -- the objects can be put back
  pub take_objects : Behind s kept → Behind s' kept'
  take_objects b =
      subst (λ (u : Standing). Behind u kept') (sym t.behind)
      (subst (Behind (after s t.line)) (same_kept kept t.line ∙ ap (kept_with kept) (sym t.item_is) ∙ sym kept_is) (behind_more s kept t.line b may))

  -- the lines are counted
  pub take_counts : lines ≡ lines_behind s → lines' ≡ lines_behind s'
  take_counts counted = lines_is ∙ ap (λ n. n + 1) counted ∙ sym (one_line_more s t.line may) ∙ sym (ap lines_behind t.behind)

  -- and it is known whether the last line came
  pub take_ended : (ended ended' : Bool) → ended ≡ is_ended s.stage → ended' ≡ ended_with ended item → ended' ≡ is_ended s'.stage
  take_ended ended ended' known now =
      now ∙ ap (λ (b : Bool). ended_with b item) known ∙ ap (ended_with (is_ended s.stage)) t.item_is ∙ sym (ended_more s t.line may)
      ∙ sym (ap (λ (u : Standing). is_ended u.stage) t.behind)

-- a text that is too long
pub long_here : (r : Reading) (all text held : List ℕ) (left : Option (List ℕ)) → Yields MAX_LINE Long all text held left → answer_here r all ≡ BadLine (r.lines + 1)
long_here r all text held left y =
    answer_long r.reader r.kept.items r.lines all text y.divided.0 y.one_line y.divided.1 y.divided.2 y.divided.3

-- a whole line
pub whole_here : (r : Reading) (all text held : List ℕ) (left : Option (List ℕ)) (y : Yields MAX_LINE Whole all text held left)
    → answer_here r all ≡ answer_behind r (text ∷ (lines_of (held ++ y.rest)).whole) (lines_of (held ++ y.rest)).rest
whole_here r all text held left y =
    answer_behind_text r.reader r.kept.items r.lines all text (held ++ y.rest) y.one_line y.divided.0

-- the end
pub end_here : (r : Reading) (all text held : List ℕ) (left : Option (List ℕ)) → Yields MAX_LINE Ended all text held left → answer_here r all ≡ ends_here r text
end_here r all text held left y = answer_at_end r.reader r.kept.items r.lines all text y.one_line y.divided.0

pub left_empty : (all text held : List ℕ) (left : Option (List ℕ)) → Yields MAX_LINE Ended all text held left → left ≡ Some []
left_empty all text held left y = y.told ∙ ap (λ (xs : List ℕ). Some xs) y.divided.2

-- the answer depends on what was taken alone
same_behind : (old line : Reading) (texts : List (List ℕ)) (rest : List ℕ) → line.reader ≡ old.reader → line.kept.items ≡ old.kept.items → line.lines ≡ old.lines
    → answer_behind old texts rest ≡ answer_behind line texts rest
same_behind old line texts rest reader kept lines =
    sym (ap (λ (s : Standing). answer_from s line.kept.items line.lines texts rest) reader ∙ ap (λ (ks : List Kept). answer_from old.reader ks line.lines texts rest) kept
    ∙ ap (λ n. answer_from old.reader old.kept.items n texts rest) lines)

-- ---- what the next line answers

-- the reader of lines stopped
pub stopped_goes : (old : Reading) (rest : List ℕ) (new : Reading) (left : Option (List ℕ)) (stop : LinesStop) → Goes old rest new left (Err (stop_of_lines stop))
stopped_goes old rest new left lines.ReadFault = tt
stopped_goes old rest new left lines.OutOfMemory = tt

-- the input has ended, and the file has not
pub unended_goes : (old : Reading) (rest : List ℕ) (new : Reading) (left : Option (List ℕ)) (text held : List ℕ) (stop : RestoreStop)
    → Yields MAX_LINE Ended (old.texts ++ rest) text held left → Says old.kept.items (ends_here old text) (Err stop) → Goes old rest new left (Err stop)
unended_goes old rest new left text held (stops.BadBackup line) y says = end_here old (old.texts ++ rest) text held left y ∙ says
unended_goes old rest new left text held stops.ReadFault y says = tt
unended_goes old rest new left text held stops.WriteFault y says = tt
unended_goes old rest new left text held stops.OutOfMemory y says = tt

-- both have
pub ended_goes : (old : Reading) (rest : List ℕ) (new : Reading) (left : Option (List ℕ)) (text held : List ℕ)
    → Yields MAX_LINE Ended (old.texts ++ rest) text held left → ends_here old text ≡ Restores old.kept.items → new.kept.items ≡ old.kept.items
    → Goes old rest new left (Ok false)
ended_goes old rest new left text held y says same =
    (end_here old (old.texts ++ rest) text held left y ∙ says ∙ ap Restores (sym same), left_empty (old.texts ++ rest) text held left y)

-- the line was not taken; `line` is the reading with the line in work
pub refused_goes : (old line : Reading) (rest : List ℕ) (new : Reading) (left : Option (List ℕ)) (held : List ℕ) (stop : RestoreStop)
    → Yields MAX_LINE Whole (old.texts ++ rest) line.text.items held left → line.reader ≡ old.reader → line.kept.items ≡ old.kept.items → line.lines ≡ old.lines
    → Takes line new (Err stop) → Goes old rest new left (Err stop)
refused_goes old line rest new left held (stops.BadBackup number) y reader kept lines takes =
    whole_here old (old.texts ++ rest) line.text.items held left y ∙ same_behind old line (line.text.items ∷ (lines_of (held ++ y.rest)).whole) (lines_of (held ++ y.rest)).rest reader kept lines
    ∙ takes (lines_of (held ++ y.rest)).whole (lines_of (held ++ y.rest)).rest
refused_goes old line rest new left held stops.ReadFault y reader kept lines takes = tt
refused_goes old line rest new left held stops.WriteFault y reader kept lines takes = tt
refused_goes old line rest new left held stops.OutOfMemory y reader kept lines takes = tt

-- the line was taken
pub taken_goes : (old line : Reading) (rest : List ℕ) (new : Reading) (left : Option (List ℕ)) (held : List ℕ)
    → Yields MAX_LINE Whole (old.texts ++ rest) line.text.items held left → line.reader ≡ old.reader → line.kept.items ≡ old.kept.items → line.lines ≡ old.lines
    → Takes line new (Ok tt) → new.texts ≡ held → Goes old rest new left (Ok true)
taken_goes old line rest new left held y reader kept lines takes same = record {
  rest = y.rest;
  told = y.told;
  same = whole_here old (old.texts ++ rest) line.text.items held left y
      ∙ same_behind old line (line.text.items ∷ (lines_of (held ++ y.rest)).whole) (lines_of (held ++ y.rest)).rest reader kept lines
      ∙ takes y.divided.1 (lines_of (held ++ y.rest)).whole (lines_of (held ++ y.rest)).rest
      ∙ ap (λ (xs : List ℕ). answer_here new (xs ++ y.rest)) (sym same);
}

-- ---- line by line

-- the answer stays behind one more line
pub goes_next : (answer : Answer) (old new : Reading) (left left' : Option (List ℕ)) (g : GoesOn answer old left)
    → GoesOn (answer_here old (old.texts ++ g.rest)) new left' → GoesOn answer new left'
goes_next answer old new left left' g next = record { rest = next.rest; told = next.told; same = g.same ∙ next.same }

-- or the file has ended
pub ends_well : (bytes : List ℕ) (old new : Reading) (left left' : Option (List ℕ)) (g : GoesOn (answer_of bytes) old left) (taken : Bool) → taken ≡ false
    → Goes old g.rest new left' (Ok taken) → (answer_of bytes ≡ Restores new.kept.items) × (left' ≡ Some [])
ends_well bytes old new left left' g true none goes = absurd cc
ends_well bytes old new left left' g false none goes = (g.same ∙ goes.0, goes.1)

-- before the first line
pub fresh_goes : (r : Reading) (bytes : List ℕ) (left : Option (List ℕ)) → IsFresh r → left ≡ Some bytes → GoesOn (answer_of bytes) r left
fresh_goes r bytes left f told = record { rest = bytes; told = told; same = same }
  where
    from : Standing → List Kept → ℕ → List ℕ → Answer
    from s ks n all = answer_from s ks n (lines_of all).whole (lines_of all).rest

    same : answer_of bytes ≡ answer_here r (r.texts ++ bytes)
    same = sym (ap (λ x. from x r.kept.items r.lines (r.texts ++ bytes)) f.reader
        ∙ ap (λ (x : List Kept). from at_start x r.lines (r.texts ++ bytes)) f.no_objects
        ∙ ap (λ x. from at_start [] x (r.texts ++ bytes)) f.no_lines
        ∙ ap (λ (x : List ℕ). from at_start [] 0 (x ++ bytes)) f.nothing_held)

pub fresh_behind : (r : Reading) → IsFresh r → IsBehind r
fresh_behind r f = record {
  objects = subst (λ (u : Standing). Behind u r.kept.items) (sym f.reader) (subst (Behind at_start) (sym f.no_objects) none_behind);
  lines = f.no_lines ∙ sym (ap lines_behind f.reader);
  ended = f.not_ended ∙ sym (ap (λ (u : Standing). is_ended u.stage) f.reader);
}
