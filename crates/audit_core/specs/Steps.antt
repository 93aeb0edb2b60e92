-- What the steps of an audit answer. No clause of `audit` cites this module.
use Rattle.std.specs.Prelude.{◌≡◌, ℕ, ◌*◌, ◌≤◌, List, [], ◌++◌, length, Option, Some, None, Result, Ok, Err}
use Rattle.trace_text.specs.Lines.{at_start}
use Rattle.judge.specs.declared.verdicts.Verdict.{Verdict}
use Rattle.audit_core.specs.declared.limits.TheConstants.{MAX_TRACE}
use Rattle.audit_core.specs.declared.reading.Reading.{Reading}
use Rattle.audit_core.specs.declared.stops.AuditStop.{AuditStop}
use Rattle.audit_core.specs.declared.stops.AuditStop.TheVariants as stops
use Rattle.audit_core.specs.Audits.{Answer, Judged, BadLine, answer_from}
use Rattle.audit_core.specs.Texts.{lines_of}
use Rattle.audit_core.specs.Told.{nothing_told}

-- no line was taken
pub record IsFresh (r : Reading) : Type 0 where
  pub nothing_held : r.texts ≡ []
  pub reader : r.reader ≡ at_start
  pub history : r.history ≡ nothing_told
  pub no_bytes : r.used ≡ 0
  pub no_lines : r.lines ≡ 0

-- the bytes so far are within the limit; each line took two of them at least, and told one note at most
pub record IsCounted (r : Reading) : Type 0 where
  pub within : r.used ≤ MAX_TRACE
  pub lines : 2 * r.lines ≤ r.used
  pub notes : length r.history.notes ≤ r.lines

-- the answer to these lines, and to what stands behind them, from here on
abbrev pub answer_behind : Reading → List (List ℕ) → List ℕ → Answer
answer_behind r texts rest = answer_from r.reader r.history r.lines r.used texts rest

-- the answer to these bytes, from here on
abbrev pub answer_here : Reading → List ℕ → Answer
answer_here r bytes = answer_behind r (lines_of bytes).whole (lines_of bytes).rest

-- a line was taken, and the answer stays
pub record GoesOn (answer : Answer) (new : Reading) (left : Option (List ℕ)) : Type 0 where
  pub rest : List ℕ
  pub told : left ≡ Some rest
  pub same : answer ≡ answer_here new (new.texts ++ rest)

abbrev pub Goes : Reading → (rest : List ℕ) → Reading → (left : Option (List ℕ)) → Result (Option Verdict) AuditStop → Type 0
Goes old rest new left (Ok None) = GoesOn (answer_here old (old.texts ++ rest)) new left
Goes old rest new left (Ok (Some verdict)) = (answer_here old (old.texts ++ rest) ≡ Judged verdict) × (left ≡ Some [])
Goes old rest new left (Err (stops.BadTrace line)) = answer_here old (old.texts ++ rest) ≡ BadLine line
Goes old rest new left (Err stops.ReadFault) = Unit {0}
Goes old rest new left (Err stops.WriteFault) = Unit {0}
Goes old rest new left (Err stops.OutOfMemory) = Unit {0}

-- the line in work was taken, or it is bad, whatever stands behind it: the answer so far, by that
abbrev pub Takes : (List (List ℕ) → List ℕ → Answer) → Reading → Result Unit AuditStop → Type 0
Takes answer new (Ok done) = (texts : List (List ℕ)) (rest : List ℕ) → answer texts rest ≡ answer_behind new texts rest
Takes answer new (Err (stops.BadTrace line)) = (texts : List (List ℕ)) (rest : List ℕ) → answer texts rest ≡ BadLine line
Takes answer new (Err stops.ReadFault) = Unit {0}
Takes answer new (Err stops.WriteFault) = Unit {0}
Takes answer new (Err stops.OutOfMemory) = Unit {0}

-- the result tells this answer, unless it is another stop
abbrev pub Says : Answer → Result Verdict AuditStop → Type 0
Says answer (Ok verdict) = answer ≡ Judged verdict
Says answer (Err (stops.BadTrace line)) = answer ≡ BadLine line
Says answer (Err stops.ReadFault) = Unit {0}
Says answer (Err stops.WriteFault) = Unit {0}
Says answer (Err stops.OutOfMemory) = Unit {0}
