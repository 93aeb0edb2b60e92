-- What is said of bytes that are to be a trace: the verdict on what it tells, or the number of the first bad line.
use Rattle.std.specs.Prelude.{◌≡◌, ◌⊎◌, ℕ, ◌+◌, Bool, true, false, if◌then◌else◌, List, [], ◌∷◌, ◌++◌, length, codes, decimal, Option, Some, None, Result, Ok, Err}
use Rattle.tcs_io.specs.Bytes.{HoldsFront}
use Rattle.tcs_io.specs.Faults.{Rose}
use Rattle.text_words.specs.Texts.{txn_text}
use Rattle.trace_text.specs.Lines.{Line, Standing, after, at_start, item_of}
use Rattle.trace_text.specs.Readings.{line_in}
use Rattle.judge.specs.declared.verdicts.Clause.{Clause}
use Rattle.judge.specs.declared.verdicts.Clause.TheVariants as clauses
use Rattle.judge.specs.declared.verdicts.Verdict.{Verdict}
use Rattle.judge.specs.declared.verdicts.Verdict.TheVariants.{Correct, Incorrect}
use Rattle.audit_core.specs.declared.stops.AuditStop.{AuditStop}
use Rattle.audit_core.specs.declared.stops.AuditStop.TheVariants as stops
use Rattle.audit_core.specs.Texts.{lines_of, is_too_long}
use Rattle.audit_core.specs.Told.{Told, nothing_told, with_item, verdict_told}

-- The bytes are a trace, with this verdict on what it tells; or they are none, and this line is the first bad one.
pub data Answer : Type 0 where
  Judged : (verdict : Verdict) → Answer
  BadLine : (number : ℕ) → Answer

-- behind the last whole line: a trace ends with its last line, and nothing stands behind it
abbrev pub at_end : Bool → Told → ℕ → List ℕ → Answer
at_end true told lines [] = Judged (verdict_told told)
at_end true told lines (byte ∷ bytes) = BadLine (lines + 1)
at_end false told lines rest = BadLine (lines + 1)

-- goes on with a line, if there is one
abbrev pub with_line : Option Line → ℕ → (Line → Answer) → Answer
with_line None number more = BadLine number
with_line (Some line) number more = more line

-- The answer behind so many lines, which had so many bytes: each further line is no longer than a line may be, ends
-- within the limit on a trace, and may stand behind those before it.
abbrev pub answer_from : Standing → Told → ℕ → ℕ → List (List ℕ) → List ℕ → Answer
answer_from s told lines used [] rest = at_end told.ended told lines rest
answer_from s told lines used (text ∷ texts) rest =
    if is_too_long used text then BadLine (lines + 1)
    else with_line (line_in s text) (lines + 1)
    (λ line. answer_from (after s line) (with_item told (item_of line)) (lines + 1) (used + length text + 1) texts rest)

-- the answer to all bytes
abbrev pub answer_of : List ℕ → Answer
answer_of bytes = answer_from at_start nothing_told 0 0 (lines_of bytes).whole (lines_of bytes).rest

-- ---- the line of a verdict

abbrev pub clause_text : Clause → List ℕ
clause_text clauses.Agreement = codes "agreement"
clause_text clauses.Legality = codes "legality"
clause_text clauses.Clash = codes "clash"
clause_text clauses.Lost = codes "lost"
clause_text clauses.Order = codes "order"

abbrev pub verdict_text : Verdict → List ℕ
verdict_text (Correct decided committed aborted) =
    codes "correct " ++ decimal decided ++ codes " " ++ decimal committed ++ codes " " ++ decimal aborted ++ codes "\n"
verdict_text (Incorrect clause txn) = codes "incorrect " ++ clause_text clause ++ codes " " ++ txn_text txn ++ codes "\n"

-- ---- how it ends

-- the bytes were read so far
abbrev pub Ends : (bytes : List ℕ) → (left : Option (List ℕ)) → Result Verdict AuditStop → Type 0
Ends bytes left (Ok verdict) = (answer_of bytes ≡ Judged verdict) × (left ≡ Some [])
Ends bytes left (Err (stops.BadTrace line)) = answer_of bytes ≡ BadLine line
Ends bytes left (Err stops.ReadFault) = Unit {0}
Ends bytes left (Err stops.WriteFault) = Unit {0}
Ends bytes left (Err stops.OutOfMemory) = Unit {0}

-- Ok: the bytes are a trace with this verdict, all of them were read, and the sink took the line of the verdict.
pub record Finishes (bytes before : List ℕ) (left held : Option (List ℕ)) (verdict : Verdict) : Type 0 where
  pub judged : answer_of bytes ≡ Judged verdict
  pub at_end : left ≡ Some []
  pub written : held ≡ Some (before ++ verdict_text verdict)

-- a front of the line of the verdict was written, but not all of it
pub record StopsWithin (bytes before : List ℕ) (left held : Option (List ℕ)) : Type 0 where
  pub verdict : Verdict
  pub judged : answer_of bytes ≡ Judged verdict
  pub at_end : left ≡ Some []
  pub front : HoldsFront before (verdict_text verdict) held

-- What each stop says of the bytes, and of what was written: nothing, until the verdict is there.
abbrev pub Stopped : (bytes before : List ℕ) → (left held : Option (List ℕ)) → AuditStop → Type 0
Stopped bytes before left held (stops.BadTrace line) = (answer_of bytes ≡ BadLine line) × (held ≡ Some before)
Stopped bytes before left held stops.ReadFault = held ≡ Some before
Stopped bytes before left held stops.WriteFault = StopsWithin bytes before left held
Stopped bytes before left held stops.OutOfMemory = (held ≡ Some before) ⊎ StopsWithin bytes before left held

-- ---- which answer comes

-- no fault was counted
abbrev pub Stayed : ℕ → ℕ → Type 0
Stayed before after = Rose before after → ⊥

-- this is the answer, unless memory ran out
abbrev pub Tells : Answer → Result Verdict AuditStop → Type 0
Tells answer (Ok verdict) = answer ≡ Judged verdict
Tells answer (Err (stops.BadTrace line)) = answer ≡ BadLine line
Tells answer (Err stops.ReadFault) = ⊥
Tells answer (Err stops.WriteFault) = ⊥
Tells answer (Err stops.OutOfMemory) = Unit {0}
