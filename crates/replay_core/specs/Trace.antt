-- The trace of a run: what each of its events came to, in the words of a trace.
use Rattle.std.specs.Prelude.{ℕ, Bool, true, false, List, [], ◌∷◌, ◌++◌, map}
use Rattle.std.specs.List.{flat_map}
use Rattle.tcs_terms.specs.declared.inputs.Event.{Event}
use Rattle.tcs_terms.specs.declared.setups.Rule.{Rule}
use Rattle.tcs_terms.specs.declared.setups.Rule.TheVariants.{Serial, Snapshot, Commute}
use Rattle.tcs_terms.specs.Setups.{Deployment}
use Rattle.tcs_laws.specs.Certification.{Tests}
use Rattle.cert_commute.specs.Commute.{commute}
use Rattle.cert_serial.specs.Serial.{serial}
use Rattle.cert_snapshot.specs.Snapshot.{snapshot}
use Rattle.wire_frame.specs.Spelling.{spell}
use Rattle.trace_text.specs.Lines.{Line, HeadLine, printed}
use Rattle.trace_text.specs.Traces.{Sending, Happening, Trace, events_lines, trace_lines}
use Rattle.protocol.specs.History.{order_of}
use Rattle.protocol.specs.Limit.{Progress, Answer, limited_step, limited_run}
use Rattle.protocol.specs.Limit.Progress.{Live, Ended}
use Rattle.protocol.specs.Limit.Answer.{Happens, SoupFull}
use Rattle.protocol.specs.World.{Sent, first_world}
use Rattle.protocol_laws.specs.Promises.{world_of}

-- the certifier of a rule
abbrev pub tests_of : Rule → Tests
tests_of Serial = serial
tests_of Snapshot = snapshot
tests_of Commute = commute

-- ---- the run of a schedule: by the certifier that its setup names, under the limit on frame bytes

abbrev pub run_of : Deployment → List Event → Progress
run_of d es = limited_run (tests_of d.rule) d es

-- what one event more is answered
abbrev pub answer_to : Deployment → List Event → Event → Answer
answer_to d es e = (limited_step (tests_of d.rule) d.version (run_of d es) e).answer

-- no event passed the limit
abbrev pub is_live : Progress → Bool
is_live (Live w events bytes) = true
is_live (Ended w events bytes) = false

-- ---- what a trace shows of it

-- a message: its ends and its frame
abbrev pub sending : Sent → Sending
sending s = record { from = s.from; to = s.to; frame = spell s.message }

-- what an event came to, unless the run ends with it
abbrev pub shown_by : Answer → List Happening
shown_by (Happens result notes sent) = record { result = result; notes = notes; sends = map sending sent } ∷ []
shown_by (SoupFull bytes) = []

-- the same of events, one after the other, from here on
unfoldable pub happenings : Tests → ℕ → Progress → List Event → List Happening
happenings tests version p [] = []
happenings tests version p (e ∷ es) =
    shown_by (limited_step tests version p e).answer ++ happenings tests version (limited_step tests version p e).after es

-- what a trace shows of a run of this setup
abbrev pub run_trace : Deployment → List Event → Trace
run_trace d es = record {
  version = d.version;
  rule = d.rule;
  shards = d.shards;
  happenings = happenings (tests_of d.rule) d.version (Live (first_world d) 0 0) es;
  order = order_of (world_of (run_of d es)).history;
}

-- the whole trace
abbrev pub trace : Deployment → List Event → List ℕ
trace d es = flat_map printed (trace_lines (run_trace d es))

-- the trace without its last two lines
abbrev pub trace_front : Deployment → List Event → List ℕ
trace_front d es = flat_map printed (HeadLine d.version d.rule d.shards ∷ events_lines 1 1 (run_trace d es).happenings)
