-- A trace is read line by line.
use Rattle.std.proofs.Common.{◌≡◌, ℕ, suc, ◌+◌, ◌^◌, ◌<◌, true, ◌&&◌, ◌||◌, List, [], ◌∷◌, ◌++◌, length, map, Some, refl, sym, ap, subst, ◌∙◌, append_assoc, arith}
use Rattle.std.specs.Prelude.{◌==◌, nat_le}
use Rattle.std.specs.List.{flat_map, AllByRecursion}
use Rattle.std.proofs.lemmas.Bool.Decides.{nat_tests}
use Rattle.std.proofs.lemmas.List.{map-append}
use Rattle.std.proofs.lemmas.Grind.{flat_map-append}
use Rattle.tcs_terms.specs.declared.limits.TheConstants.{MAX_SHARDS}
use Rattle.tcs_terms.specs.declared.inputs.Note.{Note}
use Rattle.tcs_terms.proofs.BoolLaws.{right_of}
use Rattle.trace_text.specs.declared.items.TraceItem.{TraceItem}
use Rattle.trace_text.specs.declared.items.TraceItem.TheVariants as items
use Rattle.trace_text.specs.declared.stages.Stage.{Stage}
use Rattle.trace_text.specs.declared.stages.Stage.TheVariants.{Start, Begun, Event, Messages, Ordered, Ended}
use Rattle.trace_text.specs.declared.stages.LineForm.TheVariants as forms
use Rattle.trace_text.specs.Stages.{allows}
use Rattle.trace_text.specs.Lines.{Line, HeadLine, EventLine, NoteLine, MessageLine, OrderLine, EndLine, line_text, Standing, IsStanding, MayStand, IsNote, printed, at_start, after, item_of}
use Rattle.trace_text.specs.Traces.{Sending, Happening, Trace, sends_of, message_lines, event_lines, events_lines, trace_lines, event_items, trace_items, IsSending, IsHappening, IsTrace, read_lines, at_end}
use Rattle.trace_text.proofs.LineWords.{line_again}

-- ---- lines that may stand one after the other

abbrev behind_all : Standing → List Line → Standing
behind_all s [] = s
behind_all s (line ∷ lines) = behind_all (after s line) lines

abbrev AllStand : Standing → List Line → Type 0
AllStand s [] = Unit {0}
AllStand s (line ∷ lines) = MayStand s line × AllStand (after s line) lines

behind_append : (s : Standing) (xs ys : List Line) → behind_all s (xs ++ ys) ≡ behind_all (behind_all s xs) ys
behind_append s [] ys = refl
behind_append s (x ∷ xs) ys = behind_append (after s x) xs ys

stand_append : (s : Standing) (xs ys : List Line) → AllStand s xs → AllStand (behind_all s xs) ys → AllStand s (xs ++ ys)
stand_append s [] ys p q = q
stand_append s (x ∷ xs) ys p q = (p.0, stand_append (after s x) xs ys p.1 q)

version_is : (n : ℕ) → (nat_le 1 n && nat_le n 2) ≡ true → ((n == 1) || (n == 2)) ≡ true
version_is n h = grind (arith, nat_tests)

standing_after : (s : Standing) (line : Line) → IsStanding s → MayStand s line → IsStanding (after s line)
standing_after s (HeadLine version rule shards) i h =
    let top = right_of (nat_le 1 shards) (nat_le shards MAX_SHARDS) h.2 in
    record { version = version_is version h.1; shards = grind (arith, nat_tests); events = i.events; messages = i.messages }
standing_after s (EventLine k r) i h = record { version = i.version; shards = i.shards; events = h.2; messages = i.messages }
standing_after s (NoteLine note) i h = i
standing_after s (MessageLine number from to frame) i h = record { version = i.version; shards = i.shards; events = i.events; messages = h.2 }
standing_after s (OrderLine order) i h = record { version = i.version; shards = i.shards; events = i.events; messages = i.messages }
standing_after s (EndLine events messages) i h = record { version = i.version; shards = i.shards; events = i.events; messages = i.messages }

all_read : (s : Standing) (lines : List Line) → IsStanding s → AllStand s lines → read_lines s (map line_text lines) ≡ Some (map item_of lines, behind_all s lines)
unfolding read_lines
all_read s [] i h = refl
all_read s (line ∷ lines) i h = rw (line_again s line i h.0, all_read (after s line) lines (standing_after s line i h.0) h.1) refl

-- ---- the lines of one event

-- behind the line of an event, of this version, with so many shards, events and messages
record Within (s : Standing) (version shards events messages : ℕ) : Type 0 where
  stage : allows s.stage forms.Event ≡ true
  version_is : s.version ≡ version
  shards_is : s.shards ≡ shards
  events_is : s.events ≡ events
  messages_is : s.messages ≡ messages

notes_stand : (s : Standing) (notes : List Note) → s.stage ≡ Event → AllByRecursion (IsNote s.version s.shards) notes → AllStand s (map NoteLine notes)
notes_stand s [] e h = tt
notes_stand s (n ∷ ns) e h = ((ap (λ (x : Stage). allows x forms.Note) e, h.0), notes_stand s ns e h.1)

behind_notes : (s : Standing) (notes : List Note) → behind_all s (map NoteLine notes) ≡ s
behind_notes s [] = refl
behind_notes s (n ∷ ns) = behind_notes s ns

messages_stand : (s : Standing) (sends : List Sending) → allows s.stage forms.Message ≡ true → s.messages + length sends < 2 ^ 64 → AllByRecursion (IsSending s.version) sends
    → AllStand s (message_lines (s.messages + 1) sends)
messages_stand s [] e few h = tt
messages_stand s (m ∷ ms) e few h =
    ((e, refl, omega arith, h.0.from, h.0.to, h.0.frame), messages_stand (after s (MessageLine (s.messages + 1) m.from m.to m.frame)) ms refl (omega arith) h.1)

event_follows : (stage : Stage) → allows stage forms.Message ≡ true → allows stage forms.Event ≡ true
event_follows Event h = refl
event_follows Messages h = refl
event_follows stage h = absurd cc

behind_messages : (s : Standing) (sends : List Sending) → allows s.stage forms.Message ≡ true
    → Within (behind_all s (message_lines (s.messages + 1) sends)) s.version s.shards s.events (s.messages + length sends)
behind_messages s [] e = record { stage = event_follows s.stage e; version_is = refl; shards_is = refl; events_is = refl; messages_is = omega arith }
behind_messages s (m ∷ ms) e =
    let more = behind_messages (after s (MessageLine (s.messages + 1) m.from m.to m.frame)) ms refl in
    let count = more.messages_is in
    record { stage = more.stage; version_is = more.version_is; shards_is = more.shards_is; events_is = more.events_is; messages_is = omega arith }

event_stands : (s : Standing) (h : Happening) → allows s.stage forms.Event ≡ true → s.events + 1 < 2 ^ 64 → s.messages + length h.sends < 2 ^ 64 → IsHappening s.version s.shards h
    → AllStand s (event_lines (s.events + 1) (s.messages + 1) h)
event_stands s h within few_events few_messages is =
    let first = EventLine (s.events + 1) h.result in
    let t = after s first in (
      (within, refl, few_events, is.result),
      stand_append t (map NoteLine h.notes) (message_lines (s.messages + 1) h.sends) (notes_stand t h.notes refl is.notes)
          (subst (λ (u : Standing). AllStand u (message_lines (s.messages + 1) h.sends)) (sym (behind_notes t h.notes)) (messages_stand t h.sends refl few_messages is.sends)),
    )

behind_event : (s : Standing) (h : Happening) → Within (behind_all s (event_lines (s.events + 1) (s.messages + 1) h)) s.version s.shards (s.events + 1) (s.messages + length h.sends)
behind_event s h =
    let t = after s (EventLine (s.events + 1) h.result) in
    subst (λ (u : Standing). Within u s.version s.shards (s.events + 1) (s.messages + length h.sends))
    (sym (behind_append t (map NoteLine h.notes) (message_lines (s.messages + 1) h.sends) ∙ ap (λ (u : Standing). behind_all u (message_lines (s.messages + 1) h.sends)) (behind_notes t h.notes)))
    (behind_messages t h.sends refl)

-- ---- the lines of all events

events_stand : (s : Standing) (hs : List Happening) → allows s.stage forms.Event ≡ true → s.events + length hs < 2 ^ 64 → s.messages + sends_of hs < 2 ^ 64
    → AllByRecursion (IsHappening s.version s.shards) hs → AllStand s (events_lines (s.events + 1) (s.messages + 1) hs)
events_stand s [] within few_events few_messages is = tt
events_stand s (h ∷ hs) within few_events few_messages is =
    let lines = event_lines (s.events + 1) (s.messages + 1) h in
    let t = behind_all s lines in
    let w = behind_event s h in
    let e = w.events_is in
    let m = w.messages_is in
    let there : AllByRecursion (IsHappening t.version t.shards) hs =
    subst (λ (v : ℕ). AllByRecursion (IsHappening v t.shards) hs) (sym w.version_is) (subst (λ (n : ℕ). AllByRecursion (IsHappening s.version n) hs) (sym w.shards_is) is.1) in
    let more : AllStand t (events_lines (t.events + 1) (t.messages + 1) hs) = events_stand t hs w.stage (omega arith) (omega arith) there in
    let next_event : t.events + 1 ≡ s.events + 1 + 1 = omega arith in
    let next_message : t.messages + 1 ≡ s.messages + 1 + length h.sends = omega arith in
    stand_append s lines (events_lines (s.events + 1 + 1) (s.messages + 1 + length h.sends) hs) (event_stands s h within (omega arith) (omega arith) is.0)
    (subst (λ (k : ℕ). AllStand t (events_lines k (s.messages + 1 + length h.sends) hs)) next_event (subst (λ (n : ℕ). AllStand t (events_lines (t.events + 1) n hs)) next_message more))

behind_events : (s : Standing) (hs : List Happening) → allows s.stage forms.Event ≡ true
    → Within (behind_all s (events_lines (s.events + 1) (s.messages + 1) hs)) s.version s.shards (s.events + length hs) (s.messages + sends_of hs)
behind_events s [] within = record { stage = within; version_is = refl; shards_is = refl; events_is = omega arith; messages_is = omega arith }
behind_events s (h ∷ hs) within =
    let lines = event_lines (s.events + 1) (s.messages + 1) h in
    let t = behind_all s lines in
    let w = behind_event s h in
    let e = w.events_is in
    let m = w.messages_is in
    let next_event : t.events + 1 ≡ s.events + 1 + 1 = omega arith in
    let next_message : t.messages + 1 ≡ s.messages + 1 + length h.sends = omega arith in
    let more : Within (behind_all t (events_lines (s.events + 1 + 1) (s.messages + 1 + length h.sends) hs)) t.version t.shards (t.events + length hs) (t.messages + sends_of hs) =
    subst (λ (k : ℕ). Within (behind_all t (events_lines k (s.messages + 1 + length h.sends) hs)) t.version t.shards (t.events + length hs) (t.messages + sends_of hs)) next_event
    (subst (λ (n : ℕ). Within (behind_all t (events_lines (t.events + 1) n hs)) t.version t.shards (t.events + length hs) (t.messages + sends_of hs)) next_message (behind_events t hs w.stage)) in
    let there = behind_append s lines (events_lines (s.events + 1 + 1) (s.messages + 1 + length h.sends) hs) in
    let more_events = more.events_is in
    let more_messages = more.messages_is in
    subst (λ (u : Standing). Within u s.version s.shards (s.events + suc (length hs)) (s.messages + (length h.sends + sends_of hs))) (sym there) (record {
      stage = more.stage;
      version_is = more.version_is ∙ w.version_is;
      shards_is = more.shards_is ∙ w.shards_is;
      events_is = omega arith;
      messages_is = omega arith;
    })

-- ---- the trace

-- the order may come wherever an event may
order_follows : (stage : Stage) → allows stage forms.Event ≡ true → allows stage forms.Order ≡ true
order_follows Start h = absurd cc
order_follows Begun h = refl
order_follows Event h = refl
order_follows Messages h = refl
order_follows Ordered h = absurd cc
order_follows Ended h = absurd cc

abbrev behind_head : Trace → Standing
behind_head t = after at_start (HeadLine t.version t.rule t.shards)

abbrev last_lines : Trace → List Line
last_lines t = OrderLine t.order ∷ EndLine (length t.happenings) (sends_of t.happenings) ∷ []

trace_stands : (t : Trace) → IsTrace t → AllStand at_start (trace_lines t)
trace_stands t h =
    let s = behind_head t in
    let w = behind_events s t.happenings refl in
    let e = w.events_is in
    let m = w.messages_is in
    let few_events = h.few_events in
    let few_messages = h.few_messages in (
      (refl, h.version, h.shards),
      stand_append s (events_lines 1 1 t.happenings) (last_lines t) (events_stand s t.happenings refl (omega arith) (omega arith) h.happenings)
          ((order_follows _ w.stage, h.order), ((refl, omega arith, omega arith), tt)),
    )

same_standing : (a b c d e f g h : ℕ) → a ≡ e → b ≡ f → c ≡ g → d ≡ h
    → ◌≡◌ {A = Standing} (record { stage = Ended; version = a; shards = b; events = c; messages = d }) (record { stage = Ended; version = e; shards = f; events = g; messages = h })
same_standing a b c d e f g h p q r s = rw (p, q, r, s) refl

behind_trace : (t : Trace) → behind_all at_start (trace_lines t) ≡ at_end t
behind_trace t =
    let s = behind_head t in
    let w = behind_events s t.happenings refl in
    let e = w.events_is in
    let m = w.messages_is in
    let u = behind_all s (events_lines 1 1 t.happenings) in
    behind_append s (events_lines 1 1 t.happenings) (last_lines t)
    ∙ same_standing u.version u.shards u.events u.messages t.version t.shards (length t.happenings) (sends_of t.happenings) w.version_is w.shards_is (omega arith) (omega arith)

-- ---- items

note_items : (notes : List Note) → map item_of (map NoteLine notes) ≡ map items.NoteLine notes
note_items [] = refl
note_items (n ∷ ns) = ap (λ (is : List TraceItem). items.NoteLine n ∷ is) (note_items ns)

message_items : (number : ℕ) (sends : List Sending) → map item_of (message_lines number sends) ≡ map (λ m. items.MessageLine) sends
message_items number [] = refl
message_items number (m ∷ ms) = ap (λ (is : List TraceItem). items.MessageLine ∷ is) (message_items (number + 1) ms)

items_of_event : (k number : ℕ) (h : Happening) → map item_of (event_lines k number h) ≡ event_items h
items_of_event k number h =
    ap (λ (is : List TraceItem). items.Event ∷ is) (map-append item_of (map NoteLine h.notes) (message_lines number h.sends)
    ∙ ap (λ (is : List TraceItem). is ++ map item_of (message_lines number h.sends)) (note_items h.notes) ∙ ap (λ (is : List TraceItem). map items.NoteLine h.notes ++ is) (message_items number h.sends))

items_of_events : (k number : ℕ) (hs : List Happening) → map item_of (events_lines k number hs) ≡ flat_map event_items hs
items_of_events k number [] = refl
items_of_events k number (h ∷ hs) =
    map-append item_of (event_lines k number h) (events_lines (k + 1) (number + length h.sends) hs)
    ∙ ap (λ (is : List TraceItem). is ++ map item_of (events_lines (k + 1) (number + length h.sends) hs)) (items_of_event k number h)
    ∙ ap (λ (is : List TraceItem). event_items h ++ is) (items_of_events (k + 1) (number + length h.sends) hs)

items_of_trace : (t : Trace) → map item_of (trace_lines t) ≡ trace_items t
items_of_trace t =
    ap (λ (is : List TraceItem). items.Head t.rule t.shards ∷ is) (map-append item_of (events_lines 1 1 t.happenings) (last_lines t)
    ∙ ap (λ (is : List TraceItem). is ++ items.Order t.order ∷ items.End ∷ []) (items_of_events 1 1 t.happenings))

pub trace_read : (t : Trace) → IsTrace t → read_lines at_start (map line_text (trace_lines t)) ≡ Some (trace_items t, at_end t)
trace_read t h =
    all_read at_start (trace_lines t) (record { version = refl; shards = omega arith; events = omega arith; messages = omega arith }) (trace_stands t h)
    ∙ ap (λ (is : List TraceItem). Some (is, behind_all at_start (trace_lines t))) (items_of_trace t) ∙ ap (λ (s : Standing). Some (trace_items t, s)) (behind_trace t)

-- ---- what is printed

notes_printed : (notes : List Note) → flat_map printed (map NoteLine notes) ≡ flat_map (λ note. printed (NoteLine note)) notes
notes_printed [] = refl
notes_printed (n ∷ ns) = ap (λ (text : List ℕ). printed (NoteLine n) ++ text) (notes_printed ns)

pub event_printed : (k number : ℕ) (h : Happening)
    → flat_map printed (event_lines k number h) ≡ printed (EventLine k h.result) ++ flat_map (λ note. printed (NoteLine note)) h.notes ++ flat_map printed (message_lines number h.sends)
event_printed k number h =
    ap (λ (text : List ℕ). printed (EventLine k h.result) ++ text) (flat_map-append printed (map NoteLine h.notes) (message_lines number h.sends)
    ∙ ap (λ (text : List ℕ). text ++ flat_map printed (message_lines number h.sends)) (notes_printed h.notes))
    ∙ sym (append_assoc (printed (EventLine k h.result)) (flat_map (λ note. printed (NoteLine note)) h.notes) (flat_map printed (message_lines number h.sends)))
