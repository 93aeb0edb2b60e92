-- What the items of a trace tell.
use Rattle.std.proofs.Common.{◌≡◌, true, List, [], ◌∷◌, ◌++◌, map, fold, append-nil, append_assoc, refl, sym, ap, ◌∙◌}
use Rattle.std.specs.List.{flat_map}
use Rattle.std.proofs.lemmas.List.Sums.{fold-append}
use Rattle.tcs_terms.specs.declared.inputs.Note.{Note}
use Rattle.trace_text.specs.declared.items.TraceItem.{TraceItem}
use Rattle.trace_text.specs.declared.items.TraceItem.TheVariants as items
use Rattle.trace_text.specs.Traces.{Sending, Happening, Trace, event_items, trace_items}
use Rattle.audit_core.specs.Told.{Told, nothing_told, with_item}

-- with notes behind those that were told
abbrev with_notes : Told → List Note → Told
with_notes told notes = record { rule = told.rule; shards = told.shards; notes = told.notes ++ notes; order = told.order; ended = told.ended }

-- the notes of happenings
abbrev pub notes_of : List Happening → List Note
notes_of happenings = flat_map (λ h. h.notes) happenings

-- all that a trace tells
abbrev pub told_by : Trace → Told
told_by t = record { rule = t.rule; shards = t.shards; notes = notes_of t.happenings; order = t.order; ended = true }

none-more : (told : Told) → told ≡ with_notes told []
none-more told = λ i. record { rule = told.rule; shards = told.shards; notes = sym (append-nil told.notes) i; order = told.order; ended = told.ended }

more-notes : (told : Told) (a b : List Note) → with_notes (with_notes told a) b ≡ with_notes told (a ++ b)
more-notes told a b = ap (λ (ns : List Note). record { rule = told.rule; shards = told.shards; notes = ns; order = told.order; ended = told.ended }) (append_assoc told.notes a b)

notes-told : (told : Told) (notes : List Note) → fold with_item told (map items.NoteLine notes) ≡ with_notes told notes
notes-told told [] = none-more told
notes-told told (n ∷ ns) = notes-told (with_item told (items.NoteLine n)) ns ∙ more-notes told (n ∷ []) ns

messages-told : (told : Told) (sends : List Sending) → fold with_item told (map (λ m. items.MessageLine) sends) ≡ told
messages-told told [] = refl
messages-told told (m ∷ ms) = messages-told told ms

event-told : (told : Told) (h : Happening) → fold with_item told (event_items h) ≡ with_notes told h.notes
event-told told h =
    fold-append with_item told (map items.NoteLine h.notes) (map (λ m. items.MessageLine) h.sends)
    ∙ messages-told (fold with_item told (map items.NoteLine h.notes)) h.sends
    ∙ notes-told told h.notes

events-told : (told : Told) (hs : List Happening) → fold with_item told (flat_map event_items hs) ≡ with_notes told (notes_of hs)
events-told told [] = none-more told
events-told told (h ∷ hs) =
    fold-append with_item told (event_items h) (flat_map event_items hs)
    ∙ ap (λ (t : Told). fold with_item t (flat_map event_items hs)) (event-told told h)
    ∙ events-told (with_notes told h.notes) hs
    ∙ more-notes told h.notes (notes_of hs)

pub trace-told : (t : Trace) → fold with_item nothing_told (trace_items t) ≡ told_by t
trace-told t =
    let head : Told = with_item nothing_told (items.Head t.rule t.shards) in
    let last : List TraceItem = items.Order t.order ∷ items.End ∷ [] in
    fold-append with_item head (flat_map event_items t.happenings) last
    ∙ ap (λ (told : Told). fold with_item told last) (events-told head t.happenings)
