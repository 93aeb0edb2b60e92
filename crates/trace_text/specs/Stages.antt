-- Which lines of a trace may stand behind which.
use Rattle.std.specs.Prelude.{ℕ, Bool, true, false, if◌then◌else◌, List, codes}
use Rattle.trace_text.specs.declared.stages.Stage.{Stage}
use Rattle.trace_text.specs.declared.stages.Stage.TheVariants.{Start, Begun, Event, Messages, Ordered}
use Rattle.trace_text.specs.declared.stages.LineForm.{LineForm}
use Rattle.trace_text.specs.declared.stages.LineForm.TheVariants as forms
use Rattle.trace_text.specs.Words.{is_word}

-- whether a line of this form may come next
abbrev pub allows : Stage → LineForm → Bool
allows Start forms.Head = true
allows Begun forms.Event = true
allows Begun forms.Order = true
allows Event forms.Event = true
allows Event forms.Note = true
allows Event forms.Message = true
allows Event forms.Order = true
allows Messages forms.Event = true
allows Messages forms.Message = true
allows Messages forms.Order = true
allows Ordered forms.End = true
allows stage form = false

-- the form of a line by its first word; a word that opens no other line opens a note
abbrev pub form_of : List ℕ → LineForm
form_of word =
    if is_word (codes "trace") word then forms.Head
    else if is_word (codes "e") word then forms.Event
    else if is_word (codes "m") word then forms.Message
    else if is_word (codes "order") word then forms.Order
    else if is_word (codes "end") word then forms.End
    else forms.Note
