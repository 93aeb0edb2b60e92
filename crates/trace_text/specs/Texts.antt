-- The texts of the parts of a trace: numbers in decimal, one space between words, no line feed.
use Rattle.std.specs.Prelude.{ℕ, List, [], ◌∷◌, ◌++◌, codes, decimal, Option, Some, None}
use Rattle.std.specs.List.{flat_map}
use Rattle.tcs_terms.specs.declared.ids.TxId.{TxId}
use Rattle.tcs_terms.specs.declared.votes.Cause.{Cause}
use Rattle.tcs_terms.specs.declared.votes.Cause.TheVariants as causes
use Rattle.tcs_terms.specs.declared.votes.Decision.{Decision}
use Rattle.tcs_terms.specs.declared.votes.Decision.TheVariants as decisions
use Rattle.tcs_terms.specs.declared.inputs.Handled.{Handled}
use Rattle.tcs_terms.specs.declared.inputs.Handled.TheVariants as handled
use Rattle.tcs_terms.specs.declared.inputs.Result1.{Result1}
use Rattle.tcs_terms.specs.declared.inputs.Result1.TheVariants as results
use Rattle.tcs_terms.specs.declared.inputs.Note.{Note}
use Rattle.tcs_terms.specs.declared.inputs.Note.TheVariants as notes
use Rattle.tcs_terms.specs.declared.kinds.Kind.{Kind}
use Rattle.tcs_terms.specs.Kinds.{kind_numbered, kind_word}
use Rattle.text_words.specs.PayloadText.{payload_text, value_text}
use Rattle.text_words.specs.Texts.{txn_text}

abbrev pub handled_text : Handled → List ℕ
handled_text handled.Acted = codes "acted"
handled_text (handled.Stale mark) = codes "stale " ++ decimal mark
handled_text (handled.Held mark) = codes "held " ++ decimal mark
handled_text handled.Full = codes "full"

abbrev pub result_text : Result1 → List ℕ
result_text (results.Node h) = handled_text h
result_text results.Gone = codes "gone"
result_text results.Unsent = codes "unsent"

abbrev pub cause_text : Cause → List ℕ
cause_text (causes.Clash txn) = codes "clash " ++ txn_text txn
cause_text causes.Lost = codes "lost"

abbrev pub decision_text : Decision → List ℕ
decision_text decisions.Commit = codes "commit"
decision_text (decisions.Abort shard cause) = codes "abort " ++ decimal shard ++ codes " " ++ cause_text cause

abbrev pub note_text : Note → List ℕ
note_text (notes.Begin txn payload) = codes "begin " ++ txn_text txn ++ codes " " ++ payload_text payload
note_text (notes.Take txn) = codes "take " ++ txn_text txn
note_text (notes.ReadValue name version value) = codes "read " ++ name ++ codes " " ++ decimal version ++ codes " " ++ value_text value
note_text (notes.Decide txn decision) = codes "decide " ++ txn_text txn ++ codes " " ++ decision_text decision

-- the name of a kind of messages, by the first byte of its frames
abbrev pub name_of : Option Kind → List ℕ
name_of None = []
name_of (Some kind) = kind_word kind

abbrev pub kind_text : ℕ → List ℕ
kind_text number = name_of (kind_numbered number)

-- transactions with one space between them, or a dash where there are none
abbrev pub order_text : List TxId → List ℕ
order_text [] = codes "-"
order_text (t ∷ ts) = txn_text t ++ flat_map (λ txn. codes " " ++ txn_text txn) ts
