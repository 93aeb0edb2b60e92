-- Each place in the order of commits, judged from the first one on.
use Rattle.std.proofs.Common.{◌≡◌, ℕ, ◌+◌, ◌<◌, Bool, List, [], ◌∷◌, ◌++◌, length, take, get_or, refl, ap, ◌∙◌, append-nil}
use Rattle.std.specs.Prelude.{Option, Some, None}
use Rattle.std.specs.List.{cons_option}
use Rattle.std.proofs.lemmas.List.Elements.{filter_map-append}
use Rattle.tcs_terms.specs.declared.ids.TxId.{TxId}
use Rattle.tcs_terms.specs.declared.inputs.Note.{Note}
use Rattle.tcs_terms.specs.Payloads.{Accesses}
use Rattle.tcs_laws.specs.Certification.{Tests}
use Rattle.protocol.specs.History.{payload_in, payloads_of}
use Rattle.protocol.specs.CorrectHistory.{passes_after}
use Rattle.judge.specs.Newest.{with_payload}
use Rattle.judge.proofs.Failing.{front_at}

-- whether a transaction is passed against those before it
abbrev pub legal_at : Tests → List Note → List TxId → TxId → Bool
legal_at tests h before txn = passes_after tests (payloads_of h before) (payload_in h txn)

-- the payloads, with that of one transaction more, if it has one
one_more : (olds : List Accesses) (o : Option Accesses) → olds ++ cons_option o [] ≡ with_payload olds o
one_more olds None = append-nil olds
one_more olds (Some p) = refl

pub payloads_next : (h : List Note) (order : List TxId) (i : ℕ) (txn : TxId) → i < length order → txn ≡ get_or order i txn
    → payloads_of h (take (i + 1) order) ≡ with_payload (payloads_of h (take i order)) (payload_in h txn)
payloads_next h order i txn within is =
    ap (payloads_of h) (front_at order i txn within is)
    ∙ filter_map-append (λ t. payload_in h t) (take i order) (txn ∷ [])
    ∙ one_more (payloads_of h (take i order)) (payload_in h txn)
