use Rattle.std.proofs.Common.{◌≡◌, ℕ, Result, Ok, Err, refl, sym, subst, ap, ◌∙◌}
use Rattle.std.specs.Prelude.{IfOk, IfErr}
use Rattle.text_words.specs.declared.words.Reason.{Reason}
use Rattle.text_words.specs.declared.words.WordFault.{WordFault}
use Rattle.text_words.specs.declared.words.WordFault.TheVariants as faults
use Rattle.tcs_terms.specs.Payloads.{Accesses, IsPayload}
use Rattle.text_words.specs.PayloadText.{payload_text}
use Rattle.text_words.specs.PayloadWords.{FitsVersion, Reads, payload_at, reading}
use Rattle.text_words.specs.Words.{words_of}
use Rattle.text_words.proofs.Steps.{ok_is, not_both}
use Rattle.text_words.proofs.PayloadReadings.{payload_takes}
use Rattle.text_words.proofs.PayloadSpelling.{text_of_words, text_read_again}
use Rattle.text_words.proofs.reading.read_payload.Goals as goal

-- what holds of the payload that is kept
built_as : (r : Result Accesses WordFault) (p : Accesses) (P : Accesses → Type 0) → IfOk r (λ q. q ≡ p) → P p → IfOk r P
built_as (Ok q) p P value holds = subst P (sym value) holds
built_as (Err e) p P value holds = tt

-- an answer with this payload, or for want of memory, is what reading gives
read_as : (r : Result Accesses WordFault) (p : Accesses) (read : Result Accesses (ℕ × Reason)) → IfOk r (λ q. q ≡ p) → IfErr r (λ e. e ≡ faults.OutOfMemory) → read ≡ Ok p → Reads r read
read_as (Ok q) p read value memory is = is ∙ ap Ok (sym value)
read_as (Err e) p read value memory is = rw memory tt

pub into_payload-requires : goal.into_payload-requires
into_payload-requires c =
    let parts = c.in-Ok.parts in
    let p : Accesses = record { reads = parts.reads.items; ranges = parts.ranges.items; writes = parts.writes.items; version = parts.version } in
    (payload_takes c.args.version c.of-words.result p c.in-Ok.ensures).1

pub returns-in-Ok-clause-found : goal.returns-in-Ok-clause-found
returns-in-Ok-clause-found c =
    let parts = c.in-Ok.parts in
    let p : Accesses = record { reads = parts.reads.items; ranges = parts.ranges.items; writes = parts.writes.items; version = parts.version } in
    let taken = payload_takes c.args.version c.of-words.result p c.in-Ok.ensures in
    built_as c.into_payload.result p (λ q. IsPayload q × FitsVersion c.args.version q × (c.args.text.now ≡ payload_text q)) c.into_payload.ensures.value
    (taken.1, taken.2, text_of_words c.args.text.now p (sym c.of-words.ensures ∙ taken.0))

pub returns-in-Ok-clause-only : goal.returns-in-Ok-clause-only
returns-in-Ok-clause-only c = λ q h fits e.
    let parts = c.in-Ok.parts in
    let p : Accesses = record { reads = parts.reads.items; ranges = parts.ranges.items; writes = parts.writes.items; version = parts.version } in
    let again = text_read_again c.args.version c.args.text.now q h fits e in
    let read : payload_at c.args.version (words_of c.args.text.now) ≡ Ok p = rw c.of-words.ensures at c.in-Ok.ensures in
    read_as c.into_payload.result p (Ok q) c.into_payload.ensures.value c.into_payload.ensures.memory (ap Ok (ok_is q p (sym again ∙ read)))

pub returns-in-Ok-clause-exact : goal.returns-in-Ok-clause-exact
returns-in-Ok-clause-exact c =
    let parts = c.in-Ok.parts in
    let p : Accesses = record { reads = parts.reads.items; ranges = parts.ranges.items; writes = parts.writes.items; version = parts.version } in
    let read : payload_at c.args.version (words_of c.args.text.now) ≡ Ok p = rw c.of-words.ensures at c.in-Ok.ensures in
    read_as c.into_payload.result p (reading c.args.version c.args.text.now) c.into_payload.ensures.value c.into_payload.ensures.memory (rw read refl)

pub returns-in-Err-Misfit-clause-only : goal.returns-in-Err-Misfit-clause-only
returns-in-Err-Misfit-clause-only c = λ q h fits e.
    let again = text_read_again c.args.version c.args.text.now q h fits e in
    let read = rw (c.of-words.ensures, c.in-Err-Misfit.field-0-is) at c.in-Err-Misfit.ensures in
    absurd (not_both (payload_at c.args.version (words_of c.args.text.now)) q (record { left = c.in-Err-Misfit.left; reason = c.in-Err-Misfit.reason }) again read)
