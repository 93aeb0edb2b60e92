use Rattle.std.proofs.Common.{◌+◌, ◌<◌, List, length, take, arith, sym, subst}
use Rattle.tcs_terms.specs.declared.inputs.Note.{Note}
use Rattle.tcs_terms.specs.declared.ids.TxId.{TxId}
use Rattle.tcs_terms.specs.Payloads.{Accesses}
use Rattle.judge.specs.Watching.{ArePayloads, payloads_with}
use Rattle.judge.proofs.Failing.{front_at}
use Rattle.judge.proofs.Keeping.{payloads_none, payloads_step}
use Rattle.judge.proofs.payloads.payloads_of.Goals as goal

pub loop-note-init : goal.loop-note-init
loop-note-init c = payloads_none _ c.new-payloads.ensures.empty

pub loop-note-preserved : goal.loop-note-preserved
loop-note-preserved c =
    let h = c.args.history.now in
    let i = c.loop-note.note-index in
    let within : i < length h = omega arith in
    subst (λ (es : List (TxId × Accesses)). ArePayloads es (take (i + 1) h)) (sym c.in_ok-keep_begun.ensures)
    (subst (λ (ns : List Note). ArePayloads (payloads_with c.loop-note.payloads.entries c.note-item.result) ns) (sym (front_at h i c.note-item.result within c.note-item.is))
    (payloads_step c.loop-note.payloads.entries (take i h) c.note-item.result c.loop-note.invariant))
