-- Each note puts its transaction last, if it has one that is new.
use Rattle.std.proofs.Common.{◌<◌, List, length, take, arith, sym, ap, ◌∙◌}
use Rattle.std.proofs.lemmas.List.{take_all}
use Rattle.tcs_terms.specs.declared.ids.TxId.{TxId}
use Rattle.workload.specs.Counts.{begun_in}
use Rattle.judge.specs.Watching.{put_next}
use Rattle.judge.proofs.Firsts.{firsts, firsts_next}
use Rattle.workload.proofs.counts.begun_of.Goals as goal

pub loop-note-init : goal.loop-note-init
loop-note-init c = c.new-txns.ensures.empty

pub loop-note-preserved : goal.loop-note-preserved
loop-note-preserved c =
    let h = c.args.history.now in
    let i = c.loop-note.note-index in
    let within : i < length h = omega arith in
    c.in_ok-put_next.ensures
    ∙ ap (λ (ks : List TxId). put_next ks c.begun_in.result) c.loop-note.invariant
    ∙ ap (put_next (firsts begun_in (take i h))) c.begun_in.ensures
    ∙ sym (firsts_next begun_in h i c.note-item.result within c.note-item.is)

pub returns : goal.returns
returns c =
    c.len.ensures.len ∙ ap (λ (ks : List TxId). length ks) (c.loop-note.invariant ∙ ap (firsts begun_in) (take_all c.loop-note.note-index c.args.history.now (omega arith)))
