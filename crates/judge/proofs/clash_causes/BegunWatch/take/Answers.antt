-- A clash is named rightly, as the payloads of the notes so far tell.
use Rattle.std.proofs.Common.{◌∙◌}
use Rattle.judge.proofs.Keeping.{clash_same, payloads_step}
use Rattle.judge.proofs.clash_causes.BegunWatch.take.Goals as goal

pub returns-clause-passes : goal.returns-clause-passes
returns-clause-passes g c = λ past stood.
    c.in_ok-passes.ensures ∙ clash_same g.C.Certifier.tests c.args.shards _ past stood c.args.note.now

pub returns-clause-stands : goal.returns-clause-stands
returns-clause-stands g c = λ passes past stood. rw (c.in_ok-keep_begun.ensures) (payloads_step _ past c.args.note.now stood)
