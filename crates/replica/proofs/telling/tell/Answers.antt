-- A row that is marked committed is told; what else happens to rows changes nothing that is read.
use Rattle.std.proofs.Common.{sym, subst}
use Rattle.std.proofs.lemmas.Result.{on_ok_weaker}
use Rattle.protocol.specs.Log.{marked, mark_of}
use Rattle.version_store.specs.Keeping.{StandsFor}
use Rattle.cert_log.proofs.Marking.{has_mark}
use Rattle.replica.proofs.Marking.{stands_untold}
use Rattle.replica.proofs.telling.tell.Goals as goal

pub returns-then-not-commit : goal.returns-then-not-commit
returns-then-not-commit c = λ rows stands rise there.
    stands_untold c.args.versions.now rows stands rise c.args.row.now there c.args.commit (λ is undecided. let not = c.if-not-commit.true in cc)

pub returns-in-Undecided : goal.returns-in-Undecided
returns-in-Undecided c =
    on_ok_weaker c.committed.result (λ told rows stands rise there.
    subst (λ commit. StandsFor c.committed.new.self (marked rows c.args.row.now.entry.slot (mark_of commit))) (sym c.if-not-commit.false)
    (told rows stands rise there c.in-Undecided.is)) c.committed.ensures

pub returns-in-Committed : goal.returns-in-Committed
returns-in-Committed c = λ rows stands rise there.
    stands_untold c.args.versions.now rows stands rise c.args.row.now there c.args.commit (λ is undecided. has_mark c.args.row.now.mark c.in-Committed.is undecided)
