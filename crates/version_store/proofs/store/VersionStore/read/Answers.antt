-- What is kept of the object is what is read of it.
use Rattle.std.proofs.Common.{ap}
use Rattle.version_store.proofs.BestRead.{read_kept}
use Rattle.version_store.proofs.store.VersionStore.read.Goals as goal

pub returns-in-None-clause-version : goal.returns-in-None-clause-version
returns-in-None-clause-version c rows stands rise =
    ap (λ r. r.version) (read_kept c.args.self.now rows stands rise _ _ c.in-None.ensures.value)

pub returns-in-None-clause-value : goal.returns-in-None-clause-value
returns-in-None-clause-value c rows stands rise =
    ap (λ r. r.value) (read_kept c.args.self.now rows stands rise _ _ c.in-None.ensures.value)

pub returns-in-Some-clause-version : goal.returns-in-Some-clause-version
returns-in-Some-clause-version c rows stands rise =
    ap (λ r. r.version) (read_kept c.args.self.now rows stands rise _ _ c.in-Some.ensures.value)

pub returns-in-Some-clause-value : goal.returns-in-Some-clause-value
returns-in-Some-clause-value c rows stands rise =
    ap (λ r. r.value) (read_kept c.args.self.now rows stands rise _ _ c.in-Some.ensures.value)
