-- An undecided row changes nothing that is read.
use Rattle.leader_part.specs.Leading.{LeaderState}
use Rattle.cert_log.specs.Preparing.{prepared_rows}
use Rattle.version_store.specs.Keeping.{StandsFor}
use Rattle.replica.proofs.Standing.{stands_after, stands_prepared}
use Rattle.replica.proofs.duties.Duty.prepare.Goals as goal

pub invariant_of-self : goal.invariant_of-self
invariant_of-self g c =
    let before : LeaderState = c.in-Leader.leader in
    let tests = g.G.Rule.Certifier.tests in
    let stands : StandsFor c.self.inside.versions before.rows = rw c.in-Leader.is at c.self.invariant in
    stands_after (λ (s : LeaderState). s.rows) c.prepare.result c.self.inside.versions before
    (record before { rows = prepared_rows tests before.rows c.args.txn c.args.shards c.args.part }) c.prepare.new.self c.prepare.ensures.rows c.prepare.ensures.err stands
    (stands_prepared c.self.inside.versions tests before.rows c.args.txn c.args.shards c.args.part stands)
