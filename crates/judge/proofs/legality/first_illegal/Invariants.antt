use Rattle.std.proofs.Common.{◌≡◌, take, drop}
use Rattle.protocol.specs.History.{payloads_of}
use Rattle.judge.specs.Newest.{AreNewest}
use Rattle.judge.specs.Verdicts.{first_failing}
use Rattle.judge.proofs.Failing.{failing_from}
use Rattle.judge.proofs.Legal.{legal_at}
use Rattle.judge.proofs.legality.first_illegal.Given as goal

abbrev pub invariant-loop-txn : goal.invariant-loop-txn
invariant-loop-txn g l = record {
  stands : AreNewest l.newest (payloads_of l.history (take l.txn-index l.order));
  found : first_failing (legal_at g.C.Certifier.tests l.history) l.order
      ≡ failing_from (legal_at g.C.Certifier.tests l.history) (take l.txn-index l.order) (drop l.txn-index l.order);
}
