-- A decision to commit: the first one of its transaction, or a later one.
use Rattle.std.proofs.Common.{◌≡◌, ◌<◌, true, false, length, arith, sym, ◌∙◌, refl}
use Rattle.std.specs.Prelude.{Some}
use Rattle.std.specs.List.{list_any}
use Rattle.tcs_terms.specs.Logs.{same_txn}
use Rattle.tcs_terms.proofs.BoolLaws.{not_true, not_false}
use Rattle.protocol.specs.History.{order_of, payload_in, payloads_of}
use Rattle.counters.specs.declared.limits.TheConstants.{MAX_PAYLOADS}
use Rattle.counters.proofs.Noting.{payloads_few, totals_again, totals_commit}
use Rattle.counters.proofs.totals.Totals.saw_commit.Goals as goal

pub returns-in_ok-add-in-Some : goal.returns-in_ok-add-in-Some
returns-in_ok-add-in-Some c = λ past few begun are.
    let fresh : list_any (same_txn c.args.txn) c.args.self.now.committed.keys ≡ false = not_false _ (sym c.in_ok-keep_commit.ensures.new ∙ c.if-branch.true) in
    let payload : payload_in past c.args.txn ≡ Some c.in-Some.payload.now = sym (are.begun c.args.txn) ∙ sym c.in-Some.ensures.value in
    let all = payloads_few past in
    let small : length (payloads_of past (order_of past)) < MAX_PAYLOADS = omega arith in
    totals_commit c.args.self.now _ past c.args.txn c.in-Some.payload.now fresh payload refl c.in_ok-keep_commit.ensures.keys
    (c.in_ok-add-in-Some.ensures (payloads_of past (order_of past)) small are.sums) are

pub returns-else-branch : goal.returns-else-branch
returns-else-branch c = λ past few begun are.
    let there : list_any (same_txn c.args.txn) c.args.self.now.committed.keys ≡ true = not_true _ (sym c.in_ok-keep_commit.ensures.new ∙ c.if-branch.false) in
    totals_again c.args.self.now _ past c.args.txn there refl c.in_ok-keep_commit.ensures.keys refl are
