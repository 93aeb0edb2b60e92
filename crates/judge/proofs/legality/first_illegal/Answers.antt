-- Each place in the order is judged against the newest writers among those before it.
use Rattle.std.proofs.Common.{◌≡◌, ◌<◌, List, length, take, get_or, true, false, arith, sym, ap, ◌∙◌, subst, refl}
use Rattle.std.specs.Option.{option_copied}
use Rattle.std.proofs.lemmas.List.{get_or_default}
use Rattle.tcs_terms.specs.declared.ids.TxId.{TxId}
use Rattle.tcs_terms.specs.Payloads.{Accesses}
use Rattle.protocol.specs.History.{payload_in, payloads_of}
use Rattle.protocol.specs.CorrectHistory.{passes_after}
use Rattle.judge.specs.Newest.{AreNewest, with_payload}
use Rattle.judge.specs.Verdicts.{first_failing, place_found}
use Rattle.judge.proofs.Failing.{failing_next, place_here, place_none}
use Rattle.judge.proofs.Kept.{newest_none}
use Rattle.judge.proofs.Legal.{legal_at, payloads_next}
use Rattle.judge.proofs.legality.first_illegal.Goals as goal

pub loop-txn-init : goal.loop-txn-init
loop-txn-init g c = record { stands = newest_none _ c.new-newest.ensures.empty; found = refl }

pub loop-txn-preserved : goal.loop-txn-preserved
loop-txn-preserved g c =
    let h = c.args.history.now in
    let order = c.args.order.now in
    let i = c.loop-txn.txn-index in
    let t : TxId = get_or order i (record { home = 0; seq = 0 }) in
    let olds = payloads_of h (take i order) in
    let tests = g.C.Certifier.tests in
    let within : i < length order = omega arith in
    let is : t ≡ get_or order i t = sym (get_or_default order i t (record { home = 0; seq = 0 }) within) in
    let stood = c.loop-txn.invariant.stands in
    let has : option_copied c.get.result ≡ payload_in h t = c.get.ensures.value ∙ c.in_ok-payloads.ensures.has t in
    let passes : legal_at tests h (take i order) t ≡ true =
    ap (passes_after tests olds) (sym has) ∙ sym (c.in_ok-passes.ensures.passes olds stood) ∙ c.if-not-passes.false in
    record {
      stands = subst (λ (ps : List Accesses). AreNewest c.join.new.newest ps)
          (ap (with_payload olds) has ∙ sym (payloads_next h order i t within is))
          (c.in_ok-passes.ensures.stands c.if-not-passes.false olds stood);
      found = c.loop-txn.invariant.found ∙ failing_next (legal_at tests h) order i t within is passes;
    }

pub returns-then-not-passes : goal.returns-then-not-passes
returns-then-not-passes g c =
    let h = c.args.history.now in
    let order = c.args.order.now in
    let i = c.loop-txn.txn-index in
    let t : TxId = get_or order i (record { home = 0; seq = 0 }) in
    let within : i < length order = omega arith in
    let is : t ≡ get_or order i t = sym (get_or_default order i t (record { home = 0; seq = 0 }) within) in
    let olds = payloads_of h (take i order) in
    let tests = g.C.Certifier.tests in
    let has : option_copied c.get.result ≡ payload_in h t = c.get.ensures.value ∙ c.in_ok-payloads.ensures.has t in
    let fails : legal_at tests h (take i order) t ≡ false =
    ap (passes_after tests olds) (sym has) ∙ sym (c.in_ok-passes.ensures.passes olds c.loop-txn.invariant.stands) ∙ c.if-not-passes.true in
    place_here (legal_at tests h) order i t within is c.loop-txn.invariant.found fails
    ∙ ap (λ ts. place_found (first_failing (legal_at tests h) ts)) c.requires

pub returns : goal.returns
returns g c =
    let tests = g.C.Certifier.tests in
    place_none (legal_at tests c.args.history.now) c.args.order.now c.loop-txn.txn-index (omega arith) c.loop-txn.invariant.found
    ∙ ap (λ ts. place_found (first_failing (legal_at tests c.args.history.now) ts)) c.requires
