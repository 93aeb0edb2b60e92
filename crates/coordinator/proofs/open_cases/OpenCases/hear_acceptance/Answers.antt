use Rattle.std.proofs.Common.{◌≡◌, ◌+◌, None, Some, length, refl, sym, ◌∙◌, ap, arith, append-nil}
use Rattle.std.specs.Map.{lookup}
use Rattle.tcs_terms.specs.Logs.{same_txn}
use Rattle.protocol.specs.Cases.{is_complete}
use Rattle.protocol.specs.Coordination.{with_case}
use Rattle.coordinator.specs.Acknowledged.{having, acknowledged_case}
use Rattle.coordinator.specs.OpenCases.{taken}
use Rattle.coordinator.proofs.HeardRules.{ack_of_none, ack_rests}
use Rattle.coordinator.proofs.Placing.{no_case, reads, reads_none, still_placed, less_placed, put_case, same_case, close_case, accepts}
use Rattle.coordinator.proofs.Slots.{stands_at}
use Rattle.coordinator.proofs.open_cases.OpenCases.hear_acceptance.Goals as goal

pub index_mut-requires : goal.index_mut-requires
index_mut-requires c =
    let there : lookup (same_txn c.args.txn) c.self.inside.places.entries ≡ Some c.in-Some.at = cc in
    let s = stands_at c.self.inside.places.entries c.self.inside.slots.items c.self.invariant c.args.txn c.in-Some.at there in
    omega (arith, s.within, c.self.inside.slots.ok)

pub index_mut-requires-then-branch : goal.index_mut-requires-then-branch
index_mut-requires-then-branch c =
    let there : lookup (same_txn c.args.txn) c.self.inside.places.entries ≡ Some c.in-Some.at = cc in
    let s = stands_at c.self.inside.places.entries c.self.inside.slots.items c.self.invariant c.args.txn c.in-Some.at there in
    omega (arith, s.within, c.self.inside.slots.ok)

pub invariant_of-self-in_err-hear_acceptance-in-Some-index_mut : goal.invariant_of-self-in_err-hear_acceptance-in-Some-index_mut
invariant_of-self-in_err-hear_acceptance-in-Some-index_mut c =
    let there : lookup (same_txn c.args.txn) c.self.inside.places.entries ≡ Some c.in-Some.at = cc in
    let r = reads c.self.inside.places.entries c.self.inside.slots.items c.args.txn c.in-Some-index_mut.field-0-0 c.in-Some.at c.in-Some-index_mut.case c.index_mut.result.now c.self.invariant there c.index_mut.ensures.value c.in-Some-index_mut.is in
    still_placed c.args.views.now c.self.inside.places.entries c.self.inside.slots.items c.args.txn c.in-Some-index_mut.field-0-0 c.in-Some.at c.in-Some-index_mut.case r c.hear_acceptance.new.self

pub invariant_of-self-in_err-decide-in-Some-index_mut : goal.invariant_of-self-in_err-decide-in-Some-index_mut
invariant_of-self-in_err-decide-in-Some-index_mut c =
    let there : lookup (same_txn c.args.txn) c.self.inside.places.entries ≡ Some c.in-Some.at = cc in
    let r = reads c.self.inside.places.entries c.self.inside.slots.items c.args.txn c.in-Some-index_mut.field-0-0 c.in-Some.at c.in-Some-index_mut.case c.index_mut.result.now c.self.invariant there c.index_mut.ensures.value c.in-Some-index_mut.is in
    still_placed c.args.views.now c.self.inside.places.entries c.self.inside.slots.items c.args.txn c.in-Some-index_mut.field-0-0 c.in-Some.at c.in-Some-index_mut.case r c.hear_acceptance.new.self

pub invariant_of-self-else-branch : goal.invariant_of-self-else-branch
invariant_of-self-else-branch c =
    let there : lookup (same_txn c.args.txn) c.self.inside.places.entries ≡ Some c.in-Some.at = cc in
    let r = reads c.self.inside.places.entries c.self.inside.slots.items c.args.txn c.in-Some-index_mut.field-0-0 c.in-Some.at c.in-Some-index_mut.case c.index_mut.result.now c.self.invariant there c.index_mut.ensures.value c.in-Some-index_mut.is in
    still_placed c.args.views.now c.self.inside.places.entries c.self.inside.slots.items c.args.txn c.in-Some-index_mut.field-0-0 c.in-Some.at c.in-Some-index_mut.case r c.hear_acceptance.new.self

pub invariant_of-self-then-not-branch : goal.invariant_of-self-then-not-branch
invariant_of-self-then-not-branch c =
    let there : lookup (same_txn c.args.txn) c.self.inside.places.entries ≡ Some c.in-Some.at = cc in
    let r = reads c.self.inside.places.entries c.self.inside.slots.items c.args.txn c.in-Some-index_mut.field-0-0 c.in-Some.at c.in-Some-index_mut.case c.index_mut.result.now c.self.invariant there c.index_mut.ensures.value c.in-Some-index_mut.is in
    still_placed c.args.views.now c.self.inside.places.entries c.self.inside.slots.items c.args.txn c.in-Some-index_mut.field-0-0 c.in-Some.at c.in-Some-index_mut.case r c.hear_acceptance.new.self

pub invariant_of-self-then-branch : goal.invariant_of-self-then-branch
invariant_of-self-then-branch c =
    let there : lookup (same_txn c.args.txn) c.self.inside.places.entries ≡ Some c.in-Some.at = cc in
    let r = reads c.self.inside.places.entries c.self.inside.slots.items c.args.txn c.in-Some-index_mut.field-0-0 c.in-Some.at c.in-Some-index_mut.case c.index_mut.result.now c.self.invariant there c.index_mut.ensures.value c.in-Some-index_mut.is in
    let gone : length c.remove.new.self.entries + 1 ≡ length c.self.inside.places.entries = rw (c.remove.ensures.value, there) at c.remove.ensures.len in
    let finds = c.remove.ensures.updates.0 in
    less_placed c.args.views.now c.self.inside.places.entries c.self.inside.slots.items c.args.txn c.in-Some-index_mut.field-0-0 c.in-Some.at c.in-Some-index_mut.case r c.remove.new.self.entries c.hear_acceptance.new.self finds gone

pub returns-then-branch-clause-answer : goal.returns-then-branch-clause-answer
returns-then-branch-clause-answer c =
    let there : lookup (same_txn c.args.txn) c.self.inside.places.entries ≡ Some c.in-Some.at = cc in
    let r = reads c.self.inside.places.entries c.self.inside.slots.items c.args.txn c.in-Some-index_mut.field-0-0 c.in-Some.at c.in-Some-index_mut.case c.index_mut.result.now c.self.invariant there c.index_mut.ensures.value c.in-Some-index_mut.is in
    let acts = sym c.in_ok-hear_acceptance-in-Some-index_mut.ensures.acts ∙ c.if-not-branch.false in
    let a = accepts c.args.views.now c.self.inside.places.entries c.self.inside.slots.items c.args.txn c.in-Some-index_mut.field-0-0 c.in-Some.at c.in-Some-index_mut.case r c.args.from c.args.shard c.args.epoch c.args.slot acts in
    rw (← c.self.view_is) (sym a.answer)

pub returns-then-branch-clause-kept : goal.returns-then-branch-clause-kept
returns-then-branch-clause-kept c =
    let there : lookup (same_txn c.args.txn) c.self.inside.places.entries ≡ Some c.in-Some.at = cc in
    let r = reads c.self.inside.places.entries c.self.inside.slots.items c.args.txn c.in-Some-index_mut.field-0-0 c.in-Some.at c.in-Some-index_mut.case c.index_mut.result.now c.self.invariant there c.index_mut.ensures.value c.in-Some-index_mut.is in
    let acts = sym c.in_ok-hear_acceptance-in-Some-index_mut.ensures.acts ∙ c.if-not-branch.false in
    let a = accepts c.args.views.now c.self.inside.places.entries c.self.inside.slots.items c.args.txn c.in-Some-index_mut.field-0-0 c.in-Some.at c.in-Some-index_mut.case r c.args.from c.args.shard c.args.epoch c.args.slot acts in
    let next : c.hear_acceptance.new.self ≡ acknowledged_case c.args.shard c.args.from c.in-Some-index_mut.case = rw c.if-not-branch.false at c.in_ok-hear_acceptance-in-Some-index_mut.ensures.case in
    let complete = ap (is_complete c.args.views.now) (sym next) ∙ sym c.in_ok-decide-in-Some-index_mut.ensures.complete ∙ c.if-branch.true in
    rw (← c.self.view_is) (close_case c.args.views.now c.self.inside.places.entries c.self.inside.slots.items c.args.txn c.in-Some-index_mut.field-0-0 c.in-Some.at c.in-Some-index_mut.case r c.hear_acceptance.new.self ∙ sym (a.closed complete))

pub returns-then-branch-clause-sends : goal.returns-then-branch-clause-sends
returns-then-branch-clause-sends c =
    let there : lookup (same_txn c.args.txn) c.self.inside.places.entries ≡ Some c.in-Some.at = cc in
    let r = reads c.self.inside.places.entries c.self.inside.slots.items c.args.txn c.in-Some-index_mut.field-0-0 c.in-Some.at c.in-Some-index_mut.case c.index_mut.result.now c.self.invariant there c.index_mut.ensures.value c.in-Some-index_mut.is in
    let acts = sym c.in_ok-hear_acceptance-in-Some-index_mut.ensures.acts ∙ c.if-not-branch.false in
    let a = accepts c.args.views.now c.self.inside.places.entries c.self.inside.slots.items c.args.txn c.in-Some-index_mut.field-0-0 c.in-Some.at c.in-Some-index_mut.case r c.args.from c.args.shard c.args.epoch c.args.slot acts in
    let next : c.hear_acceptance.new.self ≡ acknowledged_case c.args.shard c.args.from c.in-Some-index_mut.case = rw c.if-not-branch.false at c.in_ok-hear_acceptance-in-Some-index_mut.ensures.case in
    rw (← c.self.view_is, a.sends, ← next) c.in_ok-decide-in-Some-index_mut.ensures.sends

pub returns-then-branch-clause-notes : goal.returns-then-branch-clause-notes
returns-then-branch-clause-notes c =
    let there : lookup (same_txn c.args.txn) c.self.inside.places.entries ≡ Some c.in-Some.at = cc in
    let r = reads c.self.inside.places.entries c.self.inside.slots.items c.args.txn c.in-Some-index_mut.field-0-0 c.in-Some.at c.in-Some-index_mut.case c.index_mut.result.now c.self.invariant there c.index_mut.ensures.value c.in-Some-index_mut.is in
    let acts = sym c.in_ok-hear_acceptance-in-Some-index_mut.ensures.acts ∙ c.if-not-branch.false in
    let a = accepts c.args.views.now c.self.inside.places.entries c.self.inside.slots.items c.args.txn c.in-Some-index_mut.field-0-0 c.in-Some.at c.in-Some-index_mut.case r c.args.from c.args.shard c.args.epoch c.args.slot acts in
    let next : c.hear_acceptance.new.self ≡ acknowledged_case c.args.shard c.args.from c.in-Some-index_mut.case = rw c.if-not-branch.false at c.in_ok-hear_acceptance-in-Some-index_mut.ensures.case in
    rw (← c.self.view_is, a.notes, ← next) c.in_ok-decide-in-Some-index_mut.ensures.notes

pub returns-else-branch-clause-answer : goal.returns-else-branch-clause-answer
returns-else-branch-clause-answer c =
    let there : lookup (same_txn c.args.txn) c.self.inside.places.entries ≡ Some c.in-Some.at = cc in
    let r = reads c.self.inside.places.entries c.self.inside.slots.items c.args.txn c.in-Some-index_mut.field-0-0 c.in-Some.at c.in-Some-index_mut.case c.index_mut.result.now c.self.invariant there c.index_mut.ensures.value c.in-Some-index_mut.is in
    let acts = sym c.in_ok-hear_acceptance-in-Some-index_mut.ensures.acts ∙ c.if-not-branch.false in
    let a = accepts c.args.views.now c.self.inside.places.entries c.self.inside.slots.items c.args.txn c.in-Some-index_mut.field-0-0 c.in-Some.at c.in-Some-index_mut.case r c.args.from c.args.shard c.args.epoch c.args.slot acts in
    rw (← c.self.view_is) (sym a.answer)

pub returns-else-branch-clause-kept : goal.returns-else-branch-clause-kept
returns-else-branch-clause-kept c =
    let there : lookup (same_txn c.args.txn) c.self.inside.places.entries ≡ Some c.in-Some.at = cc in
    let r = reads c.self.inside.places.entries c.self.inside.slots.items c.args.txn c.in-Some-index_mut.field-0-0 c.in-Some.at c.in-Some-index_mut.case c.index_mut.result.now c.self.invariant there c.index_mut.ensures.value c.in-Some-index_mut.is in
    let acts = sym c.in_ok-hear_acceptance-in-Some-index_mut.ensures.acts ∙ c.if-not-branch.false in
    let a = accepts c.args.views.now c.self.inside.places.entries c.self.inside.slots.items c.args.txn c.in-Some-index_mut.field-0-0 c.in-Some.at c.in-Some-index_mut.case r c.args.from c.args.shard c.args.epoch c.args.slot acts in
    let next : c.hear_acceptance.new.self ≡ acknowledged_case c.args.shard c.args.from c.in-Some-index_mut.case = rw c.if-not-branch.false at c.in_ok-hear_acceptance-in-Some-index_mut.ensures.case in
    let complete = ap (is_complete c.args.views.now) (sym next) ∙ sym c.in_ok-decide-in-Some-index_mut.ensures.complete ∙ c.if-branch.false in
    rw (← c.self.view_is) (put_case c.args.views.now c.self.inside.places.entries c.self.inside.slots.items c.args.txn c.in-Some-index_mut.field-0-0 c.in-Some.at c.in-Some-index_mut.case r c.hear_acceptance.new.self ∙ ap (with_case (having c.args.views.now (taken c.self.inside.slots.items)) c.args.txn) next ∙ sym (a.kept_open complete))

pub returns-else-branch-clause-sends : goal.returns-else-branch-clause-sends
returns-else-branch-clause-sends c =
    let there : lookup (same_txn c.args.txn) c.self.inside.places.entries ≡ Some c.in-Some.at = cc in
    let r = reads c.self.inside.places.entries c.self.inside.slots.items c.args.txn c.in-Some-index_mut.field-0-0 c.in-Some.at c.in-Some-index_mut.case c.index_mut.result.now c.self.invariant there c.index_mut.ensures.value c.in-Some-index_mut.is in
    let acts = sym c.in_ok-hear_acceptance-in-Some-index_mut.ensures.acts ∙ c.if-not-branch.false in
    let a = accepts c.args.views.now c.self.inside.places.entries c.self.inside.slots.items c.args.txn c.in-Some-index_mut.field-0-0 c.in-Some.at c.in-Some-index_mut.case r c.args.from c.args.shard c.args.epoch c.args.slot acts in
    let next : c.hear_acceptance.new.self ≡ acknowledged_case c.args.shard c.args.from c.in-Some-index_mut.case = rw c.if-not-branch.false at c.in_ok-hear_acceptance-in-Some-index_mut.ensures.case in
    rw (← c.self.view_is, a.sends, ← next) c.in_ok-decide-in-Some-index_mut.ensures.sends

pub returns-else-branch-clause-notes : goal.returns-else-branch-clause-notes
returns-else-branch-clause-notes c =
    let there : lookup (same_txn c.args.txn) c.self.inside.places.entries ≡ Some c.in-Some.at = cc in
    let r = reads c.self.inside.places.entries c.self.inside.slots.items c.args.txn c.in-Some-index_mut.field-0-0 c.in-Some.at c.in-Some-index_mut.case c.index_mut.result.now c.self.invariant there c.index_mut.ensures.value c.in-Some-index_mut.is in
    let acts = sym c.in_ok-hear_acceptance-in-Some-index_mut.ensures.acts ∙ c.if-not-branch.false in
    let a = accepts c.args.views.now c.self.inside.places.entries c.self.inside.slots.items c.args.txn c.in-Some-index_mut.field-0-0 c.in-Some.at c.in-Some-index_mut.case r c.args.from c.args.shard c.args.epoch c.args.slot acts in
    let next : c.hear_acceptance.new.self ≡ acknowledged_case c.args.shard c.args.from c.in-Some-index_mut.case = rw c.if-not-branch.false at c.in_ok-hear_acceptance-in-Some-index_mut.ensures.case in
    rw (← c.self.view_is, a.notes, ← next) c.in_ok-decide-in-Some-index_mut.ensures.notes

pub returns-in-None-clause-answer : goal.returns-in-None-clause-answer
returns-in-None-clause-answer c =
    let none : lookup (same_txn c.args.txn) c.self.inside.places.entries ≡ None = cc in
    let row = ack_of_none (having c.args.views.now (taken c.self.inside.slots.items)) c.args.from c.args.shard c.args.epoch c.args.slot c.args.txn (no_case c.args.views.now c.self.inside.places.entries c.self.inside.slots.items c.self.invariant c.args.txn none) in
    rw (← c.self.view_is, row) c.refusal.ensures

pub returns-in-None-clause-kept : goal.returns-in-None-clause-kept
returns-in-None-clause-kept c =
    let none : lookup (same_txn c.args.txn) c.self.inside.places.entries ≡ None = cc in
    let row = ack_of_none (having c.args.views.now (taken c.self.inside.slots.items)) c.args.from c.args.shard c.args.epoch c.args.slot c.args.txn (no_case c.args.views.now c.self.inside.places.entries c.self.inside.slots.items c.self.invariant c.args.txn none) in
    rw (← c.self.view_is, row) refl

pub returns-in-None-clause-sends : goal.returns-in-None-clause-sends
returns-in-None-clause-sends c =
    let none : lookup (same_txn c.args.txn) c.self.inside.places.entries ≡ None = cc in
    let row = ack_of_none (having c.args.views.now (taken c.self.inside.slots.items)) c.args.from c.args.shard c.args.epoch c.args.slot c.args.txn (no_case c.args.views.now c.self.inside.places.entries c.self.inside.slots.items c.self.invariant c.args.txn none) in
    rw (← c.self.view_is, row) (sym (append-nil c.args.out.now.items))

pub returns-in-None-clause-notes : goal.returns-in-None-clause-notes
returns-in-None-clause-notes c =
    let none : lookup (same_txn c.args.txn) c.self.inside.places.entries ≡ None = cc in
    let row = ack_of_none (having c.args.views.now (taken c.self.inside.slots.items)) c.args.from c.args.shard c.args.epoch c.args.slot c.args.txn (no_case c.args.views.now c.self.inside.places.entries c.self.inside.slots.items c.self.invariant c.args.txn none) in
    rw (← c.self.view_is, row) (sym (append-nil c.args.notes.now.items))

pub returns-then-not-branch-clause-answer : goal.returns-then-not-branch-clause-answer
returns-then-not-branch-clause-answer c =
    let there : lookup (same_txn c.args.txn) c.self.inside.places.entries ≡ Some c.in-Some.at = cc in
    let r = reads c.self.inside.places.entries c.self.inside.slots.items c.args.txn c.in-Some-index_mut.field-0-0 c.in-Some.at c.in-Some-index_mut.case c.index_mut.result.now c.self.invariant there c.index_mut.ensures.value c.in-Some-index_mut.is in
    let row = ack_rests (having c.args.views.now (taken c.self.inside.slots.items)) c.args.from c.args.shard c.args.epoch c.args.slot c.args.txn c.in-Some-index_mut.case r.is_case (sym c.in_ok-hear_acceptance-in-Some-index_mut.ensures.acts ∙ c.if-not-branch.true) in
    rw (← c.self.view_is, row) c.refusal-then-not-branch.ensures

pub returns-then-not-branch-clause-kept : goal.returns-then-not-branch-clause-kept
returns-then-not-branch-clause-kept c =
    let there : lookup (same_txn c.args.txn) c.self.inside.places.entries ≡ Some c.in-Some.at = cc in
    let r = reads c.self.inside.places.entries c.self.inside.slots.items c.args.txn c.in-Some-index_mut.field-0-0 c.in-Some.at c.in-Some-index_mut.case c.index_mut.result.now c.self.invariant there c.index_mut.ensures.value c.in-Some-index_mut.is in
    let row = ack_rests (having c.args.views.now (taken c.self.inside.slots.items)) c.args.from c.args.shard c.args.epoch c.args.slot c.args.txn c.in-Some-index_mut.case r.is_case (sym c.in_ok-hear_acceptance-in-Some-index_mut.ensures.acts ∙ c.if-not-branch.true) in
    let same : c.hear_acceptance.new.self ≡ c.in-Some-index_mut.case = rw c.if-not-branch.true at c.in_ok-hear_acceptance-in-Some-index_mut.ensures.case in
    rw (← c.self.view_is, row) (same_case c.args.views.now c.self.inside.places.entries c.self.inside.slots.items c.args.txn c.in-Some-index_mut.field-0-0 c.in-Some.at c.in-Some-index_mut.case r c.hear_acceptance.new.self same)

pub returns-then-not-branch-clause-sends : goal.returns-then-not-branch-clause-sends
returns-then-not-branch-clause-sends c =
    let there : lookup (same_txn c.args.txn) c.self.inside.places.entries ≡ Some c.in-Some.at = cc in
    let r = reads c.self.inside.places.entries c.self.inside.slots.items c.args.txn c.in-Some-index_mut.field-0-0 c.in-Some.at c.in-Some-index_mut.case c.index_mut.result.now c.self.invariant there c.index_mut.ensures.value c.in-Some-index_mut.is in
    let row = ack_rests (having c.args.views.now (taken c.self.inside.slots.items)) c.args.from c.args.shard c.args.epoch c.args.slot c.args.txn c.in-Some-index_mut.case r.is_case (sym c.in_ok-hear_acceptance-in-Some-index_mut.ensures.acts ∙ c.if-not-branch.true) in
    rw (← c.self.view_is, row) (sym (append-nil c.args.out.now.items))

pub returns-then-not-branch-clause-notes : goal.returns-then-not-branch-clause-notes
returns-then-not-branch-clause-notes c =
    let there : lookup (same_txn c.args.txn) c.self.inside.places.entries ≡ Some c.in-Some.at = cc in
    let r = reads c.self.inside.places.entries c.self.inside.slots.items c.args.txn c.in-Some-index_mut.field-0-0 c.in-Some.at c.in-Some-index_mut.case c.index_mut.result.now c.self.invariant there c.index_mut.ensures.value c.in-Some-index_mut.is in
    let row = ack_rests (having c.args.views.now (taken c.self.inside.slots.items)) c.args.from c.args.shard c.args.epoch c.args.slot c.args.txn c.in-Some-index_mut.case r.is_case (sym c.in_ok-hear_acceptance-in-Some-index_mut.ensures.acts ∙ c.if-not-branch.true) in
    rw (← c.self.view_is, row) (sym (append-nil c.args.notes.now.items))

pub returns-in-None-index_mut-clause-answer : goal.returns-in-None-index_mut-clause-answer
returns-in-None-index_mut-clause-answer c =
    let there : lookup (same_txn c.args.txn) c.self.inside.places.entries ≡ Some c.in-Some.at = cc in
    elim (reads_none c.self.inside.places.entries c.self.inside.slots.items c.args.txn c.in-Some.at c.index_mut.result.now c.self.invariant there c.index_mut.ensures.value c.in-None-index_mut.is) [ ]

pub returns-in-None-index_mut-clause-kept : goal.returns-in-None-index_mut-clause-kept
returns-in-None-index_mut-clause-kept c =
    let there : lookup (same_txn c.args.txn) c.self.inside.places.entries ≡ Some c.in-Some.at = cc in
    elim (reads_none c.self.inside.places.entries c.self.inside.slots.items c.args.txn c.in-Some.at c.index_mut.result.now c.self.invariant there c.index_mut.ensures.value c.in-None-index_mut.is) [ ]

pub returns-in-None-index_mut-clause-sends : goal.returns-in-None-index_mut-clause-sends
returns-in-None-index_mut-clause-sends c =
    let there : lookup (same_txn c.args.txn) c.self.inside.places.entries ≡ Some c.in-Some.at = cc in
    elim (reads_none c.self.inside.places.entries c.self.inside.slots.items c.args.txn c.in-Some.at c.index_mut.result.now c.self.invariant there c.index_mut.ensures.value c.in-None-index_mut.is) [ ]

pub returns-in-None-index_mut-clause-notes : goal.returns-in-None-index_mut-clause-notes
returns-in-None-index_mut-clause-notes c =
    let there : lookup (same_txn c.args.txn) c.self.inside.places.entries ≡ Some c.in-Some.at = cc in
    elim (reads_none c.self.inside.places.entries c.self.inside.slots.items c.args.txn c.in-Some.at c.index_mut.result.now c.self.invariant there c.index_mut.ensures.value c.in-None-index_mut.is) [ ]
