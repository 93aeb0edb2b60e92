use Rattle.std.proofs.Common.{◌≡◌, Result, Ok, Err, sym, arith}
use Rattle.std.specs.Prelude.{IfErr}
use Rattle.tcs_terms.specs.declared.faults.BadPayload.{BadPayload}
use Rattle.tcs_terms.specs.declared.faults.BadPayload.TheVariants as faults
use Rattle.tcs_terms.specs.Payloads.{Accesses, IsPayload}
use Rattle.tcs_terms.specs.PayloadFaults.{PayloadRefused}
use Rattle.tcs_terms.proofs.PayloadLaws.{is_payload_without_fault}
use Rattle.tcs_terms.proofs.PayloadRefusals.{refused}
use Rattle.tcs_terms.proofs.payloads.Payload.build_ranges.Goals as goal

-- a payload that is refused for want of memory alone
wanted_memory : (r : Result Accesses BadPayload) (p : Accesses) → IfErr r (λ e. e ≡ faults.OutOfMemory) → IsPayload p → IfErr r (PayloadRefused p)
wanted_memory (Ok q) p memory is = tt
wanted_memory (Err e) p memory is = rw memory is

pub kept-requires : goal.kept-requires
kept-requires c =
    let p : Accesses = record { reads = c.deref.result.now; ranges = c.deref-2.result.now; writes = c.deref-3.result.now; version = c.args.version } in
    rw (← c.deref.ensures.value, ← c.deref-2.ensures.value, ← c.deref-3.ensures.value)
    (is_payload_without_fault p (record { version_fits = omega arith; read_parts = c.in-None.ensures.reads; range_parts = c.in-None.ensures.ranges; write_parts = c.in-None.ensures.writes }) (sym c.in-None.ensures.fault))

pub returns-in-None-clause-refusal : goal.returns-in-None-clause-refusal
returns-in-None-clause-refusal c =
    let p : Accesses = record { reads = c.deref.result.now; ranges = c.deref-2.result.now; writes = c.deref-3.result.now; version = c.args.version } in
    let is = is_payload_without_fault p (record { version_fits = omega arith; read_parts = c.in-None.ensures.reads; range_parts = c.in-None.ensures.ranges; write_parts = c.in-None.ensures.writes }) (sym c.in-None.ensures.fault) in
    let kept : Accesses = record { reads = c.args.reads.items; ranges = c.args.ranges.items; writes = c.args.writes.items; version = c.args.version } in
    wanted_memory c.kept.result kept c.kept.ensures.memory (rw (← c.deref.ensures.value, ← c.deref-2.ensures.value, ← c.deref-3.ensures.value) is)

pub returns-in-Some-clause-refusal : goal.returns-in-Some-clause-refusal
returns-in-Some-clause-refusal c =
    let p : Accesses = record { reads = c.args.reads.items; ranges = c.args.ranges.items; writes = c.args.writes.items; version = c.args.version } in
    refused p c.in-Some.fault (rw (← c.deref.ensures.value, ← c.deref-2.ensures.value, ← c.deref-3.ensures.value) (sym c.in-Some.ensures.fault))
