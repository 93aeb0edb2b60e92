-- The schedule that puts objects back: it is one, and its text is what is printed.
use Rattle.std.proofs.Common.{◌≡◌, ℕ, suc, ◌+◌, ◌*◌, ◌≤◌, ◌||◌, ◌&&◌, Bool, true, false, List, [], ◌∷◌, length, All, refl, ap, arith, leb-true, le-leb, lt-ltb}
use Rattle.std.specs.Prelude.{nat_lt, codes}
use Rattle.std.specs.List.{AllByRecursion}
use Rattle.std.proofs.lemmas.Fmt.{decimal_digit}
use Rattle.std.proofs.lemmas.List.Elements.{All-nil, All-cons}
use Rattle.tcs_terms.specs.declared.limits.TheConstants.{MAX_RANGES, MAX_READS, MAX_WRITES}
use Rattle.tcs_terms.specs.Payloads.{IsPayload, IsReadPart, IsRangePart, IsWritePart}
use Rattle.tcs_terms.specs.Runs.{MayStand}
use Rattle.tcs_terms.proofs.BoolLaws.{both}
use Rattle.schedule_text.specs.Bytes.{IsText}
use Rattle.schedule_text.specs.Text.{schedule_text, setup_lines}
use Rattle.schedule_text.specs.Whole.{IsSchedule}
use Rattle.protocol.specs.Worked.Words.{deliver, reads, writes}
use Rattle.protocol_laws.proofs.NamesOnce.{same_name-self}
use Rattle.backup_machine.specs.declared.objects.Kept.{Kept}
use Rattle.restore_laws.specs.Schedules.{CanBeRestored, IsKept, events_from, payload_of, restored_events, restored_setup}
use Rattle.restore_laws.proofs.Fitting.{schedule_fits}
use Rattle.restore_core.specs.Files.{AreRestored, IsPut}
use Rattle.restore_core.specs.Printed.{header_text}

-- ---- it is a schedule

pub is_payload : (k : Kept) → IsPut k → IsPayload (payload_of k)
is_payload k h =
    let positive = h.positive in
    let fits = h.fits in
    record {
      some = leb-true 1 1 refl;
      few_reads = leb-true 1 MAX_READS refl;
      few_ranges = leb-true 0 MAX_RANGES refl;
      few_writes = leb-true 1 MAX_WRITES refl;
      positive = positive;
      version_fits = fits;
      reads_ascend = refl;
      reads_below = both (nat_lt 0 k.version) true (lt-ltb 0 k.version (omega (arith, positive))) refl;
      ranges_whole = refl;
      ranges_ascend = refl;
      ranges_below = refl;
      writes_ascend = refl;
      writes_read = ap (λ (b : Bool). (b || false) && true) (same_name-self k.name);
      read_parts = All-cons IsReadPart (reads k.name 0) [] (record { name = h.name; version = omega arith }) (All-nil IsReadPart);
      range_parts = All-nil IsRangePart;
      write_parts = All-cons IsWritePart (writes k.name k.value) [] (record { name = h.name; value = h.value }) (All-nil IsWritePart);
    }

may_deliver : (number : ℕ) → 1 ≤ number → number ≤ 20000 → MayStand restored_setup (deliver number)
may_deliver number some few = record { event = omega (arith, few); fits = le-leb 1 number some }

events_stand : (before : ℕ) (ks : List Kept) → before + length ks ≤ 4096 → All IsPut ks → AllByRecursion (MayStand restored_setup) (events_from before ks)
events_stand before [] few h = tt
events_stand before (k ∷ ks) few h =
    let bound : before + suc (length ks) ≤ 4096 = few in (
      record { event = is_payload k (h 0 k (omega arith)); fits = refl },
      (
        may_deliver (4 * before + 1) (omega arith) (omega (arith, bound)),
        (
          may_deliver (4 * before + 2) (omega arith) (omega (arith, bound)),
          events_stand (before + 1) ks (omega (arith, bound)) (λ i d lt. h (suc i) d (omega arith)),
        ),
      ),
    )

three_each : (before : ℕ) (ks : List Kept) → length (events_from before ks) ≡ 3 * length ks
three_each before [] = refl
three_each before (k ∷ ks) = let more = three_each (before + 1) ks in omega (arith, more)

no_objects : CanBeRestored []
no_objects = record { few = omega arith; ascend = refl }

is_schedule : (kept : List Kept) → AreRestored kept → IsSchedule restored_setup (restored_events kept)
is_schedule kept are =
    let few : length kept ≤ 4096 = are.can_be.few in
    record {
      setup = (schedule_fits [] no_objects (All-nil IsKept)).deployment;
      events = events_stand 0 kept (omega (arith, few)) are.each;
      few = omega (arith, few, three_each 0 kept);
    }

pub is_text : (kept : List Kept) → AreRestored kept → IsText (schedule_text restored_setup (restored_events kept)) restored_setup (restored_events kept)
is_text kept are = record { schedule = is_schedule kept are; text = refl }

-- ---- its header

-- the header is these lines
pub header_is : header_text ≡ codes "tcs 2\ncertifier serial\nshards 1\nnode 1 1\nconfig 1 1 1\nevents\n"
unfolding setup_lines
header_is = rw (decimal_digit 2 (omega arith), decimal_digit 1 (omega arith)) refl
