-- The events of the schedule may stand in a run of its setup.
use Rattle.std.proofs.Common.{ℕ, suc, ◌+◌, ◌*◌, ◌<◌, ◌≤◌, ◌&&◌, ◌||◌, Bool, true, false, nat_le, nat_lt, List, [], ◌∷◌, length, All, ap, refl, arith, leb-true, le-leb, lt-ltb, zero-lt-suc, suc-le-suc}
use Rattle.std.proofs.lemmas.Bool.{ltb-true}
use Rattle.std.proofs.lemmas.List.Elements.{All-nil, All-cons}
use Rattle.std.specs.List.{AllByRecursion}
use Rattle.tcs_terms.proofs.BoolLaws.{both, left_of, right_of}
use Rattle.tcs_terms.specs.declared.limits.TheConstants.{MAX_MEMBERS, MAX_NODES, MAX_RANGES, MAX_READS, MAX_SHARDS, MAX_WRITES}
use Rattle.tcs_terms.specs.Payloads.{IsPayload, IsReadPart, IsRangePart, IsWritePart}
use Rattle.tcs_terms.specs.Places.{IsMembership}
use Rattle.tcs_terms.specs.Runs.{AreEventsOf, MayStand}
use Rattle.tcs_terms.specs.Setups.{IsDeployment}
use Rattle.protocol.specs.Worked.Words.{deliver, reads, writes}
use Rattle.protocol_laws.proofs.NamesOnce.{same_name-self}
use Rattle.backup_machine.specs.declared.objects.Kept.{Kept}
use Rattle.restore_laws.specs.Schedules.{CanBeRestored, IsKept, payload_of, events_from, restored_events, restored_setup}
use Rattle.restore_laws.proofs.Worlds.{only_config}

first_of : {X : Type 0} (P : X → Type 0) (x : X) (xs : List X) → All P (x ∷ xs) → P x
first_of P x xs h = h 0 x (zero-lt-suc _)

others_of : {X : Type 0} (P : X → Type 0) (x : X) (xs : List X) → All P (x ∷ xs) → All P xs
others_of P x xs h = λ k d less. h (suc k) d (suc-le-suc less)

is_payload : (k : Kept) → IsKept k → IsPayload (payload_of k)
is_payload k h =
    let positive : 1 ≤ k.version = leb-true 1 k.version (left_of (nat_le 1 k.version) (nat_lt k.version 18446744073709551615) h.version) in
    let below : k.version < 18446744073709551615 = ltb-true k.version 18446744073709551615 (right_of (nat_le 1 k.version) (nat_lt k.version 18446744073709551615) h.version) in
    record {
      some = leb-true 1 1 refl;
      few_reads = leb-true 1 MAX_READS refl;
      few_ranges = leb-true 0 MAX_RANGES refl;
      few_writes = leb-true 1 MAX_WRITES refl;
      positive = positive;
      version_fits = omega (arith, below);
      reads_ascend = refl;
      reads_below = both (nat_lt 0 k.version) true (lt-ltb 0 k.version (omega (arith, positive))) refl;
      ranges_whole = refl;
      ranges_ascend = refl;
      ranges_below = refl;
      writes_ascend = refl;
      writes_read = ap (λ (b : Bool). (b || false) && true) (same_name-self k.name);
      read_parts = All-cons IsReadPart (reads k.name 0) [] (record { name = h.name; version = omega arith }) (All-nil IsReadPart);
      range_parts = All-nil IsRangePart;
      write_parts = All-cons IsWritePart (writes k.name k.value) [] (record { name = h.name; value = h.value }) (All-nil IsWritePart);
    }

is_membership : IsMembership only_config
is_membership = record {
  some = leb-true 1 1 refl;
  few = leb-true 1 MAX_MEMBERS refl;
  each = refl;
  ascend = refl;
  leads = refl;
  shard = refl;
  epoch = refl;
  by = leb-true 0 MAX_NODES refl;
}

is_deployment : IsDeployment restored_setup
is_deployment = record {
  version = refl;
  some_shards = leb-true 1 1 refl;
  few_shards = leb-true 1 MAX_SHARDS refl;
  some_nodes = leb-true 1 1 refl;
  few_nodes = leb-true 1 MAX_NODES refl;
  nodes = refl;
  one_each = refl;
  first = refl;
  configs = All-cons IsMembership only_config [] is_membership (All-nil IsMembership);
}

may_deliver : (number : ℕ) → 1 ≤ number → number ≤ 20000 → MayStand restored_setup (deliver number)
may_deliver number some few = record { event = omega (arith, few); fits = le-leb 1 number some }

events_stand : (before : ℕ) (ks : List Kept) → before + length ks ≤ 4096 → All IsKept ks → AllByRecursion (MayStand restored_setup) (events_from before ks)
events_stand before [] few h = tt
events_stand before (k ∷ ks) few h =
    let bound : before + suc (length ks) ≤ 4096 = few in (
      record { event = is_payload k (first_of IsKept k ks h); fits = refl },
      (
        may_deliver (4 * before + 1) (omega arith) (omega (arith, bound)),
        (
          may_deliver (4 * before + 2) (omega arith) (omega (arith, bound)),
          events_stand (before + 1) ks (omega (arith, bound)) (others_of IsKept k ks h),
        ),
      ),
    )

pub schedule_fits : (kept : List Kept) → CanBeRestored kept → All IsKept kept → AreEventsOf restored_setup (restored_events kept)
schedule_fits kept c h = record { deployment = is_deployment; events = let few : length kept ≤ 4096 = c.few in events_stand 0 kept (omega (arith, few)) h }
