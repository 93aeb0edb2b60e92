-- Legality at the moment of a transaction's first decision to commit: it passes against whoever committed before.
use Rattle.std.proofs.Common.{◌≡◌, ℕ, zero, suc, ◌<◌, true, List, [], ◌∷◌, All, Option, Some, None, ◌≤◌, ◌+◌, ◌∙◌, refl, arith}
use Rattle.std.proofs.lemmas.Bool.{and_from}
use Rattle.std.specs.List.{range_with_len}
use Rattle.tcs_terms.specs.declared.ids.TxId.{TxId}
use Rattle.tcs_terms.specs.declared.inputs.Note.{Note}
use Rattle.tcs_terms.specs.declared.inputs.Note.TheVariants.{Decide}
use Rattle.tcs_terms.specs.declared.votes.Decision.TheVariants.{Commit}
use Rattle.tcs_terms.specs.Payloads.{Accesses, IsPayload}
use Rattle.tcs_terms.specs.Setups.{Deployment, IsDeployment}
use Rattle.tcs_terms.specs.Shards.{restricted}
use Rattle.tcs_laws.specs.Certification.{Tests, committed_passes_in, parts_ok}
use Rattle.tcs_laws.specs.Laws.{IsLawful}
use Rattle.protocol.specs.History.{payload_in}
use Rattle.protocol.specs.Invariant.Time.{Moment, StandsIn}
use Rattle.protocol_laws.proofs.DecidedEntries.{CommittedEntry, committed-entry}
use Rattle.protocol_laws.proofs.DecidesNow.{DecidesNow, earlier-noted, now-noted}
use Rattle.protocol_laws.proofs.LegalInShard.{legal_in_shard}
use Rattle.protocol_laws.proofs.PartsOf.{part-payload, part-shard}
use Rattle.protocol_laws.proofs.Standing.{all-from, range-StandsIn}
use Rattle.tcs_terms.proofs.BoolLaws.{left_of}

all_one : (P : Accesses → Type 0) (p : Accesses) → P p → All P (p ∷ [])
all_one P p h zero d l = h
all_one P p h (suc k) d l = absurd (omega (arith, l))

pub legal_now : (tests : Tests) (setup : Deployment) (t : Moment) (earlier : List Note) (txn other : TxId) (old new : Accesses) → IsDeployment setup → IsLawful tests
    → DecidesNow tests setup t earlier txn Commit → (StandsIn (Decide txn Commit) earlier → ⊥) → StandsIn (Decide other Commit) earlier
    → payload_in t.now.history other ≡ Some old → payload_in t.now.history txn ≡ Some new → IsPayload old → IsPayload new → tests.committed_ok old new ≡ true
legal_now tests setup t earlier txn other old new deployment lawful d first committed p q is_old is_new =
    left_of (tests.committed_ok old new) true
    (lawful.by_shards setup.shards deployment.some_shards deployment.few_shards (old ∷ []) new (all_one IsPayload old is_old) is_new
    ∙ all-from (λ shard. committed_passes_in tests setup.shards shard (old ∷ []) new) (range_with_len 1 setup.shards) each)
  where
    in_shard : (shard : ℕ) (a b : Option Accesses) → StandsIn shard (range_with_len 1 setup.shards) → restricted setup.shards shard old ≡ a → restricted setup.shards shard new ≡ b → parts_ok tests.committed_ok a b ≡ true
    in_shard shard None b s e f = refl
    in_shard shard (Some x) None s e f = refl
    in_shard shard (Some x) (Some y) s e f =
        let r : (1 ≤ shard) × (shard < 1 + setup.shards) = range-StandsIn 1 setup.shards shard s in
        let few : shard ≤ setup.shards = omega (arith, r.1) in
        let a : CommittedEntry setup.shards t other shard old = committed-entry tests setup t other old shard d.holds d.past p (earlier-noted tests setup t earlier txn Commit (Decide other Commit) d committed) (part-shard setup.shards shard old x r.0 few e) in
        let b : CommittedEntry setup.shards t txn shard new = committed-entry tests setup t txn new shard d.holds d.past q (now-noted tests setup t earlier txn Commit d) (part-shard setup.shards shard new y r.0 few f) in
        legal_in_shard tests setup t earlier txn other shard a.entry b.entry x y lawful (part-payload setup.shards shard old x is_old e) (part-payload setup.shards shard new y is_new f) d first committed
        (record { accepted = a.accepted; vote = a.vote; has = a.payload ∙ e })
        (record { accepted = b.accepted; vote = b.vote; has = b.payload ∙ f })

    each : (shard : ℕ) → StandsIn shard (range_with_len 1 setup.shards) → committed_passes_in tests setup.shards shard (old ∷ []) new ≡ true
    each shard s = and_from (parts_ok tests.committed_ok (restricted setup.shards shard old) (restricted setup.shards shard new)) true (in_shard shard (restricted setup.shards shard old) (restricted setup.shards shard new) s refl refl) refl
