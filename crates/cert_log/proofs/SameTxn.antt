-- Two transactions that a test takes for one are one, and each is one with itself.
use Rattle.std.proofs.Common.{◌≡◌, true, ◌==◌, refl, eqb-true, eq-eqb}
use Rattle.std.proofs.lemmas.Bool.{and_parts, and_from}
use Rattle.tcs_terms.specs.declared.ids.TxId.{TxId}
use Rattle.tcs_terms.specs.Logs.{same_txn}

pub same_txn-eq : (a b : TxId) → same_txn a b ≡ true → a ≡ b
same_txn-eq a b h =
    let parts = and_parts (a.home == b.home) (a.seq == b.seq) h in
    let home = eqb-true a.home b.home parts.0 in
    let seq = eqb-true a.seq b.seq parts.1 in
    λ i. record { home = home i; seq = seq i }

pub same_txn-self : (a : TxId) → same_txn a a ≡ true
same_txn-self a = and_from (a.home == a.home) (a.seq == a.seq) (eq-eqb a.home a.home refl) (eq-eqb a.seq a.seq refl)
