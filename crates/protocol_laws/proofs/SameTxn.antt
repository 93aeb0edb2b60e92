-- Two transactions that a test takes for one are one, and each is one with itself.
use Rattle.std.proofs.Common.{◌≡◌, true, false, ◌==◌, refl, eqb-true, eq-eqb}
use Rattle.tcs_terms.specs.declared.ids.TxId.{TxId}
use Rattle.tcs_terms.specs.Logs.{same_txn}
use Rattle.tcs_terms.proofs.BoolLaws.{both, left_of, right_of}
use Rattle.std.proofs.lemmas.Bool.{false_from_ne_true}

pub same_txn-eq : (a b : TxId) → same_txn a b ≡ true → a ≡ b
same_txn-eq a b h =
    let p : a.home ≡ b.home = eqb-true a.home b.home (left_of (a.home == b.home) (a.seq == b.seq) h) in
    let q : a.seq ≡ b.seq = eqb-true a.seq b.seq (right_of (a.home == b.home) (a.seq == b.seq) h) in
    λ i. record { home = p i; seq = q i }

pub same_txn-self : (a : TxId) → same_txn a a ≡ true
same_txn-self a = both (a.home == a.home) (a.seq == a.seq) (eq-eqb a.home a.home refl) (eq-eqb a.seq a.seq refl)

pub same_txn-differ : (a b : TxId) → (a ≡ b → ⊥) → same_txn a b ≡ false
same_txn-differ a b n = false_from_ne_true (same_txn a b) (λ e. n (same_txn-eq a b e))
