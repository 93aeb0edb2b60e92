-- The order of ballots.
use Rattle.std.proofs.Common.{◌≡◌, refl, ℕ, ◌<◌, ◌≤◌, Bool, true, false, ◌⊎◌, inl, inr, arith, ◌==◌, ◌&&◌, ◌||◌}
use Rattle.std.specs.Prelude.{nat_lt, nat_le}
use Rattle.std.proofs.lemmas.Bool.Decides.{nat_tests}
use Rattle.quorum_protocol.specs.declared.terms.Ballot.{Ballot}
use Rattle.quorum_protocol.specs.Ballots.{ballot_le}
use Rattle.quorum_protocol.proofs.Tables.{ballot_is}

-- the first is at most the second; below it
abbrev pub Le : Ballot → Ballot → Type 0
Le a b = (a.round < b.round) ⊎ ((a.round ≡ b.round) × (a.proposer ≤ b.proposer))

abbrev pub Lt : Ballot → Ballot → Type 0
Lt a b = (a.round < b.round) ⊎ ((a.round ≡ b.round) × (a.proposer < b.proposer))

le_numbers : (r s p q : ℕ) → (nat_lt r s || ((r == s) && nat_le p q)) ≡ true → (r < s) ⊎ ((r ≡ s) × (p ≤ q))
le_numbers r s p q h = grind (arith, nat_tests)

not_le_numbers : (r s p q : ℕ) → (nat_lt r s || ((r == s) && nat_le p q)) ≡ false → (s < r) ⊎ ((s ≡ r) × (q < p))
not_le_numbers r s p q h = grind (arith, nat_tests)

pub le_holds : (a b : Ballot) → ballot_le a b ≡ true → Le a b
unfolding ballot_le
le_holds a b h = le_numbers a.round b.round a.proposer b.proposer h

pub le_fails : (a b : Ballot) → ballot_le a b ≡ false → Lt b a
unfolding ballot_le
le_fails a b h = not_le_numbers a.round b.round a.proposer b.proposer h

pub le_same : (a : Ballot) → Le a a
le_same a = inr (refl, omega arith)

pub le_trans : (a b c : Ballot) → Le a b → Le b c → Le a c
le_trans a b c h k = grind arith

pub lt_le : (a b : Ballot) → Lt a b → Le a b
lt_le a b h = grind arith

pub lt_not_le : (a b : Ballot) → Lt a b → Le b a → ⊥
lt_not_le a b h k = grind arith

-- at most, but not equal
pub le_lt : (a b : Ballot) → Le a b → (a ≡ b → ⊥) → Lt a b
le_lt a b (inl h) n = inl h
le_lt a b (inr h) n = go (less_or_same a.proposer b.proposer h.1)
  where
    less_or_same : (p q : ℕ) → p ≤ q → (p < q) ⊎ (p ≡ q)
    less_or_same p q k = grind arith

    go : (a.proposer < b.proposer) ⊎ (a.proposer ≡ b.proposer) → Lt a b
    go (inl k) = inr (h.0, k)
    go (inr k) = absurd (n (ballot_is a.round b.round a.proposer b.proposer h.0 k))

-- at most: below, or equal
pub le_split : (a b : Ballot) → Le a b → Lt a b ⊎ (a ≡ b)
le_split a b (inl h) = inl (inl h)
le_split a b (inr h) = go (less_or_same a.proposer b.proposer h.1)
  where
    less_or_same : (p q : ℕ) → p ≤ q → (p < q) ⊎ (p ≡ q)
    less_or_same p q k = grind arith

    go : (a.proposer < b.proposer) ⊎ (a.proposer ≡ b.proposer) → Lt a b ⊎ (a ≡ b)
    go (inl k) = inl (inr (h.0, k))
    go (inr k) = inr (ballot_is a.round b.round a.proposer b.proposer h.0 k)

-- two ballots: one is below the other, or they are equal
pub lt_or_same : (a b : Ballot) → (Lt a b ⊎ Lt b a) ⊎ (a ≡ b)
lt_or_same a b = go (ballot_le a b) refl
  where
    go : (c : Bool) → ballot_le a b ≡ c → (Lt a b ⊎ Lt b a) ⊎ (a ≡ b)
    go true h = elim (le_split a b (le_holds a b h)) [ inl l ↦ inl (inl l) | inr e ↦ inr e ]
    go false h = inl (inr (le_fails a b h))
