-- What a list of pairs has under a key after something was put there.
use Rattle.std.proofs.Common.{◌≡◌, ◌∙◌, refl, sym, ℕ, ◌&&◌, Bool, true, false, List, [], ◌∷◌, Some, None, ◌⊎◌, inl, inr, eqb-true}
use Rattle.std.specs.Prelude.{if◌then◌else◌, nat_eq}
use Rattle.quorum_protocol.specs.declared.terms.Ballot.{Ballot}
use Rattle.quorum_protocol.specs.declared.terms.Place.{Place}
use Rattle.quorum_protocol.specs.declared.terms.Knows.{Knows}
use Rattle.quorum_protocol.specs.Ballots.{get, put, same_place, same_knows, same_ballot}

-- what is under a key is what was put there, or what was under it before
abbrev pub PutOrOld : {K X : Type 0} → (K → K → Bool) → List (K × X) → K → X → K → Type 0
PutOrOld same es k x q = ((q ≡ k) × (get same (put same es k x) q ≡ Some x)) ⊎ (get same (put same es k x) q ≡ get same es q)

pub get_put : {K X : Type 0} (same : K → K → Bool) → ((a b : K) → same a b ≡ true → a ≡ b) → (es : List (K × X)) (k : K) (x : X) (q : K) → PutOrOld same es k x q
get_put same exact [] k x q = go (same q k) refl
  where
    go : (b : Bool) → same q k ≡ b → ((q ≡ k) × ((if b then Some x else None) ≡ Some x)) ⊎ ((if b then Some x else None) ≡ None)
    go true h = inl (exact q k h, refl)
    go false h = inr refl
get_put {K = K} {X = X} same exact (e ∷ es) k x q = go (same k e.0) (same q e.0) refl refl (get_put same exact es k x q)
  where
    go : (b c : Bool) → same k e.0 ≡ b → same q e.0 ≡ c → PutOrOld same es k x q
        → ((q ≡ k) × (get same (if b then (e.0, x) ∷ es else e ∷ put same es k x) q ≡ Some x)) ⊎ (get same (if b then (e.0, x) ∷ es else e ∷ put same es k x) q ≡ (if c then Some e.1 else get same es q))
    go true true h r ih = inl (exact q e.0 r ∙ sym (exact k e.0 h), rw r refl)
    go true false h r ih = inr (rw r refl)
    go false true h r ih = inr (rw r refl)
    go false false h r ih = elim ih [ inl i ↦ inl (i.0, rw r i.1) | inr i ↦ inr (rw r i) ]

left_of : (a b : Bool) → (a && b) ≡ true → a ≡ true
left_of true b h = refl
left_of false b h = h

right_of : (a b : Bool) → (a && b) ≡ true → b ≡ true
right_of true b h = h
right_of false b h = absurd (cc h)

pub exact_number : (a b : ℕ) → nat_eq a b ≡ true → a ≡ b
exact_number a b h = eqb-true a b h

abbrev pub ballot : ℕ → ℕ → Ballot
ballot round proposer = record { round = round; proposer = proposer }

abbrev pub place : ℕ → ℕ → ℕ → Place
place acceptor shard epoch = record { acceptor = acceptor; shard = shard; epoch = epoch }

abbrev pub knower : ℕ → ℕ → Knows
knower proposer shard = record { proposer = proposer; shard = shard }

-- records with equal parts are equal
pub ballot_is : (m n p q : ℕ) → m ≡ n → p ≡ q → ballot m p ≡ ballot n q
ballot_is m n p q r s = cc

pub place_is : (a b s t e f : ℕ) → a ≡ b → s ≡ t → e ≡ f → place a s e ≡ place b t f
place_is a b s t e f h i j = cc

pub knows_is : (p q s t : ℕ) → p ≡ q → s ≡ t → knower p s ≡ knower q t
knows_is p q s t h i = cc

pub exact_ballot : (a b : Ballot) → same_ballot a b ≡ true → a ≡ b
exact_ballot a b h =
    let r : a.round ≡ b.round = eqb-true a.round b.round (left_of _ _ h) in
    let p : a.proposer ≡ b.proposer = eqb-true a.proposer b.proposer (right_of _ _ h) in
    ballot_is a.round b.round a.proposer b.proposer r p

pub exact_place : (a b : Place) → same_place a b ≡ true → a ≡ b
exact_place a b h =
    let p : a.acceptor ≡ b.acceptor = eqb-true a.acceptor b.acceptor (left_of _ _ (left_of _ _ h)) in
    let q : a.shard ≡ b.shard = eqb-true a.shard b.shard (right_of _ _ (left_of _ _ h)) in
    let r : a.epoch ≡ b.epoch = eqb-true a.epoch b.epoch (right_of _ _ h) in
    place_is a.acceptor b.acceptor a.shard b.shard a.epoch b.epoch p q r

pub exact_knows : (a b : Knows) → same_knows a b ≡ true → a ≡ b
exact_knows a b h =
    let p : a.proposer ≡ b.proposer = eqb-true a.proposer b.proposer (left_of _ _ h) in
    let q : a.shard ≡ b.shard = eqb-true a.shard b.shard (right_of _ _ h) in
    knows_is a.proposer b.proposer a.shard b.shard p q
