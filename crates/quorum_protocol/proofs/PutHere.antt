-- What was put under a key is under it.
use Rattle.std.proofs.Common.{◌≡◌, refl, ℕ, Bool, true, false, List, [], ◌∷◌, Some, arith}
use Rattle.std.specs.Prelude.{if◌then◌else◌, nat_eq}
use Rattle.std.proofs.lemmas.Bool.Decides.{nat_tests}
use Rattle.quorum_protocol.specs.declared.terms.Place.{Place}
use Rattle.quorum_protocol.specs.Ballots.{get, put, same_place}

pub get_put_here : {K X : Type 0} (same : K → K → Bool) (es : List (K × X)) (k : K) (x : X) → same k k ≡ true → get same (put same es k x) k ≡ Some x
get_put_here same [] k x h = rw h refl
get_put_here {K = K} {X = X} same (e ∷ es) k x h = go (same k e.0) refl (get_put_here same es k x h)
  where
    go : (b : Bool) → same k e.0 ≡ b → get same (put same es k x) k ≡ Some x → get same (if b then (e.0, x) ∷ es else e ∷ put same es k x) k ≡ Some x
    go true p ih = rw p refl
    go false p ih = rw p ih

pub same_number : (a : ℕ) → nat_eq a a ≡ true
same_number a = grind (arith, nat_tests)

pub same_place_is : (a : Place) → same_place a a ≡ true
same_place_is a = rw (same_number a.acceptor, same_number a.shard, same_number a.epoch) refl
