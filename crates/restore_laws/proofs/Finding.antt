-- What is found in a list that grows at its end, and what is not found at all.
use Rattle.std.proofs.Common.{◌≡◌, ℕ, ◌+◌, ◌-◌, Bool, false, cond, List, [], ◌∷◌, ◌++◌, length, find, slice_get, Option, Some, None, inl, inr, ap, refl, ◌∙◌, arith}
use Rattle.std.proofs.lemmas.Bool.{ne_eqb}
use Rattle.std.specs.List.{last_or}
use Rattle.protocol.specs.Invariant.Time.{StandsIn}
use Rattle.protocol.specs.World.{Sent, message_of}

-- nothing is found where no element passes
pub none-found : {X : Type 0} (p : X → Bool) (xs : List X) → ((x : X) → StandsIn x xs → p x ≡ false) → find p xs ≡ None
none-found p [] h = refl
none-found p (x ∷ xs) h = ap (λ (b : Bool). cond b (Some x) (find p xs)) (h x (inl refl)) ∙ none-found p xs (λ y s. h y (inr s))

pub last-added : {X : Type 0} (o : Option X) (xs : List X) (x : X) → last_or o (xs ++ x ∷ []) ≡ Some x
last-added o [] x = refl
last-added o (y ∷ ys) x = last-added (Some y) ys x

added_at : (ms : List Sent) (s : Sent) → slice_get (ms ++ s ∷ []) (length ms) ≡ Some s
added_at [] s = refl
added_at (m ∷ ms) s = added_at ms s

-- a message has the next number
pub numbered : (ms : List Sent) (s : Sent) (number : ℕ) → number ≡ length ms + 1 → message_of (ms ++ s ∷ []) number ≡ Some s
numbered ms s number e =
    let at : number - 1 ≡ length ms = omega (arith, e) in
    ap (λ (b : Bool). cond b None (slice_get (ms ++ s ∷ []) (number - 1))) (ne_eqb number 0 (λ z. omega (arith, e, z)))
    ∙ ap (λ (i : ℕ). slice_get (ms ++ s ∷ []) i) at
    ∙ added_at ms s
