-- What holds of each element of a list, told by what stands in it.
use Rattle.std.proofs.Common.{◌≡◌, List, [], ◌∷◌, Option, Some, None, inl, inr, sym, subst, refl}
use Rattle.std.specs.Prelude.{All, IfSome}
use Rattle.std.proofs.lemmas.List.Elements.{All-nil, All-cons, All-head, All-tail}
use Rattle.protocol.specs.Invariant.Time.{StandsIn}

pub all-at : {X : Type 0} (P : X → Type 0) (xs : List X) → All P xs → (x : X) → StandsIn x xs → P x
all-at P [] h x s = absurd s
all-at P (y ∷ ys) h x (inl e) = subst P (sym e) (All-head P y ys h)
all-at P (y ∷ ys) h x (inr s) = all-at P ys (All-tail P y ys h) x s

pub all-of : {X : Type 0} (P : X → Type 0) (xs : List X) → ((x : X) → StandsIn x xs → P x) → All P xs
all-of P [] h = All-nil P
all-of P (y ∷ ys) h = All-cons P y ys (h y (inl refl)) (all-of P ys (λ x s. h x (inr s)))

-- the same of what an option may hold
pub some-at : {X : Type 0} (P : X → Type 0) (o : Option X) (x : X) → IfSome o P → o ≡ Some x → P x
some-at P None x h e = absurd (cc e)
some-at P (Some y) x h e = subst P (let s : y ≡ x = cc e in s) h

pub some-of : {X : Type 0} (P : X → Type 0) (o : Option X) → ((x : X) → o ≡ Some x → P x) → IfSome o P
some-of P None h = tt
some-of P (Some x) h = h x refl
