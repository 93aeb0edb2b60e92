-- What holds of each element of a list, one by one.
use Rattle.std.proofs.Common.{List, [], ◌∷◌, ◌++◌, map, inl, inr, refl}
use Rattle.std.specs.List.{AllByRecursion}
use Rattle.protocol.specs.Invariant.Time.{StandsIn}

pub each-of : {X : Type 0} (P : X → Type 0) (xs : List X) → ((x : X) → StandsIn x xs → P x) → AllByRecursion P xs
each-of P [] h = tt
each-of P (x ∷ xs) h = (h x (inl refl), each-of P xs (λ y s. h y (inr s)))

pub each-mapped : {X Y : Type 0} (P : Y → Type 0) (f : X → Y) (xs : List X) → ((x : X) → StandsIn x xs → P (f x)) → AllByRecursion P (map f xs)
each-mapped P f [] h = tt
each-mapped P f (x ∷ xs) h = (h x (inl refl), each-mapped P f xs (λ y s. h y (inr s)))

pub each-joined : {X : Type 0} (P : X → Type 0) (xs ys : List X) → AllByRecursion P xs → AllByRecursion P ys → AllByRecursion P (xs ++ ys)
each-joined P [] ys h k = k
each-joined P (x ∷ xs) ys h k = (h.0, each-joined P xs ys h.1 k)
