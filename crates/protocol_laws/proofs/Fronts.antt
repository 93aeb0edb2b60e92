-- Histories that grow: fronts of lists, where an element of two joined lists stands, and payloads.
use Rattle.std.proofs.Common.{◌≡◌, Option, Some, None, List, [], ◌∷◌, ◌++◌, sym, ◌∙◌, ap, refl, append_assoc, append-nil, subst}
use Rattle.tcs_terms.specs.declared.ids.TxId.{TxId}
use Rattle.tcs_terms.specs.declared.inputs.Note.{Note}
use Rattle.tcs_terms.specs.declared.inputs.Note.TheVariants.{Decide}
use Rattle.tcs_terms.specs.declared.votes.Decision.{Decision}
use Rattle.tcs_terms.specs.Payloads.{Accesses}
use Rattle.protocol.specs.History.{begins_with, first_some, payload_in}
use Rattle.protocol.specs.Invariant.Time.{StandsIn}
use Rattle.protocol_laws.proofs.Standing.{StandsIn-left}

-- a list is the front of another one
pub record IsFront {X : Type 0} (xs ys : List X) : Type 0 where
  pub rest : List X
  pub is : ys ≡ xs ++ rest

pub front-self : {X : Type 0} (xs : List X) → IsFront xs xs
front-self xs = record { rest = []; is = sym (append-nil xs) }

pub front-more : {X : Type 0} (xs ys more : List X) → IsFront xs ys → IsFront xs (ys ++ more)
front-more xs ys more f = record { rest = f.rest ++ more; is = ap (λ zs. zs ++ more) f.is ∙ append_assoc xs f.rest more }

pub front-StandsIn : {X : Type 0} (xs ys : List X) (x : X) → IsFront xs ys → StandsIn x xs → StandsIn x ys
front-StandsIn xs ys x f s = subst (λ zs. StandsIn x zs) (sym f.is) (StandsIn-left xs f.rest x s)

-- an element of two joined lists, with what is before it and after it: it stands in the first or in the second
pub data Splits {X : Type 0} (xs ys before : List X) (x : X) (after : List X) : Type 0 where
  InFirst : (rest : List X) → xs ≡ before ++ (x ∷ rest) → after ≡ rest ++ ys → Splits xs ys before x after
  InSecond : (between : List X) → before ≡ xs ++ between → ys ≡ between ++ (x ∷ after) → Splits xs ys before x after

pub splits : {X : Type 0} (xs ys before : List X) (x : X) (after : List X) → xs ++ ys ≡ before ++ (x ∷ after) → Splits xs ys before x after
splits [] ys before x after h = InSecond before refl h
splits (z ∷ zs) ys [] x after h = InFirst zs (cc h) (cc h)
splits (z ∷ zs) ys (b ∷ before) x after h = go (splits zs ys before x after (cc h))
  where
    go : Splits zs ys before x after → Splits (z ∷ zs) ys (b ∷ before) x after
    go (InFirst rest e f) = InFirst rest (cc (h, e)) f
    go (InSecond between e f) = InSecond between (cc (h, e)) f

-- the payload of a transaction stays what it is
first_some-assoc : {X : Type 0} (a b c : Option X) → first_some a (first_some b c) ≡ first_some (first_some a b) c
first_some-assoc None b c = refl
first_some-assoc (Some x) b c = refl

first_some-none : {X : Type 0} (a : Option X) → first_some a None ≡ a
first_some-none None = refl
first_some-none (Some x) = refl

pub payload_in-append : (xs ys : List Note) (txn : TxId) → payload_in (xs ++ ys) txn ≡ first_some (payload_in xs txn) (payload_in ys txn)
payload_in-append [] ys txn = refl
payload_in-append (x ∷ xs) ys txn = ap (λ o. first_some (begins_with txn x) o) (payload_in-append xs ys txn) ∙ first_some-assoc (begins_with txn x) (payload_in xs txn) (payload_in ys txn)

pub payload_in-kept : (xs ys : List Note) (txn : TxId) (payload : Accesses) → payload_in xs txn ≡ Some payload → payload_in (xs ++ ys) txn ≡ Some payload
payload_in-kept xs ys txn payload h = payload_in-append xs ys txn ∙ ap (λ o. first_some o (payload_in ys txn)) h

-- a decision begins nothing
pub payload_in-decide : (xs : List Note) (txn other : TxId) (decision : Decision) → payload_in (xs ++ Decide other decision ∷ []) txn ≡ payload_in xs txn
payload_in-decide xs txn other decision = payload_in-append xs (Decide other decision ∷ []) txn ∙ first_some-none (payload_in xs txn)
