-- The order of committed transactions: what stands in it, and how it grows.
use Rattle.std.proofs.Common.{◌≡◌, Bool, true, false, not, List, [], ◌∷◌, ◌++◌, ◌||◌, filter, filter_map, inl, inr, ◌∙◌, ap, refl}
use Rattle.std.proofs.lemmas.List.Elements.{filter-append, filter_map-append}
use Rattle.std.specs.List.{list_any}
use Rattle.tcs_terms.specs.declared.ids.TxId.{TxId}
use Rattle.tcs_terms.specs.declared.inputs.Note.{Note}
use Rattle.tcs_terms.specs.declared.inputs.Note.TheVariants.{Decide}
use Rattle.tcs_terms.specs.declared.votes.Decision.TheVariants.{Commit}
use Rattle.tcs_terms.specs.Logs.{same_txn}
use Rattle.protocol.specs.History.{commit_in, first_of_each, order_of}
use Rattle.protocol.specs.Invariant.Time.{StandsIn}
use Rattle.protocol_laws.proofs.Fronts.{IsFront}
use Rattle.protocol_laws.proofs.Orders.{told-commit}
use Rattle.protocol_laws.proofs.Standing.{filter-StandsIn}
use Rattle.protocol_laws.proofs.SameTxn.{same_txn-eq}

first_of_each-StandsIn : (ts : List TxId) (txn : TxId) → StandsIn txn (first_of_each ts) → StandsIn txn ts
first_of_each-StandsIn [] txn s = absurd s
first_of_each-StandsIn (t ∷ ts) txn (inl e) = inl e
first_of_each-StandsIn (t ∷ ts) txn (inr s) = inr (first_of_each-StandsIn ts txn (filter-StandsIn (λ u. not (same_txn t u)) (first_of_each ts) txn s).0)

-- what stands in the order was committed
pub order-noted : (h : List Note) (txn : TxId) → StandsIn txn (order_of h) → StandsIn (Decide txn Commit) h
order-noted h txn s = told-commit h txn (first_of_each-StandsIn (filter_map commit_in h) txn s)

-- a search that succeeds finds the transaction itself
pub any-StandsIn : (txn : TxId) (ts : List TxId) → list_any (same_txn txn) ts ≡ true → StandsIn txn ts
any-StandsIn txn [] h = absurd (cc h)
any-StandsIn txn (t ∷ ts) h = go (same_txn txn t) refl h (any-StandsIn txn ts)
  where
    go : (b : Bool) → same_txn txn t ≡ b → (b || list_any (same_txn txn) ts) ≡ true → (list_any (same_txn txn) ts ≡ true → StandsIn txn ts) → StandsIn txn (t ∷ ts)
    go true e k ih = inl (same_txn-eq txn t e)
    go false e k ih = inr (ih k)

-- the order of a longer history goes on
first_of_each-front : (ts us : List TxId) → IsFront (first_of_each ts) (first_of_each (ts ++ us))
first_of_each-front [] us = record { rest = first_of_each us; is = refl }
first_of_each-front (t ∷ ts) us =
    let f : IsFront (first_of_each ts) (first_of_each (ts ++ us)) = first_of_each-front ts us in
    record {
      rest = filter (λ u. not (same_txn t u)) f.rest;
      is = ap (λ vs. t ∷ filter (λ u. not (same_txn t u)) vs) f.is ∙ ap (λ vs. t ∷ vs) (filter-append (λ u. not (same_txn t u)) (first_of_each ts) f.rest);
    }

pub order-front : (h more : List Note) → IsFront (order_of h) (order_of (h ++ more))
order-front h more =
    let f : IsFront (order_of h) (first_of_each (filter_map commit_in h ++ filter_map commit_in more)) = first_of_each-front (filter_map commit_in h) (filter_map commit_in more) in
    record { rest = f.rest; is = ap first_of_each (filter_map-append commit_in h more) ∙ f.is }
