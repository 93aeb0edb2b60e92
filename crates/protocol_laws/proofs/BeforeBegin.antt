-- What was committed before a transaction began stands before it in the order.
use Rattle.std.proofs.Common.{◌≡◌, ℕ, suc, ◌+◌, Bool, true, false, not, cond, List, [], ◌∷◌, ◌++◌, filter, take, drop, Option, Some, None, is_some, inl, inr, sym, ◌∙◌, ap, subst, refl, arith}
use Rattle.std.proofs.lemmas.List.{take-append-drop}
use Rattle.std.specs.List.{prefix_len}
use Rattle.tcs_terms.specs.declared.ids.TxId.{TxId}
use Rattle.tcs_terms.specs.declared.inputs.Note.{Note}
use Rattle.tcs_terms.specs.declared.inputs.Note.TheVariants.{Decide}
use Rattle.tcs_terms.specs.declared.votes.Decision.TheVariants.{Commit}
use Rattle.tcs_terms.specs.Logs.{same_txn}
use Rattle.tcs_terms.specs.Payloads.{Accesses}
use Rattle.protocol.specs.History.{begins_with, first_of_each, first_some, has_begun, order_of, payload_in}
use Rattle.protocol.specs.Invariant.Time.{StandsIn}
use Rattle.protocol.specs.OneCopy.{before_begin}
use Rattle.protocol_laws.proofs.BegunFirst.{BegunFirst}
use Rattle.protocol_laws.proofs.Fronts.{IsFront, Splits, InFirst, InSecond, splits}
use Rattle.protocol_laws.proofs.KeepsTime.{decided-begun}
use Rattle.protocol_laws.proofs.OrderOf.{order-front, order-noted}
use Rattle.protocol_laws.proofs.Orders.{commit-told}
use Rattle.protocol_laws.proofs.Standing.{StandsIn-filter, StandsIn-left, StandsIn-right}
use Rattle.protocol_laws.proofs.SameTxn.{same_txn-eq}

-- whatever was committed stands in the order
first_of_each-there : (ts : List TxId) (txn : TxId) → StandsIn txn ts → StandsIn txn (first_of_each ts)
first_of_each-there [] txn s = absurd s
first_of_each-there (t ∷ ts) txn (inl e) = inl e
first_of_each-there (t ∷ ts) txn (inr s) = go (same_txn t txn) refl (first_of_each-there ts txn s)
  where
    go : (b : Bool) → same_txn t txn ≡ b → StandsIn txn (first_of_each ts) → StandsIn txn (t ∷ filter (λ u. not (same_txn t u)) (first_of_each ts))
    go true e r = inl (sym (same_txn-eq t txn e))
    go false e r = inr (StandsIn-filter (λ u. not (same_txn t u)) (first_of_each ts) txn r (ap not e))

noted-order : (h : List Note) (txn : TxId) → StandsIn (Decide txn Commit) h → StandsIn txn (order_of h)
noted-order h txn s = first_of_each-there _ txn (commit-told h txn s)

-- a history, cut where a transaction begins
pub before_begin-front : (h : List Note) (txn : TxId) → IsFront (before_begin h txn) h
before_begin-front h txn =
    let n : ℕ = prefix_len (λ m. not (is_some (begins_with txn m))) h in
    record { rest = drop n h; is = sym (take-append-drop n h) }

-- it has not begun before
before_begin-none : (h : List Note) (txn : TxId) → has_begun (before_begin h txn) txn ≡ false
before_begin-none [] txn = refl
before_begin-none (n ∷ ns) txn = go (begins_with txn n) refl (before_begin-none ns txn)
  where
    k : ℕ
    k = prefix_len (λ m. not (is_some (begins_with txn m))) ns

    go : (o : Option Accesses) → begins_with txn n ≡ o → has_begun (take k ns) txn ≡ false → has_begun (take (cond (not (is_some (begins_with txn n))) (1 + k) 0) (n ∷ ns)) txn ≡ false
    go None e ih =
        let more : 1 + k ≡ suc k = omega arith in
        ap (λ x. has_begun (take (cond (not (is_some x)) (1 + k) 0) (n ∷ ns)) txn) e
        ∙ ap (λ m. has_begun (take m (n ∷ ns)) txn) more
        ∙ ap (λ x. is_some (first_some x (payload_in (take k ns) txn))) e ∙ ih
    go (Some p) e ih = ap (λ x. has_begun (take (cond (not (is_some x)) (1 + k) 0) (n ∷ ns)) txn) e

-- what was committed before a transaction began stands before it in the order
pub committed-before : (h : List Note) (txn other : TxId) (before after : List TxId) → BegunFirst h → order_of h ≡ before ++ (txn ∷ after) → StandsIn (Decide other Commit) (before_begin h txn) → StandsIn other before
committed-before h txn other before after b e s =
    let cut : IsFront (before_begin h txn) h = before_begin-front h txn in
    let front : IsFront (order_of (before_begin h txn)) (order_of h) = subst (λ ns. IsFront (order_of (before_begin h txn)) (order_of ns)) (sym cut.is) (order-front (before_begin h txn) cut.rest) in
    go cut front (splits (order_of (before_begin h txn)) front.rest before txn after (sym front.is ∙ e))
  where
    go : IsFront (before_begin h txn) h → (front : IsFront (order_of (before_begin h txn)) (order_of h)) → Splits (order_of (before_begin h txn)) front.rest before txn after → StandsIn other before
    go cut front (InFirst rest x y) =
        let noted : StandsIn (Decide txn Commit) (before_begin h txn) = order-noted (before_begin h txn) txn (subst (λ ts. StandsIn txn ts) (sym x) (StandsIn-right before (txn ∷ rest) txn (inl refl))) in
        let begun : has_begun (before_begin h txn) txn ≡ true = decided-begun h (before_begin h txn) cut.rest txn b cut.is noted in
        let none : has_begun (before_begin h txn) txn ≡ false = before_begin-none h txn in
        absurd (cc (begun, none))
    go cut front (InSecond between x y) =
        subst (λ ts. StandsIn other ts) (sym x) (StandsIn-left (order_of (before_begin h txn)) between other (noted-order (before_begin h txn) other s))
