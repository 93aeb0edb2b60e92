-- Real time: where one committed transaction is decided before another begins, it stands before it in the order, since
-- each decision stands after its transaction's beginning.
use Rattle.std.proofs.Common.{◌≡◌, Bool, true, false, not, List, ◌∷◌, ◌++◌, ◌&&◌, ◌||◌, Option, Some, None, is_some, inl, inr, sym, ◌∙◌, ap, subst, refl, append_assoc}
use Rattle.std.proofs.lemmas.Bool.{and_from}
use Rattle.std.specs.List.{list_all, list_any}
use Rattle.tcs_terms.specs.declared.ids.TxId.{TxId}
use Rattle.tcs_terms.specs.declared.inputs.Note.{Note}
use Rattle.tcs_terms.specs.declared.inputs.Note.TheVariants.{Begin, Take, ReadValue, Decide}
use Rattle.tcs_terms.specs.declared.votes.Decision.TheVariants.{Commit}
use Rattle.tcs_terms.specs.Logs.{same_txn}
use Rattle.tcs_terms.specs.Payloads.{Accesses}
use Rattle.protocol.specs.CorrectHistory.{in_time_after, keeps_time}
use Rattle.protocol.specs.History.{first_some, has_begun, order_of, payload_in}
use Rattle.protocol.specs.Invariant.Time.{StandsIn}
use Rattle.protocol.specs.Past.{stands_before}
use Rattle.protocol.proofs.Lists.{StandsIn-append}
use Rattle.protocol_laws.proofs.BegunFirst.{BegunFirst}
use Rattle.protocol_laws.proofs.Fronts.{IsFront, payload_in-append}
use Rattle.protocol_laws.proofs.OrderOf.{order-noted, order-front, any-StandsIn}
use Rattle.protocol_laws.proofs.Standing.{StandsIn-left, all-from, any-from}
use Rattle.protocol_laws.proofs.WithPast.{all-with_past, any-with_past, StandsBetween, stands_between}
use Rattle.protocol_laws.proofs.SameTxn.{same_txn-self}

-- what has begun has begun in a longer history
has_begun-kept : (xs ys : List Note) (txn : TxId) → has_begun xs txn ≡ true → has_begun (xs ++ ys) txn ≡ true
has_begun-kept xs ys txn h = ap is_some (payload_in-append xs ys txn) ∙ go (payload_in xs txn) h
  where
    go : (o : Option Accesses) → is_some o ≡ true → is_some (first_some o (payload_in ys txn)) ≡ true
    go None k = absurd (cc k)
    go (Some p) k = refl

-- a transaction that is decided in a front of the history has begun there
pub decided-begun : (h before : List Note) (more : List Note) (txn : TxId) → BegunFirst h → h ≡ before ++ more → StandsIn (Decide txn Commit) before → has_begun before txn ≡ true
decided-begun h before more txn b e s =
    let at : StandsBetween (Decide txn Commit) before = stands_between before (Decide txn Commit) s in
    let begun : has_begun at.before txn ≡ true = b.each at.before txn Commit (at.after ++ more) (e ∙ ap (λ ns. ns ++ more) at.is ∙ append_assoc at.before (Decide txn Commit ∷ at.after) more) in
    ap (λ ns. has_begun ns txn) at.is ∙ has_begun-kept at.before (Decide txn Commit ∷ at.after) txn begun

in_time-of : (h before : List Note) (n : Note) (after : List Note) → BegunFirst h → h ≡ before ++ (n ∷ after) → in_time_after (order_of h) before n ≡ true
in_time-of h before (Take txn) after b e = refl
in_time-of h before (ReadValue name version value) after b e = refl
in_time-of h before (Decide txn decision) after b e = refl
in_time-of h before (Begin txn payload) after b e = go (has_begun before txn) (list_any (same_txn txn) (order_of h)) refl refl
  where
    front : IsFront (order_of before) (order_of h)
    front = subst (λ ns. IsFront (order_of before) (order_of ns)) (sym e) (order-front before (Begin txn payload ∷ after))

    -- it is committed, and not before it begins
    behind : has_begun before txn ≡ false → list_any (same_txn txn) (order_of h) ≡ true → StandsIn txn front.rest
    behind none some = elim (StandsIn-append (order_of before) front.rest txn (subst (λ ts. StandsIn txn ts) front.is (any-StandsIn txn (order_of h) some))) [
      | inl s ↦ absurd (let begun : has_begun before txn ≡ true = decided-begun h before (Begin txn payload ∷ after) txn b e (order-noted before txn s) in cc (none, begun))
      | inr s ↦ s
    ]

    each : StandsIn txn front.rest → (t : TxId) → StandsIn t (order_of before) → stands_before (same_txn t) (same_txn txn) (order_of h) ≡ true
    each r t s =
        let b : StandsBetween txn front.rest = stands_between front.rest txn r in
        let order : order_of h ≡ (order_of before ++ b.before) ++ (txn ∷ b.after) = front.is ∙ ap (λ ts. order_of before ++ ts) b.is ∙ sym (append_assoc (order_of before) b.before (txn ∷ b.after)) in
        subst (λ ts. stands_before (same_txn t) (same_txn txn) ts ≡ true) (sym order)
        (any-with_past (λ e. same_txn txn e.1 && list_any (same_txn t) e.0) (order_of before ++ b.before) txn b.after
        (and_from (same_txn txn txn) (list_any (same_txn t) (order_of before ++ b.before)) (same_txn-self txn)
        (any-from (same_txn t) (order_of before ++ b.before) t (StandsIn-left (order_of before) b.before t s) (same_txn-self t))))

    go : (a c : Bool) → has_begun before txn ≡ a → list_any (same_txn txn) (order_of h) ≡ c
        → (a || not c || list_all (λ t. stands_before (same_txn t) (same_txn txn) (order_of h)) (order_of before)) ≡ true
    go true c f g = refl
    go false false f g = refl
    go false true f g = all-from (λ t. stands_before (same_txn t) (same_txn txn) (order_of h)) (order_of before) (each (behind f g))

pub keeps_time-of : (h : List Note) → BegunFirst h → keeps_time h ≡ true
keeps_time-of h b = all-with_past (λ e. in_time_after (order_of h) e.0 e.1) h (λ before n after e. in_time-of h before n after b e)
