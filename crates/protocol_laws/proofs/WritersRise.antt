-- Commit versions of the committed transactions that write one object rise along the order.
use Rattle.std.proofs.Common.{◌≡◌, ℕ, ◌<◌, true, List, ◌∷◌, ◌++◌, Some, inl, sym, ◌∙◌, ap, subst, refl, append_assoc}
use Rattle.tcs_terms.specs.declared.ids.TxId.{TxId}
use Rattle.tcs_terms.specs.declared.inputs.Note.{Note}
use Rattle.tcs_terms.specs.Payloads.{Accesses, IsPayload}
use Rattle.tcs_laws.specs.Certification.{Tests}
use Rattle.tcs_laws.specs.Laws.{OrdersWrites}
use Rattle.tcs_laws.specs.Writing.{writes_name}
use Rattle.protocol.specs.CorrectHistory.{is_legal}
use Rattle.protocol.specs.History.{order_of, payload_in, payloads_of}
use Rattle.protocol.specs.Invariant.Time.{StandsIn}
use Rattle.protocol_laws.proofs.LegalOrder.{IsPayloadOf, legal-each, payloads-append, payloads-first, payload-of}
use Rattle.protocol_laws.proofs.PayloadReads.{writers-rise}
use Rattle.protocol_laws.proofs.Standing.{StandsIn-right}

-- a legal history whose transactions hand in payloads
pub record IsLegal (tests : Tests) (h : List Note) : Type 0 where
  pub legal : is_legal tests h ≡ true
  pub payloads : (txn : TxId) (p : Accesses) → payload_in h txn ≡ Some p → IsPayload p

-- of two writers of an object, the one that stands later in the order has the greater version
pub rise-in-order : (tests : Tests) (h : List Note) (front : List TxId) (a : TxId) (rest : List TxId) (old new : Accesses) (name : List ℕ) → OrdersWrites tests → IsLegal tests h
    → order_of h ≡ front ++ (a ∷ rest) → payload_in h a ≡ Some old → StandsIn new (payloads_of h rest)
    → writes_name old.writes name ≡ true → writes_name new.writes name ≡ true → old.version < new.version
rise-in-order tests h front a rest old new name o l e p s x y =
    let of : IsPayloadOf h rest new = payload-of h rest new s in
    let place : order_of h ≡ (front ++ (a ∷ of.before)) ++ (of.txn ∷ of.after) =
    e ∙ ap (λ ts. front ++ (a ∷ ts)) of.split ∙ sym (append_assoc front (a ∷ of.before) (of.txn ∷ of.after)) in
    let there : StandsIn old (payloads_of h (front ++ (a ∷ of.before))) =
    subst (λ ps. StandsIn old ps) (sym (payloads-append h front (a ∷ of.before)))
    (StandsIn-right (payloads_of h front) (payloads_of h (a ∷ of.before)) old (subst (λ ps. StandsIn old ps) (sym (payloads-first h a of.before old p)) (inl refl))) in
    writers-rise tests old new name o (l.payloads a old p) (l.payloads of.txn new of.payload) (legal-each tests h (front ++ (a ∷ of.before)) of.txn of.after old new l.legal place of.payload there) x y
