-- Legality, read at one place of the order: whoever stands there passes the committed test against each before.
use Rattle.std.proofs.Common.{◌≡◌, true, List, [], ◌∷◌, ◌++◌, Option, Some, None, inl, inr, sym, ◌∙◌, ap, subst, refl}
use Rattle.std.proofs.lemmas.List.Elements.{filter_map-append}
use Rattle.std.specs.List.{cons_option}
use Rattle.tcs_terms.specs.declared.ids.TxId.{TxId}
use Rattle.tcs_terms.specs.declared.inputs.Note.{Note}
use Rattle.tcs_terms.specs.Payloads.{Accesses}
use Rattle.tcs_laws.specs.Certification.{Tests, committed_passes}
use Rattle.protocol.proofs.Lists.{all-StandsIn}
use Rattle.protocol.specs.CorrectHistory.{is_legal, passes_after}
use Rattle.protocol.specs.History.{payload_in, order_of, payloads_of}
use Rattle.protocol.specs.Invariant.Time.{StandsIn}
use Rattle.protocol_laws.proofs.WithPast.{with_past-each}

-- the payloads of two lists, one after the other
pub payloads-append : (h : List Note) (xs ys : List TxId) → payloads_of h (xs ++ ys) ≡ payloads_of h xs ++ payloads_of h ys
payloads-append h xs ys = filter_map-append (λ t. payload_in h t) xs ys

-- a transaction's payload, before the others'
pub payloads-first : (h : List Note) (t : TxId) (ts : List TxId) (p : Accesses) → payload_in h t ≡ Some p → payloads_of h (t ∷ ts) ≡ p ∷ payloads_of h ts
payloads-first h t ts p e = ap (λ o. cons_option o (payloads_of h ts)) e

-- the transaction of a payload
pub record IsPayloadOf (h : List Note) (ts : List TxId) (p : Accesses) : Type 0 where
  pub txn : TxId
  pub before : List TxId
  pub after : List TxId
  pub split : ts ≡ before ++ (txn ∷ after)
  pub payload : payload_in h txn ≡ Some p

pub payload-of : (h : List Note) (ts : List TxId) (p : Accesses) → StandsIn p (payloads_of h ts) → IsPayloadOf h ts p
payload-of h [] p s = absurd s
payload-of h (t ∷ ts) p s = go (payload_in h t) refl s (λ r. payload-of h ts p r)
  where
    later : IsPayloadOf h ts p → IsPayloadOf h (t ∷ ts) p
    later k = record { txn = k.txn; before = t ∷ k.before; after = k.after; split = ap (λ us. t ∷ us) k.split; payload = k.payload }

    go : (o : Option Accesses) → payload_in h t ≡ o → StandsIn p (cons_option o (payloads_of h ts)) → (StandsIn p (payloads_of h ts) → IsPayloadOf h ts p) → IsPayloadOf h (t ∷ ts) p
    go None e r ih = later (ih r)
    go (Some q) e (inl d) ih = record { txn = t; before = []; after = ts; split = refl; payload = e ∙ ap (λ x. Some x) (sym d) }
    go (Some q) e (inr r) ih = later (ih r)

-- whoever stands in the order passes against each before
pub legal-each : (tests : Tests) (h : List Note) (before : List TxId) (t : TxId) (after : List TxId) (old new : Accesses) → is_legal tests h ≡ true → order_of h ≡ before ++ (t ∷ after)
    → payload_in h t ≡ Some new → StandsIn old (payloads_of h before) → tests.committed_ok old new ≡ true
legal-each tests h before t after old new l e p s =
    let passes : passes_after tests (payloads_of h before) (payload_in h t) ≡ true = with_past-each (λ x. passes_after tests (payloads_of h x.0) (payload_in h x.1)) (order_of h) before t after l e in
    let all : committed_passes tests (payloads_of h before) new ≡ true = subst (λ o. passes_after tests (payloads_of h before) o ≡ true) p passes in
    all-StandsIn (λ (x : Accesses). tests.committed_ok x new) (payloads_of h before) old all s
