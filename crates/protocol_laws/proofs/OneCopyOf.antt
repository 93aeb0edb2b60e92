-- A legal history with honest reads is that of one copy of the data.
use Rattle.std.proofs.Common.{◌≡◌, ℕ, suc, ◌+◌, Bool, true, false, not, cond, List, [], ◌∷◌, ◌++◌, take, Option, Some, None, is_some, sym, ◌∙◌, ap, refl, arith}
use Rattle.std.specs.List.{prefix_len}
use Rattle.tcs_terms.specs.declared.ids.TxId.{TxId}
use Rattle.tcs_terms.specs.declared.inputs.Note.{Note}
use Rattle.tcs_terms.specs.declared.inputs.Note.TheVariants.{Begin, Take, ReadValue, Decide}
use Rattle.tcs_terms.specs.Logs.{same_txn}
use Rattle.tcs_terms.specs.Payloads.{Accesses}
use Rattle.tcs_laws.specs.Certification.{Tests}
use Rattle.tcs_laws.specs.Laws.{ChecksReads}
use Rattle.protocol.specs.CorrectHistory.{is_legal, passes_after}
use Rattle.protocol.specs.History.{begins_with, first_some, order_of, payload_in, payloads_of}
use Rattle.protocol.specs.OneCopy.{before_begin, fits_copy, honest_after, is_honest, is_one_copy}
use Rattle.protocol_laws.proofs.BegunFirst.{BegunFirst}
use Rattle.protocol_laws.proofs.CopyFits.{copy-fits}
use Rattle.protocol_laws.proofs.CopyTells.{TellsWritten}
use Rattle.protocol_laws.proofs.WithPast.{all-with_past, with_past-each}
use Rattle.protocol_laws.proofs.WritersRise.{IsLegal}
use Rattle.protocol_laws.proofs.SameTxn.{same_txn-eq}

-- a transaction's beginning stands where the history is cut for it
record BeginsAt (h : List Note) (t : TxId) (p : Accesses) : Type 0 where
  after : List Note
  is : h ≡ before_begin h t ++ (Begin t p ∷ after)

begins_with-is : (t : TxId) (n : Note) (p : Accesses) → begins_with t n ≡ Some p → n ≡ Begin t p
begins_with-is t (Begin other q) p h = go (same_txn other t) refl h
  where
    go : (b : Bool) → same_txn other t ≡ b → cond b (Some q) None ≡ Some p → Begin other q ≡ Begin t p
    go true e k = let a : other ≡ t = same_txn-eq other t e in let c : q ≡ p = cc k in ap (λ x. Begin x q) a ∙ ap (λ x. Begin t x) c
    go false e k = absurd (cc k)
begins_with-is t (Take other) p h = absurd (cc h)
begins_with-is t (ReadValue name version value) p h = absurd (cc h)
begins_with-is t (Decide other decision) p h = absurd (cc h)

begins-at : (h : List Note) (t : TxId) (p : Accesses) → payload_in h t ≡ Some p → BeginsAt h t p
begins-at [] t p e = absurd (cc e)
begins-at (n ∷ ns) t p e = go (begins_with t n) refl e (λ k. begins-at ns t p k)
  where
    k : ℕ
    k = prefix_len (λ m. not (is_some (begins_with t m))) ns

    cut : (o : Option Accesses) → begins_with t n ≡ o → before_begin (n ∷ ns) t ≡ take (cond (not (is_some o)) (1 + k) 0) (n ∷ ns)
    cut o f = ap (λ x. take (cond (not (is_some x)) (1 + k) 0) (n ∷ ns)) f

    go : (o : Option Accesses) → begins_with t n ≡ o → first_some o (payload_in ns t) ≡ Some p → (payload_in ns t ≡ Some p → BeginsAt ns t p) → BeginsAt (n ∷ ns) t p
    go (Some q) f h ih = record { after = ns; is = ap (λ m. m ∷ ns) (begins_with-is t n p (f ∙ h)) ∙ ap (λ front. front ++ (Begin t p ∷ ns)) (sym (cut (Some q) f)) }
    go None f h ih =
        let more : 1 + k ≡ suc k = omega arith in
        let front : n ∷ before_begin ns t ≡ before_begin (n ∷ ns) t = sym (cut None f ∙ ap (λ m. take m (n ∷ ns)) more) in
        record { after = (ih h).after; is = ap (λ ms. n ∷ ms) (ih h).is ∙ ap (λ front. front ++ (Begin t p ∷ (ih h).after)) front }

-- the order's transactions have payloads where the history is legal
has_payload : (tests : Tests) (h : List Note) (before : List TxId) (t : TxId) (after : List TxId) → is_legal tests h ≡ true → order_of h ≡ before ++ (t ∷ after) → (p : Accesses) × (payload_in h t ≡ Some p)
has_payload tests h before t after l e = go (payload_in h t) refl (with_past-each (λ x. passes_after tests (payloads_of h x.0) (payload_in h x.1)) (order_of h) before t after l e)
  where
    go : (o : Option Accesses) → payload_in h t ≡ o → passes_after tests (payloads_of h before) o ≡ true → (p : Accesses) × (payload_in h t ≡ Some p)
    go None f k = absurd (cc k)
    go (Some p) f k = (p, f)

pub one_copy-of : (tests : Tests) (h : List Note) → IsLegal tests h → BegunFirst h → TellsWritten h → ChecksReads tests → is_honest h ≡ true → is_one_copy h ≡ true
one_copy-of tests h l b told c honest =
    all-with_past (λ e. fits_copy (before_begin h e.1) (payloads_of h e.0) (payload_in h e.1)) (order_of h) fits
  where
    fits : (before : List TxId) (t : TxId) (after : List TxId) → order_of h ≡ before ++ (t ∷ after) → fits_copy (before_begin h t) (payloads_of h before) (payload_in h t) ≡ true
    fits before t after e =
        let p : (p : Accesses) × (payload_in h t ≡ Some p) = has_payload tests h before t after l.legal e in
        let begins : BeginsAt h t p.0 = begins-at h t p.0 p.1 in
        copy-fits tests h before t p.0 (record { legal = l; begun = b; told = told; checks = c; after = after; order = e; payload = p.1 })
        (with_past-each (λ x. honest_after x.0 x.1) h (before_begin h t) (Begin t p.0) begins.after honest begins.is)
