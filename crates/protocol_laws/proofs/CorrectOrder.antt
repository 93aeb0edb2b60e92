-- A history behind whose decisions such facts stand is legal.
use Rattle.std.proofs.Common.{◌≡◌, ℕ, true, List, ◌∷◌, ◌++◌, Option, Some, None, inl, sym, ◌∙◌, ap, subst, refl, is_some}
use Rattle.tcs_terms.specs.declared.ids.TxId.{TxId}
use Rattle.tcs_terms.specs.declared.inputs.Note.{Note}
use Rattle.tcs_terms.specs.declared.inputs.Note.TheVariants.{Decide}
use Rattle.tcs_terms.specs.declared.votes.Decision.TheVariants.{Commit}
use Rattle.tcs_terms.specs.Payloads.{Accesses}
use Rattle.tcs_laws.specs.Certification.{Tests}
use Rattle.tcs_laws.specs.Laws.{IsLawful}
use Rattle.protocol.specs.CorrectHistory.{passes_after, is_legal}
use Rattle.protocol.specs.History.{payload_in, order_of, payloads_of}
use Rattle.protocol.specs.Invariant.Time.{StandsIn}
use Rattle.protocol_laws.proofs.Fronts.{payload_in-kept}
use Rattle.protocol_laws.proofs.CausesNow.{HaveFormed}
use Rattle.protocol_laws.proofs.HistoryKept.{DecisionStands, HistoryHolds}
use Rattle.protocol_laws.proofs.Orders.{IsOrdered, is_ordered}
use Rattle.protocol_laws.proofs.Standing.{all-from, StandsIn-right}
use Rattle.protocol_laws.proofs.WithPast.{all-with_past}
use Rattle.protocol_laws.proofs.LegalOrder.{IsPayloadOf, payload-of}
use Rattle.protocol_laws.proofs.KeepsTime.{decided-begun}
use Rattle.protocol_laws.proofs.BegunFirst.{begun_first}

-- what was decided in a front of a history began in that front
record BeganIn (earlier : List Note) (txn : TxId) : Type 0 where
  payload : Accesses
  begun : payload_in earlier txn ≡ Some payload

committed-began : (tests : Tests) (n : ℕ) (h earlier later : List Note) (txn : TxId) → HistoryHolds tests n h → h ≡ earlier ++ later → StandsIn (Decide txn Commit) earlier → BeganIn earlier txn
committed-began tests n h earlier later txn holds e s = began (payload_in earlier txn) refl (decided-begun h earlier later txn (begun_first tests n h holds) e s)
  where
    began : (o : Option Accesses) → payload_in earlier txn ≡ o → is_some o ≡ true → BeganIn earlier txn
    began None q k = absurd (cc k)
    began (Some p) q k = record { payload = p; begun = q }

-- so are those of a front of it
pub formed-front : (h earlier later : List Note) → h ≡ earlier ++ later → HaveFormed h → HaveFormed earlier
formed-front h earlier later e formed txn p b = formed txn p (ap (λ xs. payload_in xs txn) e ∙ payload_in-kept earlier later txn p b)

-- one committed transaction passes against those before it
legal_at : (tests : Tests) (n : ℕ) (h : List Note) (before : List TxId) (txn : TxId) → IsLawful tests → HaveFormed h → HistoryHolds tests n h → IsOrdered h before txn → passes_after tests (payloads_of h before) (payload_in h txn) ≡ true
legal_at tests n h before txn lawful formed holds o =
    let d : DecisionStands tests n o.earlier txn Commit = holds.each o.earlier o.later txn Commit o.is in
    subst (λ p. passes_after tests (payloads_of h before) p ≡ true) (sym (whole d.payload txn d.begun))
    (all-from (λ old. tests.committed_ok old d.payload) (payloads_of h before) (λ old s. each d old (payload-of h before old s)))
  where
    whole : (payload : Accesses) (u : TxId) → payload_in o.earlier u ≡ Some payload → payload_in h u ≡ Some payload
    whole payload u b = ap (λ xs. payload_in xs u) o.is ∙ payload_in-kept o.earlier (Decide txn Commit ∷ o.later) u payload b

    each : (d : DecisionStands tests n o.earlier txn Commit) (old : Accesses) → IsPayloadOf h before old → tests.committed_ok old d.payload ≡ true
    each d old p =
        let committed : StandsIn (Decide p.txn Commit) o.earlier = o.committed p.txn (subst (λ ts. StandsIn p.txn ts) (sym p.split) (StandsIn-right p.before (p.txn ∷ p.after) p.txn (inl refl))) in
        let b : BeganIn o.earlier p.txn = committed-began tests n h o.earlier (Decide txn Commit ∷ o.later) p.txn holds o.is committed in
        let same : b.payload ≡ old = cc (whole b.payload p.txn b.begun, p.payload) in
        d.legal lawful (formed-front h o.earlier (Decide txn Commit ∷ o.later) o.is formed) refl o.first p.txn old committed (b.begun ∙ ap (λ z. Some z) same)

pub history-legal : (tests : Tests) (n : ℕ) (h : List Note) → IsLawful tests → HaveFormed h → HistoryHolds tests n h → is_legal tests h ≡ true
history-legal tests n h lawful formed holds =
    all-with_past (λ e. passes_after tests (payloads_of h e.0) (payload_in h e.1)) (order_of h)
    (λ before txn after e. legal_at tests n h before txn lawful formed holds (is_ordered h before txn after e))
