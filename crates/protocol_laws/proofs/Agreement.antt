-- Agreement: all decisions of a transaction are equal, shard and cause included.
use Rattle.std.proofs.Common.{◌≡◌, Bool, true, false, cond, List, [], ◌∷◌, map, find, Some, is_some, inl, inr, sym, ◌∙◌, ap, subst, refl}
use Rattle.tcs_terms.specs.declared.ids.TxId.{TxId}
use Rattle.tcs_terms.specs.declared.inputs.Note.TheVariants.{Decide}
use Rattle.tcs_terms.specs.declared.votes.Decision.{Decision}
use Rattle.tcs_terms.specs.Payloads.{Accesses}
use Rattle.tcs_terms.specs.Preparations.{Preparation}
use Rattle.tcs_terms.specs.Setups.{Deployment}
use Rattle.tcs_terms.specs.Shards.{shards_of}
use Rattle.tcs_laws.specs.Certification.{Tests}
use Rattle.protocol.specs.Cases.{cause_of, decision_by, decision_of}
use Rattle.protocol.specs.Invariant.{InvariantHolds}
use Rattle.protocol.specs.Invariant.Decisions.{IsAcceptedIn, IsDecidedBy}
use Rattle.protocol.specs.Invariant.Time.{Moment, StandsIn, WasNoted}
use Rattle.protocol.specs.Invariant.Transactions.{IsBegun}
use Rattle.protocol.specs.Records.{Part}
use Rattle.protocol_laws.proofs.OneEntry.{one_entry}

-- whether a part's vote is not to commit
abbrev refuses : Part → Bool
refuses p = is_some (cause_of p.entry)

-- parts of the same shards with the same entries give the same decision, whoever acknowledged them
same_decision : (ps qs : List Part) → map (λ p. p.shard) ps ≡ map (λ p. p.shard) qs → ((p q : Part) → StandsIn p ps → StandsIn q qs → p.shard ≡ q.shard → p.entry ≡ q.entry)
    → decision_by (find refuses ps) ≡ decision_by (find refuses qs)
same_decision [] [] h e = refl
same_decision [] (q ∷ qs) h e = absurd (cc h)
same_decision (p ∷ ps) [] h e = absurd (cc h)
same_decision (p ∷ ps) (q ∷ qs) h e =
    let shard : p.shard ≡ q.shard = cc h in
    let entry : p.entry ≡ q.entry = e p q (inl refl) (inl refl) shard in
    let rest : decision_by (find refuses ps) ≡ decision_by (find refuses qs) = same_decision ps qs (cc h) (λ a b r s k. e a b (inr r) (inr s) k) in
    go (refuses p) (refuses q) (ap (λ o. is_some (cause_of o)) entry) rest shard entry
  where
    go : (a b : Bool) → a ≡ b → decision_by (find refuses ps) ≡ decision_by (find refuses qs) → p.shard ≡ q.shard → p.entry ≡ q.entry
        → decision_by (cond a (Some p) (find refuses ps)) ≡ decision_by (cond b (Some q) (find refuses qs))
    go true true h rest shard entry = cc
    go true false h rest shard entry = absurd (cc h)
    go false true h rest shard entry = absurd (cc h)
    go false false h rest shard entry = rest

-- a transaction begins with one payload
one_payload : (t : Moment) (txn : TxId) (a b : Accesses) → IsBegun t txn a → IsBegun t txn b → a ≡ b
one_payload t txn a b p q = cc (p.first, q.first)

-- all decisions of a transaction are equal
pub agreement : (tests : Tests) (setup : Deployment) (t : Moment) (txn : TxId) (a b : Decision) → InvariantHolds tests setup t → WasNoted t (Decide txn a) → WasNoted t (Decide txn b) → a ≡ b
unfolding decision_of
agreement tests setup t txn a b i m n =
    let d : IsDecidedBy setup.shards t txn a = i.decisions.decided txn a m in
    let e : IsDecidedBy setup.shards t txn b = i.decisions.decided txn b n in
    let shards : map (λ p. p.shard) d.parts ≡ map (λ p. p.shard) e.parts = d.shards ∙ ap (λ p. shards_of setup.shards p) (one_payload t txn d.payload e.payload d.begun e.begun) ∙ sym e.shards in
    d.gives ∙ same_decision d.parts e.parts shards (same_entry d e) ∙ sym e.gives
  where
    same_entry : (d : IsDecidedBy setup.shards t txn a) (e : IsDecidedBy setup.shards t txn b) (p q : Part) → StandsIn p d.parts → StandsIn q e.parts → p.shard ≡ q.shard → p.entry ≡ q.entry
    same_entry d e p q r s k =
        let x : (x : Preparation) × (p.entry ≡ Some x) × IsAcceptedIn t txn p.shard x = d.accepted p r in
        let y : (y : Preparation) × (q.entry ≡ Some y) × IsAcceptedIn t txn q.shard y = e.accepted q s in
        let same : x.0 ≡ y.0 = one_entry tests setup t txn q.shard x.0 y.0 i (subst (λ m. IsAcceptedIn t txn m x.0) k x.2) y.2 in
        x.1 ∙ ap (λ z. Some z) same ∙ sym y.1
