-- What stands behind each decision of a history, and that an event keeps it.
use Rattle.std.proofs.Common.{◌≡◌, ℕ, Bool, true, false, cond, List, [], ◌∷◌, ◌++◌, Some, None, inl, inr, sym, ◌∙◌, ap, subst, append-nil}
use Rattle.tcs_terms.specs.declared.ids.TxId.{TxId}
use Rattle.tcs_terms.specs.declared.inputs.Event.{Event}
use Rattle.tcs_terms.specs.declared.inputs.Note.{Note}
use Rattle.tcs_terms.specs.declared.inputs.Note.TheVariants.{Begin, Take, ReadValue, Decide}
use Rattle.tcs_terms.specs.declared.votes.Cause.TheVariants.{Clash, Lost}
use Rattle.tcs_terms.specs.declared.votes.Decision.{Decision}
use Rattle.tcs_terms.specs.declared.votes.Decision.TheVariants.{Commit, Abort}
use Rattle.tcs_terms.specs.Logs.{same_txn}
use Rattle.tcs_terms.specs.Payloads.{Accesses, IsPayload}
use Rattle.tcs_terms.specs.Setups.{Deployment, IsDeployment}
use Rattle.tcs_laws.specs.Certification.{Tests}
use Rattle.tcs_laws.specs.Laws.{IsLawful}
use Rattle.protocol.specs.History.{begins_with, first_some, payload_in}
use Rattle.protocol.specs.Invariant.{InvariantHolds}
use Rattle.protocol.specs.Invariant.Decisions.{IsDecidedBy}
use Rattle.protocol.specs.Invariant.Time.{Moment, goes_to, StandsIn}
use Rattle.protocol.specs.World.{Happening}
use Rattle.protocol_laws.specs.Turn.{Turn}
use Rattle.protocol_laws.proofs.Agreement.{agreement}
use Rattle.protocol_laws.proofs.CausesNow.{HaveFormed, NamesClash, clash_now, lost_now}
use Rattle.protocol_laws.proofs.DecidesNow.{DecidesNow, now-noted, earlier-noted, earlier-payload}
use Rattle.protocol_laws.proofs.Fronts.{Splits, InFirst, InSecond, splits}
use Rattle.protocol_laws.proofs.LegalNow.{legal_now}
use Rattle.protocol_laws.proofs.OneNote.{GoesOnByOne, change-one, IsLast, is_last}
use Rattle.protocol_laws.proofs.PastKept.{PastHolds}

-- whatever a client began is a payload
abbrev pub ArePayloads : List Note → Type 0
ArePayloads h = (txn : TxId) (payload : Accesses) → StandsIn (Begin txn payload) h → IsPayload payload

-- What stands behind a decision, in the history before it: its transaction began, and all its decisions are equal; by a
-- lawful certifier its first commit passes against each payload that committed before, and a clash is named rightly; what
-- is lost was taken over.
pub record DecisionStands (tests : Tests) (n : ℕ) (earlier : List Note) (txn : TxId) (decision : Decision) : Type 0 where
  pub payload : Accesses
  pub begun : payload_in earlier txn ≡ Some payload
  pub agrees : (other : Decision) → StandsIn (Decide txn other) earlier → other ≡ decision
  pub legal : IsLawful tests → HaveFormed earlier → decision ≡ Commit → (StandsIn (Decide txn Commit) earlier → ⊥) → (other : TxId) (old : Accesses) → StandsIn (Decide other Commit) earlier → payload_in earlier other ≡ Some old → tests.committed_ok old payload ≡ true
  pub clash : IsLawful tests → HaveFormed earlier → (shard : ℕ) (other : TxId) → decision ≡ Abort shard (Clash other) → NamesClash tests n earlier txn payload shard other
  pub lost : (shard : ℕ) → decision ≡ Abort shard Lost → StandsIn (Take txn) earlier

-- such facts stand behind every decision
pub record HistoryHolds (tests : Tests) (n : ℕ) (history : List Note) : Type 0 where
  pub each : (earlier later : List Note) (txn : TxId) (decision : Decision) → history ≡ earlier ++ (Decide txn decision ∷ later) → DecisionStands tests n earlier txn decision

-- a payload was begun with
pub payload-begun : (h : List Note) (txn : TxId) (payload : Accesses) → payload_in h txn ≡ Some payload → (other : TxId) × StandsIn (Begin other payload) h
payload-begun [] txn payload e = absurd (cc e)
payload-begun (n ∷ ns) txn payload e = go n e (payload-begun ns txn payload)
  where
    begin : (other : TxId) (p : Accesses) (b : Bool) → first_some (cond b (Some p) None) (payload_in ns txn) ≡ Some payload → (payload_in ns txn ≡ Some payload → (other : TxId) × StandsIn (Begin other payload) ns) → (o : TxId) × StandsIn (Begin o payload) (Begin other p ∷ ns)
    begin other p true e ih = (other, inl (ap (λ q. Begin other q) (cc e)))
    begin other p false e ih = let r : (other : TxId) × StandsIn (Begin other payload) ns = ih e in (r.0, inr r.1)

    go : (n : Note) → first_some (begins_with txn n) (payload_in ns txn) ≡ Some payload → (payload_in ns txn ≡ Some payload → (other : TxId) × StandsIn (Begin other payload) ns) → (o : TxId) × StandsIn (Begin o payload) (n ∷ ns)
    go (Begin other p) e ih = begin other p (same_txn other txn) e ih
    go (Take other) e ih = let r : (other : TxId) × StandsIn (Begin other payload) ns = ih e in (r.0, inr r.1)
    go (ReadValue name version value) e ih = let r : (other : TxId) × StandsIn (Begin other payload) ns = ih e in (r.0, inr r.1)
    go (Decide other decision) e ih = let r : (other : TxId) × StandsIn (Begin other payload) ns = ih e in (r.0, inr r.1)

-- a decision stands at the moment at which it is noted
stands_now : (tests : Tests) (setup : Deployment) (t : Moment) (earlier : List Note) (txn : TxId) (decision : Decision) → IsDeployment setup
    → DecidesNow tests setup t earlier txn decision → DecisionStands tests setup.shards earlier txn decision
stands_now tests setup t earlier txn decision deployment now =
    let d : IsDecidedBy setup.shards t txn decision = now.holds.decisions.decided txn decision (now-noted tests setup t earlier txn decision now) in
    record {
      payload = d.payload;
      begun = sym (earlier-payload tests setup t earlier txn txn decision now) ∙ d.begun.first;
      agrees = λ other s. agreement tests setup t txn other decision now.holds (earlier-noted tests setup t earlier txn decision (Decide txn other) now s) (now-noted tests setup t earlier txn decision now);
      legal = λ lawful formed e first other old s b. legal d lawful formed first other old s b (subst (λ x. DecidesNow tests setup t earlier txn x) e now);
      clash = λ lawful formed shard other e. clash_now tests setup t earlier txn other shard d.payload lawful formed (subst (λ x. DecidesNow tests setup t earlier txn x) e now) d.begun.first;
      lost = λ shard e. lost_now tests setup t earlier txn shard d.payload (subst (λ x. DecidesNow tests setup t earlier txn x) e now) d.begun.first;
    }
  where
    legal : (d : IsDecidedBy setup.shards t txn decision) → IsLawful tests → HaveFormed earlier → (StandsIn (Decide txn Commit) earlier → ⊥) → (other : TxId) (old : Accesses) → StandsIn (Decide other Commit) earlier → payload_in earlier other ≡ Some old
        → DecidesNow tests setup t earlier txn Commit → tests.committed_ok old d.payload ≡ true
    legal d lawful formed first other old s b n =
        let begun : payload_in earlier txn ≡ Some d.payload = sym (earlier-payload tests setup t earlier txn txn Commit n) ∙ d.begun.first in
        let old_begun : payload_in t.now.history other ≡ Some old = earlier-payload tests setup t earlier txn other Commit n ∙ b in
        legal_now tests setup t earlier txn other old d.payload deployment lawful n first s old_begun d.begun.first (formed other old b) (formed txn d.payload begun)

pub history_kept : (tests : Tests) (setup : Deployment) (t : Moment) (event : Event) (h : Happening) → Turn tests setup t event h → InvariantHolds tests setup (goes_to t h.after)
    → PastHolds setup t → PastHolds setup (goes_to t h.after) → HistoryHolds tests setup.shards t.now.history → HistoryHolds tests setup.shards h.after.history
history_kept tests setup t event h turn holds past_before past before =
    let g : GoesOnByOne t.now.history h.after.history = change-one tests setup.version t.now event h turn.change in
    record { each = λ earlier later txn decision e. go g earlier later txn decision (splits t.now.history g.notes earlier (Decide txn decision) later (sym g.is ∙ e)) }
  where
    go : (g : GoesOnByOne t.now.history h.after.history) (earlier later : List Note) (txn : TxId) (decision : Decision) → Splits t.now.history g.notes earlier (Decide txn decision) later → DecisionStands tests setup.shards earlier txn decision
    go g earlier later txn decision (InFirst rest e f) = before.each earlier rest txn decision e
    go g earlier later txn decision (InSecond between e f) =
        let l : IsLast g.notes between (Decide txn decision) = is_last g.notes between (Decide txn decision) later g.one f in
        let same : earlier ≡ t.now.history = e ∙ ap (λ b. t.now.history ++ b) l.nothing ∙ append-nil t.now.history in
        subst (λ x. DecisionStands tests setup.shards x txn decision) (sym same)
        (stands_now tests setup (goes_to t h.after) t.now.history txn decision turn.deployment
        (record { holds = holds; past = past; fronts = λ w s. (past_before.each w s).front; history = g.is ∙ ap (λ b. t.now.history ++ b) l.only }))
