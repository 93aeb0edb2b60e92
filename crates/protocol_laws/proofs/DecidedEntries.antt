-- The accepted entries behind a decision, and what they say of the transaction's payload.
use Rattle.std.proofs.Common.{◌≡◌, ℕ, List, map, Option, Some, None, is_none, ◌⊎◌, inl, inr, sym, ◌∙◌, ap, subst}
use Rattle.tcs_terms.specs.declared.ids.TxId.{TxId}
use Rattle.tcs_terms.specs.declared.inputs.Note.TheVariants.{Take, Decide}
use Rattle.tcs_terms.specs.declared.votes.Decision.{Decision}
use Rattle.tcs_terms.specs.declared.votes.Decision.TheVariants as decisions
use Rattle.tcs_terms.specs.declared.votes.Vote.TheVariants as votes
use Rattle.tcs_terms.specs.Payloads.{Accesses}
use Rattle.tcs_terms.specs.Preparations.{Preparation, KeepsPayload, is_lost}
use Rattle.tcs_terms.specs.Setups.{Deployment}
use Rattle.tcs_terms.specs.Shards.{restricted, shards_of}
use Rattle.tcs_laws.specs.Certification.{Tests}
use Rattle.protocol.specs.Cases.{cause_of}
use Rattle.protocol.specs.History.{payload_in}
use Rattle.protocol.specs.Invariant.{InvariantHolds}
use Rattle.protocol.specs.Invariant.Decisions.{IsAcceptedIn, IsDecidedBy}
use Rattle.protocol.specs.Invariant.Time.{Moment, StandsIn, WasNoted}
use Rattle.protocol.specs.Invariant.Transactions.{FoundNothingBy}
use Rattle.protocol.specs.Records.{Part}
use Rattle.protocol_laws.proofs.AcceptedSays.{accepted-says}
use Rattle.protocol_laws.proofs.PastKept.{EntrySays, PastHolds}
use Rattle.protocol_laws.proofs.Standing.{IsMapped, map-StandsIn}
use Rattle.protocol_laws.proofs.Verdicts.{no_cause, commit-each}

-- the accepted entry of a transaction in a shard, with what it says of the whole payload
pub record DecidedEntry (n : ℕ) (t : Moment) (txn : TxId) (shard : ℕ) (whole : Accesses) (voted : Option Preparation) : Type 0 where
  pub entry : Preparation
  pub is : voted ≡ Some entry
  pub accepted : IsAcceptedIn t txn shard entry
  pub part : (entry.payload ≡ restricted n shard whole) ⊎ ((entry.payload ≡ None) × StandsIn (Take txn) t.now.history)
  pub keeps : KeepsPayload entry.payload entry.vote
  pub lost : entry.vote ≡ votes.Lost → FoundNothingBy t txn shard

pub decided-entry : (tests : Tests) (setup : Deployment) (t : Moment) (txn : TxId) (decision : Decision) (whole : Accesses) (p : Part) → InvariantHolds tests setup t → PastHolds setup t
    → payload_in t.now.history txn ≡ Some whole → (d : IsDecidedBy setup.shards t txn decision) → StandsIn p d.parts → DecidedEntry setup.shards t txn p.shard whole p.entry
decided-entry tests setup t txn decision whole p i past begun d s =
    let a : (entry : Preparation) × (p.entry ≡ Some entry) × IsAcceptedIn t txn p.shard entry = d.accepted p s in
    go a (subst (λ m. EntrySays setup.shards t m a.0) a.2.of_shard (accepted-says tests setup t a.2.config a.0 i past a.2.accepted))
  where
    go : (a : (entry : Preparation) × (p.entry ≡ Some entry) × IsAcceptedIn t txn p.shard entry) → EntrySays setup.shards t p.shard a.0 → DecidedEntry setup.shards t txn p.shard whole p.entry
    go a says = record { entry = a.0; is = a.1; accepted = a.2; part = part says.part; keeps = says.keeps; lost = λ e. subst (λ m. FoundNothingBy t m p.shard) a.2.of_txn (says.lost e) }
      where
        same : says.payload ≡ whole
        same = let e : payload_in t.now.history a.0.txn ≡ Some whole = ap (λ m. payload_in t.now.history m) a.2.of_txn ∙ begun in cc (e, says.begun)

        part : (a.0.payload ≡ restricted setup.shards p.shard says.payload) ⊎ ((a.0.payload ≡ None) × StandsIn (Take a.0.txn) t.now.history) → (a.0.payload ≡ restricted setup.shards p.shard whole) ⊎ ((a.0.payload ≡ None) × StandsIn (Take txn) t.now.history)
        part (inl e) = inl (e ∙ ap (λ m. restricted setup.shards p.shard m) same)
        part (inr q) = inr (q.0, subst (λ m. StandsIn (Take m) t.now.history) a.2.of_txn q.1)

-- the part of a shard
record PartIn (parts : List Part) (shard : ℕ) : Type 0 where
  part : Part
  there : StandsIn part parts
  of_shard : part.shard ≡ shard

-- a decision has a part for each shard of the payload
part-in : (n : ℕ) (t : Moment) (txn : TxId) (decision : Decision) (whole : Accesses) (shard : ℕ) → payload_in t.now.history txn ≡ Some whole → (d : IsDecidedBy n t txn decision) → StandsIn shard (shards_of n whole) → PartIn d.parts shard
part-in n t txn decision whole shard begun d s =
    let same : d.payload ≡ whole = cc (begun, d.begun.first) in
    let among : StandsIn shard (map (λ p. p.shard) d.parts) = subst (λ ss. StandsIn shard ss) (sym (d.shards ∙ ap (λ m. shards_of n m) same)) s in
    let m : IsMapped (λ p. p.shard) d.parts shard = map-StandsIn (λ p. p.shard) d.parts shard among in
    record { part = m.from; there = m.there; of_shard = sym m.is }

-- the accepted entry of a committed transaction in a shard: its vote is to commit, and its payload is the part in the shard
pub record CommittedEntry (n : ℕ) (t : Moment) (txn : TxId) (shard : ℕ) (whole : Accesses) : Type 0 where
  pub entry : Preparation
  pub accepted : IsAcceptedIn t txn shard entry
  pub vote : entry.vote ≡ votes.Commit
  pub payload : entry.payload ≡ restricted n shard whole

pub committed-entry : (tests : Tests) (setup : Deployment) (t : Moment) (txn : TxId) (whole : Accesses) (shard : ℕ) → InvariantHolds tests setup t → PastHolds setup t
    → payload_in t.now.history txn ≡ Some whole → WasNoted t (Decide txn decisions.Commit) → StandsIn shard (shards_of setup.shards whole) → CommittedEntry setup.shards t txn shard whole
committed-entry tests setup t txn whole shard i past begun noted s =
    let d : IsDecidedBy setup.shards t txn decisions.Commit = i.decisions.decided txn decisions.Commit noted in
    let p : PartIn d.parts shard = part-in setup.shards t txn decisions.Commit whole shard begun d s in
    let x : DecidedEntry setup.shards t txn p.part.shard whole p.part.entry = decided-entry tests setup t txn decisions.Commit whole p.part i past begun d p.there in
    subst (λ m. CommittedEntry setup.shards t txn m whole) p.of_shard
    (found p.part x (commit-each d.parts p.part (sym d.gives) p.there))
  where
    found : (p : Part) (x : DecidedEntry setup.shards t txn p.shard whole p.entry) → cause_of p.entry ≡ None → CommittedEntry setup.shards t txn p.shard whole
    found p x none = record { entry = x.entry; accepted = x.accepted; vote = vote; payload = payload x.part }
      where
        vote : x.entry.vote ≡ votes.Commit
        vote = no_cause x.entry.vote (ap (λ o. cause_of o) (sym x.is) ∙ none)

        payload : (x.entry.payload ≡ restricted setup.shards p.shard whole) ⊎ ((x.entry.payload ≡ None) × StandsIn (Take txn) t.now.history) → x.entry.payload ≡ restricted setup.shards p.shard whole
        payload (inl e) = e
        payload (inr q) = absurd (let k : is_none x.entry.payload ≡ is_lost x.entry.vote = x.keeps in cc (k, ap (λ o. is_none o) q.0, ap (λ v. is_lost v) vote))
