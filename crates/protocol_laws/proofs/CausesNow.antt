-- The cause of an abort at the moment of its decision: a clash names a transaction that began before and fails the
-- prepared test; what is lost was taken over.
use Rattle.std.proofs.Common.{◌≡◌, ℕ, true, false, ◌&&◌, List, [], ◌∷◌, Option, Some, None, is_none, inl, inr, ◌⊎◌, sym, ◌∙◌, ap, subst, refl}
use Rattle.tcs_terms.specs.declared.ids.TxId.{TxId}
use Rattle.tcs_terms.specs.declared.inputs.Note.{Note}
use Rattle.tcs_terms.specs.declared.inputs.Note.TheVariants.{Take, Decide}
use Rattle.tcs_terms.specs.declared.logs.Row.{Row}
use Rattle.tcs_terms.specs.declared.votes.Cause.{Cause}
use Rattle.tcs_terms.specs.declared.votes.Cause.TheVariants as causes
use Rattle.tcs_terms.specs.declared.votes.Decision.TheVariants.{Abort}
use Rattle.tcs_terms.specs.declared.votes.Vote.TheVariants as votes
use Rattle.tcs_terms.specs.Payloads.{Accesses, IsPayload}
use Rattle.tcs_terms.specs.Preparations.{Preparation, is_lost}
use Rattle.tcs_terms.specs.Setups.{Deployment}
use Rattle.tcs_terms.specs.Shards.{part_in, restricted, shards_of}
use Rattle.tcs_laws.specs.Certification.{Tests, parts_ok, prepared_passes_in}
use Rattle.tcs_laws.specs.Laws.{IsLawful}
use Rattle.tcs_laws.specs.Votes.{refuses_by, clashes}
use Rattle.protocol.specs.Cases.{cause_of}
use Rattle.protocol.specs.History.{payload_in}
use Rattle.protocol.specs.Invariant.Decisions.{IsDecidedBy}
use Rattle.protocol.specs.Invariant.Entries.{Appended}
use Rattle.protocol.specs.Invariant.Logs.{Listed}
use Rattle.protocol.specs.Invariant.{InvariantHolds}
use Rattle.protocol.specs.Invariant.Time.{Moment, StandsIn, WasNoted}
use Rattle.protocol.specs.Invariant.Transactions.{FoundNothingBy}
use Rattle.protocol.specs.Log.{vote_on_part}
use Rattle.protocol.specs.Records.{Part}
use Rattle.protocol_laws.proofs.AcceptedSays.{before-past}
use Rattle.protocol_laws.proofs.DecidedEntries.{DecidedEntry, decided-entry}
use Rattle.protocol_laws.proofs.DecidesNow.{DecidesNow, now-noted, earlier-payload, earlier-take}
use Rattle.protocol_laws.proofs.OneEntry.{accepted-listed}
use Rattle.protocol_laws.proofs.PartsOf.{part-payload, shard-part}
use Rattle.protocol_laws.proofs.PastKept.{EntrySays, WorldHolds, PastHolds}
use Rattle.protocol_laws.proofs.Standing.{StandsIn-map}
use Rattle.protocol_laws.proofs.Verdicts.{clash_cause, lost_cause, IsAbortedBy, abort-part}
use Rattle.protocol_laws.proofs.VotesSay.{ClashesWith, clash-row, refused-unprepared}

-- a clash that is named rightly: with another transaction that began, whose part in the shard fails the prepared test
pub record NamesClash (tests : Tests) (n : ℕ) (earlier : List Note) (txn : TxId) (new : Accesses) (shard : ℕ) (other : TxId) : Type 0 where
  pub differs : other ≡ txn → ⊥
  pub old : Accesses
  pub begun : payload_in earlier other ≡ Some old
  pub fails : prepared_passes_in tests n shard (old ∷ []) new ≡ false

-- the accepted entry behind an abort: its vote has the cause, and its shard is one of the payload's
record AbortingEntry (n : ℕ) (t : Moment) (txn : TxId) (shard : ℕ) (cause : Cause) (whole : Accesses) : Type 0 where
  entry : Preparation
  found : DecidedEntry n t txn shard whole (Some entry)
  has : cause_of (Some entry) ≡ Some cause
  among : StandsIn shard (shards_of n whole)

aborting-entry : (tests : Tests) (setup : Deployment) (t : Moment) (txn : TxId) (shard : ℕ) (cause : Cause) (whole : Accesses) → InvariantHolds tests setup t → PastHolds setup t → WasNoted t (Decide txn (Abort shard cause))
    → payload_in t.now.history txn ≡ Some whole → AbortingEntry setup.shards t txn shard cause whole
aborting-entry tests setup t txn shard cause whole holds past noted begun =
    let d : IsDecidedBy setup.shards t txn (Abort shard cause) = holds.decisions.decided txn (Abort shard cause) noted in
    let a : IsAbortedBy d.parts shard cause = abort-part d.parts shard cause (sym d.gives) in
    let same : d.payload ≡ whole = cc (begun, d.begun.first) in
    let among : StandsIn a.part.shard (shards_of setup.shards whole) = subst (λ ss. StandsIn a.part.shard ss) (d.shards ∙ ap (λ m. shards_of setup.shards m) same) (StandsIn-map (λ p. p.shard) d.parts a.part a.there) in
    subst (λ m. AbortingEntry setup.shards t txn m cause whole) a.of_shard
    (go a.part (decided-entry tests setup t txn (Abort shard cause) whole a.part holds past begun d a.there) a.has among)
  where
    go : (p : Part) → DecidedEntry setup.shards t txn p.shard whole p.entry → cause_of p.entry ≡ Some cause → StandsIn p.shard (shards_of setup.shards whole) → AbortingEntry setup.shards t txn p.shard cause whole
    go p x has among = record { entry = x.entry; found = subst (λ o. DecidedEntry setup.shards t txn p.shard whole o) x.is x; has = subst (λ o. cause_of o ≡ Some cause) x.is has; among = among }

-- the payloads of a history are well formed
abbrev pub HaveFormed : List Note → Type 0
HaveFormed h = (txn : TxId) (p : Accesses) → payload_in h txn ≡ Some p → IsPayload p

-- a row that clashes with the part of a payload, whose own payload is the part of its transaction's
names_row : (tests : Tests) (setup : Deployment) (t : Moment) (earlier : List Note) (txn other : TxId) (shard : ℕ) (new : Accesses) (r : Row) → IsLawful tests → HaveFormed earlier → IsPayload new
    → DecidesNow tests setup t earlier txn (Abort shard (causes.Clash other)) → StandsIn shard (shards_of setup.shards new) → EntrySays setup.shards t shard r.entry
    → clashes tests r (part_in setup.shards shard new) ≡ true → r.entry.txn ≡ other → (other ≡ txn → ⊥) → NamesClash tests setup.shards earlier txn new shard other
names_row tests setup t earlier txn other shard new r lawful formed is_new now among says clash is differs = record { differs = differs; old = says.payload; begun = begun; fails = fails r.entry.payload refl clash says.part }
  where
    begun : payload_in earlier other ≡ Some says.payload
    begun = sym (earlier-payload tests setup t earlier txn other (Abort shard (causes.Clash other)) now) ∙ ap (λ m. payload_in t.now.history m) (sym is) ∙ says.begun

    fails : (o : Option Accesses) → r.entry.payload ≡ o → refuses_by tests r.mark r.entry.vote o (part_in setup.shards shard new) ≡ true
        → (r.entry.payload ≡ restricted setup.shards shard says.payload) ⊎ ((r.entry.payload ≡ None) × StandsIn (Take r.entry.txn) t.now.history) → prepared_passes_in tests setup.shards shard (says.payload ∷ []) new ≡ false
    fails None e c p = absurd (cc c)
    fails (Some old) e c (inr p) = absurd (cc (e, p.0))
    fails (Some old) e c (inl p) =
        subst (λ o. (parts_ok tests.prepared_ok o (restricted setup.shards shard new) && true) ≡ false) (sym e ∙ p)
        (subst (λ o. (parts_ok tests.prepared_ok (Some old) o && true) ≡ false) (sym (shard-part setup.shards shard new among))
        (ap (λ b. b && true) (refused-unprepared tests r.mark r.entry.vote old (part_in setup.shards shard new) lawful
        (part-payload setup.shards shard says.payload old (formed other says.payload begun) (sym p ∙ e)) (part-payload setup.shards shard new (part_in setup.shards shard new) is_new (shard-part setup.shards shard new among)) c)))

pub clash_now : (tests : Tests) (setup : Deployment) (t : Moment) (earlier : List Note) (txn other : TxId) (shard : ℕ) (new : Accesses) → IsLawful tests → HaveFormed earlier
    → DecidesNow tests setup t earlier txn (Abort shard (causes.Clash other)) → payload_in t.now.history txn ≡ Some new → NamesClash tests setup.shards earlier txn new shard other
clash_now tests setup t earlier txn other shard new lawful formed now begun =
    let a : AbortingEntry setup.shards t txn shard (causes.Clash other) new = aborting-entry tests setup t txn shard (causes.Clash other) new now.holds now.past (now-noted tests setup t earlier txn (Abort shard (causes.Clash other)) now) begun in
    let same : a.entry ≡ a.found.entry = cc a.found.is in
    go a (ap (λ x. x.vote) (sym same) ∙ clash_cause a.entry.vote other a.has)
  where
    go : (a : AbortingEntry setup.shards t txn shard (causes.Clash other) new) → a.found.entry.vote ≡ votes.Clash other → NamesClash tests setup.shards earlier txn new shard other
    go a vote =
        let listed : Listed t a.found.accepted.config a.found.entry = accepted-listed tests setup t a.found.accepted.config a.found.entry now.holds a.found.accepted.accepted in
        let p : Appended tests t a.found.accepted.config a.found.entry = now.holds.entries.appended a.found.accepted.config a.found.entry listed in
        let voted : vote_on_part tests p.node.rows (Some (part_in setup.shards shard new)) ≡ votes.Clash other = ap (λ o. vote_on_part tests p.node.rows o) (sym (has a.found.part)) ∙ sym p.vote ∙ vote in
        let r : ClashesWith tests p.node.rows (part_in setup.shards shard new) other = clash-row tests p.node.rows (part_in setup.shards shard new) other voted in
        let w : WorldHolds setup t p.before = now.past.each p.before (inr (before-past t.now p.after p.before t.before p.later p.earlier p.moments)) in
        let says : EntrySays setup.shards t shard r.row.entry = subst (λ m. EntrySays setup.shards t m r.row.entry) (p.shard ∙ a.found.accepted.of_shard) (w.rows p.node r.row p.there r.there) in
        names_row tests setup t earlier txn other shard new r.row lawful formed (formed txn new (sym (earlier-payload tests setup t earlier txn txn (Abort shard (causes.Clash other)) now) ∙ begun)) now a.among says r.clashes r.of_txn (λ e. (p.new r.row r.there).1 (r.of_txn ∙ e ∙ sym a.found.accepted.of_txn))
      where
        has : (a.found.entry.payload ≡ restricted setup.shards shard new) ⊎ ((a.found.entry.payload ≡ None) × StandsIn (Take txn) t.now.history) → a.found.entry.payload ≡ Some (part_in setup.shards shard new)
        has (inl e) = e ∙ shard-part setup.shards shard new a.among
        has (inr q) = absurd (let k : is_none a.found.entry.payload ≡ is_lost a.found.entry.vote = a.found.keeps in cc (k, ap (λ o. is_none o) q.0, ap (λ v. is_lost v) vote))

pub lost_now : (tests : Tests) (setup : Deployment) (t : Moment) (earlier : List Note) (txn : TxId) (shard : ℕ) (whole : Accesses)
    → DecidesNow tests setup t earlier txn (Abort shard causes.Lost) → payload_in t.now.history txn ≡ Some whole → StandsIn (Take txn) earlier
lost_now tests setup t earlier txn shard whole now begun =
    let a : AbortingEntry setup.shards t txn shard causes.Lost whole = aborting-entry tests setup t txn shard causes.Lost whole now.holds now.past (now-noted tests setup t earlier txn (Abort shard causes.Lost) now) begun in
    go a a.found.part
  where
    go : (a : AbortingEntry setup.shards t txn shard causes.Lost whole) → (a.found.entry.payload ≡ restricted setup.shards shard whole) ⊎ ((a.found.entry.payload ≡ None) × StandsIn (Take txn) t.now.history) → StandsIn (Take txn) earlier
    go a (inr p) = earlier-take tests setup t earlier txn txn (Abort shard causes.Lost) now p.1
    go a (inl e) =
        let same : a.entry ≡ a.found.entry = cc a.found.is in
        let vote : a.found.entry.vote ≡ votes.Lost = ap (λ x. x.vote) (sym same) ∙ lost_cause a.entry.vote a.has in
        let some : a.found.entry.payload ≡ Some (part_in setup.shards shard whole) = e ∙ shard-part setup.shards shard whole a.among in
        absurd (let k : is_none a.found.entry.payload ≡ is_lost a.found.entry.vote = a.found.keeps in cc (k, ap (λ o. is_none o) some, ap (λ v. is_lost v) vote))

-- of what is lost, the named shard found nothing
pub lost-found : (tests : Tests) (setup : Deployment) (t : Moment) (txn : TxId) (shard : ℕ) → InvariantHolds tests setup t → PastHolds setup t → WasNoted t (Decide txn (Abort shard causes.Lost)) → FoundNothingBy t txn shard
lost-found tests setup t txn shard holds past noted =
    let d : IsDecidedBy setup.shards t txn (Abort shard causes.Lost) = holds.decisions.decided txn (Abort shard causes.Lost) noted in
    let a : AbortingEntry setup.shards t txn shard causes.Lost d.payload = aborting-entry tests setup t txn shard causes.Lost d.payload holds past noted d.begun.first in
    let same : a.entry ≡ a.found.entry = cc a.found.is in
    a.found.lost (ap (λ x. x.vote) (sym same) ∙ lost_cause a.entry.vote a.has)
