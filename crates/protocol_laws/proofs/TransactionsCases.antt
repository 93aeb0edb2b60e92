-- The cases of a node fit, after it acted.
use Rattle.std.proofs.Common.{◌≡◌, ℕ, Bool, true, false, cond, List, [], ◌∷◌, map, length, Option, Some, None, ◌==◌, inl, inr, sym, ◌∙◌, ap, subst, refl}
use Rattle.tcs_terms.specs.declared.ids.TxId.{TxId}
use Rattle.tcs_terms.specs.declared.inputs.Input.{Input}
use Rattle.tcs_terms.specs.declared.inputs.Input.TheVariants as inputs
use Rattle.tcs_terms.specs.declared.inputs.Note.TheVariants as notes
use Rattle.tcs_terms.specs.declared.logs.Row.{Row}
use Rattle.tcs_terms.specs.declared.messages.Message.TheVariants.{PrepareAck}
use Rattle.tcs_terms.specs.declared.messages.Outgoing.{Outgoing}
use Rattle.tcs_terms.specs.Logs.{same_txn}
use Rattle.tcs_terms.specs.Payloads.{Accesses}
use Rattle.tcs_terms.specs.Places.{Membership}
use Rattle.tcs_terms.specs.Preparations.{Preparation}
use Rattle.tcs_terms.specs.Setups.{Deployment}
use Rattle.tcs_terms.specs.Shards.{shards_of}
use Rattle.tcs_laws.specs.Certification.{Tests}
use Rattle.protocol.specs.Cases.{asked, new_case, part_of}
use Rattle.protocol.specs.ClientRules.{next_txn}
use Rattle.protocol.specs.Coordination.{begins, with_part, first_entry, voted, acknowledged, ask_again, change_view}
use Rattle.protocol.specs.Log.{row_of}
use Rattle.protocol.specs.Outcomes.{Out}
use Rattle.protocol.specs.Records.{Part, Case, Coordinator, NodeRecord}
use Rattle.protocol.specs.Invariant.Time.{Moment, StandsIn}
use Rattle.protocol.specs.Invariant.Transactions.{IsBegun, WasTaken, EntryFits, CaseFits}
use Rattle.protocol.proofs.Lists.{find-StandsIn, StandsIn-append}
use Rattle.protocol_laws.specs.Effect.{Sees, OpenPart, GoesOn, Effect}
use Rattle.protocol_laws.specs.Effect.Sees.{Replaces}
use Rattle.protocol_laws.specs.Effect.GoesOn.{Waiting, Decides}
use Rattle.protocol_laws.specs.Effect.Effect.{Certifies, TakesOver, Votes, Acknowledges, Changes, Learns}
use Rattle.protocol_laws.proofs.TransactionsLast.{entry_fits-on, case_fits-on, is_begun-on}
use Rattle.protocol_laws.proofs.Standing.{IsMapped, map-StandsIn}
use Rattle.protocol_laws.proofs.ViewsStored.{views_length}
use Rattle.protocol_laws.proofs.SameTxn.{same_txn-eq}
use Rattle.protocol_laws.proofs.CaseParts.{put-StandsIn, IsPartOf, part_is}
use Rattle.protocol_laws.proofs.TransactionsActing.{IsActing}
use Rattle.protocol_laws.proofs.ByTransaction.{lookup-StandsIn, set_value-StandsIn, remove_entry-StandsIn}

-- all cases of a coordinator fit
abbrev pub CasesFit : ℕ → Moment → Coordinator → Type 0
CasesFit n t c = (txn : TxId) (case : Case) → StandsIn (txn, case) c.cases → CaseFits n t txn case

-- what a part voted fits
abbrev PartFits : ℕ → Moment → Part → Type 0
PartFits n t p = (entry : Preparation) → p.entry ≡ Some entry → EntryFits n t p.shard entry

case_with_part : (n : ℕ) (t : Moment) (txn : TxId) (case : Case) (part : Part) → CaseFits n t txn case → PartFits n t part → CaseFits n t txn (with_part case part)
case_with_part n t txn case part f k = record {
  payload = f.payload;
  begun = f.begun;
  shards = f.shards;
  whole = f.whole;
  voted = λ p entry s e. elim (put-StandsIn part case.parts p s) [
    | inl r ↦ f.voted p entry r e
    | inr q ↦ subst (λ (x : Part). EntryFits n t x.shard entry) (sym q) (k entry (sym (ap (λ (x : Part). x.entry) q) ∙ e))
  ];
}

-- the first entry that a shard voted fits, where the later one does and what it had did
first_fits : (n : ℕ) (t : Moment) (shard : ℕ) (kept : Option Preparation) (entry : Preparation) → ((x : Preparation) → kept ≡ Some x → EntryFits n t shard x) → EntryFits n t shard entry → EntryFits n t shard (first_entry kept entry)
first_fits n t shard None entry k f = f
first_fits n t shard (Some x) entry k f = k x refl

-- a shard that voted, and cases in which one did, and in which a follower acknowledged
voted_entry : (n : ℕ) (t : Moment) (txn : TxId) (case : Case) (shard : ℕ) (part : Part) (entry : Preparation) → CaseFits n t txn case → part_of case.parts shard ≡ Some part → EntryFits n t shard entry
    → EntryFits n t shard (first_entry part.entry entry)
voted_entry n t txn case shard part entry f e g =
    let i : IsPartOf case.parts shard part = part_is case.parts shard part e in
    first_fits n t shard part.entry entry (λ y r. subst (λ s. EntryFits n t s y) i.of_shard (f.voted part y i.among r)) g

voted_fits : (n : ℕ) (t : Moment) (txn : TxId) (case : Case) (shard : ℕ) (part : Part) (entry : Preparation) → CaseFits n t txn case → part_of case.parts shard ≡ Some part → EntryFits n t shard entry
    → CaseFits n t txn (with_part case (voted part entry))
voted_fits n t txn case shard part entry f e g =
    let i : IsPartOf case.parts shard part = part_is case.parts shard part e in
    case_with_part n t txn case (voted part entry) f (λ x q.
    let same : first_entry part.entry entry ≡ x = cc q in
    subst (λ y. EntryFits n t part.shard y) same (subst (λ s. EntryFits n t s (first_entry part.entry entry)) (sym i.of_shard) (voted_entry n t txn case shard part entry f e g)))

acknowledged_fits : (n : ℕ) (t : Moment) (txn : TxId) (case : Case) (shard : ℕ) (part : Part) (from : ℕ) → CaseFits n t txn case → part_of case.parts shard ≡ Some part → CaseFits n t txn (with_part case (acknowledged part from))
acknowledged_fits n t txn case shard part from f e =
    let i : IsPartOf case.parts shard part = part_is case.parts shard part e in
    case_with_part n t txn case (acknowledged part from) f (λ x q. f.voted part x i.among q)

-- a new case has voted nothing
nothing_voted : (shards : List ℕ) (p : Part) (entry : Preparation) → StandsIn p (map asked shards) → p.entry ≡ Some entry → ⊥
nothing_voted shards p entry s e = let i : IsMapped asked shards p = map-StandsIn asked shards p s in let q : p.entry ≡ None = ap (λ (x : Part). x.entry) i.is in cc (q, e)

certified_fits : (tests : Tests) (setup : Deployment) (t u : Moment) (node : NodeRecord) (input : Input) (out : Out NodeRecord) (payload : Accesses) → IsActing tests setup t u node input out
    → out.notes ≡ notes.Begin (next_txn node) payload ∷ [] → CaseFits setup.shards u (next_txn node) (new_case (shards_of (length node.coordinator.views) payload) (Some payload))
certified_fits tests setup t u node input out payload a e = record {
  payload = payload;
  begun = a.begun payload e;
  shards = ap (λ n. shards_of n payload) (views_length setup t node a.before.configurations a.is);
  whole = inl refl;
  voted = λ p entry s q. absurd (nothing_voted (shards_of (length node.coordinator.views) payload) p entry s q);
}

taken_fits : (tests : Tests) (setup : Deployment) (t u : Moment) (node : NodeRecord) (input : Input) (out : Out NodeRecord) (txn : TxId) (row : Row) → IsActing tests setup t u node input out
    → row_of node.rows txn ≡ Some row → WasTaken u txn → CaseFits setup.shards u txn (new_case row.entry.shards None)
taken_fits tests setup t u node input out txn row a e taken =
    let stands : StandsIn row node.rows × (same_txn row.entry.txn txn ≡ true) = find-StandsIn (λ (r : Row). same_txn r.entry.txn txn) node.rows row e in
    let f : EntryFits setup.shards t node.shard row.entry = a.before.transactions.rows node row a.is stands.0 in
    record {
      payload = f.payload;
      begun = subst (λ x. IsBegun u x f.payload) (same_txn-eq row.entry.txn txn stands.1) (is_begun-on t u row.entry.txn f.payload a.goes f.begun);
      shards = f.shards;
      whole = inr (refl, taken);
      voted = λ p entry s q. absurd (nothing_voted row.entry.shards p entry s q);
    }

-- the cases of a coordinator in which one more begins, changes or is closed
begins_fit : (n : ℕ) (t : Moment) (c : Coordinator) (txn : TxId) (case : Case) → CasesFit n t c → CaseFits n t txn case → CasesFit n t (begins c txn case)
begins_fit n t c txn case k f x y s = elim (StandsIn-append c.cases ((txn, case) ∷ []) (x, y) s) [
  | inl r ↦ k x y r
  | inr (inl e) ↦ subst (λ (p : TxId × Case). CaseFits n t p.0 p.1) (sym e) f
  | inr (inr r) ↦ absurd r
]

goes_on_fit : (n : ℕ) (t : Moment) (c : Coordinator) (txn : TxId) (case : Case) (sends : List Outgoing) (out : Out Coordinator) → CasesFit n t c → CaseFits n t txn case → GoesOn c txn case sends out → CasesFit n t out.kept
goes_on_fit n t c txn case sends _ k f (Waiting h) x y s = elim (set_value-StandsIn txn c.cases case (x, y) s) [ inl r ↦ k x y r | inr e ↦ subst (λ (p : TxId × Case). CaseFits n t p.0 p.1) (sym e) f ]
goes_on_fit n t c txn case sends _ k f (Decides h) x y s = k x y (remove_entry-StandsIn txn c.cases (x, y) s)

ask_again_fits : (n : ℕ) (t : Moment) (txn : TxId) (case : Case) (shard : ℕ) → CaseFits n t txn case → CaseFits n t txn (ask_again shard case)
ask_again_fits n t txn case shard f = record {
  payload = f.payload;
  begun = f.begun;
  shards = f.shards;
  whole = f.whole;
  voted = λ p entry s e. from p entry e (map-StandsIn (λ (q : Part). cond (q.shard == shard) (asked shard) q) case.parts p s);
}
  where
    at : (p : Part) (entry : Preparation) (old : Part) (b : Bool) → p.entry ≡ Some entry → StandsIn old case.parts → p ≡ cond b (asked shard) old → EntryFits n t p.shard entry
    at p entry old true e s q = absurd (let z : p.entry ≡ None = ap (λ (x : Part). x.entry) q in cc (z, e))
    at p entry old false e s q = f.voted p entry (subst (λ x. StandsIn x case.parts) (sym q) s) e

    from : (p : Part) (entry : Preparation) → p.entry ≡ Some entry → IsMapped (λ (q : Part). cond (q.shard == shard) (asked shard) q) case.parts p → EntryFits n t p.shard entry
    from p entry e i = at p entry i.from (i.from.shard == shard) e i.there i.is

change_view_fits : (n : ℕ) (t : Moment) (c : Coordinator) (config : Membership) → CasesFit n t c → CasesFit n t (change_view c config)
unfolding change_view
change_view_fits n t c config k x y s =
    let i : IsMapped (λ (e : TxId × Case). (e.0, ask_again config.shard e.1)) c.cases (x, y) = map-StandsIn (λ (e : TxId × Case). (e.0, ask_again config.shard e.1)) c.cases (x, y) s in
    subst (λ (p : TxId × Case). CaseFits n t p.0 p.1) (sym i.is) (ask_again_fits n t i.from.0 i.from.1 config.shard (k i.from.0 i.from.1 i.there))

sees_fits : (n : ℕ) (t : Moment) (c : Coordinator) (config : Membership) (new : Coordinator) (sends : List Outgoing) → CasesFit n t c → Sees c config new sends → CasesFit n t new
sees_fits n t c config _ _ k (Replaces h) = change_view_fits n t c config k
sees_fits n t c config _ _ k (Sees.Keeps h) = k

-- the cases that the node had fit still
pub old_cases_fit : (tests : Tests) (setup : Deployment) (t u : Moment) (node : NodeRecord) (input : Input) (out : Out NodeRecord) → IsActing tests setup t u node input out → CasesFit setup.shards u node.coordinator
old_cases_fit tests setup t u node input out a txn case s = case_fits-on setup.shards t u txn case a.goes (a.before.transactions.cases node txn case a.is s)

-- a case that a shard's vote or a follower's acknowledgement came to
pub voted_now : (tests : Tests) (setup : Deployment) (t u : Moment) (node : NodeRecord) (input : Input) (out : Out NodeRecord) (from shard epoch : ℕ) (entry : Preparation) (case : Case) (part : Part) (view : Membership)
    → IsActing tests setup t u node input out → input ≡ inputs.Deliver from (PrepareAck shard epoch entry) → OpenPart node.coordinator entry.txn shard case part view
    → EntryFits setup.shards u shard (first_entry part.entry entry)
voted_now tests setup t u node input out from shard epoch entry case part view a e o =
    voted_entry setup.shards u entry.txn case shard part entry (old_cases_fit tests setup t u node input out a entry.txn case (lookup-StandsIn entry.txn node.coordinator.cases case o.opened)) o.has
    (entry_fits-on setup.shards t u shard entry a.goes (a.before.transactions.messages from node (PrepareAck shard epoch entry) a.is (a.received from (PrepareAck shard epoch entry) e)))

pub voted_case : (tests : Tests) (setup : Deployment) (t u : Moment) (node : NodeRecord) (input : Input) (out : Out NodeRecord) (from shard epoch : ℕ) (entry : Preparation) (case : Case) (part : Part) (view : Membership)
    → IsActing tests setup t u node input out → input ≡ inputs.Deliver from (PrepareAck shard epoch entry) → OpenPart node.coordinator entry.txn shard case part view
    → CaseFits setup.shards u entry.txn (with_part case (voted part entry))
voted_case tests setup t u node input out from shard epoch entry case part view a e o =
    voted_fits setup.shards u entry.txn case shard part entry (old_cases_fit tests setup t u node input out a entry.txn case (lookup-StandsIn entry.txn node.coordinator.cases case o.opened)) o.has
    (entry_fits-on setup.shards t u shard entry a.goes (a.before.transactions.messages from node (PrepareAck shard epoch entry) a.is (a.received from (PrepareAck shard epoch entry) e)))

pub acknowledged_case : (tests : Tests) (setup : Deployment) (t u : Moment) (node : NodeRecord) (input : Input) (out : Out NodeRecord) (from shard : ℕ) (txn : TxId) (case : Case) (part : Part) (view : Membership)
    → IsActing tests setup t u node input out → OpenPart node.coordinator txn shard case part view → CaseFits setup.shards u txn (with_part case (acknowledged part from))
acknowledged_case tests setup t u node input out from shard txn case part view a o =
    acknowledged_fits setup.shards u txn case shard part from (old_cases_fit tests setup t u node input out a txn case (lookup-StandsIn txn node.coordinator.cases case o.opened)) o.has

pub acting_cases : (tests : Tests) (version : ℕ) (setup : Deployment) (t u : Moment) (node : NodeRecord) (input : Input) (out : Out NodeRecord) → IsActing tests setup t u node input out → Effect tests version node input out
    → CasesFit setup.shards u out.kept.coordinator
acting_cases tests version setup t u node _ _ a (Certifies payload l case e) =
    begins_fit setup.shards u node.coordinator (next_txn node) case (old_cases_fit tests setup t u node _ _ a)
    (subst (λ x. CaseFits setup.shards u (next_txn node) x) (sym e) (certified_fits tests setup t u node _ _ payload a refl))
acting_cases tests version setup t u node _ _ a (TakesOver txn row of undecided closed may case e) =
    begins_fit setup.shards u node.coordinator txn case (old_cases_fit tests setup t u node _ _ a) (subst (λ x. CaseFits setup.shards u txn x) (sym e) (taken_fits tests setup t u node _ _ txn row a of (a.noted (notes.Take txn) (inl refl))))
acting_cases tests version setup t u node _ _ a (Votes from shard epoch entry case part view o b c d out g) =
    goes_on_fit setup.shards u node.coordinator entry.txn (with_part case (voted part entry)) _ out (old_cases_fit tests setup t u node _ _ a) (voted_case tests setup t u node _ _ from shard epoch entry case part view a refl o) g
acting_cases tests version setup t u node _ _ a (Acknowledges from shard epoch slot txn case part view o b c d out g) =
    goes_on_fit setup.shards u node.coordinator txn (with_part case (acknowledged part from)) [] out (old_cases_fit tests setup t u node _ _ a) (acknowledged_case tests setup t u node _ _ from shard txn case part view a o) g
acting_cases tests version setup t u node _ _ a (Changes from config h) = change_view_fits setup.shards u node.coordinator config (old_cases_fit tests setup t u node _ _ a)
acting_cases tests version setup t u node _ _ a (Learns from config coordinator sent stage asked s h) = sees_fits setup.shards u node.coordinator config coordinator sent (old_cases_fit tests setup t u node _ _ a) s
acting_cases tests version setup t u node _ _ a _ = old_cases_fit tests setup t u node _ _ a
