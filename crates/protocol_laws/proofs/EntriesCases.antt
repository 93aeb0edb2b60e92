-- Cases stay well as a node coordinates: as they begin, as a shard votes and acknowledges, and as a view is replaced.
use Rattle.std.proofs.Common.{◌≡◌, ℕ, Bool, true, false, cond, ◌==◌, List, [], ◌∷◌, ◌++◌, map, find, Option, Some, None, inl, inr, sym, ◌∙◌, ap, ap₂, subst, refl, eqb-true, eq-eqb}
use Rattle.std.specs.Prelude.{IsTrue}
use Rattle.tcs_terms.specs.declared.ids.TxId.{TxId}
use Rattle.tcs_terms.specs.declared.messages.Outgoing.{Outgoing}
use Rattle.tcs_terms.specs.Logs.{same_txn, txns_differ}
use Rattle.tcs_terms.specs.Payloads.{Accesses}
use Rattle.tcs_terms.specs.Places.{Membership, is_among}
use Rattle.tcs_terms.specs.Preparations.{Preparation}
use Rattle.protocol.specs.Cases.{asked, new_case}
use Rattle.protocol.specs.Coordination.{begins, with_part, first_entry, voted_at, add_once, ask_again, change_view, voted, acknowledged}
use Rattle.protocol.specs.Invariant.Entries.{HeldAt, PartHolds, CaseHolds}
use Rattle.protocol.specs.Invariant.Logs.{Listed}
use Rattle.protocol.specs.Invariant.Time.{Moment, StandsIn}
use Rattle.protocol.specs.Outcomes.{Out}
use Rattle.protocol.specs.Records.{Part, Case, Coordinator}
use Rattle.protocol.specs.Views.{view_of, replaced}
use Rattle.protocol.proofs.Lists.{StandsIn-append, find-StandsIn}
use Rattle.protocol_laws.specs.Effect.{GoesOn, OpenPart}
use Rattle.protocol_laws.specs.Effect.GoesOn.{Waiting, Decides}
use Rattle.protocol_laws.specs.Turn.{Onward}
use Rattle.protocol_laws.proofs.Lasting.{listed-on}
use Rattle.protocol_laws.proofs.Standing.{map-StandsIn, IsMapped}
use Rattle.protocol_laws.proofs.EntriesAnswered.{held_at-on}
use Rattle.protocol_laws.proofs.ByTransaction.{keys, set-keys, remove-differ, added-differ, set_value-StandsIn, remove_entry-StandsIn, lookup-StandsIn}
use Rattle.protocol_laws.proofs.CaseParts.{put-shards, put-StandsIn}

-- all cases of a coordinator hold, and there is one of a transaction
pub record CasesHold (t : Moment) (c : Coordinator) : Type 0 where
  pub each : (txn : TxId) (case : Case) → StandsIn (txn, case) c.cases → CaseHolds t c.views txn case
  pub one : IsTrue (txns_differ (map (λ e. e.0) c.cases))

part-on : (t u : Moment) → Onward t u → (txn : TxId) (view : Option Membership) (entry : Option Preparation) (acks : List ℕ) → PartHolds t txn view entry acks → PartHolds u txn view entry acks
part-on t u onward txn view None acks p = p
part-on t u onward txn None (Some entry) acks p = absurd p
part-on t u onward txn (Some view) (Some entry) acks p = (listed-on t u view entry onward p.0, p.1, λ name s. held_at-on t u view.epoch name entry.slot txn onward (p.2 name s))

-- cases that hold go on to hold
pub cases-on : (t u : Moment) → Onward t u → (c : Coordinator) → CasesHold t c → CasesHold u c
cases-on t u onward c h = record {
  each = λ txn case s. let k : CaseHolds t c.views txn case = h.each txn case s in record { shards = k.shards; parts = λ p m. part-on t u onward txn (view_of c.views p.shard) p.entry p.acks (k.parts p m) };
  one = h.one;
}

asked-shards : (shards : List ℕ) → map (λ (p : Part). p.shard) (map asked shards) ≡ shards
asked-shards [] = refl
asked-shards (s ∷ ss) = ap (λ ks. s ∷ ks) (asked-shards ss)

-- a case as it begins
pub new_case-holds : (t : Moment) (views : List Membership) (txn : TxId) (shards : List ℕ) (payload : Option Accesses) → CaseHolds t views txn (new_case shards payload)
new_case-holds t views txn shards payload = record {
  shards = asked-shards shards;
  parts = λ p s. (let m : IsMapped asked shards p = map-StandsIn asked shards p s in subst (λ (q : Part). PartHolds t txn (view_of views q.shard) q.entry q.acks) (sym m.is) refl);
}

pub begins-holds : (t : Moment) (c : Coordinator) (txn : TxId) (case : Case) → CasesHold t c → CaseHolds t c.views txn case → (StandsIn txn (keys c.cases) → ⊥) → CasesHold t (begins c txn case)
begins-holds t c txn case h new none = record {
  each = λ k v s. (elim (StandsIn-append c.cases ((txn, case) ∷ []) (k, v) s) [
    | inl old ↦ h.each k v old
    | inr (inl e) ↦ subst (λ (q : TxId × Case). CaseHolds t c.views q.0 q.1) (sym e) new
    | inr (inr n) ↦ absurd n
  ]);
  one = subst (λ ts. txns_differ ts ≡ true) (sym (keys-added c.cases)) (added-differ (keys c.cases) txn h.one none);
}
  where
    keys-added : (es : List (TxId × Case)) → keys (es ++ (txn, case) ∷ []) ≡ keys es ++ txn ∷ []
    keys-added [] = refl
    keys-added (e ∷ es) = ap (λ ts. e.0 ∷ ts) (keys-added es)

-- cases hold after one of them went on
pub goes_on-holds : (t : Moment) (c : Coordinator) (txn : TxId) (case : Case) (sends : List Outgoing) (out : Out Coordinator) → CasesHold t c → CaseHolds t c.views txn case → GoesOn c txn case sends out → CasesHold t out.kept
goes_on-holds t c txn case sends out h new (Waiting w) = record {
  each = λ k v s. (elim (set_value-StandsIn txn c.cases case (k, v) s) [
    | inl old ↦ h.each k v old
    | inr e ↦ subst (λ (q : TxId × Case). CaseHolds t c.views q.0 q.1) (sym e) new
  ]);
  one = subst (λ ts. txns_differ ts ≡ true) (sym (set-keys txn c.cases case)) h.one;
}
goes_on-holds t c txn case sends out h new (Decides d) = record {
  each = λ k v s. h.each k v (remove_entry-StandsIn txn c.cases (k, v) s);
  one = remove-differ (same_txn txn) c.cases h.one;
}

-- a case with one part changed
with_part-holds : (t : Moment) (views : List Membership) (txn : TxId) (case : Case) (part : Part) → CaseHolds t views txn case → PartHolds t txn (view_of views part.shard) part.entry part.acks → CaseHolds t views txn (with_part case part)
with_part-holds t views txn case part h new = record {
  shards = put-shards part case.parts ∙ h.shards;
  parts = λ p s. (elim (put-StandsIn part case.parts p s) [
    | inl old ↦ h.parts p old
    | inr e ↦ subst (λ (q : Part). PartHolds t txn (view_of views q.shard) q.entry q.acks) (sym e) new
  ]);
}

-- a part that took a vote
voted-holds : (t : Moment) (txn : TxId) (view : Membership) (seen : Option Membership) (kept : Option Preparation) (acks : List ℕ) (entry : Preparation) → seen ≡ Some view → PartHolds t txn seen kept acks → (kept ≡ None → Listed t view entry) → entry.txn ≡ txn
    → PartHolds t txn seen (Some (first_entry kept entry)) acks
voted-holds t txn view seen None acks entry e p listed of = subst (λ (o : Option Membership). PartHolds t txn o (Some entry) acks) (sym e) (listed refl, of, λ name s. absurd (subst (λ xs. StandsIn name xs) p s))
voted-holds t txn view seen (Some kept) acks entry e p listed of = p

-- a part that took an acknowledgement
acknowledged-holds : (t : Moment) (txn : TxId) (view : Membership) (seen : Option Membership) (kept : Option Preparation) (acks : List ℕ) (from slot : ℕ) → seen ≡ Some view → PartHolds t txn seen kept acks → voted_at kept slot ≡ true → HeldAt t view.epoch from slot txn
    → PartHolds t txn seen kept (add_once acks from)
acknowledged-holds t txn view seen None acks from slot e p v held = absurd (cc v)
acknowledged-holds t txn view seen (Some kept) acks from slot e p v held = subst (λ (o : Option Membership). PartHolds t txn o (Some kept) (add_once acks from)) (sym e) (by (subst (λ (o : Option Membership). PartHolds t txn o (Some kept) acks) e p))
  where
    new : HeldAt t view.epoch from kept.slot txn
    new = subst (λ n. HeldAt t view.epoch from n txn) (sym (eqb-true kept.slot slot v)) held

    by : PartHolds t txn (Some view) (Some kept) acks → PartHolds t txn (Some view) (Some kept) (add_once acks from)
    by q = (q.0, q.1, λ name s. among name s (is_among acks from) refl)
      where
        joined : (name : ℕ) → StandsIn name (acks ++ from ∷ []) → HeldAt t view.epoch name kept.slot txn
        joined name s = elim (StandsIn-append acks (from ∷ []) name s) [
          | inl k ↦ q.2 name k
          | inr (inl k) ↦ subst (λ n. HeldAt t view.epoch n kept.slot txn) (sym k) new
          | inr (inr k) ↦ absurd k
        ]

        among : (name : ℕ) → StandsIn name (add_once acks from) → (b : Bool) → is_among acks from ≡ b → HeldAt t view.epoch name kept.slot txn
        among name s true f = q.2 name (subst (λ b. StandsIn name (cond b acks (acks ++ from ∷ []))) f s)
        among name s false f = joined name (subst (λ b. StandsIn name (cond b acks (acks ++ from ∷ []))) f s)

-- the part that an answer is about, and its view
record PartOpen (t : Moment) (c : Coordinator) (txn : TxId) (case : Case) (part : Part) (view : Membership) : Type 0 where
  case_holds : CaseHolds t c.views txn case
  part_holds : PartHolds t txn (view_of c.views part.shard) part.entry part.acks
  sees : view_of c.views part.shard ≡ Some view

part_open : (t : Moment) (c : Coordinator) (txn : TxId) (shard : ℕ) (case : Case) (part : Part) (view : Membership) → CasesHold t c → OpenPart c txn shard case part view → PartOpen t c txn case part view
part_open t c txn shard case part view h o =
    let k : CaseHolds t c.views txn case = h.each txn case (lookup-StandsIn txn c.cases case o.opened) in
    let f = find-StandsIn (λ (p : Part). p.shard == shard) case.parts part o.has in
    record { case_holds = k; part_holds = k.parts part f.0; sees = ap (λ s. view_of c.views s) (eqb-true part.shard shard f.1) ∙ o.sees }

-- an open case as a shard votes, and as a follower acknowledges
pub voted_case-holds : (t : Moment) (c : Coordinator) (shard : ℕ) (entry : Preparation) (case : Case) (part : Part) (view : Membership) → CasesHold t c → OpenPart c entry.txn shard case part view → (part.entry ≡ None → Listed t view entry)
    → CaseHolds t c.views entry.txn (with_part case (voted part entry))
voted_case-holds t c shard entry case part view h o listed =
    let p : PartOpen t c entry.txn case part view = part_open t c entry.txn shard case part view h o in
    with_part-holds t c.views entry.txn case (voted part entry) p.case_holds (voted-holds t entry.txn view (view_of c.views part.shard) part.entry part.acks entry p.sees p.part_holds listed refl)

pub acknowledged_case-holds : (t : Moment) (c : Coordinator) (from shard slot : ℕ) (txn : TxId) (case : Case) (part : Part) (view : Membership) → CasesHold t c → OpenPart c txn shard case part view → voted_at part.entry slot ≡ true → HeldAt t view.epoch from slot txn
    → CaseHolds t c.views txn (with_part case (acknowledged part from))
acknowledged_case-holds t c from shard slot txn case part view h o votes held =
    let p : PartOpen t c txn case part view = part_open t c txn shard case part view h o in
    with_part-holds t c.views txn case (acknowledged part from) p.case_holds (acknowledged-holds t txn view (view_of c.views part.shard) part.entry part.acks from slot p.sees p.part_holds votes held)

-- a view of another shard stays
view-other : (views : List Membership) (config : Membership) (shard : ℕ) → (shard == config.shard) ≡ false → view_of (replaced views config) shard ≡ view_of views shard
view-other [] config shard n = refl
view-other (v ∷ vs) config shard n = go (v.shard == config.shard) refl (view-other vs config shard n)
  where
    apart : (a : ℕ) → a ≡ config.shard → (a == shard) ≡ false
    apart a e = by (a == shard) refl
      where
        by : (b : Bool) → (a == shard) ≡ b → b ≡ false
        by true f = let k : (shard == config.shard) ≡ true = eq-eqb shard config.shard (sym (eqb-true a shard f) ∙ e) in absurd (cc (k, n))
        by false f = refl

    go : (b : Bool) → (v.shard == config.shard) ≡ b → view_of (replaced vs config) shard ≡ view_of vs shard → find (λ (w : Membership). w.shard == shard) (cond b config v ∷ replaced vs config) ≡ find (λ (w : Membership). w.shard == shard) (v ∷ vs)
    go true e ih = rw (apart config.shard refl, apart v.shard (eqb-true v.shard config.shard e)) ih
    go false e ih = ap (λ o. cond (v.shard == shard) (Some v) o) ih

again-shards : (shard : ℕ) (parts : List Part) → map (λ (p : Part). p.shard) (map (λ (p : Part). cond (p.shard == shard) (asked shard) p) parts) ≡ map (λ (p : Part). p.shard) parts
again-shards shard [] = refl
again-shards shard (p ∷ ps) = go (p.shard == shard) refl (again-shards shard ps)
  where
    go : (b : Bool) → (p.shard == shard) ≡ b → map (λ (q : Part). q.shard) (map (λ (q : Part). cond (q.shard == shard) (asked shard) q) ps) ≡ map (λ (q : Part). q.shard) ps
        → (cond b (asked shard) p).shard ∷ map (λ (q : Part). q.shard) (map (λ (q : Part). cond (q.shard == shard) (asked shard) q) ps) ≡ p.shard ∷ map (λ (q : Part). q.shard) ps
    go true e ih = ap₂ (λ (k : ℕ) (ks : List ℕ). k ∷ ks) (sym (eqb-true p.shard shard e)) ih
    go false e ih = ap (λ ks. p.shard ∷ ks) ih

-- a case whose shard is asked again, as its view is replaced
again-holds : (t : Moment) (views : List Membership) (config : Membership) (txn : TxId) (case : Case) → CaseHolds t views txn case → CaseHolds t (replaced views config) txn (ask_again config.shard case)
again-holds t views config txn case h = record {
  shards = again-shards config.shard case.parts ∙ h.shards;
  parts = λ p s. (let m : IsMapped (λ (q : Part). cond (q.shard == config.shard) (asked config.shard) q) case.parts p = map-StandsIn (λ (q : Part). cond (q.shard == config.shard) (asked config.shard) q) case.parts p s in
      by p m.from m.there (m.from.shard == config.shard) refl m.is);
}
  where
    by : (p q : Part) → StandsIn q case.parts → (b : Bool) → (q.shard == config.shard) ≡ b → p ≡ cond b (asked config.shard) q → PartHolds t txn (view_of (replaced views config) p.shard) p.entry p.acks
    by p q s true f e = subst (λ (r : Part). PartHolds t txn (view_of (replaced views config) r.shard) r.entry r.acks) (sym e) refl
    by p q s false f e = subst (λ (r : Part). PartHolds t txn (view_of (replaced views config) r.shard) r.entry r.acks) (sym e)
        (subst (λ (o : Option Membership). PartHolds t txn o q.entry q.acks) (sym (view-other views config q.shard f)) (h.parts q s))

-- cases hold after a view is replaced
pub change_view-holds : (t : Moment) (c : Coordinator) (config : Membership) → CasesHold t c → CasesHold t (change_view c config)
unfolding change_view
change_view-holds t c config h = record {
  each = λ k v s. (let m : IsMapped (λ (e : TxId × Case). (e.0, ask_again config.shard e.1)) c.cases (k, v) = map-StandsIn (λ (e : TxId × Case). (e.0, ask_again config.shard e.1)) c.cases (k, v) s in
      subst (λ (e : TxId × Case). CaseHolds t (replaced c.views config) e.0 e.1) (sym m.is) (again-holds t c.views config m.from.0 m.from.1 (h.each m.from.0 m.from.1 m.there)));
  one = subst (λ ts. txns_differ ts ≡ true) (sym (keys-same c.cases)) h.one;
}
  where
    keys-same : (es : List (TxId × Case)) → keys (map (λ (e : TxId × Case). (e.0, ask_again config.shard e.1)) es) ≡ keys es
    keys-same [] = refl
    keys-same (e ∷ es) = ap (λ ts. e.0 ∷ ts) (keys-same es)
