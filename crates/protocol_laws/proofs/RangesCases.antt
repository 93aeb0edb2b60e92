-- What a node coordinates with stays in range: its views, and its cases as they begin, go on and are asked again.
use Rattle.std.proofs.Common.{◌≡◌, ℕ, ◌≤◌, Bool, true, false, cond, ◌==◌, IsTrue, List, [], ◌∷◌, map, length, Option, Some, None, inl, inr, sym, ◌∙◌, ap, ap₂, subst, refl, eqb-true}
use Rattle.std.specs.Prelude.{IfSome}
use Rattle.std.specs.List.{range_with_len}
use Rattle.std.proofs.lemmas.List.{length-map}
use Rattle.std.proofs.lemmas.List.Elements.{All-push}
use Rattle.tcs_terms.specs.declared.ids.TxId.{TxId}
use Rattle.tcs_terms.specs.declared.limits.TheConstants.{MAX_SHARDS}
use Rattle.tcs_terms.specs.declared.messages.Outgoing.{Outgoing}
use Rattle.tcs_terms.specs.Messages.{is_txn, IsEntry}
use Rattle.tcs_terms.specs.Payloads.{Accesses, IsPayload}
use Rattle.tcs_terms.specs.Places.{Membership, IsMembership, IsShardSet, is_shard}
use Rattle.tcs_terms.specs.Preparations.{Preparation}
use Rattle.protocol.specs.Cases.{asked, new_case}
use Rattle.protocol.specs.Coordination.{begins, with_part, first_entry, voted, acknowledged, ask_again, change_view}
use Rattle.protocol.specs.Outcomes.{Out}
use Rattle.protocol.specs.Records.{Part, Case, Coordinator}
use Rattle.protocol.specs.Views.{view_of, replaced}
use Rattle.protocol.specs.Invariant.Time.{StandsIn}
use Rattle.protocol.proofs.Lists.{all-StandsIn, find-StandsIn}
use Rattle.protocol_laws.specs.Effect.{OpenPart, GoesOn}
use Rattle.protocol_laws.specs.Effect.GoesOn.{Waiting, Decides}
use Rattle.protocol_laws.specs.Ranges.{AreViews, IsPartInRange, IsCaseInRange, IsCoordinatorInRange}
use Rattle.protocol_laws.proofs.AllOf.{all-at, all-of}
use Rattle.protocol_laws.proofs.ByTransaction.{set_value-StandsIn, remove_entry-StandsIn, lookup-StandsIn}
use Rattle.protocol_laws.proofs.CaseParts.{IsPartOf, part_is, put-StandsIn}
use Rattle.protocol_laws.proofs.Standing.{map-StandsIn, IsMapped}

abbrev IsOpenCase : TxId × Case → Type 0
IsOpenCase e = IsCaseInRange e.0 e.1

-- the view of a shard is a configuration
pub view-in_range : (views : List Membership) (shard : ℕ) (v : Membership) → AreViews views → view_of views shard ≡ Some v → IsMembership v
view-in_range views shard v k e = all-at IsMembership views k.configs v (find-StandsIn (λ (c : Membership). c.shard == shard) views v e).0

pub case-in_range : (c : Coordinator) (txn : TxId) (case : Case) → IsCoordinatorInRange c → StandsIn (txn, case) c.cases → IsCaseInRange txn case
case-in_range c txn case k s = all-at IsOpenCase c.cases k.cases (txn, case) s

pub asked-in_range : (shard : ℕ) → IsTrue (is_shard shard) → IsPartInRange (asked shard)
asked-in_range shard h = record { shard = h; entry = tt }

-- a case as it begins
pub new_case-in_range : (txn : TxId) (shards : List ℕ) (payload : Option Accesses) → IsTrue (is_txn txn) → IsShardSet shards → IfSome payload IsPayload → IsCaseInRange txn (new_case shards payload)
new_case-in_range txn shards payload t s p = record {
  txn = t;
  shards = s;
  payload = p;
  parts = all-of IsPartInRange (map asked shards) (λ q m. (let i : IsMapped asked shards q = map-StandsIn asked shards q m in
      subst IsPartInRange (sym i.is) (asked-in_range i.from (all-StandsIn is_shard shards i.from s.each i.there))));
}

pub begins-in_range : (c : Coordinator) (txn : TxId) (case : Case) → IsCoordinatorInRange c → IsCaseInRange txn case → IsCoordinatorInRange (begins c txn case)
begins-in_range c txn case k new = record { views = k.views; cases = All-push IsOpenCase c.cases (txn, case) k.cases new }

pub goes_on-in_range : (c : Coordinator) (txn : TxId) (case : Case) (sends : List Outgoing) (out : Out Coordinator) → GoesOn c txn case sends out → IsCoordinatorInRange c → IsCaseInRange txn case → IsCoordinatorInRange out.kept
goes_on-in_range c txn case sends _ (Waiting w) k new = record {
  views = k.views;
  cases = all-of IsOpenCase _ (λ e s. (elim (set_value-StandsIn txn c.cases case e s) [ inl old ↦ all-at IsOpenCase c.cases k.cases e old | inr is ↦ subst IsOpenCase (sym is) new ]));
}
goes_on-in_range c txn case sends _ (Decides d) k new = record {
  views = k.views;
  cases = all-of IsOpenCase _ (λ e s. all-at IsOpenCase c.cases k.cases e (remove_entry-StandsIn txn c.cases e s));
}

-- a case with one part changed
with_part-in_range : (txn : TxId) (case : Case) (part : Part) → IsCaseInRange txn case → IsPartInRange part → IsCaseInRange txn (with_part case part)
with_part-in_range txn case part k new = record {
  txn = k.txn;
  shards = k.shards;
  payload = k.payload;
  parts = all-of IsPartInRange _ (λ p s. (elim (put-StandsIn part case.parts p s) [ inl old ↦ all-at IsPartInRange case.parts k.parts p old | inr is ↦ subst IsPartInRange (sym is) new ]));
}

-- the case and the part that an answer is about
pub record IsOpenInRange (txn : TxId) (opened : Case) (asked_part : Part) (seen : Membership) : Type 0 where
  pub case : IsCaseInRange txn opened
  pub part : IsPartInRange asked_part
  pub view : IsMembership seen

pub open-in_range : (c : Coordinator) (txn : TxId) (shard : ℕ) (case : Case) (part : Part) (view : Membership) → IsCoordinatorInRange c → OpenPart c txn shard case part view → IsOpenInRange txn case part view
open-in_range c txn shard case part view k o =
    let at : IsCaseInRange txn case = case-in_range c txn case k (lookup-StandsIn txn c.cases case o.opened) in
    let is : IsPartOf case.parts shard part = part_is case.parts shard part o.has in
    record { case = at; part = all-at IsPartInRange case.parts at.parts part is.among; view = view-in_range c.views shard view k.views o.sees }

pub first_entry-in_range : (kept : Option Preparation) (entry : Preparation) → IfSome kept IsEntry → IsEntry entry → IsEntry (first_entry kept entry)
first_entry-in_range None entry k new = new
first_entry-in_range (Some x) entry k new = k

-- a case in which a shard voted, or acknowledged
pub voted-in_range : (txn : TxId) (case : Case) (part : Part) (entry : Preparation) → IsCaseInRange txn case → IsPartInRange part → IsEntry entry → IsCaseInRange txn (with_part case (voted part entry))
voted-in_range txn case part entry k p e = with_part-in_range txn case (voted part entry) k (record { shard = p.shard; entry = first_entry-in_range part.entry entry p.entry e })

pub acknowledged-in_range : (txn : TxId) (case : Case) (part : Part) (from : ℕ) → IsCaseInRange txn case → IsPartInRange part → IsCaseInRange txn (with_part case (acknowledged part from))
acknowledged-in_range txn case part from k p = with_part-in_range txn case (acknowledged part from) k (record { shard = p.shard; entry = p.entry })

-- ---- a view is replaced

replaced-shards : (views : List Membership) (config : Membership) → map (λ (v : Membership). v.shard) (replaced views config) ≡ map (λ (v : Membership). v.shard) views
replaced-shards [] config = refl
replaced-shards (v ∷ vs) config = go (v.shard == config.shard) refl (replaced-shards vs config)
  where
    go : (b : Bool) → (v.shard == config.shard) ≡ b → map (λ (w : Membership). w.shard) (replaced vs config) ≡ map (λ (w : Membership). w.shard) vs
        → (cond b config v).shard ∷ map (λ (w : Membership). w.shard) (replaced vs config) ≡ v.shard ∷ map (λ (w : Membership). w.shard) vs
    go true e ih = ap₂ (λ (k : ℕ) (ks : List ℕ). k ∷ ks) (sym (eqb-true v.shard config.shard e)) ih
    go false e ih = ap (λ ks. v.shard ∷ ks) ih

either : (b : Bool) (x y : Membership) → IsMembership x → IsMembership y → IsMembership (cond b x y)
either true x y p q = p
either false x y p q = q

replaced-in_range : (views : List Membership) (config : Membership) → AreViews views → IsMembership config → AreViews (replaced views config)
replaced-in_range views config k new =
    let size : length (replaced views config) ≡ length views = length-map views (λ (v : Membership). cond (v.shard == config.shard) config v) in
    record {
      some = subst (λ n. 1 ≤ n) (sym size) k.some;
      few = subst (λ n. n ≤ MAX_SHARDS) (sym size) k.few;
      in_order = replaced-shards views config ∙ k.in_order ∙ ap (range_with_len 1) (sym size);
      configs = all-of IsMembership _ (λ v s. (let m : IsMapped (λ (w : Membership). cond (w.shard == config.shard) config w) views v = map-StandsIn (λ (w : Membership). cond (w.shard == config.shard) config w) views v s in
          subst IsMembership (sym m.is) (either (m.from.shard == config.shard) config m.from new (all-at IsMembership views k.configs m.from m.there))));
    }

ask_again-in_range : (txn : TxId) (case : Case) (config : Membership) → IsMembership config → IsCaseInRange txn case → IsCaseInRange txn (ask_again config.shard case)
ask_again-in_range txn case config c k = record {
  txn = k.txn;
  shards = k.shards;
  payload = k.payload;
  parts = all-of IsPartInRange _ (λ p s. (let m : IsMapped (λ (q : Part). cond (q.shard == config.shard) (asked config.shard) q) case.parts p = map-StandsIn (λ (q : Part). cond (q.shard == config.shard) (asked config.shard) q) case.parts p s in
      subst IsPartInRange (sym m.is) (go (m.from.shard == config.shard) m.from (all-at IsPartInRange case.parts k.parts m.from m.there))));
}
  where
    go : (b : Bool) (q : Part) → IsPartInRange q → IsPartInRange (cond b (asked config.shard) q)
    go true q h = asked-in_range config.shard c.shard
    go false q h = h

pub change_view-in_range : (c : Coordinator) (config : Membership) → IsCoordinatorInRange c → IsMembership config → IsCoordinatorInRange (change_view c config)
unfolding change_view
change_view-in_range c config k new = record {
  views = replaced-in_range c.views config k.views new;
  cases = all-of IsOpenCase _ (λ e s. (let m : IsMapped (λ (x : TxId × Case). (x.0, ask_again config.shard x.1)) c.cases e = map-StandsIn (λ (x : TxId × Case). (x.0, ask_again config.shard x.1)) c.cases e s in
      subst IsOpenCase (sym m.is) (ask_again-in_range m.from.0 m.from.1 config new (all-at IsOpenCase c.cases k.cases m.from m.there))));
}
