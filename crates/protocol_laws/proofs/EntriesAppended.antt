-- Each listed entry was appended by a leader, to rows that held what is listed below it, with a vote on those rows.
use Rattle.std.proofs.Common.{◌≡◌, ℕ, ◌+◌, ◌≤◌, ◌<◌, true, false, List, [], ◌∷◌, ◌++◌, map, ◌⊎◌, inl, inr, sym, ◌∙◌, ap, subst, refl, arith}
use Rattle.tcs_terms.specs.declared.ids.TxId.{TxId}
use Rattle.tcs_terms.specs.declared.inputs.Event.{Event}
use Rattle.tcs_terms.specs.declared.inputs.Note.{Note}
use Rattle.tcs_terms.specs.declared.inputs.Note.TheVariants.{Decide}
use Rattle.tcs_terms.specs.declared.logs.Mark.{Mark}
use Rattle.tcs_terms.specs.declared.logs.Mark.TheVariants.{Undecided, Committed, Aborted}
use Rattle.tcs_terms.specs.declared.logs.Row.{Row}
use Rattle.tcs_terms.specs.declared.votes.Decision.{Decision}
use Rattle.tcs_terms.specs.declared.votes.Decision.TheVariants.{Commit, Abort}
use Rattle.tcs_terms.specs.Places.{Membership}
use Rattle.tcs_terms.specs.Preparations.{Preparation}
use Rattle.tcs_terms.specs.Setups.{Deployment}
use Rattle.tcs_laws.specs.Certification.{Tests}
use Rattle.protocol.specs.Cases.{commits}
use Rattle.protocol.specs.Invariant.Configurations.{ConfigurationsHold}
use Rattle.protocol.specs.Invariant.Decisions.{IsBehind, RowHolds}
use Rattle.protocol.specs.Invariant.Entries.{MarkStands, Appended}
use Rattle.protocol.specs.Invariant.Logs.{entries_of, HasInitial, Listed}
use Rattle.protocol.specs.Invariant.Promises.{PromisesHold}
use Rattle.protocol.specs.Invariant.Time.{Moment, goes_to, StandsIn}
use Rattle.protocol.specs.Log.{last_slot, undecided, vote_on_part}
use Rattle.protocol.specs.Records.{NodeRecord}
use Rattle.protocol.specs.World.{Happening}
use Rattle.protocol_laws.specs.Turn.{Turn, Onward}
use Rattle.protocol_laws.proofs.Lasting.{one_node, is_in-now}
use Rattle.protocol_laws.proofs.EntriesListed.{LeadsHolding, LeadsFrom, LeaderNow, in_its_rows, leads_from, listed_how, appending_now}
use Rattle.protocol_laws.proofs.LogRows.{entry-upto_last, row-upto_last, row-none, joined-entries}
use Rattle.protocol_laws.proofs.TransferEnters.{Leading}
use Rattle.protocol_laws.proofs.TransferHeld.{Appending}
use Rattle.protocol_laws.proofs.TransferInitial.{no_initial}

-- a decision that has this sense
decided_commit : (history : List Note) (txn : TxId) (decision : Decision) → StandsIn (Decide txn decision) history → commits decision ≡ true → MarkStands history txn Committed
decided_commit history txn Commit s e = s
decided_commit history txn (Abort shard cause) s e = absurd (cc e)

decided_abort : (history : List Note) (txn : TxId) (decision : Decision) → StandsIn (Decide txn decision) history → commits decision ≡ false → MarkStands history txn Aborted
decided_abort history txn Commit s e = absurd (cc e)
decided_abort history txn (Abort shard cause) s e = (shard, cause, s)

-- behind each mark in a row stands a decision
mark_stands : (t : Moment) (shard epoch : ℕ) (r : Row) → RowHolds t shard epoch r → MarkStands t.now.history r.entry.txn r.mark
mark_stands t shard epoch r holds = by r.mark refl
  where
    by : (m : Mark) → r.mark ≡ m → MarkStands t.now.history r.entry.txn m
    by Undecided e = tt
    by Committed e = let b : IsBehind t shard epoch r.entry.slot r.entry.txn true = holds true e in decided_commit t.now.history r.entry.txn b.decision b.noted b.sense
    by Aborted e = let b : IsBehind t shard epoch r.entry.slot r.entry.txn false = holds false e in decided_abort t.now.history r.entry.txn b.decision b.noted b.sense

module _ (tests : Tests) (setup : Deployment) (t : Moment) (event : Event) (h : Happening) (turn : Turn tests setup t event h) (cu : ConfigurationsHold setup (goes_to t h.after)) (onward : Onward t (goes_to t h.after)) where
  abbrev u : Moment
  u = goes_to t h.after

  how : (c : Membership) (x : Preparation) → Listed u c x → Listed t c x ⊎ LeadsHolding t u c x ⊎ Appending tests t u c x
  how = listed_how tests setup t event h turn cu onward

  not_new : {A : Type 0} (c : Membership) → Leading t u c → HasInitial t c → A
  not_new c l i = absurd (no_initial tests setup t event h turn c l i)

  -- the leader that appends is in its epoch before it does
  abbrev appends_from : (c : Membership) (x : Preparation) → Appending tests t u c x → LeaderNow t c
  appends_from c x a = record { node = a.node; is = a.is; named = sym a.leader; state = sym a.of.epoch }

  appends_in : (c : Membership) (x : Preparation) → Appending tests t u c x → HasInitial t c
  appends_in c x a = turn.before.transfer.led c a.stored (record { node = a.node; was = is_in-now t c.epoch c.leader a.node a.is (sym a.leader) (sym a.of.epoch); some = a.some })

  -- an entry that is appended now is above those that were listed
  appended_above : (c : Membership) (x y : Preparation) → Listed t c x → Appending tests t u c y → x.slot < y.slot
  appended_above c x y l a =
      let low : x.slot ≤ last_slot a.node.rows = entry-upto_last a.node.rows (turn.before.promises.rows a.node a.is) x (in_its_rows t c x turn.before.promises (appends_from c y a) l) in
      let slot : y.slot ≡ last_slot a.node.rows + 1 = ap (λ (p : Preparation). p.slot) a.entry in
      omega (arith, low, slot)

  -- an entry that was appended still is, where the list of the configuration came from one in which it was appended
  carried : (d c : Membership) (x : Preparation) → d.shard ≡ c.shard → (a : Appended tests t d x) → ((y : Preparation) → Listed u c y → y.slot < x.slot → StandsIn y (map (λ (r : Row). r.entry) a.node.rows)) → Appended tests u c x
  carried d c x shard a above = record {
    later = h.after ∷ a.later;
    after = a.after;
    before = a.before;
    earlier = a.earlier;
    moments = ap (λ ws. h.after ∷ ws) a.moments;
    node = a.node;
    there = a.there;
    shard = a.shard ∙ shard;
    config = a.config;
    leads = a.leads;
    grown = a.grown;
    grown_there = a.grown_there;
    grown_name = a.grown_name;
    grown_rows = a.grown_rows;
    vote = a.vote;
    above = above;
    new = a.new;
    marks = a.marks;
  }

  still_appended : (c : Membership) (x : Preparation) → Listed t c x → Appended tests t c x → Appended tests u c x
  still_appended c x l a = carried c c x refl a (λ y k lower. above y lower (how c y k))
    where
      above : (y : Preparation) → y.slot < x.slot → Listed t c y ⊎ LeadsHolding t u c y ⊎ Appending tests t u c y → StandsIn y (map (λ (r : Row). r.entry) a.node.rows)
      above y lower (inl k) = a.above y k lower
      above y lower (inr (inl k)) = not_new c k.leading l.initial
      above y lower (inr (inr k)) = absurd (let up : x.slot < y.slot = appended_above c x y l k in omega (arith, up, lower))

  -- a new leader's entries were appended in the list that they come from
  inherited : (c : Membership) (x : Preparation) (l : LeadsHolding t u c x) (f : LeadsFrom t u c l.leading) → Appended tests t f.earlier x → Appended tests u c x
  inherited c x l f a = carried f.earlier c x f.shard a (λ y k lower. above y lower (how c y k))
    where
      above : (y : Preparation) → y.slot < x.slot → Listed t c y ⊎ LeadsHolding t u c y ⊎ Appending tests t u c y → StandsIn y (map (λ (r : Row). r.entry) a.node.rows)
      above y lower (inl k) = not_new c l.leading k.initial
      above y lower (inr (inl k)) =
          let same : k.leading.node ≡ l.leading.node = one_node setup t k.leading.node l.leading.node turn.before.configurations k.leading.is l.leading.is (sym k.leading.leader ∙ l.leading.leader) in
          a.above y (f.listed y (subst (λ (n : NodeRecord). StandsIn y (entries_of n.rows)) same k.holds)) lower
      above y lower (inr (inr k)) = not_new c l.leading (appends_in c y k)

  -- this event appends the entry
  appends : PromisesHold u → (c : Membership) (x : Preparation) (a : Appending tests t u c x) → Appended tests u c x
  appends pu c x a = record {
    later = [];
    after = h.after;
    before = t.now;
    earlier = t.before;
    moments = refl;
    node = a.node;
    there = a.is;
    shard = sym a.of.shard;
    config = c;
    leads = a.leads;
    grown = record a.node { rows = a.node.rows ++ undecided x ∷ [] };
    grown_there = a.there;
    grown_name = refl;
    grown_rows = refl;
    vote = ap (λ (p : Preparation). p.vote) a.entry ∙ ap (λ o. vote_on_part tests a.node.rows o) (sym (ap (λ (p : Preparation). p.payload) a.entry));
    above = λ y k lower. above y lower (joined-entries a.node.rows (undecided x ∷ []) y (in_its_rows u c y pu (appending_now tests setup t event h turn cu onward c x a) k));
    new = λ r s. (
        let low : r.entry.slot ≤ last_slot a.node.rows = row-upto_last a.node.rows (turn.before.promises.rows a.node a.is) r s in
        let slot : x.slot ≡ last_slot a.node.rows + 1 = ap (λ (p : Preparation). p.slot) a.entry in
        (omega (arith, low, slot), λ e. row-none a.node.rows a.txn a.none r s (e ∙ ap (λ (p : Preparation). p.txn) a.entry)));
    marks = λ r s. mark_stands t a.node.shard a.node.state r (turn.before.decisions.rows a.node r a.is s);
  }
    where
      above : (y : Preparation) → y.slot < x.slot → StandsIn y (entries_of a.node.rows) ⊎ StandsIn y (x ∷ []) → StandsIn y (map (λ (r : Row). r.entry) a.node.rows)
      above y lower (inl s) = s
      above y lower (inr (inl e)) = absurd (let same : y.slot ≡ x.slot = ap (λ (p : Preparation). p.slot) e in omega (arith, same, lower))
      above y lower (inr (inr s)) = absurd s

  pub appended_then : PromisesHold u → (c : Membership) (x : Preparation) → Listed u c x → Appended tests u c x
  appended_then pu c x l = by (how c x l)
    where
      by : Listed t c x ⊎ LeadsHolding t u c x ⊎ Appending tests t u c x → Appended tests u c x
      by (inl k) = still_appended c x k (turn.before.entries.appended c x k)
      by (inr (inl k)) =
          let f : LeadsFrom t u c k.leading = leads_from tests setup t event h turn cu onward c k.leading in
          inherited c x k f (turn.before.entries.appended f.earlier x (f.listed x k.holds))
      by (inr (inr a)) = appends pu c x a
