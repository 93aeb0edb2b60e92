-- A node of a counter's shard that has each committed addition to it marked has as much of it as the order comes to.
use Rattle.std.proofs.Common.{◌≡◌, ◌⊎◌, ℕ, ◌+◌, ◌<◌, ◌≤◌, Bool, true, false, cond, List, [], ◌∷◌, find, filter, length, refl, sym, ap, ◌∙◌, subst, inl, inr, arith}
use Rattle.std.specs.Prelude.{Option, Some, None, is_some, ◌==◌}
use Rattle.std.specs.Cmp.Lexicographic.{same_text}
use Rattle.std.specs.List.{list_all, list_any, range_with_len}
use Rattle.std.specs.Option.{option_map, unwrap_or}
use Rattle.std.proofs.lemmas.Bool.{cases_Bool, cond-true, cond-false, eqb-true}
use Rattle.std.proofs.Math.Nat.{eq-or-lt_of_le}
use Rattle.tcs_terms.specs.declared.ids.TxId.{TxId}
use Rattle.tcs_terms.specs.declared.logs.Mark.{Mark}
use Rattle.tcs_terms.specs.declared.logs.Mark.TheVariants.{Committed}
use Rattle.tcs_terms.specs.declared.logs.Row.{Row}
use Rattle.tcs_terms.specs.declared.payloads.ReadPart.{ReadPart}
use Rattle.tcs_terms.specs.declared.payloads.WritePart.{WritePart}
use Rattle.tcs_terms.specs.Payloads.{Accesses, IsPayload, reads_name, same_name}
use Rattle.tcs_terms.specs.Places.{Membership}
use Rattle.tcs_terms.specs.Preparations.{Preparation}
use Rattle.tcs_terms.specs.declared.inputs.Event.{Event}
use Rattle.tcs_terms.specs.Runs.{AreEventsOf}
use Rattle.tcs_terms.specs.Setups.{Deployment}
use Rattle.tcs_terms.specs.Shards.{lies_in, part_in, shard_of, shards_of}
use Rattle.tcs_laws.specs.Certification.{Tests}
use Rattle.tcs_laws.proofs.PartLemmas.{shard_within}
use Rattle.cert_commute.specs.Commute.{is_counter}
use Rattle.protocol.specs.History.{order_of, payload_in}
use Rattle.protocol.specs.Invariant.{InvariantHolds}
use Rattle.protocol.specs.Invariant.Decisions.{IsAcceptedIn}
use Rattle.protocol.specs.Invariant.Logs.{Accepted, HasInitial, Held, Listed}
use Rattle.protocol.specs.Invariant.Time.{Moment, StandsIn, WasIn, time_after}
use Rattle.protocol.specs.Limit.Progress.{Live}
use Rattle.protocol.specs.Records.{NodeRecord}
use Rattle.protocol.specs.World.{World}
use Rattle.protocol_laws.specs.Promises.{KeepsItsPromises}
use Rattle.protocol_laws.specs.Told.{ToldRightly}
use Rattle.protocol_laws.proofs.CausesNow.{HaveFormed}
use Rattle.protocol_laws.proofs.DecidedEntries.{committed-entry}
use Rattle.protocol_laws.proofs.HistoryAt.{formed_at, remembers_at}
use Rattle.protocol_laws.proofs.OneEntry.{accepted-listed, one_entry}
use Rattle.protocol_laws.proofs.OrderOf.{order-noted}
use Rattle.protocol_laws.proofs.PartsOf.{shard-part}
use Rattle.protocol_laws.proofs.PastKept.{PastHolds}
use Rattle.protocol_laws.proofs.PromisesOrder.{rows-in_order}
use Rattle.protocol_laws.proofs.Standing.{StandsIn-filter, StandsIn-map, StandsIn-range, any-Passing, any-from}
use Rattle.protocol_laws.proofs.Stored.{leads_member, one_config}
use Rattle.tcs_terms.proofs.BoolLaws.{left_of, right_of}
use Rattle.counters.specs.Amounts.{added_by, amount, amount_of, node_total, payload_marked}
use Rattle.counters.specs.Histories.{total}
use Rattle.counters.proofs.CommittedRows.{payload_at}
use Rattle.counter_laws.specs.Marked.{HasEach}
use Rattle.counter_laws.proofs.Covered.{Has, covered, firsts_apart}
use Rattle.counter_laws.proofs.NodeTotals.{node_within}
use Rattle.counter_laws.proofs.PartAmounts.{part_adds_same}
use Rattle.counter_laws.proofs.SumsWithin.{worth}

-- ---- the shard of a counter that a payload writes

find_there : (p : WritePart → Bool) (ws : List WritePart) (w : WritePart) → find p ws ≡ Some w → StandsIn w ws × (p w ≡ true)
find_there p [] w found = absurd (let no : None ≡ Some w = found in cc)
find_there p (v ∷ vs) w found = elim (cases_Bool (p v)) [
  | inl here ↦ (let is : Some v ≡ Some w = sym (cond-true (p v) (Some v) (find p vs) here) ∙ found in
      let e : v ≡ w = cc in (inl (sym e), subst (λ (x : WritePart). p x ≡ true) e here))
  | inr past ↦ (let r = find_there p vs w (sym (cond-false (p v) (Some v) (find p vs) past) ∙ found) in (inr r.0, r.1))
]

each_of : (p : WritePart → Bool) (ws : List WritePart) (w : WritePart) → list_all p ws ≡ true → StandsIn w ws → p w ≡ true
each_of p [] w all there = absurd there
each_of p (v ∷ vs) w all (inl e) = subst (λ (x : WritePart). p x ≡ true) (sym e) (left_of (p v) (list_all p vs) all)
each_of p (v ∷ vs) w all (inr s) = each_of p vs w (right_of (p v) (list_all p vs) all) s

in_shards : (n shard : ℕ) (p : Accesses) (name : List ℕ) (w : WritePart) → 1 ≤ n → IsPayload p → lies_in n shard name ≡ true → find (λ v. same_name v.name name) p.writes ≡ Some w
    → StandsIn shard (shards_of n p)
in_shards n shard p name w some is lies found =
    let f = find_there (λ v. same_name v.name name) p.writes w found in
    let read : reads_name p.reads w.name ≡ true = each_of (λ v. reads_name p.reads v.name) p.writes w is.writes_read f.0 in
    let named : reads_name p.reads name ≡ true = subst (λ x. reads_name p.reads x ≡ true) (same_text w.name name (sym f.1)) read in
    let one = any-Passing (λ r. same_name r.name name) p.reads named in
    let here : lies_in n shard one.one.name ≡ true = subst (λ x. lies_in n shard x ≡ true) (sym (same_text one.one.name name (sym one.passes))) lies in
    let any = any-from (λ (r : ReadPart). lies_in n shard r.name) p.reads one.one one.there here in
    go (length p.ranges == 0) (StandsIn-filter (λ s. list_any (λ r. lies_in n s r.name) p.reads) (range_with_len 1 n) shard all any)
  where
    within : (1 ≤ shard) × (shard < 1 + n)
    within = subst (λ k. (1 ≤ k) × (k < 1 + n)) (eqb-true (shard_of name n) shard lies) (shard_within name n some)

    all : StandsIn shard (range_with_len 1 n)
    all = StandsIn-range 1 n shard within.0 within.1

    go : (b : Bool) → StandsIn shard (filter (λ s. list_any (λ r. lies_in n s r.name) p.reads) (range_with_len 1 n))
        → StandsIn shard (cond b (filter (λ s. list_any (λ r. lies_in n s r.name) p.reads) (range_with_len 1 n)) (range_with_len 1 n))
    go true s = s
    go false s = all

-- ---- what is marked is accepted

module _ (tests : Tests) (setup : Deployment) (t : Moment) (i : InvariantHolds tests setup t) where
  -- an accepted entry is listed from then on
  accepted_until : (c d : Membership) (x : Preparation) → Accepted t c x → HasInitial t d → c.shard ≡ d.shard → c.epoch ≤ d.epoch → Listed t d x
  accepted_until c d x a h s l = go (eq-or-lt_of_le l) where
    go : (c.epoch ≡ d.epoch) ⊎ (c.epoch < d.epoch) → Listed t d x
    go (inl e) = subst (λ k. Listed t k x) (one_config setup t c d i.configurations a.stored h.1.stored s e) (accepted-listed tests setup t c x i a)
    go (inr m) =
        let on = i.transfer.handed_on d c h.0 h.1 a.stored s m in
        let initial = on.inside x (a.held on.node.name on.member) in
        let reached = i.transfer.leader_reached d h in
        record { initial = h; held = i.transfer.at_least d d.leader h.0 x h.1 (leads_member setup t i.configurations d h.1.stored) reached initial }

  marked_accepted : (node : NodeRecord) (r : Row) → StandsIn node t.now.nodes → StandsIn r node.rows → r.mark ≡ Committed → IsAcceptedIn t r.entry.txn node.shard r.entry
  marked_accepted node r there row marked =
      let b = i.decisions.rows node r there row true marked in
      let lead = b.accepted.held b.config.leader (leads_member setup t i.configurations b.config b.accepted.stored) in
      let some : 1 ≤ node.state = omega (arith, lead.some, b.until) in
      let m = i.promises.members node there some in
      let was : WasIn t m.config.epoch node.name node = record { moment = t.now; past = inl refl; there = there; named = refl; in_epoch = sym m.epoch } in
      let held : Held t m.config.epoch node.name r.entry =
      record { node = node; was = was; some = omega (arith, some, m.epoch); holds = StandsIn-map (λ (x : Row). x.entry) node.rows r row } in
      let listed = i.transfer.at_most m.config node.name r.entry m.stored m.member held in
      let other = accepted_until b.config m.config b.entry b.accepted listed.initial (b.of_shard ∙ sym m.shard) (omega (arith, b.until, m.epoch)) in
      let same : r.entry ≡ b.entry = i.entries.txns m.config r.entry b.entry listed other (sym b.of_txn) in
      record { config = b.config; of_shard = b.of_shard; accepted = subst (Accepted t b.config) (sym same) b.accepted; of_txn = refl }

  module _ (past : PastHolds setup t) (formed : HaveFormed t.now.history) (some : 1 ≤ setup.shards) where
    -- the payload of such a row is the part of its transaction's
    row_part : (node : NodeRecord) (r : Row) (p : Accesses) → StandsIn node t.now.nodes → StandsIn r node.rows → r.mark ≡ Committed → payload_in t.now.history r.entry.txn ≡ Some p
        → StandsIn r.entry.txn (order_of t.now.history) → StandsIn node.shard (shards_of setup.shards p) → r.entry.payload ≡ Some (part_in setup.shards node.shard p)
    row_part node r p there row marked is ordered shard =
        let c = committed-entry tests setup t r.entry.txn p node.shard i past is (order-noted t.now.history r.entry.txn ordered) shard in
        let one : r.entry ≡ c.entry = one_entry tests setup t r.entry.txn node.shard r.entry c.entry i (marked_accepted node r there row marked) c.accepted in
        ap (λ (x : Preparation). x.payload) one ∙ c.payload ∙ shard-part setup.shards node.shard p shard

    module _ (node : NodeRecord) (there : StandsIn node t.now.nodes) (name : List ℕ) (lies : lies_in setup.shards node.shard name ≡ true) (each : HasEach t.now.history node.rows name) where
      has_row : (txn : TxId) (p : Accesses) (w : WritePart) → StandsIn txn (order_of t.now.history) → payload_in t.now.history txn ≡ Some p → find (λ v. same_name v.name name) p.writes ≡ Some w
          → is_some (added_by p.writes name) ≡ true → Has name t.now.history node.rows txn
      has_row txn p w ordered is found adds =
          let e = each txn p ordered is adds in
          let r = e.0 in
          let same : r.entry.txn ≡ txn = e.2 in
          let begun : payload_in t.now.history r.entry.txn ≡ Some p = ap (payload_in t.now.history) same ∙ is in
          let first : StandsIn r.entry.txn (order_of t.now.history) = subst (λ x. StandsIn x (order_of t.now.history)) (sym same) ordered in
          let part = row_part node r p there e.1 e.3 begun first (in_shards setup.shards node.shard p name w some (formed txn p is) lies found) in
          let has : payload_at r ≡ Some (part_in setup.shards node.shard p) = ap (λ (m : Mark). payload_marked m r.entry.payload) e.3 ∙ part in
          let whole : worth name (payload_in t.now.history txn) ≡ amount p name = ap (worth name) is in
          let equal = part_adds_same setup.shards node.shard name p lies in
          inr (record { row = r; payload = part_in setup.shards node.shard p; there = e.1; has = has; of_txn = same; adds = omega (arith, whole, equal) })

      has : (txn : TxId) → StandsIn txn (order_of t.now.history) → Has name t.now.history node.rows txn
      has txn ordered = of_payload (payload_in t.now.history txn) refl where
        of_write : (p : Accesses) (b : Bool) (o : Option WritePart) → payload_in t.now.history txn ≡ Some p → is_counter name ≡ b → find (λ v. same_name v.name name) p.writes ≡ o → Has name t.now.history node.rows txn
        of_write p false o is counter found =
            inl (ap (worth name) is ∙ ap (λ c. unwrap_or (cond c (option_map (λ (w : WritePart). amount_of w.value) (find (λ v. same_name v.name name) p.writes)) None) 0) counter)
        of_write p true None is counter found =
            inl (ap (worth name) is ∙ ap (λ c. unwrap_or (cond c (option_map (λ (w : WritePart). amount_of w.value) (find (λ v. same_name v.name name) p.writes)) None) 0) counter
            ∙ ap (λ o. unwrap_or (option_map (λ (w : WritePart). amount_of w.value) o) 0) found)
        of_write p true (Some w) is counter found =
            has_row txn p w ordered is found
            (ap (λ c. is_some (cond c (option_map (λ (w : WritePart). amount_of w.value) (find (λ v. same_name v.name name) p.writes)) None)) counter
            ∙ ap (λ o. is_some (option_map (λ (w : WritePart). amount_of w.value) o)) found)

        of_payload : (o : Option Accesses) → payload_in t.now.history txn ≡ o → Has name t.now.history node.rows txn
        of_payload None is = inl (ap (worth name) is)
        of_payload (Some p) is = of_write p (is_counter name) (find (λ v. same_name v.name name) p.writes) is refl refl

      pub has_all : total t.now.history name ≤ node_total node.rows name
      has_all = covered name t.now.history node.rows (order_of t.now.history) (rows-in_order node.rows (i.promises.rows node there)) (firsts_apart _) has

-- at the end of a run
pub has_as_much : (tests : Tests) (setup : Deployment) (events : List Event) (w : World) (count bytes : ℕ) → KeepsItsPromises tests setup events (Live w count bytes) → AreEventsOf setup events
    → (node : NodeRecord) → StandsIn node w.nodes → (name : List ℕ) → lies_in setup.shards node.shard name ≡ true → HasEach w.history node.rows name → node_total node.rows name ≡ total w.history name
has_as_much tests setup events w count bytes kept are =
    let t = time_after tests setup events in
    let holds = kept.invariant.holds in
    let past = (remembers_at tests setup events are).past in
    let formed = formed_at tests setup events are in
    let told = subst ToldRightly (sym kept.invariant.now) kept.told in
    subst (λ (x : World). (node : NodeRecord) → StandsIn node x.nodes → (name : List ℕ) → lies_in setup.shards node.shard name ≡ true → HasEach x.history node.rows name → node_total node.rows name ≡ total x.history name)
    kept.invariant.now
    (λ node there name lies each.
    let less = node_within setup t holds.transactions holds.promises told node there name in
    let more = has_all tests setup t holds past formed are.deployment.some_shards node there name lies each in
    omega (arith, less, more))
