-- What is known of a generated world while its run goes on: leaders are nodes, transactions in rows are the setup's, and
-- what was read has a version that some payload had.
use Rattle.std.proofs.Common.{◌≡◌, ℕ, ◌≤◌, nat_le, Bool, true, false, cond, ◌&&◌, List, [], ◌∷◌, ◌++◌, Some, None, ◌⊎◌, inl, inr, refl, sym, subst, ap, arith}
use Rattle.cert_serial.specs.Serial.{serial}
use Rattle.tcs_terms.proofs.BoolLaws.{both, left_of, right_of}
use Rattle.tcs_terms.specs.declared.ids.TxId.{TxId}
use Rattle.tcs_terms.specs.declared.inputs.Event.{Event}
use Rattle.tcs_terms.specs.declared.inputs.Note.{Note}
use Rattle.tcs_terms.specs.declared.inputs.Note.TheVariants as notes
use Rattle.tcs_terms.specs.declared.limits.TheConstants.{MAX_SEQUENCE}
use Rattle.tcs_terms.specs.declared.logs.Row.{Row}
use Rattle.tcs_terms.specs.Events.{may_be_of}
use Rattle.tcs_terms.specs.Logs.{same_txn}
use Rattle.tcs_terms.specs.Payloads.{Accesses}
use Rattle.tcs_terms.specs.Places.{Membership, is_node}
use Rattle.tcs_terms.specs.Runs.{AreEventsOf}
use Rattle.tcs_terms.specs.Setups.{has_node, is_node_of}
use Rattle.protocol.specs.History.{begins_with, first_some, payload_in}
use Rattle.protocol.specs.Invariant.{InvariantHolds}
use Rattle.protocol.specs.Invariant.Readings.{IsWrittenBefore}
use Rattle.protocol.specs.Invariant.Time.{Moment, StandsIn, time_after}
use Rattle.protocol.specs.Records.{NodeRecord}
use Rattle.protocol.specs.Run.{run}
use Rattle.protocol.specs.World.{World}
use Rattle.protocol.proofs.Lists.{all-StandsIn, among-StandsIn}
use Rattle.protocol.proofs.Moments.{time_after-now}
use Rattle.protocol_laws.specs.Addresses.{TransactionsStayAmongNodes}
use Rattle.protocol_laws.specs.Ranges.{IsNoteInRange, IsWorldInRange}
use Rattle.protocol_laws.proofs.AllOf.{all-at}
use Rattle.protocol_laws.proofs.AmongNodes.{run-among_nodes}
use Rattle.protocol_laws.proofs.RangesRun.{run-in_range}
use Rattle.protocol_laws.proofs.RunInduction.{invariant_at}
use Rattle.protocol_laws.proofs.SameTxn.{same_txn-eq}
use Rattle.protocol_laws.proofs.Standing.{StandsIn-left}
use Rattle.protocol_laws.proofs.ViewsStored.{view_stored}
use Rattle.generated_runs.specs.Setup.{setup}

-- each payload that was begun has a version up to this one
abbrev pub BegunUpTo : ℕ → List Note → Type 0
BegunUpTo top h = (txn : TxId) (payload : Accesses) → StandsIn (notes.Begin txn payload) h → payload.version ≤ top

pub record Known (top : ℕ) (w : World) : Type 0 where
  pub leaders : (node : NodeRecord) (c : Membership) → StandsIn node w.nodes → StandsIn c node.coordinator.views → has_node setup.nodes c.leader ≡ true
  pub rows : (node : NodeRecord) (r : Row) → StandsIn node w.nodes → StandsIn r node.rows → may_be_of setup r.entry.txn ≡ true
  pub read : (name : List ℕ) (version : ℕ) (value : List ℕ) → StandsIn (notes.ReadValue name version value) w.history → version ≤ top

-- ---- histories

-- what stands in a list, with what is before and after it
record IsPlaced {X : Type 0} (xs : List X) (x : X) : Type 0 where
  before : List X
  after : List X
  is : xs ≡ before ++ (x ∷ after)

placed : {X : Type 0} (xs : List X) (x : X) → StandsIn x xs → IsPlaced xs x
placed [] x s = absurd s
placed (y ∷ ys) x (inl e) = record { before = []; after = ys; is = ap (λ z. z ∷ ys) (sym e) }
placed (y ∷ ys) x (inr s) = let p = placed ys x s in record { before = y ∷ p.before; after = p.after; is = ap (λ zs. y ∷ zs) p.is }

-- a transaction with a payload was begun with it
begun-noted : (h : List Note) (txn : TxId) (payload : Accesses) → payload_in h txn ≡ Some payload → StandsIn (notes.Begin txn payload) h
begun-noted [] txn payload e = absurd (cc e)
begun-noted (n ∷ ns) txn payload e = go n (begun-noted ns txn payload) e where
  at : (other : TxId) (p : Accesses) (b : Bool) → same_txn other txn ≡ b → (payload_in ns txn ≡ Some payload → StandsIn (notes.Begin txn payload) ns) → first_some (cond b (Some p) None) (payload_in ns txn) ≡ Some payload
      → StandsIn (notes.Begin txn payload) (notes.Begin other p ∷ ns)
  at other p true s ih q = inl (let same : p ≡ payload = cc q in let is : other ≡ txn = same_txn-eq other txn s in cc (same, is))
  at other p false s ih q = inr (ih q)

  go : (n : Note) → (payload_in ns txn ≡ Some payload → StandsIn (notes.Begin txn payload) ns) → first_some (begins_with txn n) (payload_in ns txn) ≡ Some payload → StandsIn (notes.Begin txn payload) (n ∷ ns)
  go (notes.Begin other p) ih q = at other p (same_txn other txn) refl ih q
  go (notes.Take other) ih q = inr (ih q)
  go (notes.ReadValue name version value) ih q = inr (ih q)
  go (notes.Decide other decision) ih q = inr (ih q)

-- ---- what the invariant says

leader-is : (t : Moment) → InvariantHolds serial setup t → (node : NodeRecord) (c : Membership) → StandsIn node t.now.nodes → StandsIn c node.coordinator.views → has_node setup.nodes c.leader ≡ true
leader-is t i node c is s =
    let k = i.configurations in
    let h = k.members c (view_stored setup t node c k is s) in
    left_of (has_node setup.nodes c.leader) _ (all-StandsIn (is_node_of setup.nodes c.shard) c.members c.leader h.nodes (among-StandsIn c.members c.leader h.leader))

row-is : (t : Moment) → InvariantHolds serial setup t → TransactionsStayAmongNodes setup t.now → IsWorldInRange t.now → (node : NodeRecord) (r : Row) → StandsIn node t.now.nodes → StandsIn r node.rows
    → may_be_of setup r.entry.txn ≡ true
row-is t i among ranges node r is s =
    let fits = i.transactions.rows node r is s in
    let txn = r.entry.txn in
    let begun : StandsIn (notes.Begin txn fits.payload) t.now.history = begun-noted t.now.history txn fits.payload fits.begun.first in
    let numbered = nat_le 1 txn.seq && nat_le txn.seq MAX_SEQUENCE in
    both (has_node setup.nodes txn.home) numbered (among.homes txn fits.payload begun)
    (right_of (is_node txn.home) numbered (all-at IsNoteInRange t.now.history ranges.history (notes.Begin txn fits.payload) begun).0)

read-is : (top : ℕ) (t : Moment) → InvariantHolds serial setup t → BegunUpTo top t.now.history → (name : List ℕ) (version : ℕ) (value : List ℕ) → StandsIn (notes.ReadValue name version value) t.now.history → version ≤ top
read-is top t i begun name version value s = go (i.readings.each p.before p.after name version value p.is) where
  p : IsPlaced t.now.history (notes.ReadValue name version value)
  p = placed t.now.history (notes.ReadValue name version value) s

  go : ((version ≡ 0) × (value ≡ [])) ⊎ IsWrittenBefore p.before name version value → version ≤ top
  go (inl none) = omega (arith, none.0)
  go (inr w) =
      let noted : StandsIn (notes.Begin w.txn w.payload) (p.before ++ (notes.ReadValue name version value ∷ p.after)) =
      StandsIn-left p.before _ (notes.Begin w.txn w.payload) (begun-noted p.before w.txn w.payload w.begun) in
      let few : w.payload.version ≤ top = begun w.txn w.payload (subst (λ (ns : List Note). StandsIn (notes.Begin w.txn w.payload) ns) (sym p.is) noted) in
      let at : w.payload.version ≡ version = w.at_version in
      omega (arith, few, at)

known-at : (top : ℕ) (events : List Event) → AreEventsOf setup events → BegunUpTo top (time_after serial setup events).now.history → Known top (time_after serial setup events).now
known-at top events a begun =
    let t = time_after serial setup events in
    let i = invariant_at serial setup events a in
    let now = sym (time_after-now serial setup events) in
    let among = subst (TransactionsStayAmongNodes setup) now (run-among_nodes serial setup events a) in
    let ranges = subst IsWorldInRange now (run-in_range serial setup events a) in
    record { leaders = leader-is t i; rows = row-is t i among ranges; read = read-is top t i begun }

pub run_known : (top : ℕ) (events : List Event) → AreEventsOf setup events → BegunUpTo top (run serial setup events).history → Known top (run serial setup events)
run_known top events a begun =
    let now = time_after-now serial setup events in
    subst (Known top) now (known-at top events a (subst (λ (w : World). BegunUpTo top w.history) (sym now) begun))
