-- Rows and entries that were sent may stand in a log.
use Rattle.std.proofs.Common.{◌≡◌, ℕ, true, List, [], ◌∷◌, ◌⊎◌, inl, inr, sym, subst, refl}
use Rattle.tcs_terms.specs.declared.logs.Row.{Row}
use Rattle.tcs_terms.specs.declared.messages.Message.TheVariants.{Accept, NewState, StatePiece}
use Rattle.tcs_terms.specs.Logs.{AreRows}
use Rattle.tcs_terms.specs.Places.{Membership}
use Rattle.tcs_terms.specs.Preparations.{Preparation}
use Rattle.tcs_laws.specs.Certification.{Tests}
use Rattle.protocol.specs.Records.{NodeRecord}
use Rattle.protocol.specs.World.{World}
use Rattle.protocol.specs.Invariant.Entries.{EntriesHold, ListedAt}
use Rattle.protocol.specs.Invariant.Logs.{entries_of, Held, BecameLeader, Initial}
use Rattle.protocol.specs.Invariant.Promises.{PromisesHold}
use Rattle.protocol.specs.Invariant.Time.{Moment, worlds, StandsIn, IsNode, WasSent}
use Rattle.protocol.specs.Invariant.Transfer.{TransferHolds, IsSentInPieces}
use Rattle.protocol_laws.proofs.PromisesOrder.{slot_fits, InOrder, rows-in_order, in_order-rows, in_order-fits}
use Rattle.protocol_laws.proofs.PromisesPieces.{piece-rows}
use Rattle.protocol_laws.proofs.PromisesRows.{same_entries-rows}
use Rattle.protocol_laws.proofs.Standing.{StandsIn-right}

-- the rows of any node, now or before
pub past-rows : (t : Moment) → PromisesHold t → (w : World) (node : NodeRecord) → StandsIn w (worlds t) → StandsIn node w.nodes → AreRows node.rows
past-rows t p w node (inl e) s = p.rows node (subst (λ v. StandsIn node v.nodes) e s)
past-rows t p w node (inr q) s = p.rows_before w node q s

-- the rows with which a leader began
became-rows : (t : Moment) → PromisesHold t → (c : Membership) (rows : List Row) → BecameLeader t c rows → AreRows rows
became-rows t p c rows b =
    let there : StandsIn b.after (worlds t) = subst (λ ws. StandsIn b.after ws) (sym b.moments) (StandsIn-right b.later (b.after ∷ b.before ∷ b.earlier) b.after (inl refl)) in
    subst AreRows b.rows_then (past-rows t p b.after b.node there b.new_node)

-- rows whose entries are initial ones
initial-rows : (t : Moment) → PromisesHold t → (c : Membership) (rows : List Row) → Initial t c (entries_of rows) → AreRows rows
initial-rows t p c rows i = go i.begun
  where
    go : ((c.epoch ≡ 1) × (entries_of rows ≡ [])) ⊎ ((first : List Row) × BecameLeader t c first × (entries_of rows ≡ entries_of first)) → AreRows rows
    go (inl k) = in_order-rows rows (subst InOrder (sym k.1) tt)
    go (inr k) = same_entries-rows k.0 rows (sym k.2) (became-rows t p c k.0 k.1)

-- the rows of a NEW_STATE
pub state-rows : (t : Moment) → PromisesHold t → TransferHolds t → (from to : ℕ) (c : Membership) (rows : List Row) → WasSent t from to (NewState c rows) → AreRows rows
state-rows t p f from to c rows s = initial-rows t p c rows (f.whole from to c rows s)

-- the rows of a STATE_PIECE
pub sent_piece-rows : (t : Moment) → PromisesHold t → TransferHolds t → (from to number pieces : ℕ) (c : Membership) (rows : List Row) → WasSent t from to (StatePiece c number pieces rows) → AreRows rows
sent_piece-rows t p f from to number pieces c rows s =
    let k : (all : List Row) × IsSentInPieces t c all = f.pieces from to number pieces c rows s in
    subst AreRows (sym ((k.1.pieces from to number pieces rows s).3)) (piece-rows k.0 number (initial-rows t p c k.0 k.1.initial))

-- the slot of an entry that was held
held-fits : (t : Moment) → PromisesHold t → (epoch name : ℕ) (x : Preparation) → Held t epoch name x → slot_fits x ≡ true
held-fits t p epoch name x h = in_order-fits (entries_of h.node.rows) x (rows-in_order h.node.rows (past-rows t p h.was.moment h.node h.was.past h.was.there)) h.holds

-- the slot of an entry of an ACCEPT
pub accepting-fits : (tests : Tests) (t : Moment) → PromisesHold t → EntriesHold tests t → (from epoch : ℕ) (node : NodeRecord) (x : Preparation) → IsNode t node → WasSent t from node.name (Accept epoch x) → slot_fits x ≡ true
accepting-fits tests t p e from epoch node x n s =
    let l : ListedAt t node.shard epoch x = e.accepting from epoch node x n s in
    held-fits t p l.config.epoch l.config.leader x l.listed.held
