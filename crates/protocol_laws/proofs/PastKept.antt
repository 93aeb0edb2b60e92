-- What holds of every world so far: its history is a front of the present one, its nodes have their names and shards,
-- and what its rows say of transactions is so.
use Rattle.std.proofs.Common.{◌≡◌, ℕ, [], map, length, Some, None, ◌⊎◌, inl, inr, sym, ◌∙◌, ap, subst}
use Rattle.std.specs.List.{range_with_len}
use Rattle.tcs_terms.specs.declared.inputs.Note.TheVariants.{Take}
use Rattle.tcs_terms.specs.declared.logs.Row.{Row}
use Rattle.tcs_terms.specs.declared.votes.Vote.TheVariants.{Lost}
use Rattle.tcs_terms.specs.Payloads.{Accesses}
use Rattle.tcs_terms.specs.Preparations.{Preparation, KeepsPayload}
use Rattle.tcs_terms.specs.Setups.{Deployment}
use Rattle.tcs_terms.specs.Shards.{restricted}
use Rattle.protocol.specs.History.{payload_in}
use Rattle.protocol.specs.Invariant.Configurations.{ConfigurationsHold}
use Rattle.protocol.specs.Invariant.Time.{Moment, worlds, StandsIn}
use Rattle.protocol.specs.Invariant.Transactions.{WasTaken, FoundNothingBy, EntryFits, TransactionsHold}
use Rattle.protocol.specs.Records.{NodeRecord}
use Rattle.protocol.specs.World.{World}
use Rattle.protocol_laws.specs.Turn.{Onward}
use Rattle.protocol_laws.proofs.Fronts.{IsFront, front-self, front-more, payload_in-kept}
use Rattle.protocol_laws.proofs.Standing.{StandsIn-left}
use Rattle.protocol_laws.proofs.TransactionsLast.{found_nothing-on}

-- What an entry in a shard says of its transaction is so: its payload is the part in the shard, or it has none, and then
-- the transaction was taken over; where it is lost, the shard found nothing of it.
pub record EntrySays (n : ℕ) (t : Moment) (shard : ℕ) (entry : Preparation) : Type 0 where
  pub payload : Accesses
  pub begun : payload_in t.now.history entry.txn ≡ Some payload
  pub part : (entry.payload ≡ restricted n shard payload) ⊎ ((entry.payload ≡ None) × WasTaken t entry.txn)
  pub keeps : KeepsPayload entry.payload entry.vote
  pub lost : entry.vote ≡ Lost → FoundNothingBy t entry.txn shard

says-on : (n : ℕ) (t u : Moment) (shard : ℕ) (entry : Preparation) → Onward t u → EntrySays n t shard entry → EntrySays n u shard entry
says-on n t u shard entry o s = record {
  payload = s.payload;
  begun = ap (λ h. payload_in h entry.txn) o.history ∙ payload_in-kept t.now.history o.notes entry.txn s.payload s.begun;
  part = go s.part;
  keeps = s.keeps;
  lost = λ e. found_nothing-on t u entry.txn shard o (s.lost e);
}
  where
    go : (entry.payload ≡ restricted n shard s.payload) ⊎ ((entry.payload ≡ None) × WasTaken t entry.txn) → (entry.payload ≡ restricted n shard s.payload) ⊎ ((entry.payload ≡ None) × WasTaken u entry.txn)
    go (inl e) = inl e
    go (inr p) = inr (p.0, subst (λ h. StandsIn (Take entry.txn) h) (sym o.history) (StandsIn-left t.now.history o.notes (Take entry.txn) p.1))

fits-says : (n : ℕ) (t : Moment) (shard : ℕ) (entry : Preparation) → EntryFits n t shard entry → EntrySays n t shard entry
fits-says n t shard entry f = record { payload = f.payload; begun = f.begun.first; part = f.part; keeps = f.keeps; lost = f.lost }

-- a world of the past, seen from a later moment
pub record WorldHolds (setup : Deployment) (t : Moment) (w : World) : Type 0 where
  pub front : IsFront w.history t.now.history
  pub names : map (λ n. n.name) w.nodes ≡ range_with_len 1 (length setup.nodes)
  pub shards : map (λ n. n.shard) w.nodes ≡ setup.nodes
  pub rows : (node : NodeRecord) (r : Row) → StandsIn node w.nodes → StandsIn r node.rows → EntrySays setup.shards t node.shard r.entry

-- every world so far holds
pub record PastHolds (setup : Deployment) (t : Moment) : Type 0 where
  pub each : (w : World) → StandsIn w (worlds t) → WorldHolds setup t w

world-on : (setup : Deployment) (t u : Moment) (w : World) → Onward t u → WorldHolds setup t w → WorldHolds setup u w
world-on setup t u w o h = record {
  front = subst (λ x. IsFront w.history x) (sym o.history) (front-more w.history t.now.history o.notes h.front);
  names = h.names;
  shards = h.shards;
  rows = λ node r n s. says-on setup.shards t u node.shard r.entry o (h.rows node r n s);
}

world-now : (setup : Deployment) (t : Moment) → ConfigurationsHold setup t → TransactionsHold setup t → WorldHolds setup t t.now
world-now setup t c x = record {
  front = front-self t.now.history;
  names = c.names;
  shards = c.shards;
  rows = λ node r n s. fits-says setup.shards t node.shard r.entry (x.rows node r n s);
}

pub past_kept : (setup : Deployment) (t u : Moment) → Onward t u → ConfigurationsHold setup u → TransactionsHold setup u → PastHolds setup t → PastHolds setup u
past_kept setup t u o c x p = record { each = each }
  where
    each : (w : World) → (w ≡ u.now) ⊎ StandsIn w u.before → WorldHolds setup u w
    each w (inl e) = subst (λ m. WorldHolds setup u m) (sym e) (world-now setup u c x)
    each w (inr s) = world-on setup t u w o (p.each w (subst (λ ws. StandsIn w ws) o.past s))

-- at the first moment there is no other world
pub past_starts : (setup : Deployment) (t : Moment) → t.before ≡ [] → ConfigurationsHold setup t → TransactionsHold setup t → PastHolds setup t
past_starts setup t e c x = record { each = each }
  where
    each : (w : World) → (w ≡ t.now) ⊎ StandsIn w t.before → WorldHolds setup t w
    each w (inl k) = subst (λ m. WorldHolds setup t m) (sym k) (world-now setup t c x)
    each w (inr s) = absurd (subst (λ ws. StandsIn w ws) e s)
