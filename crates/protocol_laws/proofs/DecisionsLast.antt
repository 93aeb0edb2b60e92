-- What is so of decisions stays so.
use Rattle.std.proofs.Common.{◌≡◌, ℕ, ◌≤◌, Bool, Some, le_trans}
use Rattle.tcs_terms.specs.declared.ids.TxId.{TxId}
use Rattle.tcs_terms.specs.declared.logs.Row.{Row}
use Rattle.tcs_terms.specs.declared.votes.Decision.{Decision}
use Rattle.tcs_terms.specs.Preparations.{Preparation}
use Rattle.protocol.specs.Invariant.Decisions.{IsAcceptedIn, IsDecidedBy, IsBehind, RowHolds}
use Rattle.protocol.specs.Invariant.Time.{Moment}
use Rattle.protocol_laws.specs.Turn.{Onward}
use Rattle.protocol_laws.proofs.Lasting.{accepted-on}
use Rattle.protocol_laws.proofs.TransactionsLast.{Goes, is_begun-on, noted-on}

is_accepted-on : (t u : Moment) (txn : TxId) (shard : ℕ) (entry : Preparation) → Onward t u → IsAcceptedIn t txn shard entry → IsAcceptedIn u txn shard entry
is_accepted-on t u txn shard entry o i = record { config = i.config; of_shard = i.of_shard; accepted = accepted-on t u i.config entry o i.accepted; of_txn = i.of_txn }

pub is_decided-on : (n : ℕ) (t u : Moment) (txn : TxId) (decision : Decision) → Goes t u → IsDecidedBy n t txn decision → IsDecidedBy n u txn decision
is_decided-on n t u txn decision g d = record {
  payload = d.payload;
  begun = is_begun-on t u txn d.payload g d.begun;
  parts = d.parts;
  shards = d.shards;
  accepted = λ p s. (let a : (entry : Preparation) × (p.entry ≡ Some entry) × IsAcceptedIn t txn p.shard entry = d.accepted p s in (a.0, a.1, is_accepted-on t u txn p.shard a.0 g.onward a.2));
  gives = d.gives;
}

pub is_behind-on : (t u : Moment) (shard epoch slot : ℕ) (txn : TxId) (commit : Bool) → Onward t u → IsBehind t shard epoch slot txn commit → IsBehind u shard epoch slot txn commit
is_behind-on t u shard epoch slot txn commit o b = record {
  decision = b.decision;
  noted = noted-on t u _ o b.noted;
  sense = b.sense;
  entry = b.entry;
  config = b.config;
  of_shard = b.of_shard;
  until = b.until;
  accepted = accepted-on t u b.config b.entry o b.accepted;
  at_slot = b.at_slot;
  of_txn = b.of_txn;
}

-- a decision behind what stands in an epoch is behind what stands in a later one
pub is_behind-later : (t : Moment) (shard epoch later slot : ℕ) (txn : TxId) (commit : Bool) → epoch ≤ later → IsBehind t shard epoch slot txn commit → IsBehind t shard later slot txn commit
is_behind-later t shard epoch later slot txn commit l b = record {
  decision = b.decision;
  noted = b.noted;
  sense = b.sense;
  entry = b.entry;
  config = b.config;
  of_shard = b.of_shard;
  until = le_trans b.until l;
  accepted = b.accepted;
  at_slot = b.at_slot;
  of_txn = b.of_txn;
}

pub row_holds-on : (t u : Moment) (shard epoch : ℕ) (r : Row) → Onward t u → RowHolds t shard epoch r → RowHolds u shard epoch r
row_holds-on t u shard epoch r o k commit e = is_behind-on t u shard epoch r.entry.slot r.entry.txn commit o (k commit e)

pub row_holds-later : (t : Moment) (shard epoch later : ℕ) (r : Row) → epoch ≤ later → RowHolds t shard epoch r → RowHolds t shard later r
row_holds-later t shard epoch later r l k commit e = is_behind-later t shard epoch later r.entry.slot r.entry.txn commit l (k commit e)
