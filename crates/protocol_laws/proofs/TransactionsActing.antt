-- A node that acts, with all that is known of it then.
use Rattle.std.proofs.Common.{◌≡◌, ℕ, [], ◌∷◌, subst, sym}
use Rattle.tcs_terms.specs.declared.inputs.Event.{Event}
use Rattle.tcs_terms.specs.declared.inputs.Input.{Input}
use Rattle.tcs_terms.specs.declared.inputs.Input.TheVariants as inputs
use Rattle.tcs_terms.specs.declared.inputs.Note.{Note}
use Rattle.tcs_terms.specs.declared.inputs.Note.TheVariants as notes
use Rattle.tcs_terms.specs.declared.logs.Row.{Row}
use Rattle.tcs_terms.specs.declared.messages.Message.{Message}
use Rattle.tcs_terms.specs.Payloads.{Accesses}
use Rattle.tcs_terms.specs.Setups.{Deployment}
use Rattle.tcs_laws.specs.Certification.{Tests}
use Rattle.protocol.specs.ClientRules.{next_txn}
use Rattle.protocol.specs.Outcomes.{Out}
use Rattle.protocol.specs.Records.{NodeRecord}
use Rattle.protocol.specs.World.{Happening}
use Rattle.protocol.specs.Invariant.{InvariantHolds}
use Rattle.protocol.specs.Invariant.Configurations.{ConfigurationsHold}
use Rattle.protocol.specs.Invariant.Time.{Moment, goes_to, StandsIn, IsNode, WasNoted, WasSent}
use Rattle.protocol.specs.Invariant.Transactions.{IsBegun, EntryFits}
use Rattle.protocol_laws.specs.Turn.{Turn}
use Rattle.protocol_laws.proofs.TransactionsBegun.{begun_now}
use Rattle.protocol_laws.proofs.TransactionsLast.{Goes}
use Rattle.protocol_laws.proofs.Standing.{StandsIn-right}
use Rattle.protocol_laws.proofs.TransactionsNotes.{goes_of}
use Rattle.protocol_laws.proofs.TransactionsRowsKept.{acted_rows_fit}
use Rattle.protocol_laws.proofs.Came.{Acting}
use Rattle.protocol_laws.proofs.ConfigurationsInputs.{delivered}

-- At the earlier moment the invariant holds, and the node stands there. At the later one what it noted stands in the
-- history; what it took had been sent to it; a transaction that it begins has begun; and its rows fit.
pub record IsActing (tests : Tests) (setup : Deployment) (t u : Moment) (node : NodeRecord) (input : Input) (out : Out NodeRecord) : Type 0 where
  pub goes : Goes t u
  pub before : InvariantHolds tests setup t
  pub configurations : ConfigurationsHold setup u
  pub is : IsNode t node
  pub received : (from : ℕ) (m : Message) → input ≡ inputs.Deliver from m → WasSent t from node.name m
  pub noted : (note : Note) → StandsIn note out.notes → WasNoted u note
  pub begun : (payload : Accesses) → out.notes ≡ notes.Begin (next_txn node) payload ∷ [] → IsBegun u (next_txn node) payload
  pub rows : (r : Row) → StandsIn r out.kept.rows → EntryFits setup.shards u node.shard r.entry

pub is_acting : (tests : Tests) (setup : Deployment) (t : Moment) (event : Event) (h : Happening) → Turn tests setup t event h → ConfigurationsHold setup (goes_to t h.after) → (a : Acting tests setup t event h)
    → IsActing tests setup t (goes_to t h.after) a.node a.input a.out
is_acting tests setup t event h turn configurations a = record {
  goes = goes_of tests setup t event h turn;
  before = turn.before;
  configurations = configurations;
  is = a.is;
  received = λ from m e. delivered setup t a.node.name event a.input a.comes turn.fits from m e;
  noted = λ note s. subst (λ (x : Happening). StandsIn note x.after.history) (sym a.happens) (StandsIn-right t.now.history a.out.notes note s);
  begun = λ payload e. begun_now tests setup t event h turn a payload e;
  rows = λ r s. acted_rows_fit tests setup t event h turn a r s;
}
