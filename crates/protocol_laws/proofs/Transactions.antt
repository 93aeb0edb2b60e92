-- One event keeps what is so of transactions.
use Rattle.std.proofs.Common.{◌≡◌, ℕ, sym, subst, inl, inr, refl, List}
use Rattle.tcs_terms.specs.declared.ids.TxId.{TxId}
use Rattle.tcs_terms.specs.declared.inputs.Event.{Event}
use Rattle.tcs_terms.specs.declared.logs.Row.{Row}
use Rattle.tcs_terms.specs.declared.messages.Message.{Message}
use Rattle.tcs_terms.specs.Setups.{Deployment}
use Rattle.tcs_laws.specs.Certification.{Tests}
use Rattle.protocol.specs.Records.{Case, NodeRecord}
use Rattle.protocol.specs.World.{Happening}
use Rattle.protocol.specs.Invariant.Answers.{AnswersHold}
use Rattle.protocol.specs.Invariant.Choice.{ChoiceHolds}
use Rattle.protocol.specs.Invariant.Configurations.{ConfigurationsHold}
use Rattle.protocol.specs.Invariant.Entries.{EntriesHold}
use Rattle.protocol.specs.Invariant.Promises.{PromisesHold}
use Rattle.protocol.specs.Invariant.Time.{Moment, goes_to, StandsIn, IsNode, WasSent}
use Rattle.protocol.specs.Invariant.Transactions.{EntryFits, MessageFits, CaseFits, TransactionsHold}
use Rattle.protocol.specs.Invariant.Transfer.{TransferHolds}
use Rattle.protocol_laws.specs.Turn.{Turn, GrewFrom}
use Rattle.protocol_laws.proofs.TransactionsCases.{acting_cases}
use Rattle.protocol_laws.proofs.TransactionsLast.{entry_fits-on, message_fits-on, case_fits-on}
use Rattle.protocol_laws.proofs.TransactionsMessages.{acting_sends}
use Rattle.protocol_laws.proofs.TransactionsNotes.{goes_of, numbers_kept}
use Rattle.protocol_laws.proofs.Came.{effect_shard, node_back, message_back, Acting}
use Rattle.protocol_laws.proofs.ServiceSays.{ServiceSays}
use Rattle.protocol_laws.proofs.ServiceSays.ServiceSays.{TellsStored, TellsChange, Refuses}
use Rattle.protocol_laws.proofs.TransactionsActing.{is_acting}
use Rattle.protocol.specs.Outcomes.{to}
use Rattle.tcs_terms.specs.Places.{Membership}

served_fits : (n : ℕ) (t : Moment) (kept : List Membership) (shard : ℕ) (m : Message) → ServiceSays kept m → MessageFits n t shard m
served_fits n t kept shard _ (TellsStored c k) = tt
served_fits n t kept shard _ (TellsChange c k) = tt
served_fits n t kept shard _ (Refuses kind why mark) = tt

rows_kept : (tests : Tests) (setup : Deployment) (t : Moment) (event : Event) (h : Happening) → Turn tests setup t event h → ConfigurationsHold setup (goes_to t h.after) → (node : NodeRecord) (r : Row) → IsNode (goes_to t h.after) node
    → StandsIn r node.rows → EntryFits setup.shards (goes_to t h.after) node.shard r.entry
rows_kept tests setup t event h turn configurations node r n s = elim (node_back tests setup t event h turn node n) [
  | inl k ↦ entry_fits-on setup.shards t (goes_to t h.after) node.shard r.entry (goes_of tests setup t event h turn) (turn.before.transactions.rows node r k s)
  | inr o ↦ now o.acting o.is
]
  where
    now : (a : Acting tests setup t event h) → node ≡ a.out.kept → EntryFits setup.shards (goes_to t h.after) node.shard r.entry
    now a e =
        let shard : node.shard ≡ a.node.shard = subst (λ (x : NodeRecord). x.shard ≡ a.node.shard) (sym e) (effect_shard tests setup.version a.node a.input a.out a.effect) in
        subst (λ x. EntryFits setup.shards (goes_to t h.after) x r.entry) (sym shard)
        ((is_acting tests setup t event h turn configurations a).rows r (subst (λ (x : NodeRecord). StandsIn r x.rows) e s))

messages_kept : (tests : Tests) (setup : Deployment) (t : Moment) (event : Event) (h : Happening) → Turn tests setup t event h → ConfigurationsHold setup (goes_to t h.after) → (from : ℕ) (node : NodeRecord) (m : Message)
    → IsNode (goes_to t h.after) node → WasSent (goes_to t h.after) from node.name m → MessageFits setup.shards (goes_to t h.after) node.shard m
messages_kept tests setup t event h turn configurations from node m n s = elim (message_back tests setup t event h turn from node.name m s) [
  | inl k ↦ old k
  | inr (inl k) ↦ acting_sends tests setup.version setup t (goes_to t h.after) k.acting.node k.acting.input k.acting.out (is_acting tests setup t event h turn configurations k.acting) k.acting.effect (to node.name m) k.among node n refl
  | inr (inr k) ↦ served_fits setup.shards (goes_to t h.after) h.after.configs node.shard m k
]
  where
    old : WasSent t from node.name m → MessageFits setup.shards (goes_to t h.after) node.shard m
    old k =
        let f : GrewFrom t node = (goes_of tests setup t event h turn).onward.back node n in
        let was : MessageFits setup.shards t f.old.shard m = turn.before.transactions.messages from f.old m f.is (subst (λ x. WasSent t from x m) f.grows.name k) in
        message_fits-on setup.shards t (goes_to t h.after) node.shard m (goes_of tests setup t event h turn) (subst (λ x. MessageFits setup.shards t x m) (sym f.grows.shard) was)

cases_kept : (tests : Tests) (setup : Deployment) (t : Moment) (event : Event) (h : Happening) → Turn tests setup t event h → ConfigurationsHold setup (goes_to t h.after) → (node : NodeRecord) (txn : TxId) (case : Case)
    → IsNode (goes_to t h.after) node → StandsIn (txn, case) node.coordinator.cases → CaseFits setup.shards (goes_to t h.after) txn case
cases_kept tests setup t event h turn configurations node txn case n s = elim (node_back tests setup t event h turn node n) [
  | inl k ↦ case_fits-on setup.shards t (goes_to t h.after) txn case (goes_of tests setup t event h turn) (turn.before.transactions.cases node txn case k s)
  | inr o ↦ now o.acting o.is
]
  where
    now : (a : Acting tests setup t event h) → node ≡ a.out.kept → CaseFits setup.shards (goes_to t h.after) txn case
    now a e =
        acting_cases tests setup.version setup t (goes_to t h.after) a.node a.input a.out (is_acting tests setup t event h turn configurations a) a.effect txn case (subst (λ (x : NodeRecord). StandsIn (txn, case) x.coordinator.cases) e s)

pub transactions_kept : (tests : Tests) (setup : Deployment) (t : Moment) (event : Event) (h : Happening) → Turn tests setup t event h → ConfigurationsHold setup (goes_to t h.after) → PromisesHold (goes_to t h.after)
    → AnswersHold (goes_to t h.after) → ChoiceHolds (goes_to t h.after) → TransferHolds (goes_to t h.after) → EntriesHold tests (goes_to t h.after) → TransactionsHold setup (goes_to t h.after)
transactions_kept tests setup t event h turn configurations promises answers choice transfer entries = record {
  numbers = λ txn payload node noted n e. numbers_kept tests setup t event h turn txn payload node noted n e;
  rows = λ node r n s. rows_kept tests setup t event h turn configurations node r n s;
  messages = λ from node m n s. messages_kept tests setup t event h turn configurations from node m n s;
  cases = λ node txn case n s. cases_kept tests setup t event h turn configurations node txn case n s;
}
