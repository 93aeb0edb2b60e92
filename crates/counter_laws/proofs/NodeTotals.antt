-- What a node has of a counter is within what was committed.
use Rattle.std.proofs.Common.{◌≡◌, ℕ, ◌≤◌, true, false, not, List, [], ◌∷◌, filter_map, refl, sym, ap, ◌∙◌, subst, inl, inr}
use Rattle.std.specs.Prelude.{Option, Some, None}
use Rattle.std.specs.List.{cons_option}
use Rattle.tcs_terms.specs.declared.ids.TxId.{TxId}
use Rattle.tcs_terms.specs.declared.inputs.Note.{Note}
use Rattle.tcs_terms.specs.declared.inputs.Note.TheVariants.{Decide}
use Rattle.tcs_terms.specs.declared.logs.Mark.{Mark}
use Rattle.tcs_terms.specs.declared.logs.Mark.TheVariants.{Undecided, Committed, Aborted}
use Rattle.tcs_terms.specs.declared.logs.Row.{Row}
use Rattle.tcs_terms.specs.declared.votes.Decision.{Decision}
use Rattle.tcs_terms.specs.declared.votes.Decision.TheVariants.{Commit, Abort}
use Rattle.tcs_terms.specs.Logs.{same_txn}
use Rattle.tcs_terms.specs.Payloads.{Accesses}
use Rattle.tcs_terms.specs.Setups.{Deployment}
use Rattle.protocol.specs.Cases.{commits}
use Rattle.protocol.specs.History.{commit_in, first_of_each, order_of}
use Rattle.protocol.specs.Invariant.Promises.{PromisesHold}
use Rattle.protocol.specs.Invariant.Time.{Moment, StandsIn}
use Rattle.protocol.specs.Invariant.Transactions.{TransactionsHold, IsPart, EntryFits}
use Rattle.protocol.specs.Records.{NodeRecord}
use Rattle.protocol_laws.specs.Told.{ToldRightly, WasDecided}
use Rattle.protocol_laws.proofs.PromisesOrder.{rows-in_order}
use Rattle.protocol_laws.proofs.SameTxn.{same_txn-eq}
use Rattle.protocol_laws.proofs.Standing.{StandsIn-filter}
use Rattle.std.proofs.lemmas.Bool.{cases_Bool}
use Rattle.counters.specs.Amounts.{amount, node_total, payload_marked}
use Rattle.counters.specs.Histories.{total}
use Rattle.counters.proofs.CommittedRows.{payload_at}
use Rattle.counter_laws.proofs.PartAmounts.{row_adds_less}
use Rattle.counter_laws.proofs.SumsWithin.{IsWithin, rows_within, worth}

-- ---- what is decided to commit stands in the order

first_there : (ts : List TxId) (txn : TxId) → StandsIn txn ts → StandsIn txn (first_of_each ts)
first_there [] txn there = absurd there
first_there (t ∷ ts) txn (inl e) = inl e
first_there (t ∷ ts) txn (inr s) = elim (cases_Bool (same_txn t txn)) [
  | inl same ↦ inl (sym (same_txn-eq t txn same))
  | inr apart ↦ inr (StandsIn-filter (λ u. not (same_txn t u)) (first_of_each ts) txn (first_there ts txn s) (ap not apart))
]

noted_commit : (h : List Note) (txn : TxId) → StandsIn (Decide txn Commit) h → StandsIn txn (filter_map commit_in h)
noted_commit [] txn there = absurd there
noted_commit (n ∷ ns) txn (inl e) = subst (λ o. StandsIn txn (cons_option o (filter_map commit_in ns))) (ap commit_in e) (inl refl)
noted_commit (n ∷ ns) txn (inr s) = behind (commit_in n) (noted_commit ns txn s)
  where
    behind : (o : Option TxId) → StandsIn txn (filter_map commit_in ns) → StandsIn txn (cons_option o (filter_map commit_in ns))
    behind None there = there
    behind (Some t) there = inr there

in_order : (h : List Note) (txn : TxId) (d : Decision) → StandsIn (Decide txn d) h → commits d ≡ true → StandsIn txn (order_of h)
in_order h txn Commit there sense = first_there (filter_map commit_in h) txn (noted_commit h txn there)
in_order h txn (Abort shard cause) there sense = absurd (let no : false ≡ true = sense in cc)

-- ---- the rows of a node

-- a row with a committed payload is marked so
marked : (m : Mark) (o : Option Accesses) (q : Accesses) → payload_marked m o ≡ Some q → (m ≡ Committed) × (o ≡ Some q)
marked Undecided o q is = absurd (let no : None ≡ Some q = is in cc)
marked Committed o q is = (refl, is)
marked Aborted o q is = absurd (let no : None ≡ Some q = is in cc)

module _ (setup : Deployment) (t : Moment) (transactions : TransactionsHold setup t) (promises : PromisesHold t) (told : ToldRightly t.now) where
  row_within : (node : NodeRecord) → StandsIn node t.now.nodes → (name : List ℕ) (r : Row) (q : Accesses) → StandsIn r node.rows → payload_at r ≡ Some q
      → IsWithin name t.now.history r q (order_of t.now.history)
  row_within node there name r q row is =
      let m = marked r.mark r.entry.payload q is in
      let decided : WasDecided t.now r.entry.txn true = told.marks node r true there row m.0 in
      let fits : EntryFits setup.shards t node.shard r.entry = transactions.rows node r there row in
      record {
        there = in_order t.now.history r.entry.txn decided.decision decided.noted decided.sense;
        less = subst (λ o. amount q name ≤ worth name o) (sym fits.begun.first) (of_part fits.payload m.1 fits.part);
      }
    where
      of_part : (p : Accesses) → r.entry.payload ≡ Some q → IsPart t setup.shards node.shard r.entry.txn p r.entry.payload → amount q name ≤ amount p name
      of_part p has (inl part) = row_adds_less setup.shards node.shard name p q (sym has ∙ part)
      of_part p has (inr none) = absurd (let no : Some q ≡ None = sym has ∙ none.0 in cc)

  pub node_within : (node : NodeRecord) → StandsIn node t.now.nodes → (name : List ℕ) → node_total node.rows name ≤ total t.now.history name
  node_within node there name =
      rows_within name t.now.history node.rows (order_of t.now.history) (rows-in_order node.rows (promises.rows node there))
      (λ r q row is. row_within node there name r q row is)
