-- What a soak run tells of a run.
use Rattle.std.specs.Prelude.{ℕ, List, ◌++◌, codes, decimal, length, filter_map, Option, Some, None}
use Rattle.tcs_terms.specs.declared.ids.TxId.{TxId}
use Rattle.tcs_terms.specs.declared.inputs.Note.{Note}
use Rattle.judge.specs.Verdicts.{abort_in}
use Rattle.tcs_terms.specs.declared.inputs.Note.TheVariants.{Begin, Take, ReadValue, Decide}
use Rattle.protocol.specs.History.{first_of_each, order_of}
use Rattle.protocol.specs.World.{World}

-- the transaction that a note begins, if it does
abbrev pub begun_in : Note → Option TxId
begun_in (Begin txn payload) = Some txn
begun_in (Take txn) = None
begun_in (ReadValue name version value) = None
begun_in (Decide txn decision) = None

-- the transactions that were begun
abbrev pub begun_of : List Note → List TxId
begun_of h = first_of_each (filter_map begun_in h)

-- the transactions that were decided to abort
abbrev pub aborted_of : List Note → List TxId
aborted_of h = first_of_each (filter_map abort_in h)

-- events, messages, and the transactions that were begun, committed and aborted
abbrev pub soak_text : ℕ → World → List ℕ
soak_text events w =
    codes "soak " ++ decimal events ++ codes " " ++ decimal (length w.messages) ++ codes " " ++ decimal (length (begun_of w.history))
    ++ codes " " ++ decimal (length (order_of w.history)) ++ codes " " ++ decimal (length (aborted_of w.history)) ++ codes "\n"
