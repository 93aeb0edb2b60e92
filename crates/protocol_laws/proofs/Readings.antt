-- One event keeps what is so of readings.
use Rattle.std.proofs.Common.{◌≡◌, ℕ, List, [], ◌∷◌, ◌++◌, ◌⊎◌, inl, inr, sym, ◌∙◌, ap, subst, append-nil}
use Rattle.tcs_terms.specs.declared.inputs.Event.{Event}
use Rattle.tcs_terms.specs.declared.inputs.Input.{Input}
use Rattle.tcs_terms.specs.declared.inputs.Note.{Note}
use Rattle.tcs_terms.specs.declared.inputs.Note.TheVariants as notes
use Rattle.tcs_terms.specs.declared.messages.Outgoing.{Outgoing}
use Rattle.tcs_terms.specs.declared.ids.TxId.{TxId}
use Rattle.tcs_terms.specs.Setups.{Deployment}
use Rattle.tcs_laws.specs.Certification.{Tests}
use Rattle.protocol.specs.Outcomes.{Out}
use Rattle.protocol.specs.Records.{Case, Coordinator, NodeRecord}
use Rattle.protocol.specs.Versions.{Reading, read_of, value_or_empty}
use Rattle.protocol.specs.World.{Happening}
use Rattle.protocol.specs.Invariant.{InvariantHolds}
use Rattle.protocol.specs.Invariant.Answers.{AnswersHold}
use Rattle.protocol.specs.Invariant.Choice.{ChoiceHolds}
use Rattle.protocol.specs.Invariant.Configurations.{ConfigurationsHold}
use Rattle.protocol.specs.Invariant.Decisions.{DecisionsHold}
use Rattle.protocol.specs.Invariant.Entries.{EntriesHold}
use Rattle.protocol.specs.Invariant.Promises.{PromisesHold}
use Rattle.protocol.specs.Invariant.Readings.{IsWrittenBefore, ReadingsHold}
use Rattle.protocol.specs.Invariant.Time.{Moment, goes_to, IsNode}
use Rattle.protocol.specs.Invariant.Transactions.{TransactionsHold}
use Rattle.protocol.specs.Invariant.Transfer.{TransferHolds}
use Rattle.protocol_laws.specs.Effect.{GoesOn, Effect}
use Rattle.protocol_laws.specs.Effect.GoesOn.{Waiting, Decides}
use Rattle.protocol_laws.specs.Effect.Effect.{Reads, Votes, Acknowledges}
use Rattle.protocol_laws.specs.Turn.{Turn}
use Rattle.protocol_laws.proofs.Fronts.{Splits, splits}
use Rattle.protocol_laws.proofs.Fronts.Splits.{InFirst, InSecond}
use Rattle.protocol_laws.proofs.ReadingsLast.{is_reading, read_was_written}
use Rattle.protocol_laws.proofs.Noted.HistoryCame.{NothingNoted, NodeNotes}
use Rattle.protocol_laws.proofs.Noted.{HistoryCame, history_came}
use Rattle.protocol_laws.proofs.OneNote.{effect-one, IsLast, is_last}

goes_on_reads : (c : Coordinator) (txn : TxId) (case : Case) (sends : List Outgoing) (out : Out Coordinator) (name : List ℕ) (version : ℕ) (value : List ℕ) → GoesOn c txn case sends out → out.notes ≡ notes.ReadValue name version value ∷ [] → ⊥
goes_on_reads c txn case sends _ name version value (Waiting h) e = cc e
goes_on_reads c txn case sends _ name version value (Decides h) e = cc e

-- a reading that a node notes is that of its rows
record IsRead (node : NodeRecord) (name : List ℕ) (version : ℕ) (value : List ℕ) : Type 0 where
  of_version : version ≡ (read_of node.rows name).version
  of_value : value ≡ value_or_empty (read_of node.rows name).value

acting_reads : (tests : Tests) (v : ℕ) (node : NodeRecord) (input : Input) (out : Out NodeRecord) (name : List ℕ) (version : ℕ) (value : List ℕ) → Effect tests v node input out → out.notes ≡ notes.ReadValue name version value ∷ []
    → IsRead node name version value
acting_reads tests v node _ _ name version value (Reads n h) e =
    let same : n ≡ name = cc e in
    record {
      of_version = subst (λ m. version ≡ (read_of node.rows m).version) same (cc e);
      of_value = subst (λ m. value ≡ value_or_empty (read_of node.rows m).value) same (cc e);
    }
acting_reads tests v node _ _ name version value (Votes from shard epoch entry case part view o b c d out g) e = absurd (goes_on_reads _ _ _ _ out name version value g e)
acting_reads tests v node _ _ name version value (Acknowledges from shard epoch slot txn case part view o b c d out g) e = absurd (goes_on_reads _ _ _ _ out name version value g e)
acting_reads tests v node _ _ name version value _ e = absurd (cc e)

-- what a reading tells, after a history
abbrev Tells : List Note → List ℕ → ℕ → List ℕ → Type 0
Tells earlier name version value = ((version ≡ 0) × (value ≡ [])) ⊎ IsWrittenBefore earlier name version value

-- what a node reads of its rows
read_tells : (tests : Tests) (setup : Deployment) (t : Moment) (node : NodeRecord) (name : List ℕ) → InvariantHolds tests setup t → IsNode t node → Tells t.now.history name (read_of node.rows name).version (value_or_empty (read_of node.rows name).value)
read_tells tests setup t node name i n = elim (is_reading node.rows name) [
  | inl e ↦ inl (ap (λ (r : Reading). r.version) e, ap (λ (r : Reading). value_or_empty r.value) e)
  | inr r ↦ inr (read_was_written setup t node name (read_of node.rows name) i.transactions i.decisions n r)
]

pub readings_kept : (tests : Tests) (setup : Deployment) (t : Moment) (event : Event) (h : Happening) → Turn tests setup t event h → ConfigurationsHold setup (goes_to t h.after) → PromisesHold (goes_to t h.after)
    → AnswersHold (goes_to t h.after) → ChoiceHolds (goes_to t h.after) → TransferHolds (goes_to t h.after) → EntriesHold tests (goes_to t h.after) → TransactionsHold setup (goes_to t h.after) → DecisionsHold setup (goes_to t h.after)
    → ReadingsHold (goes_to t h.after)
readings_kept tests setup t event h turn configurations promises answers choice transfer entries transactions decisions = record {
  each = λ earlier later name version value e. each earlier later name version value e (history_came tests setup t event h turn);
}
  where
    each : (earlier later : List Note) (name : List ℕ) (version : ℕ) (value : List ℕ) → h.after.history ≡ earlier ++ (notes.ReadValue name version value ∷ later) → HistoryCame tests setup t event h → Tells earlier name version value
    each earlier later name version value e (NothingNoted same) = turn.before.readings.each earlier later name version value (sym same ∙ e)
    each earlier later name version value e (NodeNotes a grown) = go (splits t.now.history a.out.notes earlier (notes.ReadValue name version value) later (sym grown ∙ e))
      where
        go : Splits t.now.history a.out.notes earlier (notes.ReadValue name version value) later → Tells earlier name version value
        go (InFirst rest q more) = turn.before.readings.each earlier rest name version value q
        go (InSecond front before noted) =
            let l : IsLast a.out.notes front (notes.ReadValue name version value) = is_last a.out.notes front (notes.ReadValue name version value) later (effect-one tests setup.version a.node a.input a.out a.effect) noted in
            let r : IsRead a.node name version value = acting_reads tests setup.version a.node a.input a.out name version value a.effect l.only in
            let now : earlier ≡ t.now.history = before ∙ ap (λ ns. t.now.history ++ ns) l.nothing ∙ append-nil t.now.history in
            subst (λ h. Tells h name version value) (sym now)
            (subst (λ v. Tells t.now.history name v value) (sym r.of_version)
            (subst (λ x. Tells t.now.history name (read_of a.node.rows name).version x) (sym r.of_value) (read_tells tests setup t a.node name turn.before a.is)))
