-- One event keeps what is so of decisions.
use Rattle.std.proofs.Common.{◌≡◌, ℕ, Bool, true, false, cond, List, [], ◌∷◌, ◌++◌, is_some, ◌⊎◌, inl, inr, sym, ◌∙◌, ap, subst, refl}
use Rattle.std.specs.Map.{lookup}
use Rattle.tcs_terms.specs.declared.ids.TxId.{TxId}
use Rattle.tcs_terms.specs.declared.inputs.Event.{Event}
use Rattle.tcs_terms.specs.declared.inputs.Input.{Input}
use Rattle.tcs_terms.specs.declared.inputs.Note.TheVariants as notes
use Rattle.tcs_terms.specs.declared.logs.Row.{Row}
use Rattle.tcs_terms.specs.declared.messages.Message.{Message}
use Rattle.tcs_terms.specs.declared.messages.Message.TheVariants.{DecisionFor, NewState, OutcomeOf, StatePiece}
use Rattle.tcs_terms.specs.declared.votes.Decision.{Decision}
use Rattle.tcs_terms.specs.Logs.{same_txn}
use Rattle.tcs_terms.specs.Setups.{Deployment}
use Rattle.tcs_laws.specs.Certification.{Tests}
use Rattle.protocol.specs.Outcomes.{Out, to}
use Rattle.protocol.specs.Records.{NodeRecord}
use Rattle.protocol.specs.Table.{with_outcome}
use Rattle.protocol.specs.World.{Happening}
use Rattle.protocol.specs.Invariant.Answers.{AnswersHold}
use Rattle.protocol.specs.Invariant.Choice.{ChoiceHolds}
use Rattle.protocol.specs.Invariant.Configurations.{ConfigurationsHold}
use Rattle.protocol.specs.Invariant.Decisions.{IsDecidedBy, IsBehind, RowHolds, DecisionsHold}
use Rattle.protocol.specs.Invariant.Entries.{EntriesHold}
use Rattle.protocol.specs.Invariant.Promises.{PromisesHold}
use Rattle.protocol.specs.Invariant.Time.{Moment, goes_to, StandsIn, IsNode, WasSent, WasNoted}
use Rattle.protocol.specs.Invariant.Transactions.{TransactionsHold}
use Rattle.protocol.specs.Invariant.Transfer.{TransferHolds}
use Rattle.protocol.proofs.Lists.{StandsIn-append}
use Rattle.protocol_laws.specs.Effect.{Effect}
use Rattle.protocol_laws.specs.Effect.Effect.{Keeps}
use Rattle.protocol_laws.specs.Turn.{Turn, Onward, GrewFrom}
use Rattle.protocol_laws.proofs.OnwardOf.{onward_of}
use Rattle.protocol_laws.proofs.DecisionsLast.{is_decided-on, is_behind-on, row_holds-on}
use Rattle.protocol_laws.proofs.DecisionsMessages.{acting_agrees, acting_decided}
use Rattle.protocol_laws.proofs.DecisionsRows.{acting_rows_hold}
use Rattle.protocol_laws.proofs.DecisionsTaken.{MessageAgrees}
use Rattle.protocol_laws.proofs.TransactionsActing.{IsActing, is_acting}
use Rattle.protocol_laws.proofs.Noted.NoteCame.{WasNotedBefore, NodeNoted}
use Rattle.protocol_laws.proofs.TransactionsLast.{noted-on}
use Rattle.protocol_laws.proofs.TransactionsNotes.{goes_of}
use Rattle.protocol_laws.proofs.Came.{effect_shard, node_back, message_back, Acting}
use Rattle.protocol_laws.proofs.ServiceSays.{ServiceSays}
use Rattle.protocol_laws.proofs.ServiceSays.ServiceSays.{TellsStored, TellsChange, Refuses}
use Rattle.protocol_laws.proofs.Noted.{NoteCame, note_came}
use Rattle.tcs_terms.specs.Places.{Membership}

-- a kept outcome after an input: it was kept, or the message told it
outcome_came : (txn other : TxId) (decision told : Decision) (outcomes : List (TxId × Decision)) → StandsIn (txn, decision) (with_outcome outcomes other told) → StandsIn (txn, decision) outcomes ⊎ ((other ≡ txn) × (told ≡ decision))
outcome_came txn other decision told outcomes s = go (is_some (lookup (same_txn other) outcomes)) s
  where
    go : (b : Bool) → StandsIn (txn, decision) (cond b outcomes (outcomes ++ (other, told) ∷ [])) → StandsIn (txn, decision) outcomes ⊎ ((other ≡ txn) × (told ≡ decision))
    go true k = inl k
    go false k = elim (StandsIn-append outcomes ((other, told) ∷ []) (txn, decision) k) [
      | inl r ↦ inl r
      | inr (inl e) ↦ inr (ap (λ (p : TxId × Decision). p.0) (sym e), ap (λ (p : TxId × Decision). p.1) (sym e))
      | inr (inr r) ↦ absurd r
    ]

acting_kept : (tests : Tests) (version : ℕ) (setup : Deployment) (t u : Moment) (node : NodeRecord) (input : Input) (out : Out NodeRecord) (txn : TxId) (decision : Decision) → IsActing tests setup t u node input out → Effect tests version node input out
    → StandsIn (txn, decision) out.kept.outcomes → WasNoted u (notes.Decide txn decision)
acting_kept tests version setup t u node _ _ txn decision a (Keeps from other told home low) s = go (outcome_came txn other decision told node.outcomes s)
  where
    go : StandsIn (txn, decision) node.outcomes ⊎ ((other ≡ txn) × (told ≡ decision)) → WasNoted u (notes.Decide txn decision)
    go (inl r) = noted-on t u (notes.Decide txn decision) a.goes.onward (a.before.decisions.kept node txn decision a.is r)
    go (inr p) =
        let noted : WasNoted t (notes.Decide other told) = a.before.decisions.outcomes from node.name other told (a.received from (OutcomeOf other told) refl) in
        subst (λ x. WasNoted u (notes.Decide x decision)) p.0 (subst (λ x. WasNoted u (notes.Decide other x)) p.1 (noted-on t u (notes.Decide other told) a.goes.onward noted))
acting_kept tests version setup t u node _ _ txn decision a _ s = noted-on t u (notes.Decide txn decision) a.goes.onward (a.before.decisions.kept node txn decision a.is s)

-- what was told of decisions before agrees still
old_agrees : (setup : Deployment) (t u : Moment) (from name : ℕ) (m : Message) → Onward t u → DecisionsHold setup t → WasSent t from name m → MessageAgrees u name m
old_agrees setup t u from name m o d s = go m s
  where
    go : (m : Message) → WasSent t from name m → MessageAgrees u name m
    go (DecisionFor epoch slot txn commit) s = λ node n e. (
        let g : GrewFrom t node = o.back node n in
        let b : IsBehind t g.old.shard epoch slot txn commit = d.told from epoch slot txn commit g.old g.is (subst (λ (x : ℕ). WasSent t from x (DecisionFor epoch slot txn commit)) (sym e ∙ g.grows.name) s) in
        is_behind-on t u node.shard epoch slot txn commit o (subst (λ x. IsBehind t x epoch slot txn commit) (sym g.grows.shard) b))
    go (NewState c rows) s = λ r k. row_holds-on t u c.shard c.epoch r o (d.state from name c rows r s k)
    go (StatePiece c number pieces rows) s = λ r k. row_holds-on t u c.shard c.epoch r o (d.pieces from name number pieces c rows r s k)
    go (OutcomeOf txn decision) s = noted-on t u (notes.Decide txn decision) o (d.outcomes from name txn decision s)
    go _ s = tt

served_agrees : (t : Moment) (kept : List Membership) (name : ℕ) (m : Message) → ServiceSays kept m → MessageAgrees t name m
served_agrees t kept name _ (TellsStored c k) = tt
served_agrees t kept name _ (TellsChange c k) = tt
served_agrees t kept name _ (Refuses kind why mark) = tt

-- each message agrees with decisions that were taken
all_agree : (tests : Tests) (setup : Deployment) (t : Moment) (event : Event) (h : Happening) → Turn tests setup t event h → ConfigurationsHold setup (goes_to t h.after) → (from name : ℕ) (m : Message)
    → WasSent (goes_to t h.after) from name m → MessageAgrees (goes_to t h.after) name m
all_agree tests setup t event h turn configurations from name m s = elim (message_back tests setup t event h turn from name m s) [
  | inl k ↦ old_agrees setup t (goes_to t h.after) from name m (onward_of tests setup t event h turn) turn.before.decisions k
  | inr (inl k) ↦ acting_agrees tests setup.version setup t (goes_to t h.after) k.acting.node k.acting.input k.acting.out (is_acting tests setup t event h turn configurations k.acting) k.acting.effect (to name m) k.among
  | inr (inr k) ↦ served_agrees (goes_to t h.after) h.after.configs name m k
]

decided_kept : (tests : Tests) (setup : Deployment) (t : Moment) (event : Event) (h : Happening) → Turn tests setup t event h → ConfigurationsHold setup (goes_to t h.after) → (txn : TxId) (decision : Decision)
    → WasNoted (goes_to t h.after) (notes.Decide txn decision) → IsDecidedBy setup.shards (goes_to t h.after) txn decision
decided_kept tests setup t event h turn configurations txn decision s = go (note_came tests setup t event h (notes.Decide txn decision) turn s)
  where
    go : NoteCame tests setup t event h (notes.Decide txn decision) → IsDecidedBy setup.shards (goes_to t h.after) txn decision
    go (WasNotedBefore k) = is_decided-on setup.shards t (goes_to t h.after) txn decision (goes_of tests setup t event h turn) (turn.before.decisions.decided txn decision k)
    go (NodeNoted a k) = acting_decided tests setup.version setup t (goes_to t h.after) a.node a.input a.out txn decision (is_acting tests setup t event h turn configurations a) a.effect k

rows_hold : (tests : Tests) (setup : Deployment) (t : Moment) (event : Event) (h : Happening) → Turn tests setup t event h → ConfigurationsHold setup (goes_to t h.after) → (node : NodeRecord) (r : Row)
    → IsNode (goes_to t h.after) node → StandsIn r node.rows → RowHolds (goes_to t h.after) node.shard node.state r
rows_hold tests setup t event h turn configurations node r n s = elim (node_back tests setup t event h turn node n) [
  | inl k ↦ row_holds-on t (goes_to t h.after) node.shard node.state r (onward_of tests setup t event h turn) (turn.before.decisions.rows node r k s)
  | inr o ↦ now o.acting o.is
]
  where
    now : (a : Acting tests setup t event h) → node ≡ a.out.kept → RowHolds (goes_to t h.after) node.shard node.state r
    now a e =
        let holds : RowHolds (goes_to t h.after) a.node.shard a.out.kept.state r =
        acting_rows_hold tests setup.version setup t (goes_to t h.after) a.node a.input a.out r (is_acting tests setup t event h turn configurations a) a.effect (subst (λ (x : NodeRecord). StandsIn r x.rows) e s) in
        subst (λ (x : NodeRecord). RowHolds (goes_to t h.after) x.shard x.state r) (sym e)
        (subst (λ x. RowHolds (goes_to t h.after) x a.out.kept.state r) (sym (effect_shard tests setup.version a.node a.input a.out a.effect)) holds)

kept_kept : (tests : Tests) (setup : Deployment) (t : Moment) (event : Event) (h : Happening) → Turn tests setup t event h → ConfigurationsHold setup (goes_to t h.after) → (node : NodeRecord) (txn : TxId) (decision : Decision)
    → IsNode (goes_to t h.after) node → StandsIn (txn, decision) node.outcomes → WasNoted (goes_to t h.after) (notes.Decide txn decision)
kept_kept tests setup t event h turn configurations node txn decision n s = elim (node_back tests setup t event h turn node n) [
  | inl k ↦ noted-on t (goes_to t h.after) (notes.Decide txn decision) (onward_of tests setup t event h turn) (turn.before.decisions.kept node txn decision k s)
  | inr o ↦ now o.acting o.is
]
  where
    now : (a : Acting tests setup t event h) → node ≡ a.out.kept → WasNoted (goes_to t h.after) (notes.Decide txn decision)
    now a e =
        acting_kept tests setup.version setup t (goes_to t h.after) a.node a.input a.out txn decision (is_acting tests setup t event h turn configurations a) a.effect (subst (λ (x : NodeRecord). StandsIn (txn, decision) x.outcomes) e s)

pub decisions_kept : (tests : Tests) (setup : Deployment) (t : Moment) (event : Event) (h : Happening) → Turn tests setup t event h → ConfigurationsHold setup (goes_to t h.after) → PromisesHold (goes_to t h.after)
    → AnswersHold (goes_to t h.after) → ChoiceHolds (goes_to t h.after) → TransferHolds (goes_to t h.after) → EntriesHold tests (goes_to t h.after) → TransactionsHold setup (goes_to t h.after) → DecisionsHold setup (goes_to t h.after)
decisions_kept tests setup t event h turn configurations promises answers choice transfer entries transactions = record {
  decided = λ txn decision s. decided_kept tests setup t event h turn configurations txn decision s;
  told = λ from epoch slot txn commit node n s. all_agree tests setup t event h turn configurations from node.name (DecisionFor epoch slot txn commit) s node n refl;
  rows = λ node r n s. rows_hold tests setup t event h turn configurations node r n s;
  state = λ from to c rows r s k. all_agree tests setup t event h turn configurations from to (NewState c rows) s r k;
  pieces = λ from to number pieces c rows r s k. all_agree tests setup t event h turn configurations from to (StatePiece c number pieces rows) s r k;
  outcomes = λ from to txn decision s. all_agree tests setup t event h turn configurations from to (OutcomeOf txn decision) s;
  kept = λ node txn decision n s. kept_kept tests setup t event h turn configurations node txn decision n s;
}
