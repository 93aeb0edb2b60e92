-- What a node that acts tells of decisions agrees with decisions that were taken.
use Rattle.std.proofs.Common.{◌≡◌, ℕ, true, List, [], Some, inl, inr, sym, subst, refl}
use Rattle.tcs_terms.specs.declared.ids.TxId.{TxId}
use Rattle.tcs_terms.specs.declared.inputs.Input.{Input}
use Rattle.tcs_terms.specs.declared.inputs.Input.TheVariants as inputs
use Rattle.tcs_terms.specs.declared.inputs.Note.TheVariants as notes
use Rattle.tcs_terms.specs.declared.logs.Row.{Row}
use Rattle.tcs_terms.specs.declared.messages.Message.TheVariants.{PrepareAck, AcceptAck}
use Rattle.tcs_terms.specs.declared.votes.Decision.{Decision}
use Rattle.tcs_terms.specs.Places.{Membership}
use Rattle.tcs_terms.specs.Preparations.{Preparation}
use Rattle.tcs_terms.specs.Setups.{Deployment}
use Rattle.tcs_laws.specs.Certification.{Tests}
use Rattle.protocol.specs.Cases.{accept, send_case}
use Rattle.protocol.specs.ClientRules.{next_txn}
use Rattle.protocol.specs.Coordination.{with_part, first_entry, voted, voted_at, acknowledged, resend, ask_leader}
use Rattle.protocol.specs.Outcomes.{Out, to}
use Rattle.protocol.specs.Probing.{ask_stage}
use Rattle.protocol.specs.Records.{Part, Case, Coordinator, NodeRecord}
use Rattle.protocol.specs.Invariant.Decisions.{IsDecidedBy, RowHolds}
use Rattle.protocol.specs.Invariant.Time.{Moment, StandsIn}
use Rattle.protocol_laws.specs.Effect.{OpenPart, Effect}
use Rattle.protocol_laws.specs.Effect.Effect.{Rests, Certifies, TakesOver, Nudges, Moves, Lowers, Reads, Asks, AnswersAgain, Appends, Votes, Acknowledges, Changes, Learns, Accepts, Promises, Chooses, Leads}
use Rattle.protocol_laws.proofs.DecisionsAccepted.{votes_hold, acknowledges_hold}
use Rattle.protocol_laws.proofs.DecisionsRows.{acting_rows_hold}
use Rattle.protocol_laws.proofs.DecisionsTaken.{IsReady, goes_on_decided, goes_on_told, Agrees}
use Rattle.protocol_laws.proofs.TransactionsCases.{voted_case, acknowledged_case}
use Rattle.protocol_laws.proofs.TransactionsActing.{IsActing}
use Rattle.protocol_laws.proofs.TransferPieces.{piece_row}
use Rattle.protocol_laws.proofs.Sends.{Each, each-one, each-both, each-case, each-accept, each-resend, each-ask_leader, each-sees, each-stage, each-hears, each-state, each-notice}

-- what is asked of shards tells no decision
case_agrees : (t : Moment) (views : List Membership) (txn : TxId) (case : Case) → Each (Agrees t) (send_case views txn case)
case_agrees t views txn case = each-case (Agrees t) views txn case (λ shard v e. tt) (λ p x v name a b c d. tt)

ask_agrees : (t : Moment) (c : Coordinator) (config : Membership) → Each (Agrees t) (ask_leader c config)
ask_agrees t c config = each-ask_leader (Agrees t) c config (λ txn case s. tt)

-- the case of a vote, and of an acknowledgement
votes_ready : (tests : Tests) (setup : Deployment) (t u : Moment) (node : NodeRecord) (input : Input) (out : Out NodeRecord) (from shard epoch : ℕ) (entry : Preparation) (case : Case) (part : Part) (view : Membership)
    → IsActing tests setup t u node input out → input ≡ inputs.Deliver from (PrepareAck shard epoch entry) → OpenPart node.coordinator entry.txn shard case part view → view.epoch ≡ epoch
    → IsReady setup t u node entry.txn (with_part case (voted part entry))
votes_ready tests setup t u node input out from shard epoch entry case part view a e o at = record {
  fits = voted_case tests setup t u node input out from shard epoch entry case part view a e o;
  holds = votes_hold tests setup t u node input out from shard epoch entry case part view a e o at;
}

acknowledges_ready : (tests : Tests) (setup : Deployment) (t u : Moment) (node : NodeRecord) (input : Input) (out : Out NodeRecord) (from shard epoch slot : ℕ) (txn : TxId) (case : Case) (part : Part) (view : Membership)
    → IsActing tests setup t u node input out → input ≡ inputs.Deliver from (AcceptAck shard epoch slot txn) → OpenPart node.coordinator txn shard case part view → view.epoch ≡ epoch → voted_at part.entry slot ≡ true
    → IsReady setup t u node txn (with_part case (acknowledged part from))
acknowledges_ready tests setup t u node input out from shard epoch slot txn case part view a e o at voted = record {
  fits = acknowledged_case tests setup t u node input out from shard txn case part view a o;
  holds = acknowledges_hold tests setup t u node input out from shard epoch slot txn case part view a e o at voted;
}

pub acting_agrees : (tests : Tests) (version : ℕ) (setup : Deployment) (t u : Moment) (node : NodeRecord) (input : Input) (out : Out NodeRecord) → IsActing tests setup t u node input out → Effect tests version node input out → Each (Agrees u) out.sends
acting_agrees tests version setup t u node _ _ a (Rests input answer notices n) = each-notice (Agrees u) notices n (λ name kind mark why. tt)
acting_agrees tests version setup t u node _ _ a (Certifies payload l case e) = case_agrees u node.coordinator.views (next_txn node) case
acting_agrees tests version setup t u node _ _ a (TakesOver txn row of unmarked closed may case e) = case_agrees u node.coordinator.views txn case
acting_agrees tests version setup t u node _ _ a Nudges =
    each-both (Agrees u) (resend node.coordinator) (ask_stage node.prober) (each-resend (Agrees u) node.coordinator (λ txn case s. case_agrees u node.coordinator.views txn case))
    (each-stage (Agrees u) node.prober (λ name epoch. tt) (λ shard. tt) (λ shard epoch. tt) (λ config e. tt))
acting_agrees tests version setup t u node _ _ a (AnswersAgain from epoch txn shards part row lead state among is) = each-one (Agrees u) (to from (PrepareAck node.shard epoch row.entry)) tt
acting_agrees tests version setup t u node _ _ a (Appends from epoch txn shards part lead state among none room entry e) = each-one (Agrees u) (to from (PrepareAck node.shard epoch entry)) tt
acting_agrees tests version setup t u node _ _ a (Votes from shard epoch entry case part view o at lead fits out g) =
    goes_on_told tests setup t u node _ _ entry.txn (with_part case (voted part entry)) (accept (first_entry part.entry entry) part.acks (Some view)) out a (votes_ready tests setup t u node _ _ from shard epoch entry case part view a refl o at) g
    a.noted (each-accept (Agrees u) (first_entry part.entry entry) part.acks view (λ name s. tt))
acting_agrees tests version setup t u node _ _ a (Acknowledges from shard epoch slot txn case part view o at follows fits out g) =
    goes_on_told tests setup t u node _ _ txn (with_part case (acknowledged part from)) [] out a (acknowledges_ready tests setup t u node _ _ from shard epoch slot txn case part view a refl o at fits) g a.noted (λ o s. absurd s)
acting_agrees tests version setup t u node _ _ a (Changes from config h) = ask_agrees u node.coordinator config
acting_agrees tests version setup t u node _ _ a (Learns from config coordinator sent stage asked s h) =
    each-both (Agrees u) sent asked (each-sees (Agrees u) node.coordinator config coordinator sent s (ask_agrees u node.coordinator config))
    (each-hears (Agrees u) node.name config _ node.prober stage asked h (λ name epoch. tt) tt)
acting_agrees tests version setup t u node _ _ a (Accepts from epoch entry p q r) = each-one (Agrees u) (to from (AcceptAck node.shard epoch entry.slot entry.txn)) tt
acting_agrees tests version setup t u node _ _ a (Leads from config shard role promised leader) =
    each-state (Agrees u) version config node.rows (λ name. holds) (λ name k s r q. holds r (piece_row node.rows k r q))
  where
    holds : (r : Row) → StandsIn r node.rows → RowHolds u config.shard config.epoch r
    holds r s = subst (λ x. RowHolds u x config.epoch r) (sym shard) (acting_rows_hold tests version setup t u node _ _ r a (Leads from config shard role promised leader) s)
acting_agrees tests version setup t u node _ _ a (Moves shard want) = each-one (Agrees u) _ tt
acting_agrees tests version setup t u node _ _ a (Lowers shard want epoch probed low p q r) = each-one (Agrees u) _ tt
acting_agrees tests version setup t u node _ _ a (Asks shard) = each-one (Agrees u) _ tt
acting_agrees tests version setup t u node _ _ a (Promises from epoch l) = each-one (Agrees u) _ tt
acting_agrees tests version setup t u node _ _ a (Chooses from state shard want epoch probed low p q r) = each-one (Agrees u) _ tt
acting_agrees tests version setup t u node _ _ a _ = λ o s. absurd s

pub acting_decided : (tests : Tests) (version : ℕ) (setup : Deployment) (t u : Moment) (node : NodeRecord) (input : Input) (out : Out NodeRecord) (txn : TxId) (decision : Decision) → IsActing tests setup t u node input out → Effect tests version node input out
    → StandsIn (notes.Decide txn decision) out.notes → IsDecidedBy setup.shards u txn decision
acting_decided tests version setup t u node _ _ x d a (Votes from shard epoch entry case part view o at lead fits out g) s =
    goes_on_decided tests setup t u node _ _ entry.txn (with_part case (voted part entry)) (accept (first_entry part.entry entry) part.acks (Some view)) out x d a (votes_ready tests setup t u node _ _ from shard epoch entry case part view a refl o at) g s
acting_decided tests version setup t u node _ _ x d a (Acknowledges from shard epoch slot txn case part view o at follows fits out g) s =
    goes_on_decided tests setup t u node _ _ txn (with_part case (acknowledged part from)) [] out x d a (acknowledges_ready tests setup t u node _ _ from shard epoch slot txn case part view a refl o at fits) g s
acting_decided tests version setup t u node _ _ x d a (Certifies payload l case e) (inl q) = absurd (cc q)
acting_decided tests version setup t u node _ _ x d a (Certifies payload l case e) (inr s) = absurd s
acting_decided tests version setup t u node _ _ x d a (TakesOver txn row of unmarked closed may case e) (inl q) = absurd (cc q)
acting_decided tests version setup t u node _ _ x d a (TakesOver txn row of unmarked closed may case e) (inr s) = absurd s
acting_decided tests version setup t u node _ _ x d a (Reads name h) (inl q) = absurd (cc q)
acting_decided tests version setup t u node _ _ x d a (Reads name h) (inr s) = absurd s
acting_decided tests version setup t u node _ _ x d a _ s = absurd s
