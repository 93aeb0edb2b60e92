-- What a node that acts sends says what is so of transactions.
use Rattle.std.proofs.Common.{◌≡◌, ℕ, List, [], ◌∷◌, Some, ◌⊎◌, inl, inr, sym, subst, refl}
use Rattle.tcs_terms.specs.declared.ids.TxId.{TxId}
use Rattle.tcs_terms.specs.declared.inputs.Input.{Input}
use Rattle.tcs_terms.specs.declared.inputs.Input.TheVariants as inputs
use Rattle.tcs_terms.specs.declared.logs.Row.{Row}
use Rattle.tcs_terms.specs.declared.messages.Message.TheVariants.{PrepareAck, Accept, AcceptAck, ConfigChange, Stored}
use Rattle.tcs_terms.specs.declared.messages.Outgoing.{Outgoing}
use Rattle.tcs_terms.specs.Logs.{same_txn}
use Rattle.tcs_terms.specs.Places.{Membership}
use Rattle.tcs_terms.specs.Setups.{Deployment}
use Rattle.tcs_laws.specs.Certification.{Tests}
use Rattle.protocol.specs.Cases.{accept}
use Rattle.protocol.specs.ClientRules.{next_txn}
use Rattle.protocol.specs.Coordination.{with_part, first_entry, voted, acknowledged, resend}
use Rattle.protocol.specs.Log.{undecided}
use Rattle.protocol.specs.Outcomes.{Out, to}
use Rattle.protocol.specs.Probing.{ask_stage}
use Rattle.protocol.specs.Records.{Case, Coordinator, NodeRecord}
use Rattle.protocol.specs.Invariant.Time.{Moment, StandsIn, IsStored}
use Rattle.protocol.specs.Invariant.Transactions.{EntryFits, CaseFits}
use Rattle.protocol.proofs.Lists.{find-StandsIn}
use Rattle.protocol_laws.specs.Effect.{GoesOn, Effect}
use Rattle.protocol_laws.specs.Effect.Effect.{Rests, Certifies, TakesOver, Nudges, Moves, Lowers, Asks, AnswersAgain, Appends, Votes, Acknowledges, Changes, Learns, Accepts, Promises, Chooses, Leads}
use Rattle.protocol_laws.proofs.TransactionsCases.{acting_cases, old_cases_fit, voted_now, voted_case, acknowledged_case}
use Rattle.protocol_laws.proofs.TransactionsLast.{has_begun-on}
use Rattle.protocol_laws.proofs.Standing.{StandsIn-right}
use Rattle.protocol_laws.proofs.ViewsStored.{view_is, views_length, IsView}
use Rattle.protocol_laws.proofs.TransactionsSends.{AreViews, case_sends, resends, leader_asked, decision_told, Fits, accept_fits}
use Rattle.protocol_laws.proofs.TransactionsActing.{IsActing}
use Rattle.protocol_laws.proofs.TransferPieces.{piece_row}
use Rattle.protocol_laws.proofs.Sends.{Each, each-one, each-both, each-accept, each-sees, each-goes_on, each-stage, each-hears, each-state, each-notice}

-- what is sent of a case that goes on
goes_on_sends : (setup : Deployment) (t : Moment) (c : Coordinator) (txn : TxId) (case : Case) (sends : List Outgoing) (out : Out Coordinator) → Each (Fits setup.shards t) sends → CaseFits setup.shards t txn case → GoesOn c txn case sends out
    → Each (Fits setup.shards t) out.sends
goes_on_sends setup t c txn case sends out k f g = each-goes_on (Fits setup.shards t) c txn case sends out g k (λ complete noted. decision_told setup.shards t c.views txn case f)

-- the views of a node are stored then
views_are : (tests : Tests) (setup : Deployment) (t u : Moment) (node : NodeRecord) (input : Input) (out : Out NodeRecord) → IsActing tests setup t u node input out → AreViews u node.coordinator.views
views_are tests setup t u node input out a shard v e =
    let i : IsView t shard v = view_is setup t node shard v a.before.configurations a.is e in record { stored = a.goes.onward.stored v i.stored; of_shard = i.of_shard }

-- the configuration of a message that the node took is stored
told_stored : (tests : Tests) (setup : Deployment) (t u : Moment) (node : NodeRecord) (input : Input) (out : Out NodeRecord) (from : ℕ) (c : Membership) → IsActing tests setup t u node input out → input ≡ inputs.Deliver from (ConfigChange c) ⊎ (input ≡ inputs.Deliver from (Stored c)) → IsStored u c
told_stored tests setup t u node input out from c a (inl e) = a.goes.onward.stored c (a.before.configurations.in_messages from node.name (ConfigChange c) c (a.received from (ConfigChange c) e) refl)
told_stored tests setup t u node input out from c a (inr e) = a.goes.onward.stored c (a.before.configurations.in_messages from node.name (Stored c) c (a.received from (Stored c) e) refl)

pub acting_sends : (tests : Tests) (version : ℕ) (setup : Deployment) (t u : Moment) (node : NodeRecord) (input : Input) (out : Out NodeRecord) → IsActing tests setup t u node input out → Effect tests version node input out
    → Each (Fits setup.shards u) out.sends
acting_sends tests version setup t u node _ _ a (Rests input answer notices n) = each-notice (Fits setup.shards u) notices n (λ name kind mark why at i e. tt)
acting_sends tests version setup t u node _ _ a (Certifies payload l case e) =
    case_sends setup u node.coordinator.views (next_txn node) case a.configurations (views_length setup t node a.before.configurations a.is) (views_are tests setup t u node _ _ a)
    (acting_cases tests version setup t u node _ _ a (Certifies payload l case e) (next_txn node) case (StandsIn-right node.coordinator.cases ((next_txn node, case) ∷ []) (next_txn node, case) (inl refl)))
acting_sends tests version setup t u node _ _ a (TakesOver txn row of unmarked closed may case e) =
    case_sends setup u node.coordinator.views txn case a.configurations (views_length setup t node a.before.configurations a.is) (views_are tests setup t u node _ _ a)
    (acting_cases tests version setup t u node _ _ a (TakesOver txn row of unmarked closed may case e) txn case (StandsIn-right node.coordinator.cases ((txn, case) ∷ []) (txn, case) (inl refl)))
acting_sends tests version setup t u node _ _ a Nudges =
    each-both (Fits setup.shards u) (resend node.coordinator) (ask_stage node.prober)
    (resends setup u node.coordinator a.configurations (views_length setup t node a.before.configurations a.is) (views_are tests setup t u node _ _ a) (old_cases_fit tests setup t u node _ _ a))
    (each-stage (Fits setup.shards u) node.prober (λ name epoch at i e. tt) (λ shard at i e. tt) (λ shard epoch at i e. tt) (λ config q at i e. tt))
acting_sends tests version setup t u node _ _ a (Moves shard want) = each-one (Fits setup.shards u) _ (λ at i e. tt)
acting_sends tests version setup t u node _ _ a (Lowers shard want epoch probed low p q r) = each-one (Fits setup.shards u) _ (λ at i e. tt)
acting_sends tests version setup t u node _ _ a (Asks shard) = each-one (Fits setup.shards u) _ (λ at i e. tt)
acting_sends tests version setup t u node _ _ a (AnswersAgain from epoch txn shards part row lead state among is) =
    each-one (Fits setup.shards u) (to from (PrepareAck node.shard epoch row.entry)) (λ at i e. a.rows row (find-StandsIn (λ (r : Row). same_txn r.entry.txn txn) node.rows row is).0)
acting_sends tests version setup t u node _ _ a (Appends from epoch txn shards part lead state among none room entry e) =
    each-one (Fits setup.shards u) (to from (PrepareAck node.shard epoch entry)) (λ at i q. a.rows (undecided entry) (StandsIn-right node.rows (undecided entry ∷ []) (undecided entry) (inl refl)))
acting_sends tests version setup t u node _ _ a (Votes from shard epoch entry case part view o b c d out g) =
    goes_on_sends setup u node.coordinator entry.txn (with_part case (voted part entry)) (accept (first_entry part.entry entry) part.acks (Some view)) out
    (each-accept (Fits setup.shards u) (first_entry part.entry entry) part.acks view (λ name s.
    accept_fits setup u shard (first_entry part.entry entry) view name a.configurations (voted_now tests setup t u node _ _ from shard epoch entry case part view a refl o) (views_are tests setup t u node _ _ a shard view o.sees) s))
    (voted_case tests setup t u node _ _ from shard epoch entry case part view a refl o) g
acting_sends tests version setup t u node _ _ a (Acknowledges from shard epoch slot txn case part view o b c d out g) =
    goes_on_sends setup u node.coordinator txn (with_part case (acknowledged part from)) [] out (λ o s node i e. absurd s) (acknowledged_case tests setup t u node _ _ from shard txn case part view a o) g
acting_sends tests version setup t u node _ _ a (Changes from config h) =
    leader_asked setup u node.coordinator config a.configurations (views_length setup t node a.before.configurations a.is) (told_stored tests setup t u node _ _ from config a (inl refl)) (old_cases_fit tests setup t u node _ _ a)
acting_sends tests version setup t u node _ _ a (Learns from config coordinator sent stage asked s h) =
    each-both (Fits setup.shards u) sent asked
    (each-sees (Fits setup.shards u) node.coordinator config coordinator sent s
    (leader_asked setup u node.coordinator config a.configurations (views_length setup t node a.before.configurations a.is) (told_stored tests setup t u node _ _ from config a (inr refl)) (old_cases_fit tests setup t u node _ _ a)))
    (each-hears (Fits setup.shards u) node.name config _ node.prober stage asked h (λ name epoch at i e. tt) (λ at i e. tt))
acting_sends tests version setup t u node _ _ a (Accepts from epoch entry p q r) =
    each-one (Fits setup.shards u) (to from (AcceptAck node.shard epoch entry.slot entry.txn)) (λ at i e. (
    let f : EntryFits setup.shards t node.shard entry = a.before.transactions.messages from node (Accept epoch entry) a.is (a.received from (Accept epoch entry) refl) in
    has_begun-on t u entry.txn a.goes (f.payload, f.begun)))
acting_sends tests version setup t u node _ _ a (Promises from epoch l) = each-one (Fits setup.shards u) _ (λ at i e. tt)
acting_sends tests version setup t u node _ _ a (Chooses from state shard want epoch probed low p q r) = each-one (Fits setup.shards u) _ (λ at i e. tt)
acting_sends tests version setup t u node _ _ a (Leads from config shard role promised leader) =
    each-state (Fits setup.shards u) version config node.rows (λ name at i e. fits) (λ name k s at i e r q. fits r (piece_row node.rows k r q))
  where
    fits : (r : Row) → StandsIn r node.rows → EntryFits setup.shards u config.shard r.entry
    fits r s = subst (λ x. EntryFits setup.shards u x r.entry) (sym shard) (a.rows r s)
acting_sends tests version setup t u node _ _ a _ = λ o s at i e. absurd s
