-- The rules of a node that coordinates transactions, read backwards.
use Rattle.std.proofs.Common.{ℕ, List, [], Some, refl, ◌&&◌, ◌==◌, eqb-true, ltb-true, nat_lt}
use Rattle.std.proofs.lemmas.Bool.{and_parts}
use Rattle.tcs_terms.specs.declared.ids.TxId.{TxId}
use Rattle.tcs_terms.specs.declared.inputs.Handled.TheVariants.{Held}
use Rattle.tcs_terms.specs.declared.inputs.Input.TheVariants as inputs
use Rattle.tcs_terms.specs.declared.messages.Message.{Message}
use Rattle.tcs_terms.specs.declared.messages.Message.TheVariants.{PrepareAck, AcceptAck, ConfigChange, OutcomeOf}
use Rattle.tcs_terms.specs.declared.messages.Outgoing.{Outgoing}
use Rattle.tcs_terms.specs.declared.votes.Decision.{Decision}
use Rattle.tcs_terms.specs.Places.{Membership}
use Rattle.tcs_terms.specs.Preparations.{Preparation}
use Rattle.tcs_laws.specs.Certification.{Tests}
use Rattle.protocol.specs.Cases.{part_of, accept, is_complete}
use Rattle.protocol.specs.ClientRules.{coordinates}
use Rattle.protocol.specs.Coordination.{case_of, with_part, check_decision, fits_slot, first_entry, voted, voted_at, acknowledged, in_case, in_part, in_view, prepare_ack_in, accept_ack_in, on_prepare_ack, on_accept_ack, is_newer, on_config}
use Rattle.protocol.specs.Outcomes.{Out, tells, refusal, refuses}
use Rattle.protocol.specs.Records.{Case, Coordinator, NodeRecord}
use Rattle.protocol.specs.Table.{noticed, on_outcome}
use Rattle.protocol.specs.Views.{view_of, view_epoch, is_follower}
use Rattle.protocol_laws.specs.Effect.{IsMark, NoMark, Viewed, Effect, with_coordinator, GoesOn, Waiting, Decides, Votes, Acknowledges, Changes, Keeps}
use Rattle.protocol_laws.proofs.Guards.{by_guard, by_option, Receives, no_notice, refusal-tells, rests_quietly, refuses_noticed, view-mark}

check_decision-GoesOn : (c : Coordinator) (txn : TxId) (case : Case) (sends : List Outgoing) → GoesOn c txn case sends (check_decision c txn case sends)
unfolding check_decision
check_decision-GoesOn c txn case sends = by_guard (GoesOn c txn case sends) (is_complete c.views case) (λ e. Decides e) (λ e. Waiting e)

-- a case that goes on sends no notice
going_on : (P : Out NodeRecord → Type 0) (node : NodeRecord) (txn : TxId) (case : Case) (sends : List Outgoing) (from kind : ℕ) (out : Out Coordinator)
    → GoesOn node.coordinator txn case sends out → P (tells (with_coordinator node out.kept) out.sends out.notes) → P (noticed node from kind (coordinates node out))
going_on P node txn case sends from kind out (Waiting e) h = no_notice P from kind node.promised _ _ _ h
going_on P node txn case sends from kind out (Decides e) h = no_notice P from kind node.promised _ _ _ h

pub prepare_ack_effect : (tests : Tests) (version : ℕ) (node : NodeRecord) (from shard epoch : ℕ) (entry : Preparation)
    → Receives tests version node from 2 (PrepareAck shard epoch entry) (coordinates node (on_prepare_ack node.coordinator from shard epoch entry))
unfolding on_prepare_ack
prepare_ack_effect tests version node from shard epoch entry =
    let c : Coordinator = node.coordinator in
    let message : Message = PrepareAck shard epoch entry in
    let P : Out Coordinator → Type 0 = λ out. Receives tests version node from 2 message (coordinates node out) in
    let E : Out NodeRecord → Type 0 = Effect tests version node (inputs.Deliver from message) in
    let none_there : (mark : ℕ) → IsMark node mark → P (refuses epoch mark c) = λ mark m. refuses_noticed tests version node from 2 message epoch mark m (record { answered = refl; kind = refl }) in
    by_option P (in_case c epoch shard (prepare_ack_in c from epoch entry)) (case_of c entry.txn) (λ none. none_there (view_epoch c.views shard) (Viewed shard))
    (λ case opened. by_option P (in_part c epoch shard (prepare_ack_in c from epoch entry case)) (part_of case.parts shard) (λ none. none_there (view_epoch c.views shard) (Viewed shard))
    (λ part has. by_option P (in_view c epoch (prepare_ack_in c from epoch entry case part)) (view_of c.views shard) (λ none. none_there 0 NoMark)
    (λ view sees. by_guard P ((view.epoch == epoch) && (view.leader == from) && fits_slot part.entry entry.slot)
    (λ e. let p = and_parts ((view.epoch == epoch) && (view.leader == from)) (fits_slot part.entry entry.slot) e in
    let q = and_parts (view.epoch == epoch) (view.leader == from) p.0 in
    let on = with_part case (voted part entry) in
    let sends = accept (first_entry part.entry entry) part.acks (Some view) in
    let out = check_decision c entry.txn on sends in
    let goes : GoesOn c entry.txn on sends out = check_decision-GoesOn c entry.txn on sends in
    going_on E node entry.txn on sends from 2 out goes
    (Votes from shard epoch entry case part view (record { opened = opened; has = has; sees = sees }) (eqb-true view.epoch epoch q.0) (eqb-true view.leader from q.1) p.1 out goes))
    (λ e. none_there view.epoch (view-mark node shard view sees)))))

pub accept_ack_effect : (tests : Tests) (version : ℕ) (node : NodeRecord) (from shard epoch slot : ℕ) (txn : TxId)
    → Receives tests version node from 4 (AcceptAck shard epoch slot txn) (coordinates node (on_accept_ack node.coordinator from shard epoch slot txn))
unfolding on_accept_ack
accept_ack_effect tests version node from shard epoch slot txn =
    let c : Coordinator = node.coordinator in
    let message : Message = AcceptAck shard epoch slot txn in
    let P : Out Coordinator → Type 0 = λ out. Receives tests version node from 4 message (coordinates node out) in
    let E : Out NodeRecord → Type 0 = Effect tests version node (inputs.Deliver from message) in
    let none_there : (mark : ℕ) → IsMark node mark → P (refuses epoch mark c) = λ mark m. refuses_noticed tests version node from 4 message epoch mark m (record { answered = refl; kind = refl }) in
    by_option P (in_case c epoch shard (accept_ack_in c from epoch slot txn)) (case_of c txn) (λ none. none_there (view_epoch c.views shard) (Viewed shard))
    (λ case opened. by_option P (in_part c epoch shard (accept_ack_in c from epoch slot txn case)) (part_of case.parts shard) (λ none. none_there (view_epoch c.views shard) (Viewed shard))
    (λ part has. by_option P (in_view c epoch (accept_ack_in c from epoch slot txn case part)) (view_of c.views shard) (λ none. none_there 0 NoMark)
    (λ view sees. by_guard P ((view.epoch == epoch) && is_follower view from && voted_at part.entry slot)
    (λ e. let p = and_parts ((view.epoch == epoch) && is_follower view from) (voted_at part.entry slot) e in
    let q = and_parts (view.epoch == epoch) (is_follower view from) p.0 in
    let on = with_part case (acknowledged part from) in
    let out = check_decision c txn on [] in
    let goes : GoesOn c txn on [] out = check_decision-GoesOn c txn on [] in
    going_on E node txn on [] from 4 out goes
    (Acknowledges from shard epoch slot txn case part view (record { opened = opened; has = has; sees = sees }) (eqb-true view.epoch epoch q.0) q.1 p.1 out goes))
    (λ e. none_there view.epoch (view-mark node shard view sees)))))

pub config_change_effect : (tests : Tests) (version : ℕ) (node : NodeRecord) (from : ℕ) (config : Membership)
    → Effect tests version node (inputs.Deliver from (ConfigChange config)) (coordinates node (on_config node.coordinator config))
unfolding on_config
config_change_effect tests version node from config =
    by_guard (λ out. Effect tests version node (inputs.Deliver from (ConfigChange config)) (coordinates node out)) (is_newer node.coordinator config)
    (λ e. Changes from config e)
    (λ e. rests_quietly tests version node (inputs.Deliver from (ConfigChange config)) (refusal config.epoch (view_epoch node.coordinator.views config.shard))
    (refusal-tells (IsMark node) config.epoch (view_epoch node.coordinator.views config.shard) (Viewed config.shard)) refl)

pub outcome_effect : (tests : Tests) (version : ℕ) (node : NodeRecord) (from : ℕ) (txn : TxId) (decision : Decision)
    → Effect tests version node (inputs.Deliver from (OutcomeOf txn decision)) (on_outcome node txn decision)
unfolding on_outcome
outcome_effect tests version node from txn decision =
    by_guard (Effect tests version node (inputs.Deliver from (OutcomeOf txn decision))) ((txn.home == node.name) && nat_lt txn.seq node.next)
    (λ e. let p = and_parts (txn.home == node.name) (nat_lt txn.seq node.next) e in
    Keeps from txn decision (eqb-true txn.home node.name p.0) (ltb-true txn.seq node.next p.1))
    (λ e. rests_quietly tests version node (inputs.Deliver from (OutcomeOf txn decision)) (Held 0) NoMark refl)
