-- The rules about answers, for the case that the transaction has.
use Rattle.std.proofs.Common.{◌≡◌, ℕ, true, false, [], Option, Some, None, refl, sym, ◌∙◌, ap, subst}
use Rattle.tcs_terms.specs.declared.ids.TxId.{TxId}
use Rattle.tcs_terms.specs.Preparations.{Preparation}
use Rattle.protocol.specs.Outcomes.{refuses}
use Rattle.protocol.specs.Records.{Part, Case, Coordinator}
use Rattle.protocol.specs.Views.{view_of, view_epoch}
use Rattle.protocol.specs.Cases.{part_of}
use Rattle.protocol.specs.Coordination.{case_of, voted, acknowledged, check_decision, on_prepare_ack, on_accept_ack}
use Rattle.coordinator.specs.Acknowledged.{both_pass, takes_vote, takes_ack, change_part, voted_case, acknowledged_case, send_one}
use Rattle.coordinator.proofs.Answered.{vote_refused, vote_taken, ack_refused, ack_taken}

same_value : {X : Type 0} (o : Option X) (a b : X) → o ≡ Some a → o ≡ Some b → a ≡ b
same_value None a b e f = absurd cc
same_value (Some x) a b e f = cc

-- ---- PREPARE_ACK

module _ (c : Coordinator) (from shard epoch : ℕ) (entry : Preparation) where
  pub vote_of_none : case_of c entry.txn ≡ None → on_prepare_ack c from shard epoch entry ≡ refuses epoch (view_epoch c.views shard) c
  vote_of_none none = vote_refused c from shard epoch entry (rw none refl)

  module _ (case : Case) (is : case_of c entry.txn ≡ Some case) where
    abbrev acts : Type 0
    acts = both_pass (takes_vote from epoch entry.slot) (part_of case.parts shard) (view_of c.views shard) ≡ true

    pub vote_rests : both_pass (takes_vote from epoch entry.slot) (part_of case.parts shard) (view_of c.views shard) ≡ false
        → on_prepare_ack c from shard epoch entry ≡ refuses epoch (view_epoch c.views shard) c
    vote_rests h = vote_refused c from shard epoch entry (rw is h)

    pub vote_goes_on : acts
        → on_prepare_ack c from shard epoch entry
        ≡ check_decision c entry.txn (voted_case shard entry case)
        (send_one c.views entry.txn (voted_case shard entry case) (part_of (voted_case shard entry case).parts shard))
    vote_goes_on h =
        let t = vote_taken c from shard epoch entry (rw is h) in
        let own : t.case ≡ case = same_value (case_of c entry.txn) t.case case t.of_txn is in
        let next = ap (change_part (λ p. voted p entry) t.case) t.of_shard in
        let row = t.row ∙ ap (λ (p : Option Part). check_decision c entry.txn (change_part (λ q. voted q entry) t.case (Some t.part)) (send_one c.views entry.txn (change_part (λ q. voted q entry) t.case (Some t.part)) p)) (sym t.part_after) in
        let there = row ∙ ap (λ (k : Case). check_decision c entry.txn k (send_one c.views entry.txn k (part_of k.parts shard))) (sym next) in
        subst (λ (k : Case). on_prepare_ack c from shard epoch entry
        ≡ check_decision c entry.txn (voted_case shard entry k) (send_one c.views entry.txn (voted_case shard entry k) (part_of (voted_case shard entry k).parts shard))) own there

-- ---- ACCEPT_ACK

module _ (c : Coordinator) (from shard epoch slot : ℕ) (txn : TxId) where
  pub ack_of_none : case_of c txn ≡ None → on_accept_ack c from shard epoch slot txn ≡ refuses epoch (view_epoch c.views shard) c
  ack_of_none none = ack_refused c from shard epoch slot txn (rw none refl)

  module _ (case : Case) (is : case_of c txn ≡ Some case) where
    pub ack_rests : both_pass (takes_ack from epoch slot) (part_of case.parts shard) (view_of c.views shard) ≡ false
        → on_accept_ack c from shard epoch slot txn ≡ refuses epoch (view_epoch c.views shard) c
    ack_rests h = ack_refused c from shard epoch slot txn (rw is h)

    pub ack_goes_on : both_pass (takes_ack from epoch slot) (part_of case.parts shard) (view_of c.views shard) ≡ true
        → on_accept_ack c from shard epoch slot txn ≡ check_decision c txn (acknowledged_case shard from case) []
    ack_goes_on h =
        let t = ack_taken c from shard epoch slot txn (rw is h) in
        let own : t.case ≡ case = same_value (case_of c txn) t.case case t.of_txn is in
        let next = ap (change_part (λ p. acknowledged p from) t.case) t.of_shard in
        let there = t.row ∙ ap (λ (k : Case). check_decision c txn k []) (sym next) in
        subst (λ (k : Case). on_accept_ack c from shard epoch slot txn ≡ check_decision c txn (acknowledged_case shard from k) []) own there
