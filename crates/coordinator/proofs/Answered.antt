-- Answers to PREPARE and to ACCEPT, by whether they act.
use Rattle.std.proofs.Common.{◌≡◌, ℕ, true, false, length, [], Option, Some, sym, ◌∙◌, ap, eqb-true}
use Rattle.std.specs.Prelude.{◌==◌}
use Rattle.tcs_terms.specs.declared.ids.TxId.{TxId}
use Rattle.tcs_terms.specs.Places.{Membership}
use Rattle.tcs_terms.specs.Preparations.{Preparation}
use Rattle.protocol.specs.Outcomes.{Out, refuses}
use Rattle.protocol.specs.Records.{Part, Case, Coordinator}
use Rattle.protocol.specs.Views.{view_of, view_epoch}
use Rattle.protocol.specs.Cases.{part_of, accept, send_part}
use Rattle.protocol.specs.Coordination.{case_of, with_part, voted, acknowledged, first_entry, check_decision, on_prepare_ack, on_accept_ack}
use Rattle.protocol.proofs.Lists.{find-StandsIn}
use Rattle.coordinator.specs.Acknowledged.{part_in, both_pass, takes_vote, takes_ack}
use Rattle.coordinator.proofs.Acknowledging.{acts, refused, found_after_put}

-- ---- PREPARE_ACK

module _ (c : Coordinator) (from shard epoch : ℕ) (entry : Preparation) where
  act_on_vote : Case → Part → Membership → Out Coordinator
  act_on_vote case part view = check_decision c entry.txn (with_part case (voted part entry)) (accept (first_entry part.entry entry) part.acks (Some view))

  pub vote_refused : both_pass (takes_vote from epoch entry.slot) (part_in c.cases entry.txn shard) (view_of c.views shard) ≡ false
      → on_prepare_ack c from shard epoch entry ≡ refuses epoch (view_epoch c.views shard) c
  unfolding on_prepare_ack act_on_vote
  vote_refused h = refused c epoch shard entry.txn (takes_vote from epoch entry.slot) act_on_vote h

  -- the part of the case that it acts on, and what the rule does then
  pub record TakesVote : Type 0 where
    pub case : Case
    pub part : Part
    pub of_txn : case_of c entry.txn ≡ Some case
    pub of_shard : part_of case.parts shard ≡ Some part
    pub part_after : part_of (with_part case (voted part entry)).parts shard ≡ Some (voted part entry)
    pub row : on_prepare_ack c from shard epoch entry
        ≡ check_decision c entry.txn (with_part case (voted part entry))
        (send_part (length c.views) entry.txn (with_part case (voted part entry)) (voted part entry).entry part.acks (view_of c.views part.shard))

  pub vote_taken : both_pass (takes_vote from epoch entry.slot) (part_in c.cases entry.txn shard) (view_of c.views shard) ≡ true → TakesVote
  unfolding on_prepare_ack act_on_vote send_part
  vote_taken h =
      let a = acts c epoch shard entry.txn (takes_vote from epoch entry.slot) act_on_vote h in
      let own : a.part.shard ≡ shard = eqb-true a.part.shard shard ((find-StandsIn (λ (p : Part). p.shard == shard) a.case.parts a.part a.of_shard).1) in
      record {
        case = a.case;
        part = a.part;
        of_txn = a.of_txn;
        of_shard = a.of_shard;
        part_after = found_after_put shard (voted a.part entry) a.case.parts a.part own a.of_shard;
        row = a.row ∙ ap (λ (v : Option Membership). check_decision c entry.txn (with_part a.case (voted a.part entry)) (accept (first_entry a.part.entry entry) a.part.acks v)) (sym (ap (view_of c.views) own ∙ a.seen));
      }

-- ---- ACCEPT_ACK

module _ (c : Coordinator) (from shard epoch slot : ℕ) (txn : TxId) where
  act_on_ack : Case → Part → Membership → Out Coordinator
  act_on_ack case part view = check_decision c txn (with_part case (acknowledged part from)) []

  pub ack_refused : both_pass (takes_ack from epoch slot) (part_in c.cases txn shard) (view_of c.views shard) ≡ false
      → on_accept_ack c from shard epoch slot txn ≡ refuses epoch (view_epoch c.views shard) c
  unfolding on_accept_ack act_on_ack
  ack_refused h = refused c epoch shard txn (takes_ack from epoch slot) act_on_ack h

  -- the part of the case that it acts on, and what the rule does then
  pub record TakesAck : Type 0 where
    pub case : Case
    pub part : Part
    pub of_txn : case_of c txn ≡ Some case
    pub of_shard : part_of case.parts shard ≡ Some part
    pub row : on_accept_ack c from shard epoch slot txn ≡ check_decision c txn (with_part case (acknowledged part from)) []

  pub ack_taken : both_pass (takes_ack from epoch slot) (part_in c.cases txn shard) (view_of c.views shard) ≡ true → TakesAck
  unfolding on_accept_ack act_on_ack
  ack_taken h =
      let a = acts c epoch shard txn (takes_ack from epoch slot) act_on_ack h in
      record {
        case = a.case;
        part = a.part;
        of_txn = a.of_txn;
        of_shard = a.of_shard;
        row = a.row;
      }
