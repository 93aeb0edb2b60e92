-- When an acknowledgement acts on a shard of a case, and what it makes of the case.
use Rattle.std.specs.Prelude.{ℕ, Bool, false, ◌&&◌, ◌==◌, List, [], ◌∷◌, length, Option, None, Some, option_and_then}
use Rattle.std.specs.Map.{lookup}
use Rattle.tcs_terms.specs.declared.ids.TxId.{TxId}
use Rattle.tcs_terms.specs.declared.inputs.Note.{Note}
use Rattle.tcs_terms.specs.declared.inputs.Note.TheVariants as notes
use Rattle.tcs_terms.specs.declared.messages.Outgoing.{Outgoing}
use Rattle.tcs_terms.specs.Logs.{same_txn}
use Rattle.tcs_terms.specs.Places.{Membership}
use Rattle.tcs_terms.specs.Preparations.{Preparation}
use Rattle.protocol.specs.Choices.{when}
use Rattle.protocol.specs.Records.{Part, Case, Coordinator}
use Rattle.protocol.specs.Cases.{part_of, send_part, is_complete, decision_of, tell_decision}
use Rattle.protocol.specs.Coordination.{fits_slot, voted_at, voted, acknowledged, with_part}
use Rattle.protocol.specs.Views.{view_of, is_follower}

-- a coordinator that has these views and cases
abbrev pub having : List Membership → List (TxId × Case) → Coordinator
having views cases = record { views = views; cases = cases }

-- a shard of a transaction's case, if there is the case and it has the shard
abbrev pub part_in : List (TxId × Case) → TxId → ℕ → Option Part
part_in cases txn shard = option_and_then (λ case. part_of case.parts shard) (lookup (same_txn txn) cases)

-- whether there are a part and a view that pass a test
abbrev pub both_pass : (Part → Membership → Bool) → Option Part → Option Membership → Bool
both_pass test None view = false
both_pass test (Some part) None = false
both_pass test (Some part) (Some view) = test part view

-- whether an answer to PREPARE acts: it is of the leader of the shard's view, at its epoch, and its slot fits
abbrev pub takes_vote : ℕ → ℕ → ℕ → Part → Membership → Bool
takes_vote from epoch slot part view = (view.epoch == epoch) && (view.leader == from) && fits_slot part.entry slot

-- whether an answer to ACCEPT acts: it is of a follower of the shard's view, at its epoch, and of the voted entry's slot
abbrev pub takes_ack : ℕ → ℕ → ℕ → Part → Membership → Bool
takes_ack from epoch slot part view = (view.epoch == epoch) && is_follower view from && voted_at part.entry slot

-- a case with a part of it changed, if it has the part
abbrev pub change_part : (Part → Part) → Case → Option Part → Case
change_part change case None = case
change_part change case (Some part) = with_part case (change part)

-- the case after an answer to PREPARE
abbrev pub voted_case : ℕ → Preparation → Case → Case
voted_case shard entry case = change_part (λ p. voted p entry) case (part_of case.parts shard)

-- the case after an answer to ACCEPT
abbrev pub acknowledged_case : ℕ → ℕ → Case → Case
acknowledged_case shard from case = change_part (λ p. acknowledged p from) case (part_of case.parts shard)

-- what a part of a case still waits for, if it has the part
abbrev pub send_one : List Membership → TxId → Case → Option Part → List Outgoing
send_one views txn case None = []
send_one views txn case (Some part) = send_part (length views) txn case part.entry part.acks (view_of views part.shard)

-- what is told of a case, and noted, where it is complete
unfoldable pub told : List Membership → TxId → Case → List Outgoing
told views txn case = when (is_complete views case) (tell_decision views txn case.parts (decision_of case.parts)) []

unfoldable pub noted : List Membership → TxId → Case → List Note
noted views txn case = when (is_complete views case) (notes.Decide txn (decision_of case.parts) ∷ []) []
