-- The parts of a case: what is sent for them, when they are complete, and what they decide.
use Rattle.std.specs.Prelude.{ℕ, Bool, true, false, not, ◌==◌, if◌then◌else◌, List, [], ◌∷◌, ◌++◌, filter, find, flat_map, map, length, Option, Some, None, option_and_then, is_some}
use Rattle.std.specs.List.{list_all}
use Rattle.tcs_terms.specs.declared.ids.TxId.{TxId}
use Rattle.tcs_terms.specs.declared.messages.Message.TheVariants.{Prepare, Accept, DecisionFor, OutcomeOf}
use Rattle.tcs_terms.specs.declared.messages.Outgoing.{Outgoing}
use Rattle.tcs_terms.specs.declared.votes.Vote.{Vote}
use Rattle.tcs_terms.specs.declared.votes.Vote.TheVariants as votes
use Rattle.tcs_terms.specs.declared.votes.Cause.{Cause}
use Rattle.tcs_terms.specs.declared.votes.Cause.TheVariants as causes
use Rattle.tcs_terms.specs.declared.votes.Decision.{Decision}
use Rattle.tcs_terms.specs.declared.votes.Decision.TheVariants as decisions
use Rattle.tcs_terms.specs.Payloads.{Accesses}
use Rattle.tcs_terms.specs.Places.{Membership, is_among}
use Rattle.tcs_terms.specs.Preparations.{Preparation}
use Rattle.tcs_terms.specs.Shards.{restricted}
use Rattle.protocol.specs.Outcomes.{to}
use Rattle.protocol.specs.Records.{Part, Case}
use Rattle.protocol.specs.Views.{view_of, followers}

-- a part as it begins
abbrev pub asked : ℕ → Part
asked shard = record { shard = shard; entry = None; acks = [] }

-- a case as it begins: all its shards are asked
abbrev pub new_case : List ℕ → Option Accesses → Case
new_case shards payload = record { shards = shards; payload = payload; parts = map asked shards }

-- the part of a shard, if the case has that shard
abbrev pub part_of : List Part → ℕ → Option Part
part_of parts shard = find (λ p. p.shard == shard) parts

-- the parts with one in the place of its shard's
abbrev pub put_part : Part → List Part → List Part
put_part part parts = map (λ p. if p.shard == part.shard then part else p) parts

-- PREPARE of a case's shard to the leader of the shard's view, with the part of the payload in that shard, or without
-- payload where the case has none; nothing where the run does not have the shard
unfoldable pub prepare : ℕ → TxId → Case → Option Membership → List Outgoing
prepare n txn case None = []
prepare n txn case (Some v) =
    to v.leader (Prepare v.epoch txn case.shards (option_and_then (restricted n v.shard) case.payload)) ∷ []

-- ACCEPT of a voted shard's entry to each follower of its view that has not acknowledged it
unfoldable pub accept : Preparation → List ℕ → Option Membership → List Outgoing
accept entry acks None = []
accept entry acks (Some v) =
    map (λ node. to node (Accept v.epoch entry)) (filter (λ node. not (is_among acks node)) (followers v))

-- what a shard of a case still waits for is sent again
unfoldable pub send_part : ℕ → TxId → Case → Option Preparation → List ℕ → Option Membership → List Outgoing
send_part n txn case None acks view = prepare n txn case view
send_part n txn case (Some entry) acks view = accept entry acks view

-- the same for each shard of a case
unfoldable pub send_case : List Membership → TxId → Case → List Outgoing
send_case views txn case =
    flat_map (λ p. send_part (length views) txn case p.entry p.acks (view_of views p.shard)) case.parts

-- whether each follower of the view has acknowledged
abbrev pub all_acknowledge : Option Membership → List ℕ → Bool
all_acknowledge None acks = false
all_acknowledge (Some v) acks = list_all (λ node. is_among acks node) (followers v)

-- whether a shard is voted, and acknowledged by every follower
abbrev pub is_complete_by : Option Preparation → List ℕ → Option Membership → Bool
is_complete_by None acks view = false
is_complete_by (Some entry) acks view = all_acknowledge view acks

-- a case is complete where every shard is voted, and acknowledged by every follower of its view
abbrev pub is_complete : List Membership → Case → Bool
is_complete views case = list_all (λ p. is_complete_by p.entry p.acks (view_of views p.shard)) case.parts

-- what a vote is the cause of, if it is not to commit
abbrev pub cause_by : Vote → Option Cause
cause_by votes.Commit = None
cause_by (votes.Clash txn) = Some (causes.Clash txn)
cause_by votes.Lost = Some causes.Lost

-- the cause in an entry's vote
abbrev pub cause_of : Option Preparation → Option Cause
cause_of None = None
cause_of (Some entry) = cause_by entry.vote

-- an abort that names the shard and the cause, if there is one
abbrev pub decision_at : ℕ → Option Cause → Decision
decision_at shard None = decisions.Commit
decision_at shard (Some cause) = decisions.Abort shard cause

-- the decision, given the first part whose vote is not to commit
abbrev pub decision_by : Option Part → Decision
decision_by None = decisions.Commit
decision_by (Some p) = decision_at p.shard (cause_of p.entry)

-- Commit where all votes are to commit, else an abort that names the first shard whose vote is not, and that vote.
-- The parts of a case ascend by shard.
unfoldable pub decision_of : List Part → Decision
decision_of parts = decision_by (find (λ p. is_some (cause_of p.entry)) parts)

-- whether a decision is to commit
abbrev pub commits : Decision → Bool
commits decisions.Commit = true
commits (decisions.Abort shard cause) = false

-- DECISION of a voted shard to every member of its view
abbrev pub tell_members : TxId → Bool → Option Preparation → Option Membership → List Outgoing
tell_members txn commit (Some entry) (Some v) = map (λ node. to node (DecisionFor v.epoch entry.slot txn commit)) v.members
tell_members txn commit None view = []
tell_members txn commit (Some entry) None = []

-- the decision of a case to every member of each shard's view, and its outcome to the transaction's home
unfoldable pub tell_decision : List Membership → TxId → List Part → Decision → List Outgoing
tell_decision views txn parts decision =
    flat_map (λ p. tell_members txn (commits decision) p.entry (view_of views p.shard)) parts
    ++ to txn.home (OutcomeOf txn decision) ∷ []
