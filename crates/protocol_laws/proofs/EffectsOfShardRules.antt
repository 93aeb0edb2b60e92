-- The rules of a node in its own shard, read backwards: preparing, accepting, marking, promising, leading, following.
use Rattle.std.proofs.Common.{◌≡◌, ℕ, Bool, true, not, List, Option, ◌&&◌, ◌==◌, nat_le, refl, eqb-true, leb-true}
use Rattle.std.proofs.lemmas.Bool.{and_parts}
use Rattle.tcs_terms.specs.declared.ids.TxId.{TxId}
use Rattle.tcs_terms.specs.declared.inputs.Handled.TheVariants.{Full}
use Rattle.tcs_terms.specs.declared.logs.Row.{Row}
use Rattle.tcs_terms.specs.declared.inputs.Input.TheVariants as inputs
use Rattle.tcs_terms.specs.declared.messages.Message.{Message}
use Rattle.tcs_terms.specs.declared.messages.Message.TheVariants.{Prepare, Accept, DecisionFor, Probe, NewConfig, NewState, StatePiece}
use Rattle.tcs_terms.specs.Payloads.{Accesses}
use Rattle.tcs_terms.specs.Places.{Membership, is_among}
use Rattle.tcs_terms.specs.Preparations.{Preparation}
use Rattle.tcs_laws.specs.Certification.{Tests}
use Rattle.protocol.specs.Log.{row_of, is_full, new_entry, has_at, is_taken}
use Rattle.protocol.specs.Outcomes.{Out}
use Rattle.protocol.specs.Pieces.{takes_piece, gathering_for, with_one_more, is_whole}
use Rattle.protocol.specs.Records.{Role, NodeRecord, Gathering, Piece}
use Rattle.protocol.specs.Records.Role.{Fenced, Leader, Follower}
use Rattle.protocol.specs.ShardRules.{is_leader, is_following, is_fenced, least, prepared, may_follow, on_prepare, on_accept, on_decision, on_probe, on_new_config, on_new_state, on_state_piece}
use Rattle.protocol.specs.Views.{is_follower}
use Rattle.protocol_laws.specs.Effect.{Effect, MayFollow, AnswersAgain, Appends, Accepts, Marks, Promises, Leads, Follows, Gathers, FollowsPieces}
use Rattle.protocol_laws.proofs.Guards.{by_guard, by_option, not-true, Receives, no_notice, rests_noticed, refuses_noticed}
use Rattle.protocol_laws.specs.Effect.IsMark.{Promised, Reached, Least}

pub prepare_effect : (tests : Tests) (version : ℕ) (node : NodeRecord) (from epoch : ℕ) (txn : TxId) (shards : List ℕ) (part : Option Accesses)
    → Receives tests version node from 1 (Prepare epoch txn shards part) (on_prepare tests node from epoch txn shards part)
unfolding on_prepare
prepare_effect tests version node from epoch txn shards part =
    let message : Message = Prepare epoch txn shards part in
    let P : Out NodeRecord → Type 0 = Receives tests version node from 1 message in
    let E : Out NodeRecord → Type 0 = Effect tests version node (inputs.Deliver from message) in
    by_guard P (is_leader node.role && (node.state == epoch) && is_among shards node.shard)
    (λ e. let p = and_parts (is_leader node.role && (node.state == epoch)) (is_among shards node.shard) e in
    let q = and_parts (is_leader node.role) (node.state == epoch) p.0 in
    let same : node.state ≡ epoch = eqb-true node.state epoch q.1 in
    by_option P (prepared tests node from epoch txn shards part) (row_of node.rows txn)
    (λ none. by_guard P (is_full node.rows)
    (λ full. rests_noticed tests version node from 1 message Full tt (record { answered = refl; kind = refl }))
    (λ room. no_notice E from 1 node.promised _ _ _ (Appends from epoch txn shards part q.0 same p.1 none room (new_entry tests node.rows txn shards part) refl)))
    (λ row some. no_notice E from 1 node.promised _ _ _ (AnswersAgain from epoch txn shards part row q.0 same p.1 some)))
    (λ e. refuses_noticed tests version node from 1 message epoch node.promised Promised (record { answered = refl; kind = refl }))

pub accept_effect : (tests : Tests) (version : ℕ) (node : NodeRecord) (from epoch : ℕ) (entry : Preparation)
    → Receives tests version node from 3 (Accept epoch entry) (on_accept node from epoch entry)
unfolding on_accept
accept_effect tests version node from epoch entry =
    let message : Message = Accept epoch entry in
    let P : Out NodeRecord → Type 0 = Receives tests version node from 3 message in
    let E : Out NodeRecord → Type 0 = Effect tests version node (inputs.Deliver from message) in
    by_guard P (is_following node.role && (node.state == epoch) && not (is_taken node.rows entry))
    (λ e. let p = and_parts (is_following node.role && (node.state == epoch)) (not (is_taken node.rows entry)) e in
    let q = and_parts (is_following node.role) (node.state == epoch) p.0 in
    no_notice E from 3 node.promised _ _ _ (Accepts from epoch entry q.0 (eqb-true node.state epoch q.1) (not-true (is_taken node.rows entry) p.1)))
    (λ e. refuses_noticed tests version node from 3 message epoch node.promised Promised (record { answered = refl; kind = refl }))

pub decision_effect : (tests : Tests) (version : ℕ) (node : NodeRecord) (from epoch slot : ℕ) (txn : TxId) (commit : Bool)
    → Receives tests version node from 5 (DecisionFor epoch slot txn commit) (on_decision node epoch slot txn commit)
unfolding on_decision
decision_effect tests version node from epoch slot txn commit =
    let message : Message = DecisionFor epoch slot txn commit in
    let P : Out NodeRecord → Type 0 = Receives tests version node from 5 message in
    let E : Out NodeRecord → Type 0 = Effect tests version node (inputs.Deliver from message) in
    by_guard P (nat_le epoch node.state && has_at node.rows slot txn)
    (λ e. let p = and_parts (nat_le epoch node.state) (has_at node.rows slot txn) e in
    no_notice E from 5 node.promised _ _ _ (Marks from epoch slot txn commit (leb-true epoch node.state p.0) p.1))
    (λ e. refuses_noticed tests version node from 5 message epoch node.state Reached (record { answered = refl; kind = refl }))

pub probe_effect : (tests : Tests) (version : ℕ) (node : NodeRecord) (from epoch : ℕ) → Receives tests version node from 6 (Probe epoch) (on_probe node from epoch)
unfolding on_probe
probe_effect tests version node from epoch =
    let message : Message = Probe epoch in
    let P : Out NodeRecord → Type 0 = Receives tests version node from 6 message in
    let E : Out NodeRecord → Type 0 = Effect tests version node (inputs.Deliver from message) in
    by_guard P (nat_le (least node) epoch)
    (λ e. no_notice E from 6 node.promised _ _ _ (Promises from epoch (leb-true (least node) epoch e)))
    (λ e. refuses_noticed tests version node from 6 message epoch (least node) Least (record { answered = refl; kind = refl }))

is_fenced-Fenced : (role : Role) → is_fenced role ≡ true → role ≡ Fenced
is_fenced-Fenced Fenced h = refl
is_fenced-Fenced (Leader c) h = absurd (cc h)
is_fenced-Fenced (Follower c) h = absurd (cc h)

pub new_config_effect : (tests : Tests) (version : ℕ) (node : NodeRecord) (from : ℕ) (config : Membership)
    → Receives tests version node from 8 (NewConfig config) (on_new_config version node config)
unfolding on_new_config
new_config_effect tests version node from config =
    let message : Message = NewConfig config in
    let P : Out NodeRecord → Type 0 = Receives tests version node from 8 message in
    let E : Out NodeRecord → Type 0 = Effect tests version node (inputs.Deliver from message) in
    by_guard P ((config.shard == node.shard) && is_fenced node.role && (node.promised == config.epoch) && (config.leader == node.name))
    (λ e. let p = and_parts ((config.shard == node.shard) && is_fenced node.role && (node.promised == config.epoch)) (config.leader == node.name) e in
    let q = and_parts ((config.shard == node.shard) && is_fenced node.role) (node.promised == config.epoch) p.0 in
    let r = and_parts (config.shard == node.shard) (is_fenced node.role) q.0 in
    no_notice E from 8 node.promised _ _ _
    (Leads from config (eqb-true config.shard node.shard r.0) (is_fenced-Fenced node.role r.1) (eqb-true node.promised config.epoch q.1) (eqb-true config.leader node.name p.1)))
    (λ e. refuses_noticed tests version node from 8 message config.epoch (least node) Least (record { answered = refl; kind = refl }))

may_follow-MayFollow : (node : NodeRecord) (config : Membership) → may_follow node config ≡ true → MayFollow node config
may_follow-MayFollow node config h =
    let p = and_parts ((config.shard == node.shard) && nat_le (least node) config.epoch) (is_follower config node.name) h in
    let q = and_parts (config.shard == node.shard) (nat_le (least node) config.epoch) p.0 in
    record { shard = eqb-true config.shard node.shard q.0; epoch = leb-true (least node) config.epoch q.1; follower = p.1 }

pub new_state_effect : (tests : Tests) (version : ℕ) (node : NodeRecord) (from : ℕ) (config : Membership) (rows : List Row)
    → Receives tests version node from 9 (NewState config rows) (on_new_state version node config rows)
unfolding on_new_state
new_state_effect tests version node from config rows =
    let message : Message = NewState config rows in
    let P : Out NodeRecord → Type 0 = Receives tests version node from 9 message in
    let E : Out NodeRecord → Type 0 = Effect tests version node (inputs.Deliver from message) in
    by_guard P ((version == 1) && may_follow node config)
    (λ e. let p = and_parts (version == 1) (may_follow node config) e in
    no_notice E from 9 node.promised _ _ _ (Follows from config rows (eqb-true version 1 p.0) (may_follow-MayFollow node config p.1)))
    (λ e. refuses_noticed tests version node from 9 message config.epoch (least node) Least (record { answered = refl; kind = refl }))

pub state_piece_effect : (tests : Tests) (version : ℕ) (node : NodeRecord) (from : ℕ) (config : Membership) (number pieces : ℕ) (rows : List Row)
    → Receives tests version node from 17 (StatePiece config number pieces rows) (on_state_piece version node config pieces (record { number = number; rows = rows }))
unfolding on_state_piece
state_piece_effect tests version node from config number pieces rows =
    let message : Message = StatePiece config number pieces rows in
    let piece : Piece = record { number = number; rows = rows } in
    let P : Out NodeRecord → Type 0 = Receives tests version node from 17 message in
    let E : Out NodeRecord → Type 0 = Effect tests version node (inputs.Deliver from message) in
    let g : Gathering = with_one_more (gathering_for node.gathering config pieces) piece in
    by_guard P ((version == 2) && may_follow node config && takes_piece node.gathering config pieces piece)
    (λ e. let p = and_parts ((version == 2) && may_follow node config) (takes_piece node.gathering config pieces piece) e in
    let q = and_parts (version == 2) (may_follow node config) p.0 in
    let two : version ≡ 2 = eqb-true version 2 q.0 in
    let may : MayFollow node config = may_follow-MayFollow node config q.1 in
    by_guard P (is_whole g)
    (λ whole. no_notice E from 17 node.promised _ _ _ (FollowsPieces from config number pieces rows g two may p.1 refl whole))
    (λ part. no_notice E from 17 node.promised _ _ _ (Gathers from config number pieces rows g two may p.1 refl part)))
    (λ e. refuses_noticed tests version node from 17 message config.epoch (least node) Least (record { answered = refl; kind = refl }))
