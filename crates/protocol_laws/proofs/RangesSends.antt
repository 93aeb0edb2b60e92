-- What a node sends is in range, message by message, and goes to a node or to the service.
use Rattle.std.proofs.Common.{◌≡◌, ℕ, ◌+◌, ◌-◌, ◌*◌, ◌<◌, ◌≤◌, Bool, true, false, cond, not, ◌&&◌, ◌==◌, nat_le, IsTrue, List, [], ◌∷◌, find, map, flat_map, length, drop, Option, Some, None, option_and_then, is_some, refl, arith, ltb-true, leb-true}
use Rattle.std.specs.Prelude.{All, IfSome, nat_lt}
use Rattle.std.specs.List.{list_all, range_with_len}
use Rattle.std.proofs.lemmas.Bool.Decides.{nat_tests}
use Rattle.std.proofs.lemmas.List.{length-take}
use Rattle.tcs_terms.specs.declared.ids.TxId.{TxId}
use Rattle.tcs_terms.specs.declared.inputs.Input.{Input}
use Rattle.tcs_terms.specs.declared.inputs.Input.TheVariants as inputs
use Rattle.tcs_terms.specs.declared.limits.TheConstants.{MAX_NODES, MAX_WANTED, MAX_SLOT, MAX_PIECES, MAX_PIECE_ROWS}
use Rattle.tcs_terms.specs.declared.logs.Row.{Row}
use Rattle.tcs_terms.specs.declared.messages.Message.{Message}
use Rattle.tcs_terms.specs.declared.messages.Message.TheVariants.{Prepare, Accept, Probe, NewConfig, NewState, Last, At, Cas, StatePiece}
use Rattle.tcs_terms.specs.declared.messages.Outgoing.{Outgoing}
use Rattle.tcs_terms.specs.declared.votes.Cause.{Cause}
use Rattle.tcs_terms.specs.declared.votes.Vote.{Vote}
use Rattle.tcs_terms.specs.declared.votes.Vote.TheVariants as votes
use Rattle.tcs_terms.specs.Events.{InputInRange}
use Rattle.tcs_terms.specs.Logs.{AreRows}
use Rattle.tcs_terms.specs.Messages.{is_txn, IsVote, IsCause, IsDecision, IsEntry, AreSentRows, InRange}
use Rattle.tcs_terms.specs.Order.{ascends}
use Rattle.tcs_terms.specs.Payloads.{Accesses, IsPayload}
use Rattle.tcs_terms.specs.Places.{Membership, IsMembership, is_shard, is_node, is_epoch}
use Rattle.tcs_terms.specs.Preparations.{Preparation}
use Rattle.tcs_terms.specs.Shards.{part_in, restricted}
use Rattle.tcs_terms.proofs.BoolLaws.{left_of, right_of}
use Rattle.tcs_terms.proofs.ShardLaws.{part_is_payload}
use Rattle.protocol.specs.Cases.{accept, send_case, cause_by, cause_of, decision_at, decision_by, decision_of, tell_decision}
use Rattle.protocol.specs.Coordination.{resend, ask_leader}
use Rattle.protocol.specs.Outcomes.{to}
use Rattle.protocol.specs.Pieces.{piece_count, piece_of}
use Rattle.protocol.specs.Probing.{probe, ask_stage, tell_leader}
use Rattle.protocol.specs.Records.{Part, Case, Coordinator, Stage}
use Rattle.protocol.specs.Records.Stage.{Idle, AskedLast, Probing, AskedLower, CasSent}
use Rattle.protocol.specs.ShardRules.{state_to}
use Rattle.protocol.specs.Views.{followers}
use Rattle.protocol.specs.Invariant.Time.{StandsIn}
use Rattle.protocol.proofs.Lists.{find-StandsIn, all-StandsIn, among-StandsIn}
use Rattle.protocol_laws.specs.Effect.{Hears}
use Rattle.protocol_laws.specs.Effect.Hears.{Waits, ProbesLast, ProbesLower, IsDone}
use Rattle.protocol_laws.specs.Ranges.{AreViews, IsPartInRange, IsCaseInRange, IsCoordinatorInRange, IsStageInRange}
use Rattle.protocol_laws.proofs.AllOf.{all-at, all-of, some-at}
use Rattle.protocol_laws.proofs.PromisesOrder.{slot_fits}
use Rattle.protocol_laws.proofs.PromisesPieces.{piece-rows}
use Rattle.protocol_laws.proofs.RangesCases.{view-in_range, case-in_range}
use Rattle.protocol_laws.proofs.RangesRows.{HasEntry}
use Rattle.protocol_laws.proofs.RangesStage.{epoch-above}
use Rattle.protocol_laws.proofs.Sendable.{IsSendable}
use Rattle.protocol_laws.proofs.Sends.{Each, each-none, each-one, each-map, each-flat_map, each-when, each-accept, each-case, each-resend, each-ask_leader, each-decision}
use Rattle.protocol_laws.proofs.Standing.{filter-StandsIn, range-StandsIn, take-StandsIn, drop-StandsIn}

pub node-few : (n : ℕ) → IsTrue (is_node n) → n ≤ MAX_NODES
node-few n h = grind (arith, nat_tests)

-- members of a configuration, and its leader, may be sent to
member-few : (v : Membership) (n : ℕ) → IsMembership v → StandsIn n v.members → n ≤ MAX_NODES
member-few v n k s = node-few n (all-StandsIn is_node v.members n k.each s)

follower-few : (v : Membership) (n : ℕ) → IsMembership v → StandsIn n (followers v) → n ≤ MAX_NODES
follower-few v n k s = member-few v n k (filter-StandsIn (λ m. not (m == v.leader)) v.members n s).0

leader-few : (v : Membership) → IsMembership v → v.leader ≤ MAX_NODES
leader-few v k = member-few v v.leader k (among-StandsIn v.members v.leader k.leads)

-- ---- cases

restricted-in_range : (n shard : ℕ) (payload : Option Accesses) → IfSome payload IsPayload → IfSome (option_and_then (restricted n shard) payload) IsPayload
restricted-in_range n shard None k = tt
restricted-in_range n shard (Some p) k = go ((length (part_in n shard p).reads == 0) && (length p.ranges == 0)) refl
  where
    go : (b : Bool) → ((length (part_in n shard p).reads == 0) && (length p.ranges == 0)) ≡ b → IfSome (cond b None (Some (part_in n shard p))) IsPayload
    go true e = tt
    go false e = part_is_payload n shard p k e

prepare-sendable : (input : Input) (n : ℕ) (txn : TxId) (case : Case) (v : Membership) → IsCaseInRange txn case → IsMembership v
    → IsSendable input (to v.leader (Prepare v.epoch txn case.shards (option_and_then (restricted n v.shard) case.payload)))
prepare-sendable input n txn case v k c = (record { message = (c.epoch, k.txn, k.shards, restricted-in_range n v.shard case.payload k.payload); to = λ from. leader-few v c })

accept-sendable : (input : Input) (v : Membership) (x : Preparation) (node : ℕ) → IsMembership v → IsEntry x → StandsIn node (followers v) → IsSendable input (to node (Accept v.epoch x))
accept-sendable input v x node c k s = record { message = (c.epoch, k); to = λ from. follower-few v node c s }

part-entry : (case : Case) (txn : TxId) (p : Part) (x : Preparation) → IsCaseInRange txn case → StandsIn p case.parts → p.entry ≡ Some x → IsEntry x
part-entry case txn p x k s e = some-at IsEntry p.entry x (all-at IsPartInRange case.parts k.parts p s).entry e

pub case-sends : (input : Input) (views : List Membership) (txn : TxId) (case : Case) → AreViews views → IsCaseInRange txn case → Each (IsSendable input) (send_case views txn case)
case-sends input views txn case c k =
    each-case (IsSendable input) views txn case (λ shard v e. prepare-sendable input (length views) txn case v k (view-in_range views shard v c e))
    (λ p x v node s q e m. accept-sendable input v x node (view-in_range views p.shard v c e) (part-entry case txn p x k s q) m)

pub resends : (input : Input) (c : Coordinator) → IsCoordinatorInRange c → Each (IsSendable input) (resend c)
resends input c k = each-resend (IsSendable input) c (λ txn case s. case-sends input c.views txn case k.views (case-in_range c txn case k s))

pub asks-leader : (input : Input) (c : Coordinator) (v : Membership) → IsCoordinatorInRange c → IsMembership v → Each (IsSendable input) (ask_leader c v)
asks-leader input c v k m = each-ask_leader (IsSendable input) c v (λ txn case s. prepare-sendable input (length c.views) txn case v (case-in_range c txn case k s) m)

pub accepts-sent : (input : Input) (entry : Preparation) (acks : List ℕ) (v : Membership) → IsEntry entry → IsMembership v → Each (IsSendable input) (accept entry acks (Some v))
accepts-sent input entry acks v k c = each-accept (IsSendable input) entry acks v (λ node s. accept-sendable input v entry node c k s)

-- a decision names a shard and a cause in range
cause_by-in_range : (v : Vote) → IsVote v → IfSome (cause_by v) IsCause
cause_by-in_range votes.Commit k = tt
cause_by-in_range (votes.Clash txn) k = k
cause_by-in_range votes.Lost k = tt

cause-in_range : (o : Option Preparation) → IfSome o IsEntry → IfSome (cause_of o) IsCause
cause-in_range None k = tt
cause-in_range (Some x) k = cause_by-in_range x.vote k.vote

pub decision-in_range : (parts : List Part) → All IsPartInRange parts → IsDecision (decision_of parts)
unfolding decision_of
decision-in_range parts k = go (find (λ p. is_some (cause_of p.entry)) parts) refl
  where
    at : (p : Part) (o : Option Cause) → IsPartInRange p → IfSome o IsCause → IsDecision (decision_at p.shard o)
    at p None h c = tt
    at p (Some cause) h c = (h.shard, c)

    go : (o : Option Part) → find (λ p. is_some (cause_of p.entry)) parts ≡ o → IsDecision (decision_by o)
    go None e = tt
    go (Some p) e = let h = all-at IsPartInRange parts k p (find-StandsIn (λ p. is_some (cause_of p.entry)) parts p e).0 in at p (cause_of p.entry) h (cause-in_range p.entry h.entry)

pub decision-sends : (input : Input) (views : List Membership) (txn : TxId) (case : Case) → AreViews views → IsCaseInRange txn case → Each (IsSendable input) (tell_decision views txn case.parts (decision_of case.parts))
decision-sends input views txn case c k =
    each-decision (IsSendable input) views txn case.parts (decision_of case.parts)
    (λ p x v node s q e m. (let w = view-in_range views p.shard v c e in record { message = (w.epoch, (part-entry case txn p x k s q).slot, k.txn); to = λ from. member-few v node w m }))
    (record { message = (k.txn, decision-in_range case.parts k.parts); to = λ from. home-few txn k.txn })
  where
    home-few : (t : TxId) → IsTrue (is_txn t) → t.home ≤ MAX_NODES
    home-few t h = node-few t.home (left_of (is_node t.home) _ h)

-- ---- moving a shard

-- a message to the service
pub to_service : (input : Input) (message : Message) → InRange message → IsSendable input (to 0 message)
to_service input message k = record { message = k; to = λ from. omega arith }

pub shard-of_move : (shard : ℕ) (want : List ℕ) → InputInRange (inputs.Move shard want) → IsTrue (is_shard shard)
shard-of_move shard want h =
    left_of (is_shard shard) (nat_le (length want) MAX_WANTED) (left_of (is_shard shard && nat_le (length want) MAX_WANTED) (list_all is_node want) (left_of (is_shard shard && nat_le (length want) MAX_WANTED && list_all is_node want) (ascends want) h))

probes-sent : (input : Input) (epoch : ℕ) (c : Membership) → IsTrue (is_epoch epoch) → IsMembership c → Each (IsSendable input) (probe epoch c.members)
unfolding probe
probes-sent input epoch c k m = each-map (IsSendable input) (λ node. to node (Probe epoch)) c.members (λ node s. record { message = k; to = λ from. member-few c node m s })

pub stage-sends : (input : Input) (stage : Stage) → IsStageInRange stage → Each (IsSendable input) (ask_stage stage)
unfolding ask_stage
stage-sends input Idle k = each-none (IsSendable input)
stage-sends input (AskedLast shard want) k = each-one (IsSendable input) _ (to_service input (Last shard) (shard-of_move shard want k))
stage-sends input (Probing shard want epoch probed low) k = probes-sent input epoch probed k.1 k.2
stage-sends input (AskedLower shard want epoch asked) k = each-one (IsSendable input) _ (to_service input (At shard asked) (shard-of_move shard want k.0, k.2))
stage-sends input (CasSent config) k = each-one (IsSendable input) _ (to_service input (Cas config) k)

leader-told : (input : Input) (me : ℕ) (c : Membership) → IsMembership c → Each (IsSendable input) (tell_leader me c)
unfolding tell_leader
leader-told input me c k =
    each-when (IsSendable input) (c.by == me) (to c.leader (NewConfig c) ∷ []) [] (each-one (IsSendable input) _ (record { message = k; to = λ from. leader-few c k })) (each-none (IsSendable input))

pub heard-sends : (input : Input) (me : ℕ) (config : Membership) (view : ℕ) (stage new : Stage) (asked : List Outgoing) → Hears me config view stage new asked → IsMembership config → IsStageInRange stage → Each (IsSendable input) asked
heard-sends input me config view _ _ _ (Waits stage) c k = each-none (IsSendable input)
heard-sends input me config view _ _ _ (ProbesLast shard want e l below) c k = probes-sent input (config.epoch + 1) config (epoch-above config.epoch c.epoch below) c
heard-sends input me config view _ _ _ (ProbesLower shard want epoch asked e q) c k = probes-sent input epoch config k.1 c
heard-sends input me config view _ _ _ (IsDone kept e q) c k = leader-told input me config c

-- ---- a leader's rows

abbrev slots_of : List Row → List ℕ
slots_of rows = map (λ r. r.entry.slot) rows

few-above : (n : ℕ) (rows : List Row) → n ≤ MAX_SLOT → ascends (n ∷ slots_of rows) ≡ true → list_all (λ r. slot_fits r.entry) rows ≡ true → length rows + n ≤ MAX_SLOT
few-above n [] low up fit = omega arith
few-above n (r ∷ rows) low up fit =
    let within = leb-true r.entry.slot MAX_SLOT (right_of (nat_le 1 r.entry.slot) (nat_le r.entry.slot MAX_SLOT) (left_of (slot_fits r.entry) (list_all (λ q. slot_fits q.entry) rows) fit)) in
    let rest = few-above r.entry.slot rows within (right_of (nat_lt n r.entry.slot) (ascends (r.entry.slot ∷ slots_of rows)) up) (right_of (slot_fits r.entry) (list_all (λ q. slot_fits q.entry) rows) fit) in
    omega (arith, ltb-true n r.entry.slot (left_of (nat_lt n r.entry.slot) (ascends (r.entry.slot ∷ slots_of rows)) up))

-- a log has no more rows than slots
rows-few : (rows : List Row) → AreRows rows → length rows ≤ MAX_SLOT
rows-few [] are = omega arith
rows-few (r ∷ rows) are =
    let slot = left_of (slot_fits r.entry) (list_all (λ q. slot_fits q.entry) rows) are.slots in
    let low = leb-true 1 r.entry.slot (left_of (nat_le 1 r.entry.slot) (nat_le r.entry.slot MAX_SLOT) slot) in
    let high = leb-true r.entry.slot MAX_SLOT (right_of (nat_le 1 r.entry.slot) (nat_le r.entry.slot MAX_SLOT) slot) in
    omega (arith, few-above r.entry.slot rows high are.slots_ascend (right_of (slot_fits r.entry) (list_all (λ q. slot_fits q.entry) rows) are.slots))

pieces-few : (rows : List Row) → length rows ≤ MAX_SLOT → piece_count rows ≤ MAX_PIECES
pieces-few rows h = omega (arith, h)

is_piece : (k count : ℕ) → 1 ≤ k → k < 1 + count → count ≤ MAX_PIECES → (nat_le 1 k && (nat_le k count && nat_le count MAX_PIECES)) ≡ true
is_piece k count low high few = grind (arith, nat_tests)

piece-sent : (rows : List Row) (k : ℕ) → AreSentRows rows → AreSentRows (piece_of rows k)
piece-sent rows k h = record {
  in_order = piece-rows rows k h.in_order;
  entries = all-of HasEntry (piece_of rows k) (λ r s. all-at HasEntry rows h.entries r
      (drop-StandsIn (MAX_PIECE_ROWS * (k - 1)) rows r (take-StandsIn MAX_PIECE_ROWS (drop (MAX_PIECE_ROWS * (k - 1)) rows) r s)));
}

piece-few : (rows : List Row) (k : ℕ) → length (piece_of rows k) ≤ MAX_PIECE_ROWS
piece-few rows k = let e = length-take MAX_PIECE_ROWS (drop (MAX_PIECE_ROWS * (k - 1)) rows) in omega (arith, e)

pub state-sends : (input : Input) (version : ℕ) (config : Membership) (rows : List Row) → IsMembership config → AreSentRows rows → Each (IsSendable input) (flat_map (state_to version config rows) (followers config))
unfolding state_to
state-sends input version config rows c h = each-flat_map (IsSendable input) (state_to version config rows) (followers config) (λ node s.
    each-when (IsSendable input) (version == 2) (map (λ k. to node (StatePiece config k (piece_count rows) (piece_of rows k))) (range_with_len 1 (piece_count rows))) (to node (NewState config rows) ∷ [])
    (each-map (IsSendable input) (λ k. to node (StatePiece config k (piece_count rows) (piece_of rows k))) (range_with_len 1 (piece_count rows)) (λ k m. (let r = range-StandsIn 1 (piece_count rows) k m in
    record { message = (c, is_piece k (piece_count rows) r.0 r.1 (pieces-few rows (rows-few rows h.in_order)), piece-sent rows k h, piece-few rows k); to = λ from. follower-few config node c s })))
    (each-one (IsSendable input) _ (record { message = (c, h); to = λ from. follower-few config node c s })))
