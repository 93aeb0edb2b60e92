-- What a node keeps stays in range, whatever it does with an input in range.
use Rattle.std.proofs.Common.{◌≡◌, ℕ, ◌+◌, ◌≤◌, Bool, true, false, cond, ◌&&◌, nat_le, IsTrue, List, [], ◌∷◌, ◌++◌, length, Some, None, is_some, sym, subst, arith}
use Rattle.std.specs.Prelude.{All, IfSome}
use Rattle.std.specs.Map.{lookup}
use Rattle.std.proofs.lemmas.Bool.Decides.{nat_tests}
use Rattle.std.proofs.lemmas.List.Elements.{All-push}
use Rattle.tcs_terms.specs.declared.ids.TxId.{TxId}
use Rattle.tcs_terms.specs.declared.inputs.Input.{Input}
use Rattle.tcs_terms.specs.declared.limits.TheConstants.{MAX_EPOCH, MAX_SEQUENCE, MAX_PIECES}
use Rattle.tcs_terms.specs.declared.logs.Row.{Row}
use Rattle.tcs_terms.specs.declared.votes.Decision.{Decision}
use Rattle.tcs_terms.specs.Logs.{same_txn}
use Rattle.tcs_terms.specs.Messages.{is_txn, IsDecision, IsEntry, AreSentRows}
use Rattle.tcs_terms.specs.Payloads.{Accesses, IsPayload}
use Rattle.tcs_terms.specs.declared.messages.Outgoing.{Outgoing}
use Rattle.tcs_terms.specs.Places.{Membership, IsMembership, is_node, is_shard, is_epoch}
use Rattle.tcs_terms.specs.Shards.{shards_of}
use Rattle.tcs_laws.specs.Certification.{Tests}
use Rattle.tcs_terms.proofs.ShardLaws.{shards_are_a_set}
use Rattle.protocol.specs.Cases.{new_case}
use Rattle.protocol.specs.ClientRules.{next_txn}
use Rattle.protocol.specs.Log.{row_of}
use Rattle.protocol.specs.Outcomes.{Out}
use Rattle.protocol.specs.Pieces.{rows_of}
use Rattle.protocol.specs.Records.{Case, Coordinator, Gathering, NodeRecord}
use Rattle.protocol.specs.Table.{with_outcome}
use Rattle.protocol.proofs.Lists.{find-StandsIn}
use Rattle.protocol_laws.specs.Effect.{Sees, Effect}
use Rattle.protocol_laws.specs.Effect.Effect.{Certifies, TakesOver, Appends, Votes, Acknowledges, Changes, Learns, Keeps, Accepts, Marks, Promises, Leads, Follows, Gathers, FollowsPieces}
use Rattle.protocol_laws.specs.Effect.Sees.{Replaces, Keeps as KeepsView}
use Rattle.protocol_laws.specs.Ranges.{IsRoleInRange, IsCaseInRange, IsCoordinatorInRange, IsGatheringInRange, IsNodeInRange, IsInputInRange}
use Rattle.protocol_laws.proofs.AllOf.{all-at}
use Rattle.protocol_laws.proofs.Came.{effect_name, effect_shard}
use Rattle.protocol_laws.proofs.RangesCases.{new_case-in_range, begins-in_range, goes_on-in_range, open-in_range, voted-in_range, acknowledged-in_range, change_view-in_range}
use Rattle.protocol_laws.proofs.RangesRows.{HasEntry, appended-in_range, accepted-in_range, marked-in_range, gathered-sent, gathered-in_range, gathered_from-in_range}
use Rattle.protocol_laws.proofs.RangesStage.{stage-in_range}
use Rattle.protocol_laws.proofs.SameTxn.{same_txn-eq}

pub epoch-few : (e : ℕ) → IsTrue (is_epoch e) → e ≤ MAX_EPOCH
epoch-few e h = grind (arith, nat_tests)

-- the transaction that a node makes next, while numbers are left
pub next_txn-in_range : (node : NodeRecord) → IsNodeInRange node → node.next ≤ MAX_SEQUENCE → IsTrue (is_txn (next_txn node))
next_txn-in_range node k l = go node.name node.next k.name k.from_one l
  where
    go : (name next : ℕ) → IsTrue (is_node name) → 1 ≤ next → next ≤ MAX_SEQUENCE → (is_node name && (nat_le 1 next && nat_le next MAX_SEQUENCE)) ≡ true
    go name next a b c = grind (arith, nat_tests)

-- the entry of a row that a node holds of a transaction
pub row-in_range : (rows : List Row) (txn : TxId) (row : Row) → AreSentRows rows → row_of rows txn ≡ Some row → IsEntry row.entry
row-in_range rows txn row k e = all-at HasEntry rows k.entries row (find-StandsIn (λ (r : Row). same_txn r.entry.txn txn) rows row e).0

pub held_txn-in_range : (rows : List Row) (txn : TxId) (row : Row) → AreSentRows rows → row_of rows txn ≡ Some row → IsTrue (is_txn txn)
held_txn-in_range rows txn row k e =
    subst (λ t. IsTrue (is_txn t)) (same_txn-eq row.entry.txn txn (find-StandsIn (λ (r : Row). same_txn r.entry.txn txn) rows row e).1) (row-in_range rows txn row k e).txn

-- a case as it begins, for a client or by a take-over
pub certified-in_range : (node : NodeRecord) (payload : Accesses) (case : Case) → IsNodeInRange node → node.next ≤ MAX_SEQUENCE → case ≡ new_case (shards_of (length node.coordinator.views) payload) (Some payload) → IsPayload payload
    → IsCaseInRange (next_txn node) case
certified-in_range node payload case k l e p = subst (λ (c : Case). IsCaseInRange (next_txn node) c) (sym e)
    (new_case-in_range (next_txn node) (shards_of (length node.coordinator.views) payload) (Some payload) (next_txn-in_range node k l)
    (shards_are_a_set (length node.coordinator.views) payload k.coordinator.views.some k.coordinator.views.few p) p)

pub taken-in_range : (node : NodeRecord) (txn : TxId) (row : Row) (case : Case) → IsNodeInRange node → row_of node.rows txn ≡ Some row → case ≡ new_case row.entry.shards None → IsCaseInRange txn case
taken-in_range node txn row case k found e = subst (λ (c : Case). IsCaseInRange txn c) (sym e) (new_case-in_range txn row.entry.shards None (held_txn-in_range node.rows txn row k.rows found) (row-in_range node.rows txn row k.rows found).shards tt)

role-in_range : (tests : Tests) (version : ℕ) (node : NodeRecord) (input : Input) (out : Out NodeRecord) → Effect tests version node input out → IsNodeInRange node → IsInputInRange input → IsRoleInRange out.kept.role
role-in_range tests version node input out (Promises from epoch l) k i = tt
role-in_range tests version node input out (Leads from config s r p l) k i = i.0
role-in_range tests version node input out (Follows from config rows v m) k i = i.0.0
role-in_range tests version node input out (FollowsPieces from config number pieces rows gathering v m t g w) k i = i.0.0
role-in_range tests version node input out _ k i = k.role

state-in_range : (tests : Tests) (version : ℕ) (node : NodeRecord) (input : Input) (out : Out NodeRecord) → Effect tests version node input out → IsNodeInRange node → IsInputInRange input → out.kept.state ≤ MAX_EPOCH
state-in_range tests version node input out (Leads from config s r p l) k i = epoch-few config.epoch i.0.epoch
state-in_range tests version node input out (Follows from config rows v m) k i = epoch-few config.epoch i.0.0.epoch
state-in_range tests version node input out (FollowsPieces from config number pieces rows gathering v m t g w) k i = epoch-few config.epoch i.0.0.epoch
state-in_range tests version node input out _ k i = k.state

promise-in_range : (tests : Tests) (version : ℕ) (node : NodeRecord) (input : Input) (out : Out NodeRecord) → Effect tests version node input out → IsNodeInRange node → IsInputInRange input → out.kept.promised ≤ MAX_EPOCH
promise-in_range tests version node input out (Promises from epoch l) k i = epoch-few epoch i.0
promise-in_range tests version node input out (Follows from config rows v m) k i = epoch-few config.epoch i.0.0.epoch
promise-in_range tests version node input out (FollowsPieces from config number pieces rows gathering v m t g w) k i = epoch-few config.epoch i.0.0.epoch
promise-in_range tests version node input out _ k i = k.promised

rows-in_range : (tests : Tests) (version : ℕ) (node : NodeRecord) (input : Input) (out : Out NodeRecord) → Effect tests version node input out → IsNodeInRange node → IsInputInRange input → AreSentRows out.kept.rows
rows-in_range tests version node input out (Appends from epoch txn shards part l e a none room entry is) k i = (appended-in_range tests node.rows txn shards part entry is none room i.0.1 i.0.2 i.0.3 k.rows).0
rows-in_range tests version node input out (Accepts from epoch entry f e t) k i = accepted-in_range node.rows entry t i.0.1 k.rows
rows-in_range tests version node input out (Marks from epoch slot txn commit e h) k i = marked-in_range node.rows slot commit k.rows
rows-in_range tests version node input out (Follows from config rows v m) k i = i.0.1
rows-in_range tests version node input out (FollowsPieces from config number pieces rows gathering v m t g w) k i = subst (λ (y : Gathering). AreSentRows (rows_of y.kept)) (sym g) (gathered-sent node.gathering config pieces (record { number = number; rows = rows }) t i.0.2 k.gathering)
rows-in_range tests version node input out _ k i = k.rows

-- the next number: from 1 on, and at most one above the last
record IsNext (n : ℕ) : Type 0 where
  from_one : 1 ≤ n
  most : n ≤ MAX_SEQUENCE + 1

next-in_range : (tests : Tests) (version : ℕ) (node : NodeRecord) (input : Input) (out : Out NodeRecord) → Effect tests version node input out → IsNodeInRange node → IsNext out.kept.next
next-in_range tests version node input out (Certifies payload l case e) k = record { from_one = omega arith; most = omega (arith, l) }
next-in_range tests version node input out _ k = record { from_one = k.from_one; most = k.next }

sees-in_range : (c : Coordinator) (config : Membership) (new : Coordinator) (sent : List Outgoing) → Sees c config new sent → IsCoordinatorInRange c → IsMembership config → IsCoordinatorInRange new
sees-in_range c config _ _ (Replaces n) k m = change_view-in_range c config k m
sees-in_range c config _ _ (KeepsView n) k m = k

coordinator-in_range : (tests : Tests) (version : ℕ) (node : NodeRecord) (input : Input) (out : Out NodeRecord) → Effect tests version node input out → IsNodeInRange node → IsInputInRange input → IsCoordinatorInRange out.kept.coordinator
coordinator-in_range tests version node input out (Certifies payload l case e) k i = begins-in_range node.coordinator (next_txn node) case k.coordinator (certified-in_range node payload case k l e i.1)
coordinator-in_range tests version node input out (TakesOver txn row found unknown none may case e) k i = begins-in_range node.coordinator txn case k.coordinator (taken-in_range node txn row case k found e)
coordinator-in_range tests version node input out (Votes from shard epoch entry case part view opened at leads fits after goes) k i =
    let o = open-in_range node.coordinator entry.txn shard case part view k.coordinator opened in
    goes_on-in_range node.coordinator entry.txn _ _ after goes k.coordinator (voted-in_range entry.txn case part entry o.case o.part i.0.2)
coordinator-in_range tests version node input out (Acknowledges from shard epoch slot txn case part view opened at follows votes after goes) k i =
    let o = open-in_range node.coordinator txn shard case part view k.coordinator opened in
    goes_on-in_range node.coordinator txn _ _ after goes k.coordinator (acknowledged-in_range txn case part from o.case o.part)
coordinator-in_range tests version node input out (Changes from config n) k i = change_view-in_range node.coordinator config k.coordinator i.0
coordinator-in_range tests version node input out (Learns from config coordinator sent stage asked sees hears) k i = sees-in_range node.coordinator config coordinator sent sees k.coordinator i.0
coordinator-in_range tests version node input out _ k i = k.coordinator

abbrev IsOutcome : TxId × Decision → Type 0
IsOutcome o = IsTrue (is_txn o.0) × IsDecision o.1

outcome-in_range : (outcomes : List (TxId × Decision)) (txn : TxId) (decision : Decision) → All IsOutcome outcomes → IsTrue (is_txn txn) → IsDecision decision → All IsOutcome (with_outcome outcomes txn decision)
outcome-in_range outcomes txn decision k t d = go (is_some (lookup (same_txn txn) outcomes))
  where
    go : (b : Bool) → All IsOutcome (cond b outcomes (outcomes ++ (txn, decision) ∷ []))
    go true = k
    go false = All-push IsOutcome outcomes (txn, decision) k (t, d)

outcomes-in_range : (tests : Tests) (version : ℕ) (node : NodeRecord) (input : Input) (out : Out NodeRecord) → Effect tests version node input out → IsNodeInRange node → IsInputInRange input → All IsOutcome out.kept.outcomes
outcomes-in_range tests version node input out (Keeps from txn decision h s) k i = outcome-in_range node.outcomes txn decision k.outcomes i.0.0 i.0.1
outcomes-in_range tests version node input out _ k i = k.outcomes

pieces-few : (piece pieces : ℕ) → IsTrue (nat_le 1 piece && (nat_le piece pieces && nat_le pieces MAX_PIECES)) → (nat_le 1 pieces && nat_le pieces MAX_PIECES) ≡ true
pieces-few piece pieces h = grind (arith, nat_tests)

gathering-in_range : (tests : Tests) (version : ℕ) (node : NodeRecord) (input : Input) (out : Out NodeRecord) → Effect tests version node input out → IsNodeInRange node → IsInputInRange input → IfSome out.kept.gathering IsGatheringInRange
gathering-in_range tests version node input out (Promises from epoch l) k i = gathered_from-in_range epoch node.gathering k.gathering
gathering-in_range tests version node input out (Follows from config rows v m) k i = gathered_from-in_range config.epoch node.gathering k.gathering
gathering-in_range tests version node input out (Gathers from config number pieces rows gathering v m t g w) k i =
    subst IsGatheringInRange (sym g) (gathered-in_range node.gathering config pieces (record { number = number; rows = rows }) t i.0.0 (pieces-few number pieces i.0.1) i.0.2 k.gathering)
gathering-in_range tests version node input out (FollowsPieces from config number pieces rows gathering v m t g w) k i = tt
gathering-in_range tests version node input out _ k i = k.gathering

pub kept-in_range : (tests : Tests) (version : ℕ) (node : NodeRecord) (input : Input) (out : Out NodeRecord) → Effect tests version node input out → IsNodeInRange node → IsInputInRange input → IsNodeInRange out.kept
kept-in_range tests version node input out e k i =
    let next = next-in_range tests version node input out e k in
    record {
      name = subst (λ n. IsTrue (is_node n)) (sym (effect_name tests version node input out e)) k.name;
      shard = subst (λ n. IsTrue (is_shard n)) (sym (effect_shard tests version node input out e)) k.shard;
      role = role-in_range tests version node input out e k i;
      state = state-in_range tests version node input out e k i;
      promised = promise-in_range tests version node input out e k i;
      rows = rows-in_range tests version node input out e k i;
      from_one = next.from_one;
      next = next.most;
      coordinator = coordinator-in_range tests version node input out e k i;
      prober = stage-in_range tests version node input out e k i;
      outcomes = outcomes-in_range tests version node input out e k i;
      gathering = gathering-in_range tests version node input out e k i;
    }
