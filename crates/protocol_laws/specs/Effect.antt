-- What a node does with an input, rule by rule: what held before, what the node is afterwards, what it sends and notes.
use Rattle.std.specs.Prelude.{◌≡◌, ℕ, ◌+◌, ◌-◌, ◌<◌, ◌≤◌, Bool, true, false, if◌then◌else◌, List, [], ◌∷◌, ◌++◌, flat_map, length, Option, Some, None}
use Rattle.tcs_terms.specs.declared.limits.TheConstants.{MAX_SEQUENCE, MAX_EPOCH}
use Rattle.tcs_terms.specs.declared.ids.TxId.{TxId}
use Rattle.tcs_terms.specs.declared.inputs.Handled.{Handled}
use Rattle.tcs_terms.specs.declared.inputs.Handled.TheVariants.{Acted, Stale, Held, Full}
use Rattle.tcs_terms.specs.declared.inputs.Input.{Input}
use Rattle.tcs_terms.specs.declared.inputs.Input.TheVariants as inputs
use Rattle.tcs_terms.specs.declared.inputs.Note.TheVariants as notes
use Rattle.tcs_terms.specs.declared.logs.Row.{Row}
use Rattle.tcs_terms.specs.declared.messages.Message.{Message}
use Rattle.tcs_terms.specs.declared.messages.Message.TheVariants.{Prepare, PrepareAck, Accept, AcceptAck, DecisionFor, Probe, ProbeAck, NewConfig, NewState, ConfigChange, Last, At, Cas, Stored, OutcomeOf, Refused, StatePiece}
use Rattle.tcs_terms.specs.declared.messages.Outgoing.{Outgoing}
use Rattle.tcs_terms.specs.declared.votes.Decision.{Decision}
use Rattle.tcs_terms.specs.Payloads.{Accesses}
use Rattle.tcs_terms.specs.Places.{Membership, is_among}
use Rattle.tcs_terms.specs.Preparations.{Preparation}
use Rattle.tcs_terms.specs.Shards.{shards_of, lies_in}
use Rattle.tcs_laws.specs.Certification.{Tests}
use Rattle.protocol.specs.Notices.{notice_of}
use Rattle.protocol.specs.Outcomes.{Out, to, tells, acts}
use Rattle.protocol.specs.Records.{Part, Case, Coordinator, Stage, Gathering, NodeRecord}
use Rattle.protocol.specs.Records.Role.{Fenced, Leader}
use Rattle.protocol.specs.Records.Stage.{Idle, AskedLast, Probing, AskedLower, CasSent}
use Rattle.protocol.specs.Views.{view_of, view_epoch, followers, is_follower}
use Rattle.protocol.specs.Log.{row_of, is_full, new_entry, undecided, has_at, is_taken, accepted, marked, mark_of}
use Rattle.protocol.specs.Cases.{new_case, part_of, accept, send_case, is_complete, decision_of, tell_decision}
use Rattle.protocol.specs.Coordination.{case_of, with_case, without_case, begins, with_part, fits_slot, first_entry, voted, voted_at, acknowledged, resend, change_view, ask_leader, is_newer, add_once}
use Rattle.protocol.specs.Probing.{prober_epoch, probe, ask_stage, tell_leader, proposed}
use Rattle.protocol.specs.Pieces.{takes_piece, gathering_for, with_one_more, is_whole, rows_of, gathered_from}
use Rattle.protocol.specs.Versions.{read_of, value_or_empty}
use Rattle.protocol.specs.ShardRules.{is_leader, is_following, least, with_rows, state_to, follows}
use Rattle.protocol.specs.ClientRules.{next_txn, is_undecided, may_exist}
use Rattle.protocol.specs.Table.{with_outcome}
use Rattle.wire_frame.specs.Spelling.{kind_of}

-- whether the sender of a message hears where it is not acted on
abbrev pub is_answered : Message → Bool
is_answered (Prepare epoch txn shards payload) = true
is_answered (PrepareAck shard epoch entry) = true
is_answered (Accept epoch entry) = true
is_answered (AcceptAck shard epoch slot txn) = true
is_answered (DecisionFor epoch slot txn commit) = true
is_answered (Probe epoch) = true
is_answered (ProbeAck epoch state) = true
is_answered (NewConfig config) = true
is_answered (NewState config rows) = true
is_answered (ConfigChange config) = false
is_answered (Last shard) = true
is_answered (At shard epoch) = true
is_answered (Cas config) = true
is_answered (Stored config) = false
is_answered (OutcomeOf txn decision) = false
is_answered (Refused kind why mark) = false
is_answered (StatePiece config number pieces rows) = true

-- the notice of an answer to the sender of a message; the number is the mark where the log is full
abbrev pub notices_to : ℕ → Message → Handled → ℕ → List Outgoing
notices_to from message answer full_mark = if is_answered message then notice_of answer from (kind_of message) full_mark else []

-- what is sent where an input is not acted on
abbrev pub notices_for : Input → Handled → ℕ → List Outgoing
notices_for (inputs.Certify payload) answer full_mark = []
notices_for (inputs.Take txn) answer full_mark = []
notices_for inputs.Nudge answer full_mark = []
notices_for (inputs.Move shard want) answer full_mark = []
notices_for inputs.Lower answer full_mark = []
notices_for (inputs.ReadName name) answer full_mark = []
notices_for (inputs.Ask shard) answer full_mark = []
notices_for (inputs.Deliver from message) answer full_mark = notices_to from message answer full_mark

-- The marks against which a node holds an input: its promise, its state epoch, the least epoch that it may still reach,
-- the epoch of its view of a shard, the one that its prober is to make, and 0 where there is none.
pub data IsMark (node : NodeRecord) : ℕ → Type 0 where
  NoMark : IsMark node 0
  Promised : IsMark node node.promised
  Reached : IsMark node node.state
  Least : IsMark node (least node)
  Viewed : (shard : ℕ) → IsMark node (view_epoch node.coordinator.views shard)
  Wanted : IsMark node (prober_epoch node.prober)

-- an answer, by the marks that it may tell; a notice that is delivered is acted on, and changes nothing either
abbrev pub Tells : (ℕ → Type 0) → Handled → Type 0
Tells Mark Acted = Unit {0}
Tells Mark (Stale mark) = Mark mark
Tells Mark (Held mark) = Mark mark
Tells Mark Full = Unit {0}

-- an answer and the notices that are sent with it, where nothing changes
pub record IsRefusal (Mark : ℕ → Type 0) (input : Input) (full_mark : ℕ) (answer : Handled) (notices : List Outgoing) : Type 0 where
  pub mark : Tells Mark answer
  pub only : notices ≡ notices_for input answer full_mark

-- the coordinator after it heard of a configuration, and what it sends: a newer one replaces the view of its shard
pub data Sees (c : Coordinator) (config : Membership) : Coordinator → List Outgoing → Type 0 where
  Replaces : is_newer c config ≡ true → Sees c config (change_view c config) (ask_leader c config)
  Keeps : is_newer c config ≡ false → Sees c config c []

-- the prober after it heard of a stored configuration, and what it sends; `me` is its node, `view` the epoch of the
-- node's view of the shard
pub data Hears (me : ℕ) (config : Membership) (view : ℕ) : Stage → Stage → List Outgoing → Type 0 where
  Waits : (stage : Stage) → Hears me config view stage stage []
  ProbesLast : (shard : ℕ) (want : List ℕ) → config.shard ≡ shard → view ≤ config.epoch → config.epoch < MAX_EPOCH
      → Hears me config view (AskedLast shard want) (Probing shard want (config.epoch + 1) config []) (probe (config.epoch + 1) config.members)
  ProbesLower : (shard : ℕ) (want : List ℕ) (epoch asked : ℕ) → config.shard ≡ shard → config.epoch ≡ asked
      → Hears me config view (AskedLower shard want epoch asked) (Probing shard want epoch config []) (probe epoch config.members)
  IsDone : (kept : Membership) → config.shard ≡ kept.shard → config.epoch ≡ kept.epoch
      → Hears me config view (CasSent kept) Idle (tell_leader me config)

-- a part of an open case, and the view of its shard
pub record OpenPart (c : Coordinator) (txn : TxId) (shard : ℕ) (case : Case) (part : Part) (view : Membership) : Type 0 where
  pub opened : case_of c txn ≡ Some case
  pub has : part_of case.parts shard ≡ Some part
  pub sees : view_of c.views shard ≡ Some view

-- the coordinator after a case went on, what it sends besides what is given, and what it notes
pub data GoesOn (c : Coordinator) (txn : TxId) (case : Case) (sends : List Outgoing) : Out Coordinator → Type 0 where
  Waiting : is_complete c.views case ≡ false → GoesOn c txn case sends (acts (with_case c txn case) sends)
  Decides : is_complete c.views case ≡ true
      → GoesOn c txn case sends (tells (without_case c txn) (sends ++ tell_decision c.views txn case.parts (decision_of case.parts)) (notes.Decide txn (decision_of case.parts) ∷ []))

-- a node may follow a configuration
pub record MayFollow (node : NodeRecord) (config : Membership) : Type 0 where
  pub shard : config.shard ≡ node.shard
  pub epoch : least node ≤ config.epoch
  pub follower : is_follower config node.name ≡ true

-- a node with another coordinator
abbrev pub with_coordinator : NodeRecord → Coordinator → NodeRecord
with_coordinator node c = record node { coordinator = c }

-- a node with another stage
abbrev pub with_stage : NodeRecord → Stage → NodeRecord
with_stage node stage = record node { prober = stage }

-- what a node does with an input
pub data Effect (tests : Tests) (version : ℕ) (node : NodeRecord) : Input → Out NodeRecord → Type 0 where
  -- nothing changes
  Rests : (input : Input) (answer : Handled) (notices : List Outgoing) → IsRefusal (IsMark node) input node.promised answer notices
      → Effect tests version node input (record { answer = answer; kept = node; sends = notices; notes = [] })
  -- what clients ask
  Certifies : (payload : Accesses) → node.next ≤ MAX_SEQUENCE → (case : Case) → case ≡ new_case (shards_of (length node.coordinator.views) payload) (Some payload)
      → Effect tests version node (inputs.Certify payload)
      (tells (record node { next = node.next + 1; coordinator = begins node.coordinator (next_txn node) case }) (send_case node.coordinator.views (next_txn node) case) (notes.Begin (next_txn node) payload ∷ []))
  TakesOver : (txn : TxId) (row : Row) → row_of node.rows txn ≡ Some row → is_undecided row.mark ≡ true → case_of node.coordinator txn ≡ None → may_exist node txn ≡ true
      → (case : Case) → case ≡ new_case row.entry.shards None
      → Effect tests version node (inputs.Take txn)
      (tells (with_coordinator node (begins node.coordinator txn case)) (send_case node.coordinator.views txn case) (notes.Take txn ∷ []))
  Nudges : Effect tests version node inputs.Nudge (acts node (resend node.coordinator ++ ask_stage node.prober))
  Moves : (shard : ℕ) (want : List ℕ) → Effect tests version node (inputs.Move shard want) (acts (with_stage node (AskedLast shard want)) (to 0 (Last shard) ∷ []))
  Lowers : (shard : ℕ) (want : List ℕ) (epoch : ℕ) (probed : Membership) (low : List ℕ) → node.prober ≡ Probing shard want epoch probed low → 0 < length low → 1 < probed.epoch
      → Effect tests version node inputs.Lower (acts (with_stage node (AskedLower shard want epoch (probed.epoch - 1))) (to 0 (At shard (probed.epoch - 1)) ∷ []))
  Reads : (name : List ℕ) → lies_in (length node.coordinator.views) node.shard name ≡ true
      → Effect tests version node (inputs.ReadName name) (tells node [] (notes.ReadValue name (read_of node.rows name).version (value_or_empty (read_of node.rows name).value) ∷ []))
  Asks : (shard : ℕ) → Effect tests version node (inputs.Ask shard) (acts node (to 0 (Last shard) ∷ []))
  -- the leader
  AnswersAgain : (from epoch : ℕ) (txn : TxId) (shards : List ℕ) (part : Option Accesses) (row : Row)
      → is_leader node.role ≡ true → node.state ≡ epoch → is_among shards node.shard ≡ true → row_of node.rows txn ≡ Some row
      → Effect tests version node (inputs.Deliver from (Prepare epoch txn shards part)) (acts node (to from (PrepareAck node.shard epoch row.entry) ∷ []))
  Appends : (from epoch : ℕ) (txn : TxId) (shards : List ℕ) (part : Option Accesses)
      → is_leader node.role ≡ true → node.state ≡ epoch → is_among shards node.shard ≡ true → row_of node.rows txn ≡ None → is_full node.rows ≡ false
      → (entry : Preparation) → entry ≡ new_entry tests node.rows txn shards part
      → Effect tests version node (inputs.Deliver from (Prepare epoch txn shards part))
      (acts (with_rows node (node.rows ++ undecided entry ∷ [])) (to from (PrepareAck node.shard epoch entry) ∷ []))
  -- the coordinator
  Votes : (from shard epoch : ℕ) (entry : Preparation) (case : Case) (part : Part) (view : Membership) → OpenPart node.coordinator entry.txn shard case part view
      → view.epoch ≡ epoch → view.leader ≡ from → fits_slot part.entry entry.slot ≡ true
      → (out : Out Coordinator) → GoesOn node.coordinator entry.txn (with_part case (voted part entry)) (accept (first_entry part.entry entry) part.acks (Some view)) out
      → Effect tests version node (inputs.Deliver from (PrepareAck shard epoch entry)) (tells (with_coordinator node out.kept) out.sends out.notes)
  Acknowledges : (from shard epoch slot : ℕ) (txn : TxId) (case : Case) (part : Part) (view : Membership) → OpenPart node.coordinator txn shard case part view
      → view.epoch ≡ epoch → is_follower view from ≡ true → voted_at part.entry slot ≡ true
      → (out : Out Coordinator) → GoesOn node.coordinator txn (with_part case (acknowledged part from)) [] out
      → Effect tests version node (inputs.Deliver from (AcceptAck shard epoch slot txn)) (tells (with_coordinator node out.kept) out.sends out.notes)
  Changes : (from : ℕ) (config : Membership) → is_newer node.coordinator config ≡ true
      → Effect tests version node (inputs.Deliver from (ConfigChange config)) (acts (with_coordinator node (change_view node.coordinator config)) (ask_leader node.coordinator config))
  Learns : (from : ℕ) (config : Membership) (coordinator : Coordinator) (sent : List Outgoing) (stage : Stage) (asked : List Outgoing)
      → Sees node.coordinator config coordinator sent → Hears node.name config (view_epoch node.coordinator.views config.shard) node.prober stage asked
      → Effect tests version node (inputs.Deliver from (Stored config)) (acts (record node { coordinator = coordinator; prober = stage }) (sent ++ asked))
  Keeps : (from : ℕ) (txn : TxId) (decision : Decision) → txn.home ≡ node.name → txn.seq < node.next
      → Effect tests version node (inputs.Deliver from (OutcomeOf txn decision)) (acts (record node { outcomes = with_outcome node.outcomes txn decision }) [])
  -- the follower, and whoever has the row
  Accepts : (from epoch : ℕ) (entry : Preparation) → is_following node.role ≡ true → node.state ≡ epoch → is_taken node.rows entry ≡ false
      → Effect tests version node (inputs.Deliver from (Accept epoch entry))
      (acts (with_rows node (accepted node.rows entry)) (to from (AcceptAck node.shard epoch entry.slot entry.txn) ∷ []))
  Marks : (from epoch slot : ℕ) (txn : TxId) (commit : Bool) → epoch ≤ node.state → has_at node.rows slot txn ≡ true
      → Effect tests version node (inputs.Deliver from (DecisionFor epoch slot txn commit)) (acts (with_rows node (marked node.rows slot (mark_of commit))) [])
  -- moving a shard
  Promises : (from epoch : ℕ) → least node ≤ epoch
      → Effect tests version node (inputs.Deliver from (Probe epoch))
      (acts (record node { role = Fenced; promised = epoch; gathering = gathered_from epoch node.gathering }) (to from (ProbeAck epoch node.state) ∷ []))
  Chooses : (from state shard : ℕ) (want : List ℕ) (epoch : ℕ) (probed : Membership) (low : List ℕ) → node.prober ≡ Probing shard want epoch probed low
      → is_among probed.members from ≡ true → probed.epoch ≤ state
      → Effect tests version node (inputs.Deliver from (ProbeAck epoch state))
      (acts (with_stage node (CasSent (proposed node.name shard epoch want from))) (to 0 (Cas (proposed node.name shard epoch want from)) ∷ []))
  FindsLow : (from state shard : ℕ) (want : List ℕ) (epoch : ℕ) (probed : Membership) (low : List ℕ) → node.prober ≡ Probing shard want epoch probed low
      → is_among probed.members from ≡ true → state < probed.epoch
      → Effect tests version node (inputs.Deliver from (ProbeAck epoch state)) (acts (with_stage node (Probing shard want epoch probed (add_once low from))) [])
  Leads : (from : ℕ) (config : Membership) → config.shard ≡ node.shard → node.role ≡ Fenced → node.promised ≡ config.epoch → config.leader ≡ node.name
      → Effect tests version node (inputs.Deliver from (NewConfig config))
      (acts (record node { role = Leader config; state = config.epoch }) (flat_map (state_to version config node.rows) (followers config)))
  Follows : (from : ℕ) (config : Membership) (rows : List Row) → version ≡ 1 → MayFollow node config
      → Effect tests version node (inputs.Deliver from (NewState config rows)) (acts (follows node config rows (gathered_from config.epoch node.gathering)) [])
  Gathers : (from : ℕ) (config : Membership) (number pieces : ℕ) (rows : List Row) (gathering : Gathering) → version ≡ 2 → MayFollow node config
      → takes_piece node.gathering config pieces (record { number = number; rows = rows }) ≡ true
      → gathering ≡ with_one_more (gathering_for node.gathering config pieces) (record { number = number; rows = rows }) → is_whole gathering ≡ false
      → Effect tests version node (inputs.Deliver from (StatePiece config number pieces rows)) (acts (record node { gathering = Some gathering }) [])
  FollowsPieces : (from : ℕ) (config : Membership) (number pieces : ℕ) (rows : List Row) (gathering : Gathering) → version ≡ 2 → MayFollow node config
      → takes_piece node.gathering config pieces (record { number = number; rows = rows }) ≡ true
      → gathering ≡ with_one_more (gathering_for node.gathering config pieces) (record { number = number; rows = rows }) → is_whole gathering ≡ true
      → Effect tests version node (inputs.Deliver from (StatePiece config number pieces rows)) (acts (follows node config (rows_of gathering.kept) None) [])
