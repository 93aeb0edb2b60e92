-- A take-over that found no preparation.
use Rattle.std.specs.Prelude.{ℕ, Bool, true, false, ◌&&◌, ◌==◌, List, Option, Some, None, is_none}
use Rattle.std.specs.List.{list_any}
use Rattle.tcs_terms.specs.declared.ids.TxId.{TxId}
use Rattle.tcs_terms.specs.declared.inputs.Event.{Event}
use Rattle.tcs_terms.specs.declared.inputs.Event.TheVariants.{Call, DeliverNumber, Stop}
use Rattle.tcs_terms.specs.declared.inputs.Handled.TheVariants.{Acted, Stale, Held, Full}
use Rattle.tcs_terms.specs.declared.inputs.Result1.{Result1}
use Rattle.tcs_terms.specs.declared.inputs.Result1.TheVariants.{Node, Gone, Unsent}
use Rattle.tcs_terms.specs.declared.messages.Message.{Message}
use Rattle.tcs_terms.specs.declared.messages.Message.TheVariants.{Prepare, PrepareAck, Accept, AcceptAck, DecisionFor, Probe, ProbeAck, NewConfig, NewState, ConfigChange, Last, At, Cas, Stored, OutcomeOf, Refused, StatePiece}
use Rattle.tcs_terms.specs.Logs.{same_txn}
use Rattle.tcs_terms.specs.Setups.{Deployment}
use Rattle.tcs_laws.specs.Certification.{Tests}
use Rattle.protocol.specs.Log.{row_of}
use Rattle.protocol.specs.Past.{with_past}
use Rattle.protocol.specs.Records.{NodeRecord}
use Rattle.protocol.specs.Run.{run}
use Rattle.protocol.specs.World.{World, Sent, message_of, node_of, world_step}

-- whether a message asks to prepare the transaction without payload
abbrev pub asks_without_payload : TxId → Message → Bool
asks_without_payload txn (Prepare epoch other shards payload) = same_txn other txn && is_none payload
asks_without_payload txn (PrepareAck shard epoch entry) = false
asks_without_payload txn (Accept epoch entry) = false
asks_without_payload txn (AcceptAck shard epoch slot other) = false
asks_without_payload txn (DecisionFor epoch slot other commit) = false
asks_without_payload txn (Probe epoch) = false
asks_without_payload txn (ProbeAck epoch state) = false
asks_without_payload txn (NewConfig config) = false
asks_without_payload txn (NewState config rows) = false
asks_without_payload txn (ConfigChange config) = false
asks_without_payload txn (Last shard) = false
asks_without_payload txn (At shard epoch) = false
asks_without_payload txn (Cas config) = false
asks_without_payload txn (Stored config) = false
asks_without_payload txn (OutcomeOf other decision) = false
asks_without_payload txn (Refused kind why mark) = false
asks_without_payload txn (StatePiece config piece pieces rows) = false

-- whether a node of the shard holds no row of the transaction
abbrev pub holds_nothing : TxId → ℕ → Option NodeRecord → Bool
holds_nothing txn shard None = false
holds_nothing txn shard (Some node) = (node.shard == shard) && is_none (row_of node.rows txn)

-- whether a message asks so a node that holds nothing
abbrev pub is_unprepared : World → TxId → ℕ → Option Sent → Bool
is_unprepared w txn shard None = false
is_unprepared w txn shard (Some sent) =
    asks_without_payload txn sent.message && holds_nothing txn shard (node_of w.nodes sent.to)

-- whether an event delivers such a message to such a node
abbrev pub finds_nothing : World → TxId → ℕ → Event → Bool
finds_nothing w txn shard (Call node input) = false
finds_nothing w txn shard (DeliverNumber number) = is_unprepared w txn shard (message_of w.messages number)
finds_nothing w txn shard (Stop node) = false

-- whether an event acted
abbrev pub has_acted : Result1 → Bool
has_acted (Node Acted) = true
has_acted (Node (Stale mark)) = false
has_acted (Node (Held mark)) = false
has_acted (Node Full) = false
has_acted Gone = false
has_acted Unsent = false

-- whether the event acts, too
abbrev pub finds_nothing_in : Tests → ℕ → World → TxId → ℕ → Event → Bool
finds_nothing_in tests version w txn shard event =
    finds_nothing w txn shard event && has_acted (world_step tests version w event).result

-- Whether in a run a PREPARE of the transaction without payload reached a node of the shard that acted on it while none
-- of its rows held the transaction.
abbrev pub found_nothing : Tests → Deployment → List Event → TxId → ℕ → Bool
found_nothing tests setup events txn shard =
    list_any (λ e. finds_nothing_in tests setup.version (run tests setup e.0) txn shard e.1) (with_past events)
