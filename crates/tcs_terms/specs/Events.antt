-- Which events may happen in a run of a setup, and which inputs are in range.
use Rattle.std.specs.Prelude.{ℕ, Bool, true, false, ◌&&◌, ◌||◌, ◌==◌, nat_le, length, IsTrue}
use Rattle.std.specs.List.{list_all}
use Rattle.tcs_terms.specs.declared.limits.TheConstants.{MAX_SEQUENCE, MAX_WANTED}
use Rattle.tcs_terms.specs.declared.ids.TxId.{TxId}
use Rattle.tcs_terms.specs.declared.inputs.Input.{Input}
use Rattle.tcs_terms.specs.declared.inputs.Input.TheVariants.{Certify, Take, Nudge, Move, Lower, ReadName, Ask, Deliver}
use Rattle.tcs_terms.specs.declared.inputs.Event.{Event}
use Rattle.tcs_terms.specs.declared.inputs.Event.TheVariants.{Call, DeliverNumber, Stop}
use Rattle.tcs_terms.specs.Order.{ascends}
use Rattle.tcs_terms.specs.Places.{is_shard, is_node}
use Rattle.tcs_terms.specs.Setups.{Deployment, has_node, is_node_of}
use Rattle.tcs_terms.specs.Messages.{InRange}

-- whether a number names a shard of the setup
abbrev pub has_shard : Deployment → ℕ → Bool
has_shard d shard = nat_le 1 shard && nat_le shard d.shards

-- whether a transaction may be one of a run of the setup
abbrev pub may_be_of : Deployment → TxId → Bool
may_be_of d txn = has_node d.nodes txn.home && (nat_le 1 txn.seq && nat_le txn.seq MAX_SEQUENCE)

-- a client's call: its nodes and shards are the setup's, wanted nodes ascend, are at most 6 and belong to the shard,
-- and a payload has a range in version 2 alone
abbrev pub input_fits : Deployment → Input → Bool
input_fits d (Certify payload) = (length payload.ranges == 0) || (d.version == 2)
input_fits d (Take txn) = may_be_of d txn
input_fits d Nudge = true
input_fits d (Move shard want) = has_shard d shard && nat_le (length want) MAX_WANTED && ascends want && list_all (is_node_of d.nodes shard) want
input_fits d Lower = true
input_fits d (ReadName name) = true
input_fits d (Ask shard) = has_shard d shard
input_fits d (Deliver from message) = false

-- an event of a run of the setup
abbrev pub event_fits : Deployment → Event → Bool
event_fits d (Call node input) = has_node d.nodes node && input_fits d input
event_fits d (DeliverNumber number) = nat_le 1 number
event_fits d (Stop node) = has_node d.nodes node

-- an input whose numbers are in range, whatever the setup
abbrev pub InputInRange : Input → Type 0
InputInRange (Certify payload) = Unit {0}
InputInRange (Take txn) = Unit {0}
InputInRange Nudge = Unit {0}
InputInRange (Move shard want) = IsTrue (is_shard shard && nat_le (length want) MAX_WANTED && list_all is_node want && ascends want)
InputInRange Lower = Unit {0}
InputInRange (ReadName name) = Unit {0}
InputInRange (Ask shard) = IsTrue (is_shard shard)
InputInRange (Deliver from message) = InRange message
