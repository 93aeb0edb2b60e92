-- The text of a schedule: its lines, and the bytes of all of them.
use Rattle.std.specs.Prelude.{ℕ, ◌+◌, List, [], ◌∷◌, ◌++◌, map, codes, decimal}
use Rattle.std.specs.List.{flat_map}
use Rattle.tcs_terms.specs.declared.inputs.Input.{Input}
use Rattle.tcs_terms.specs.declared.inputs.Input.TheVariants.{Certify, Take, Nudge, Move, Lower, ReadName, Ask, Deliver}
use Rattle.tcs_terms.specs.declared.inputs.Event.{Event}
use Rattle.tcs_terms.specs.declared.inputs.Event.TheVariants.{Call, DeliverNumber, Stop}
use Rattle.tcs_terms.specs.declared.setups.Rule.{Rule}
use Rattle.tcs_terms.specs.Places.{Membership}
use Rattle.text_words.specs.PayloadText.{payload_text}
use Rattle.tcs_terms.specs.Setups.{Deployment}
use Rattle.text_words.specs.Texts.{txn_text}
use Rattle.tcs_terms.specs.Rules.{rule_text}

-- ---- parts of a line

-- a number, with the space before it
abbrev pub spaced_number : ℕ → List ℕ
spaced_number n = codes " " ++ decimal n

-- numbers, with a space before each
abbrev pub numbers_text : List ℕ → List ℕ
numbers_text ns = flat_map spaced_number ns

-- ---- the lines of the header

abbrev pub version_line : ℕ → List ℕ
version_line version = codes "tcs" ++ spaced_number version

abbrev pub certifier_line : Rule → List ℕ
certifier_line rule = codes "certifier " ++ rule_text rule

abbrev pub shards_line : ℕ → List ℕ
shards_line shards = codes "shards" ++ spaced_number shards

-- a node and its shard
abbrev pub node_line : ℕ → ℕ → List ℕ
node_line node shard = codes "node" ++ (spaced_number node ++ spaced_number shard)

-- the nodes from this one on, by the shards that they are in
abbrev pub node_lines : ℕ → List ℕ → List (List ℕ)
node_lines node [] = []
node_lines node (s ∷ ss) = node_line node s ∷ node_lines (node + 1) ss

-- the shard, the leader, the members
abbrev pub config_line : Membership → List ℕ
config_line c = codes "config" ++ (spaced_number c.shard ++ (spaced_number c.leader ++ numbers_text c.members))

-- the lines before the nodes
abbrev pub first_lines : Deployment → List (List ℕ)
first_lines d = version_line d.version ∷ certifier_line d.rule ∷ shards_line d.shards ∷ []

-- the lines of the header
unfoldable pub setup_lines : Deployment → List (List ℕ)
setup_lines d = first_lines d ++ (node_lines 1 d.nodes ++ (map config_line d.configs ++ codes "events" ∷ []))

-- ---- the lines of events

-- a call at a node; a delivery is none, and has no line
unfoldable pub call_line : ℕ → Input → List ℕ
call_line node (Certify payload) = codes "certify" ++ (spaced_number node ++ (codes " " ++ payload_text payload))
call_line node (Take txn) = codes "take" ++ (spaced_number node ++ (codes " " ++ txn_text txn))
call_line node Nudge = codes "nudge" ++ spaced_number node
call_line node (Move shard want) = codes "move" ++ (spaced_number node ++ (spaced_number shard ++ numbers_text want))
call_line node Lower = codes "lower" ++ spaced_number node
call_line node (ReadName name) = codes "read" ++ (spaced_number node ++ (codes " " ++ name))
call_line node (Ask shard) = codes "ask" ++ (spaced_number node ++ spaced_number shard)
call_line node (Deliver from message) = []

abbrev pub event_line : Event → List ℕ
event_line (Call node input) = call_line node input
event_line (DeliverNumber number) = codes "deliver" ++ spaced_number number
event_line (Stop node) = codes "stop" ++ spaced_number node

-- ---- the whole text

-- a line and its line feed
abbrev pub with_feed : List ℕ → List ℕ
with_feed line = line ++ 10 ∷ []

-- the lines of a schedule
abbrev pub schedule_lines : Deployment → List Event → List (List ℕ)
schedule_lines d es = setup_lines d ++ (map event_line es ++ codes "end" ∷ [])

-- the one text of a schedule
abbrev pub schedule_text : Deployment → List Event → List ℕ
schedule_text d es = flat_map with_feed (schedule_lines d es)
