-- Words in which the worked runs are written, and what such a run shows.
use Rattle.std.specs.Prelude.{ℕ, ◌≡◌, List, Option, length}
use Rattle.tcs_terms.specs.declared.ids.TxId.{TxId}
use Rattle.tcs_terms.specs.declared.inputs.Event.{Event}
use Rattle.tcs_terms.specs.declared.inputs.Event.TheVariants.{Call, DeliverNumber, Stop}
use Rattle.tcs_terms.specs.declared.inputs.Handled.TheVariants.{Acted, Stale, Held, Full}
use Rattle.tcs_terms.specs.declared.inputs.Input.TheVariants as inputs
use Rattle.tcs_terms.specs.declared.inputs.Note.{Note}
use Rattle.tcs_terms.specs.declared.inputs.Note.TheVariants as notes
use Rattle.tcs_terms.specs.declared.inputs.Result1.{Result1}
use Rattle.tcs_terms.specs.declared.inputs.Result1.TheVariants.{Node}
use Rattle.tcs_terms.specs.declared.logs.Mark.{Mark}
use Rattle.tcs_terms.specs.declared.logs.Row.{Row}
use Rattle.tcs_terms.specs.declared.messages.Message.{Message}
use Rattle.tcs_terms.specs.declared.payloads.RangePart.{RangePart}
use Rattle.tcs_terms.specs.declared.payloads.ReadPart.{ReadPart}
use Rattle.tcs_terms.specs.declared.payloads.WritePart.{WritePart}
use Rattle.tcs_terms.specs.declared.setups.Rule.{Rule}
use Rattle.tcs_terms.specs.declared.votes.Decision.{Decision}
use Rattle.tcs_terms.specs.declared.votes.Vote.{Vote}
use Rattle.tcs_terms.specs.Payloads.{Accesses}
use Rattle.tcs_terms.specs.Places.{Membership}
use Rattle.tcs_terms.specs.Preparations.{Preparation}
use Rattle.tcs_terms.specs.Setups.{Deployment}
use Rattle.tcs_laws.specs.Certification.{Tests}
use Rattle.protocol.specs.World.{Sent}
use Rattle.protocol.specs.CorrectHistory.{IsCorrect}
use Rattle.protocol.specs.History.{order_of}
use Rattle.protocol.specs.Run.{ran}

-- a configuration: shard, epoch, members, leader, proposer
abbrev pub config : ℕ → ℕ → List ℕ → ℕ → ℕ → Membership
config shard epoch members leader by =
    record { shard = shard; epoch = epoch; members = members; leader = leader; by = by }

-- a setup: version, rule, the shard of each node, the first configurations; there is one for each shard
abbrev pub deployment : ℕ → Rule → List ℕ → List Membership → Deployment
deployment version rule nodes configs =
    record { version = version; rule = rule; shards = length configs; nodes = nodes; configs = configs }

-- the transaction of a node, by its number there
abbrev pub txn : ℕ → ℕ → TxId
txn home seq = record { home = home; seq = seq }

abbrev pub reads : List ℕ → ℕ → ReadPart
reads name version = record { name = name; version = version }

abbrev pub range : List ℕ → List ℕ → ℕ → RangePart
range from upto version = record { from = from; upto = upto; version = version }

abbrev pub writes : List ℕ → List ℕ → WritePart
writes name value = record { name = name; value = value }

-- a payload: reads, ranges, writes, commit version
abbrev pub payload : List ReadPart → List RangePart → List WritePart → ℕ → Accesses
payload reads ranges writes version = record { reads = reads; ranges = ranges; writes = writes; version = version }

-- an entry: slot, transaction, its shards, its payload in this one, vote
abbrev pub entry : ℕ → TxId → List ℕ → Option Accesses → Vote → Preparation
entry slot txn shards payload vote =
    record { slot = slot; txn = txn; shards = shards; payload = payload; vote = vote }

abbrev pub row : Preparation → Mark → Row
row entry mark = record { entry = entry; mark = mark }

-- events: the node that is called comes first
abbrev pub certify : ℕ → Accesses → Event
certify node payload = Call node (inputs.Certify payload)

abbrev pub take : ℕ → TxId → Event
take node txn = Call node (inputs.Take txn)

abbrev pub nudge : ℕ → Event
nudge node = Call node inputs.Nudge

-- the node moves a shard, and wants these nodes beside the leader
abbrev pub move : ℕ → ℕ → List ℕ → Event
move node shard want = Call node (inputs.Move shard want)

abbrev pub lower : ℕ → Event
lower node = Call node inputs.Lower

abbrev pub read : ℕ → List ℕ → Event
read node name = Call node (inputs.ReadName name)

abbrev pub ask : ℕ → ℕ → Event
ask node shard = Call node (inputs.Ask shard)

-- the message of that number reaches its receiver
abbrev pub deliver : ℕ → Event
deliver number = DeliverNumber number

abbrev pub stop : ℕ → Event
stop node = Stop node

abbrev pub acted : Result1
acted = Node Acted

abbrev pub stale : ℕ → Result1
stale mark = Node (Stale mark)

abbrev pub held : ℕ → Result1
held mark = Node (Held mark)

abbrev pub full : Result1
full = Node Full

abbrev pub begin : TxId → Accesses → Note
begin txn payload = notes.Begin txn payload

abbrev pub took : TxId → Note
took txn = notes.Take txn

abbrev pub found : List ℕ → ℕ → List ℕ → Note
found name version value = notes.ReadValue name version value

abbrev pub decide : TxId → Decision → Note
decide txn decision = notes.Decide txn decision

-- a message with its sender and its receiver
abbrev pub sent : ℕ → ℕ → Message → Sent
sent from to message = record { from = from; to = to; message = message }

-- What a run shows: what each of its events comes to, all that it notes, every message that it sends, in order, and
-- which transactions commit, by their first decisions. Its history is correct.
pub record Shows (tests : Tests) (setup : Deployment) (events : List Event) (results : List Result1) (history : List Note) (messages : List Sent) (order : List TxId) : Type 0 where
  pub comes_to : (ran tests setup events).results ≡ results
  pub notes : (ran tests setup events).world.history ≡ history
  pub sends : (ran tests setup events).world.messages ≡ messages
  pub commits : order_of history ≡ order
  pub correct : IsCorrect tests setup.shards history
