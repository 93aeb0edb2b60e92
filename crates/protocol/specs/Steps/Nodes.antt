-- The records from which single steps begin. There are two shards: nodes 1, 2 and 3 are of shard 1, which has object b,
-- and node 4 is of shard 2, which has object a.
use Rattle.std.specs.Prelude.{ℕ, List, [], ◌∷◌, Some, None, codes}
use Rattle.tcs_terms.specs.declared.inputs.Handled.TheVariants.{Stale, Held}
use Rattle.tcs_terms.specs.declared.inputs.Input.TheVariants as inputs
use Rattle.tcs_terms.specs.declared.messages.Message.{Message}
use Rattle.tcs_terms.specs.declared.messages.Message.TheVariants.{Refused}
use Rattle.tcs_terms.specs.declared.messages.Why.TheVariants as why
use Rattle.cert_serial.specs.Serial.{serial}
use Rattle.protocol.specs.Outcomes.{Out, to, rests}
use Rattle.protocol.specs.Table.{step}
use Rattle.tcs_terms.specs.declared.logs.Mark.TheVariants.{Undecided, Committed}
use Rattle.tcs_terms.specs.declared.logs.Row.{Row}
use Rattle.tcs_terms.specs.declared.votes.Vote.TheVariants as votes
use Rattle.tcs_terms.specs.Payloads.{Accesses}
use Rattle.tcs_terms.specs.Places.{Membership}
use Rattle.tcs_terms.specs.Preparations.{Preparation}
use Rattle.protocol.specs.Records.{Role, Stage, Part, Case, NodeRecord}
use Rattle.protocol.specs.Records.Role.{Fenced, Leader, Follower}
use Rattle.protocol.specs.Records.Stage.{Idle}
use Rattle.protocol.specs.Worked.Words.{config, txn, reads, writes, payload, entry, row}

-- the first configurations: shard 1 is led by node 1 and followed by node 2, shard 2 is node 4 alone
abbrev pub first_1 : Membership
first_1 = config 1 1 (1 ∷ 2 ∷ []) 1 0

abbrev pub first_2 : Membership
first_2 = config 2 1 (4 ∷ []) 4 0

-- a next one of shard 1, proposed by node 3: led by node 2, followed by nodes 1 and 3
abbrev pub second_1 : Membership
second_1 = config 1 2 (1 ∷ 2 ∷ 3 ∷ []) 2 3

-- a node of shard 1 that sees the first configurations and has nothing else to do
abbrev pub node : ℕ → Role → ℕ → ℕ → List Row → NodeRecord
node name role state promised rows = record {
  name = name;
  shard = 1;
  role = role;
  state = state;
  promised = promised;
  rows = rows;
  next = 1;
  coordinator = record { views = first_1 ∷ first_2 ∷ []; cases = [] };
  prober = Idle;
  outcomes = [];
  gathering = None;
}

-- object b is read at version 0 and written
abbrev pub writes_b : Accesses
writes_b = payload (reads (codes "b") 0 ∷ []) [] (writes (codes "b") (5 ∷ []) ∷ []) 1

-- object b is read at version 0
abbrev pub reads_b : Accesses
reads_b = payload (reads (codes "b") 0 ∷ []) [] [] 1

-- both objects are read at version 0, and a is written
abbrev pub reads_both : Accesses
reads_both = payload (reads (codes "a") 0 ∷ reads (codes "b") 0 ∷ []) [] (writes (codes "a") (7 ∷ []) ∷ []) 1

-- its part in shard 1, and in shard 2
abbrev pub both_in_1 : Accesses
both_in_1 = payload (reads (codes "b") 0 ∷ []) [] [] 1

abbrev pub both_in_2 : Accesses
both_in_2 = payload (reads (codes "a") 0 ∷ []) [] (writes (codes "a") (7 ∷ []) ∷ []) 1

-- node 3's first transaction, at slot 2 of shard 1
abbrev pub entry_b : Preparation
entry_b = entry 2 (txn 3 1) (1 ∷ []) (Some writes_b) votes.Commit

abbrev pub undecided_b : Row
undecided_b = row entry_b Undecided

abbrev pub committed_b : Row
committed_b = row entry_b Committed

abbrev pub leader : NodeRecord
leader = node 1 (Leader first_1) 1 1 (undecided_b ∷ [])

abbrev pub follower : NodeRecord
follower = node 2 (Follower first_1) 1 1 (undecided_b ∷ [])

-- the follower after it promised epoch 2
abbrev pub fenced : NodeRecord
fenced = node 2 Fenced 1 2 (undecided_b ∷ [])

-- a node that never was a member
abbrev pub spare : NodeRecord
spare = node 3 Fenced 0 0 []

-- a part of a case: asked, or voted and acknowledged by these followers
abbrev pub asked_part : ℕ → Part
asked_part shard = record { shard = shard; entry = None; acks = [] }

abbrev pub voted_part : ℕ → Preparation → List ℕ → Part
voted_part shard entry acks = record { shard = shard; entry = Some entry; acks = acks }

-- the spare node with one case, of its first transaction
abbrev pub coordinating : Case → NodeRecord
coordinating case = record spare {
  next = 2;
  coordinator = record { views = first_1 ∷ first_2 ∷ []; cases = (txn 3 1, case) ∷ [] };
}

-- the case of one shard
abbrev pub case_b : Part → Case
case_b part = record { shards = 1 ∷ []; payload = Some writes_b; parts = part ∷ [] }

-- the spare node in a stage of moving a shard
abbrev pub moving : Stage → NodeRecord
moving stage = record spare { prober = stage }

-- what a node does with a message from another one, under version 1, and under version 2
abbrev pub given : NodeRecord → ℕ → Message → Out NodeRecord
given node from message = step serial 1 node (inputs.Deliver from message)

abbrev pub given_2 : NodeRecord → ℕ → Message → Out NodeRecord
given_2 node from message = step serial 2 node (inputs.Deliver from message)

-- a message of that kind is held, or too old, against that mark: nothing changes, and its sender hears of it
abbrev pub held_back : {A : Type 0} → A → ℕ → ℕ → ℕ → Out A
held_back kept from kind mark = record (rests (Held mark) kept) { sends = to from (Refused kind why.Held mark) ∷ [] }

abbrev pub too_old : {A : Type 0} → A → ℕ → ℕ → ℕ → Out A
too_old kept from kind mark = record (rests (Stale mark) kept) { sends = to from (Refused kind why.Stale mark) ∷ [] }
