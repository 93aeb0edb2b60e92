-- The worlds of a schedule's run that puts objects back, and what its node sends and notes for one.
use Rattle.std.proofs.Common.{ℕ, true, List, [], ◌∷◌, Some, None}
use Rattle.tcs_terms.specs.declared.ids.TxId.{TxId}
use Rattle.tcs_terms.specs.declared.inputs.Note.{Note}
use Rattle.tcs_terms.specs.declared.logs.Row.{Row}
use Rattle.tcs_terms.specs.declared.messages.Message.TheVariants.{Prepare, PrepareAck, DecisionFor, OutcomeOf}
use Rattle.tcs_terms.specs.declared.votes.Vote.TheVariants as votes
use Rattle.tcs_terms.specs.declared.votes.Decision.TheVariants as decisions
use Rattle.tcs_terms.specs.Payloads.{Accesses}
use Rattle.tcs_terms.specs.Places.{Membership}
use Rattle.tcs_terms.specs.Preparations.{Preparation}
use Rattle.protocol.specs.Records.{Case, NodeRecord}
use Rattle.protocol.specs.Records.Role.{Leader}
use Rattle.protocol.specs.Records.Stage.{Idle}
use Rattle.protocol.specs.World.{World, Sent}
use Rattle.protocol.specs.Worked.Words.{config, txn, entry, sent}

abbrev pub only_config : Membership
only_config = config 1 1 (1 ∷ []) 1 0

-- node 1, which leads its shard alone
abbrev pub node_with : ℕ → List Row → List (TxId × Case) → NodeRecord
node_with next rows cases = record {
  name = 1;
  shard = 1;
  role = Leader only_config;
  state = 1;
  promised = 1;
  rows = rows;
  next = next;
  coordinator = record { views = only_config ∷ []; cases = cases };
  prober = Idle;
  outcomes = [];
  gathering = None;
}

abbrev pub world_with : ℕ → List Row → List (TxId × Case) → List Sent → List Note → World
world_with next rows cases messages history =
    record { nodes = node_with next rows cases ∷ []; configs = only_config ∷ []; messages = messages; stopped = []; history = history }

-- the case of a transaction that asked its shard
abbrev pub asked_case : Accesses → Case
asked_case p = record { shards = 1 ∷ []; payload = Some p; parts = record { shard = 1; entry = None; acks = [] } ∷ [] }

-- the entry of the n-th transaction, in slot n
abbrev pub entry_of : ℕ → Accesses → Preparation
entry_of n p = entry n (txn 1 n) (1 ∷ []) (Some p) votes.Commit

abbrev pub prepare_of : ℕ → Accesses → Sent
prepare_of n p = sent 1 1 (Prepare 1 (txn 1 n) (1 ∷ []) (Some p))

abbrev pub answer_of : ℕ → Accesses → Sent
answer_of n p = sent 1 1 (PrepareAck 1 1 (entry_of n p))

abbrev pub decision_of : ℕ → Sent
decision_of n = sent 1 1 (DecisionFor 1 n (txn 1 n) true)

abbrev pub outcome_of : ℕ → Sent
outcome_of n = sent 1 1 (OutcomeOf (txn 1 n) decisions.Commit)
