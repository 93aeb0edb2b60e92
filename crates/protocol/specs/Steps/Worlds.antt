-- Steps of a world.
use Rattle.std.specs.Prelude.{◌≡◌, ℕ, List, [], ◌∷◌, Some, codes, flat_map, if◌then◌else◌, ◌==◌}
use Rattle.tcs_terms.specs.declared.inputs.Result1.TheVariants.{Gone, Unsent}
use Rattle.tcs_terms.specs.declared.logs.Mark.TheVariants.{Undecided, Committed}
use Rattle.tcs_terms.specs.declared.logs.Row.{Row}
use Rattle.tcs_terms.specs.declared.inputs.Event.{Event}
use Rattle.tcs_terms.specs.declared.inputs.Result1.{Result1}
use Rattle.tcs_terms.specs.declared.setups.Rule.TheVariants.{Serial}
use Rattle.tcs_terms.specs.declared.messages.Message.TheVariants.{Prepare, PrepareAck, Last, Stored, Refused}
use Rattle.tcs_terms.specs.Payloads.{Accesses}
use Rattle.tcs_terms.specs.Setups.{Deployment}
use Rattle.cert_serial.specs.Serial.{serial}
use Rattle.protocol.specs.Limit.{Live, Ended, Happens, SoupFull, limited_step, limited_run}
use Rattle.protocol.specs.Run.{run, ran}
use Rattle.protocol.specs.World.{World, world_step, first_world}
use Rattle.protocol.specs.Steps.Nodes.{writes_b}
use Rattle.protocol.specs.Worked.Words.{deployment, config, txn, reads, writes, payload, entry, row, begin, decide, certify, deliver, stop, move, nudge, ask, acted, held, sent}
use Rattle.protocol.specs.CorrectHistory.{IsCorrect}
use Rattle.tcs_terms.specs.declared.messages.Why.TheVariants as why
use Rattle.tcs_terms.specs.declared.votes.Vote.TheVariants as votes
use Rattle.tcs_terms.specs.declared.votes.Decision.TheVariants as decisions

-- one shard, of node 1 alone, and node 2 as spare
abbrev pub alone : Deployment
alone = deployment 1 Serial (1 ∷ 1 ∷ []) (config 1 1 (1 ∷ []) 1 0 ∷ [])

abbrev pub before : World
before = run serial alone (certify 1 writes_b ∷ [])

-- what an event comes to after a first transaction began
abbrev pub comes : Event → Result1
comes event = (world_step serial 1 before event).result

-- A message that was sent may be delivered many times, to its receiver; a number that was not sent names none; a
-- stopped node takes nothing.
pub record Delivering : Type 0 where
  pub first_message : comes (deliver 1) ≡ acted
  pub number_zero : comes (deliver 0) ≡ Unsent
  pub not_sent_yet : comes (deliver 2) ≡ Unsent
  pub no_such_node : comes (nudge 3) ≡ Gone
  pub delivered_again : (ran serial alone (certify 1 writes_b ∷ deliver 1 ∷ deliver 1 ∷ [])).world.messages
      ≡ sent 1 1 (Prepare 1 (txn 1 1) (1 ∷ []) (Some writes_b)) ∷ sent 1 1 (PrepareAck 1 1 (entry 1 (txn 1 1) (1 ∷ []) (Some writes_b) votes.Commit)) ∷ sent 1 1 (PrepareAck 1 1 (entry 1 (txn 1 1) (1 ∷ []) (Some writes_b) votes.Commit)) ∷ []
  pub stopped_receiver : (ran serial alone (certify 1 writes_b ∷ stop 1 ∷ deliver 1 ∷ stop 1 ∷ nudge 1 ∷ nudge 2 ∷ [])).results
      ≡ acted ∷ acted ∷ Gone ∷ Gone ∷ Gone ∷ acted ∷ []
  pub a_shard_is_asked_for : (ran serial alone (ask 2 1 ∷ deliver 1 ∷ deliver 2 ∷ ask 2 2 ∷ deliver 3 ∷ deliver 4 ∷ [])).results
      ≡ acted ∷ acted ∷ held 1 ∷ acted ∷ held 0 ∷ acted ∷ []
  pub what_is_sent_for_it : (ran serial alone (ask 2 1 ∷ deliver 1 ∷ deliver 2 ∷ ask 2 2 ∷ deliver 3 ∷ deliver 4 ∷ [])).world.messages
      ≡ sent 2 0 (Last 1) ∷ sent 0 2 (Stored (config 1 1 (1 ∷ []) 1 0)) ∷ sent 2 0 (Last 2) ∷ sent 0 2 (Refused 11 why.Held 0) ∷ []

-- A run ends with the event whose sends would bring the frames above 268,435,456 bytes; each later event has the same
-- answer.
pub record Filling : Type 0 where
  pub sum_of_frames : limited_run serial alone (certify 1 writes_b ∷ deliver 1 ∷ deliver 2 ∷ [])
      ≡ Live (run serial alone (certify 1 writes_b ∷ deliver 1 ∷ deliver 2 ∷ [])) 3 97
  pub unsent_counts : limited_run serial alone (deliver 7 ∷ []) ≡ Live (first_world alone) 1 0
  pub up_to_the_limit : limited_step serial 1 (Live (first_world alone) 4 268435419) (certify 1 writes_b)
      ≡ record { answer = Happens acted (begin (txn 1 1) writes_b ∷ []) (sent 1 1 (Prepare 1 (txn 1 1) (1 ∷ []) (Some writes_b)) ∷ []); after = Live before 5 268435456 }
  pub above_the_limit : limited_step serial 1 (Live before 4 268435420) (certify 1 writes_b)
      ≡ record { answer = SoupFull 268435457; after = Ended (record { nodes = []; configs = []; messages = sent 1 1 (Prepare 1 (txn 1 1) (1 ∷ []) (Some writes_b)) ∷ []; stopped = []; history = begin (txn 1 1) writes_b ∷ [] }) 4 268435457 }
  pub once_ended : limited_step serial 1 (Ended before 4 268435457) (stop 1)
      ≡ record { answer = SoupFull 268435457; after = Ended before 4 268435457 }

-- one shard, led by node 1 and followed by node 2, and node 3 as spare
abbrev pub with_spare : Deployment
with_spare = deployment 1 Serial (1 ∷ 1 ∷ 1 ∷ []) (config 1 1 (1 ∷ 2 ∷ []) 1 0 ∷ [])

abbrev pub writes_a : Accesses
writes_a = payload (reads (codes "a") 0 ∷ []) [] (writes (codes "a") (1 ∷ []) ∷ []) 1

-- Node 2 leads a second epoch, in which node 3's transaction is decided. Then node 1, still leader of the first epoch,
-- decides its own transaction, marks it, and gets the first PREPARE of the other one.
abbrev pub old_leader_goes_on : List Event
old_leader_goes_on =
    certify 1 writes_a ∷ deliver 1 ∷ deliver 2 ∷ deliver 3 ∷ certify 3 writes_b ∷ move 3 1 (3 ∷ []) ∷ deliver 6 ∷ deliver 7 ∷ deliver 9 ∷ deliver 10 ∷ deliver 11 ∷ deliver 12
    ∷ deliver 17 ∷ deliver 18 ∷ deliver 16 ∷ deliver 19 ∷ deliver 20 ∷ deliver 21 ∷ deliver 4 ∷ deliver 25 ∷ deliver 5 ∷ []

abbrev pub rows_at : ℕ → World → List Row
rows_at name w = flat_map (λ n. if n.name == name then n.rows else []) w.nodes

-- An old leader that was never probed goes on beside a later epoch: both decide, and the history is correct.
pub record OldLeader : Type 0 where
  pub all_act : (ran serial with_spare old_leader_goes_on).results
      ≡ acted ∷ acted ∷ acted ∷ acted ∷ acted ∷ acted ∷ acted ∷ acted ∷ acted ∷ acted ∷ acted ∷ acted ∷ acted ∷ acted ∷ acted ∷ acted ∷ acted ∷ acted ∷ acted ∷ acted ∷ acted ∷ []
  pub decides : (ran serial with_spare old_leader_goes_on).world.history
      ≡ begin (txn 1 1) writes_a ∷ begin (txn 3 1) writes_b ∷ decide (txn 3 1) decisions.Commit ∷ decide (txn 1 1) decisions.Commit ∷ []
  pub correct : IsCorrect serial 1 (ran serial with_spare old_leader_goes_on).world.history
  pub old_rows : rows_at 1 (ran serial with_spare old_leader_goes_on).world
      ≡ row (entry 1 (txn 1 1) (1 ∷ []) (Some writes_a) votes.Commit) Committed ∷ row (entry 2 (txn 3 1) (1 ∷ []) (Some writes_b) votes.Commit) Undecided ∷ []
  pub new_rows : rows_at 2 (ran serial with_spare old_leader_goes_on).world
      ≡ row (entry 1 (txn 1 1) (1 ∷ []) (Some writes_a) votes.Commit) Undecided ∷ row (entry 2 (txn 3 1) (1 ∷ []) (Some writes_b) votes.Commit) Undecided ∷ []
