-- The schedule that puts back what a backup kept: one node, which leads the one shard, and three events for each object.
use Rattle.std.specs.Prelude.{ℕ, ◌+◌, ◌*◌, ◌≤◌, List, [], ◌∷◌, ◌++◌, length, map, IsTrue}
use Rattle.tcs_terms.specs.declared.inputs.Event.{Event}
use Rattle.tcs_terms.specs.declared.setups.Rule.TheVariants.{Serial}
use Rattle.tcs_terms.specs.Objects.{IsName, IsValue}
use Rattle.tcs_terms.specs.Order.{names_ascend}
use Rattle.tcs_terms.specs.Payloads.{Accesses}
use Rattle.tcs_terms.specs.Setups.{Deployment}
use Rattle.protocol.specs.Worked.Words.{deployment, config, payload, reads, writes, certify, deliver}
use Rattle.backup_machine.specs.declared.objects.Kept.{Kept}
use Rattle.backup_machine.specs.declared.objects.TheConstants.{MAX_OBJECTS}
use Rattle.backup_machine.specs.Objects.{is_kept_version}

-- version 2, serial certification, and node 1 alone in shard 1
abbrev pub restored_setup : Deployment
restored_setup = deployment 2 Serial (1 ∷ []) (config 1 1 (1 ∷ []) 1 0 ∷ [])

-- what an object is put back by: it is read as absent, and written with the version and the value that were kept
abbrev pub payload_of : Kept → Accesses
payload_of k = payload (reads k.name 0 ∷ []) [] (writes k.name k.value ∷ []) k.version

-- The events of an object, `before` others having been put back: its transaction is certified, and of the four messages
-- that this makes the node send, the preparation and its answer are delivered.
abbrev pub events_of : ℕ → Kept → List Event
events_of before k = certify 1 (payload_of k) ∷ deliver (4 * before + 1) ∷ deliver (4 * before + 2) ∷ []

-- the events of these objects, `before` others having been put back
abbrev pub events_from : ℕ → List Kept → List Event
events_from before [] = []
events_from before (k ∷ ks) = events_of before k ++ events_from (before + 1) ks

-- the events of the schedule
abbrev pub restored_events : List Kept → List Event
restored_events kept = events_from 0 kept

-- objects that a schedule can put back: no more than a backup has, with names that strictly ascend
pub record CanBeRestored (kept : List Kept) : Type 0 where
  pub few : length kept ≤ MAX_OBJECTS
  pub ascend : IsTrue (names_ascend (map (λ (k : Kept). k.name) kept))

-- an object as a backup keeps it: a name, a version from 1 on with one above it, and a value
pub record IsKept (k : Kept) : Type 0 where
  pub name : IsName k.name
  pub version : IsTrue (is_kept_version k.version)
  pub value : IsValue k.value
