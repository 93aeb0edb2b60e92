-- The event of what is to be done: it may stand in a run of the setup, and it hands in a payload only where that was to be
-- done.
use Rattle.std.proofs.Common.{◌≡◌, ℕ, ◌≤◌, ◌^◌, ◌==◌, true, List, [], ◌∷◌, length, find, Option, Some, None, refl, subst, ap, arith, le-leb, leb-true}
use Rattle.std.proofs.lemmas.List.Elements.{All-nil, All-cons}
use Rattle.tcs_terms.proofs.BoolLaws.{both}
use Rattle.tcs_terms.specs.declared.ids.TxId.{TxId}
use Rattle.tcs_terms.specs.declared.inputs.Event.TheVariants.{Call}
use Rattle.tcs_terms.specs.declared.inputs.Input.TheVariants as inputs
use Rattle.tcs_terms.specs.declared.limits.TheConstants.{MAX_MEMBERS, MAX_NODES, MAX_SHARDS}
use Rattle.tcs_terms.specs.declared.logs.Row.{Row}
use Rattle.tcs_terms.specs.Events.{may_be_of}
use Rattle.tcs_terms.specs.Payloads.{Accesses, IsPayload}
use Rattle.tcs_terms.specs.Places.{Membership, IsMembership}
use Rattle.tcs_terms.specs.Runs.{MayStand}
use Rattle.tcs_terms.specs.Setups.{IsDeployment, has_node}
use Rattle.tcs_terms.specs.Shards.{shard_of}
use Rattle.protocol.specs.Invariant.Time.{StandsIn}
use Rattle.protocol.specs.Records.{NodeRecord}
use Rattle.protocol.specs.Views.{view_of}
use Rattle.protocol.specs.World.{World, node_of}
use Rattle.protocol.proofs.Lists.{find-StandsIn}
use Rattle.generator.specs.declared.doings.Doing.{Doing}
use Rattle.generator.specs.declared.doings.Doing.TheVariants as doings
use Rattle.generated_runs.specs.Setup.{setup, config_of}
use Rattle.generated_runs.specs.Sights.{event_of, reader_in, known_leader, leader_of, taken_over, nudged, moved_by, orphan_of, is_orphan, txn_of_row}
use Rattle.generated_runs.proofs.Known.{Known}
use Rattle.generated_runs.proofs.Wellness.{IsWell}

-- ---- the setup

first_config : IsMembership (config_of 1 1)
first_config = record { some = leb-true 1 2 refl; few = leb-true 2 MAX_MEMBERS refl; each = refl; ascend = refl; leads = refl; shard = refl; epoch = refl; by = leb-true 0 MAX_NODES refl }

second_config : IsMembership (config_of 2 4)
second_config = record { some = leb-true 1 2 refl; few = leb-true 2 MAX_MEMBERS refl; each = refl; ascend = refl; leads = refl; shard = refl; epoch = refl; by = leb-true 0 MAX_NODES refl }

third_config : IsMembership (config_of 3 7)
third_config = record { some = leb-true 1 2 refl; few = leb-true 2 MAX_MEMBERS refl; each = refl; ascend = refl; leads = refl; shard = refl; epoch = refl; by = leb-true 0 MAX_NODES refl }

pub setup_is : IsDeployment setup
unfolding setup
setup_is = record {
  version = refl;
  some_shards = leb-true 1 3 refl;
  few_shards = leb-true 3 MAX_SHARDS refl;
  some_nodes = leb-true 1 9 refl;
  few_nodes = leb-true 9 MAX_NODES refl;
  nodes = refl;
  one_each = refl;
  first = refl;
  configs = All-cons IsMembership (config_of 1 1) (config_of 2 4 ∷ config_of 3 7 ∷ []) first_config
      (All-cons IsMembership (config_of 2 4) (config_of 3 7 ∷ []) second_config (All-cons IsMembership (config_of 3 7) [] third_config (All-nil IsMembership)));
}

-- ---- what may stand

client_is : has_node setup.nodes 9 ≡ true
unfolding setup
client_is = refl

nudge_stands : MayStand setup nudged
unfolding setup
nudge_stands = record { event = tt; fits = refl }

moves_stand : MayStand setup (moved_by 3 1) × MayStand setup (moved_by 6 2)
unfolding setup
moves_stand = (record { event = tt; fits = refl }, record { event = tt; fits = refl })

stop_stands : (w : World) → MayStand setup (event_of w doings.Stop)
unfolding setup
stop_stands w = record { event = tt; fits = refl }

taken_stands : (o : Option TxId) → ((txn : TxId) → o ≡ Some txn → may_be_of setup txn ≡ true) → MayStand setup (taken_over o)
unfolding setup
taken_stands None may = nudge_stands
taken_stands (Some txn) may = record { event = tt; fits = may txn refl }

orphan_is : (top : ℕ) (w : World) (txn : TxId) → Known top w → orphan_of (node_of w.nodes 5) ≡ Some txn → may_be_of setup txn ≡ true
orphan_is top w txn k e = at (node_of w.nodes 5) refl e where
  found : (node : NodeRecord) (o : Option Row) → find (is_orphan node.coordinator) node.rows ≡ o → StandsIn node w.nodes → txn_of_row o ≡ Some txn → may_be_of setup txn ≡ true
  found node None at s q = absurd (cc q)
  found node (Some row) at s q =
      let is : row.entry.txn ≡ txn = cc q in
      subst (λ (t : TxId). may_be_of setup t ≡ true) is (k.rows node row s (find-StandsIn (is_orphan node.coordinator) node.rows row at).0)

  at : (o : Option NodeRecord) → node_of w.nodes 5 ≡ o → orphan_of o ≡ Some txn → may_be_of setup txn ≡ true
  at None here q = absurd (cc q)
  at (Some node) here q =
      found node (find (is_orphan node.coordinator) node.rows) refl (find-StandsIn (λ (n : NodeRecord). n.name == 5) w.nodes node here).0 q

leads : (top : ℕ) (w : World) (name : List ℕ) → Known top w → has_node setup.nodes (reader_in w name) ≡ true
leads top w name k = at (node_of w.nodes 9) refl where
  seen : (node : NodeRecord) (o : Option Membership) → view_of node.coordinator.views (shard_of name 3) ≡ o → StandsIn node w.nodes → has_node setup.nodes (leader_of o) ≡ true
  seen node None here s = client_is
  seen node (Some c) here s = k.leaders node c s (find-StandsIn (λ (v : Membership). v.shard == shard_of name 3) node.coordinator.views c here).0

  at : (o : Option NodeRecord) → node_of w.nodes 9 ≡ o → has_node setup.nodes (known_leader o (shard_of name 3)) ≡ true
  at None here = client_is
  at (Some node) here =
      seen node (view_of node.coordinator.views (shard_of name 3)) refl (find-StandsIn (λ (n : NodeRecord). n.name == 9) w.nodes node here).0

payload_stands : (payload : Accesses) → IsPayload payload → payload.ranges ≡ [] → MayStand setup (Call 9 (inputs.Certify payload))
unfolding setup
payload_stands payload is none = record { event = is; fits = rw none refl }

pub may_stand : (top : ℕ) (w : World) (doing : Doing) → Known top w → length w.messages ≤ 2 ^ 28 → IsWell (length w.messages) top doing → MayStand setup (event_of w doing)
may_stand top w doings.Stop k few is = stop_stands w
may_stand top w doings.FirstMove k few is = moves_stand.0
may_stand top w doings.TakeOver k few is = taken_stands (orphan_of (node_of w.nodes 5)) (λ txn e. orphan_is top w txn k e)
may_stand top w doings.SecondMove k few is = moves_stand.1
may_stand top w doings.Nudge k few is = nudge_stands
may_stand top w (doings.Deliver number) k few is =
    record { event = let n : number ≤ length w.messages = is.few in omega (arith, n, few); fits = le-leb 1 number is.some }
may_stand top w (doings.Read name) k few is = record { event = is; fits = both (has_node setup.nodes (reader_in w name)) true (leads top w name k) refl }
may_stand top w (doings.Certify payload) k few is = payload_stands payload is.0 is.1

-- ---- what is handed in

not_taken : (o : Option TxId) (node : ℕ) (p : Accesses) → taken_over o ≡ Call node (inputs.Certify p) → ⊥
not_taken None node p e = cc e
not_taken (Some txn) node p e = cc e

-- an event that hands in a payload does what was to be done
pub hands_in : (w : World) (doing : Doing) (node : ℕ) (p : Accesses) → event_of w doing ≡ Call node (inputs.Certify p) → doing ≡ doings.Certify p
hands_in w doings.Stop node p e = absurd (cc e)
hands_in w doings.FirstMove node p e = absurd (cc e)
hands_in w doings.TakeOver node p e = absurd (not_taken (orphan_of (node_of w.nodes 5)) node p e)
hands_in w doings.SecondMove node p e = absurd (cc e)
hands_in w doings.Nudge node p e = absurd (cc e)
hands_in w (doings.Deliver number) node p e = absurd (cc e)
hands_in w (doings.Read name) node p e = absurd (cc e)
hands_in w (doings.Certify payload) node p e = let same : payload ≡ p = cc e in ap doings.Certify same
