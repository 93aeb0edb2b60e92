-- The stage of a node's prober stays in range.
use Rattle.std.proofs.Common.{◌≡◌, ℕ, ◌+◌, ◌-◌, ◌<◌, ◌≤◌, true, IsTrue, List, subst, arith}
use Rattle.std.proofs.lemmas.Bool.Decides.{nat_tests}
use Rattle.tcs_terms.specs.declared.inputs.Input.{Input}
use Rattle.tcs_terms.specs.declared.limits.TheConstants.{MAX_NODES, MAX_EPOCH}
use Rattle.tcs_terms.specs.declared.messages.Outgoing.{Outgoing}
use Rattle.tcs_terms.specs.Places.{Membership, IsMembership, is_node, is_epoch, is_among}
use Rattle.tcs_laws.specs.Certification.{Tests}
use Rattle.protocol.specs.Outcomes.{Out}
use Rattle.protocol.specs.Probing.{proposed}
use Rattle.protocol.specs.Records.{Stage, NodeRecord}
use Rattle.protocol.specs.Records.Stage.{Probing}
use Rattle.protocol.proofs.Lists.{all-StandsIn, among-StandsIn}
use Rattle.protocol_laws.specs.Effect.{Hears, Effect}
use Rattle.protocol_laws.specs.Effect.Effect.{Moves, Lowers, Learns, Chooses, FindsLow}
use Rattle.protocol_laws.specs.Effect.Hears.{Waits, ProbesLast, ProbesLower, IsDone}
use Rattle.protocol_laws.specs.Ranges.{IsStageInRange, IsNodeInRange, IsInputInRange}
use Rattle.protocol_laws.proofs.Proposals.{proposed-IsMembership}

-- a member of a configuration is a node
pub is_node-member : (c : Membership) (n : ℕ) → IsMembership c → is_among c.members n ≡ true → IsTrue (is_node n)
is_node-member c n h among = all-StandsIn is_node c.members n h.each (among-StandsIn c.members n among)

pub epoch-above : (e : ℕ) → IsTrue (is_epoch e) → e < MAX_EPOCH → IsTrue (is_epoch (e + 1))
epoch-above e h below = grind (arith, nat_tests)

pub epoch-below : (e : ℕ) → IsTrue (is_epoch e) → 1 < e → IsTrue (is_epoch (e - 1))
epoch-below e h above = grind (arith, nat_tests)

node-few : (n : ℕ) → IsTrue (is_node n) → n ≤ MAX_NODES
node-few n h = grind (arith, nat_tests)

heard-in_range : (me : ℕ) (config : Membership) (view : ℕ) (stage new : Stage) (asked : List Outgoing) → Hears me config view stage new asked → IsMembership config → IsStageInRange stage → IsStageInRange new
heard-in_range me config view _ _ _ (Waits stage) c k = k
heard-in_range me config view _ _ _ (ProbesLast shard want e l below) c k = (k, epoch-above config.epoch c.epoch below, c)
heard-in_range me config view _ _ _ (ProbesLower shard want epoch asked e q) c k = (k.0, k.1, c)
heard-in_range me config view _ _ _ (IsDone kept e q) c k = tt

-- what a member that answers is proposed to lead
pub proposed-in_range : (node : NodeRecord) (shard : ℕ) (want : List ℕ) (epoch : ℕ) (probed : Membership) (low : List ℕ) (from : ℕ) → IsNodeInRange node → node.prober ≡ Probing shard want epoch probed low → is_among probed.members from ≡ true
    → IsMembership (proposed node.name shard epoch want from)
proposed-in_range node shard want epoch probed low from k e member =
    let s : IsStageInRange (Probing shard want epoch probed low) = subst IsStageInRange e k.prober in
    proposed-IsMembership node.name shard epoch want from (node-few node.name k.name) s.0 s.1 (is_node-member probed from s.2 member)

pub stage-in_range : (tests : Tests) (version : ℕ) (node : NodeRecord) (input : Input) (out : Out NodeRecord) → Effect tests version node input out → IsNodeInRange node → IsInputInRange input → IsStageInRange out.kept.prober
stage-in_range tests version node input out (Moves shard want) k i = i.0
stage-in_range tests version node input out (Lowers shard want epoch probed low e some above) k i =
    let s : IsStageInRange (Probing shard want epoch probed low) = subst IsStageInRange e k.prober in
    (s.0, s.1, epoch-below probed.epoch s.2.epoch above)
stage-in_range tests version node input out (Learns from config coordinator sent stage asked sees hears) k i = heard-in_range node.name config _ node.prober stage asked hears i.0 k.prober
stage-in_range tests version node input out (Chooses from state shard want epoch probed low e member le) k i = proposed-in_range node shard want epoch probed low from k e member
stage-in_range tests version node input out (FindsLow from state shard want epoch probed low e member lt) k i = subst IsStageInRange e k.prober
stage-in_range tests version node input out _ k i = k.prober
