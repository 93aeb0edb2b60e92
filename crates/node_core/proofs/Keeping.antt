-- Each step leaves a node of which all is true that is true between steps.
use Rattle.std.proofs.Common.{◌≡◌, ℕ, Bool, true, false}
use Rattle.std.specs.Prelude.{nat_le, ◌≤◌}
use Rattle.std.proofs.Common.{arith}
use Rattle.std.proofs.lemmas.Bool.{and_parts}
use Rattle.std.proofs.lemmas.Bool.Decides.{nat_tests}
use Rattle.tcs_terms.specs.declared.inputs.Input.{Input}
use Rattle.tcs_terms.specs.declared.limits.TheConstants.{MAX_NODES}
use Rattle.tcs_laws.specs.Certification.{Tests}
use Rattle.protocol.specs.Records.{NodeRecord}
use Rattle.protocol.specs.Table.{step}
use Rattle.protocol_laws.specs.Ranges.{IsInputInRange}
use Rattle.protocol_laws.proofs.EffectOf.{effect_of}
use Rattle.protocol_laws.proofs.RangesWorld.{step-in_range}
use Rattle.node_core.specs.Soundness.{IsKept, IsKeptUnless}
use Rattle.node_core.proofs.Given.{given_after}

pub step_kept : (tests : Tests) (version : ℕ) (node : NodeRecord) (input : Input) → IsKept node → IsInputInRange input → IsKept (step tests version node input).kept
step_kept tests version node input k i = record {
  range = (step-in_range tests version node input k.range i).kept;
  given = given_after tests version node input (step tests version node input) k.given (effect_of tests version node input);
}

pub unspent : (spent : Bool) (node : NodeRecord) → spent ≡ false → IsKeptUnless spent node → IsKept node
unspent true node h kept = absurd cc
unspent false node h kept = kept

pub name_fits : (node : NodeRecord) → IsKept node → node.name ≤ MAX_NODES
name_fits node k = let parts = and_parts (nat_le 1 node.name) (nat_le node.name MAX_NODES) k.range.name in grind (arith, nat_tests, parts.1)
