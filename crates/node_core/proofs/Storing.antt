-- STORED, by whether the prober awaits it.
use Rattle.std.proofs.Common.{◌≡◌, Bool, true, false, ◌++◌, refl, append-nil}
use Rattle.tcs_terms.specs.declared.inputs.Handled.TheVariants.{Acted}
use Rattle.tcs_terms.specs.Places.{Membership}
use Rattle.protocol.specs.Choices.{when}
use Rattle.protocol.specs.ClientRules.{coordinates}
use Rattle.protocol.specs.Coordination.{is_newer, on_config}
use Rattle.protocol.specs.Probing.{on_stored}
use Rattle.protocol.specs.Records.{NodeRecord}
use Rattle.protocol.specs.Table.{is_awaited, on_stored_config}

-- a configuration that is not awaited is one that changed
pub record IsChange (node : NodeRecord) (config : Membership) : Type 0 where
  pub answer : (on_stored_config node config).answer ≡ (coordinates node (on_config node.coordinator config)).answer
  pub kept : (on_stored_config node config).kept ≡ (coordinates node (on_config node.coordinator config)).kept
  pub sends : (on_stored_config node config).sends ≡ (coordinates node (on_config node.coordinator config)).sends

pub unawaited : (node : NodeRecord) (config : Membership) → is_awaited node config ≡ false → IsChange node config
unfolding on_stored_config on_config when
unawaited node config h = go (is_newer node.coordinator config) refl where
  go : (b : Bool) → is_newer node.coordinator config ≡ b → IsChange node config
  go true e = record { answer = rw (h, e) refl; kept = rw (h, e) refl; sends = rw (h, e) (append-nil _) }
  go false e = record { answer = rw (h, e) refl; kept = rw (h, e) refl; sends = rw (h, e) refl }

-- one that is awaited is told to the coordinator and to the prober
pub record IsAwaited (node : NodeRecord) (config : Membership) : Type 0 where
  pub answer : (on_stored_config node config).answer ≡ Acted
  pub kept : (on_stored_config node config).kept
      ≡ record node { coordinator = (on_config node.coordinator config).kept; prober = (on_stored node.name node.prober config).kept }
  pub sends : (on_stored_config node config).sends ≡ (on_config node.coordinator config).sends ++ (on_stored node.name node.prober config).sends

pub awaited : (node : NodeRecord) (config : Membership) → is_awaited node config ≡ true → IsAwaited node config
unfolding on_stored_config when
awaited node config h = record { answer = rw h refl; kept = rw h refl; sends = rw h refl }
