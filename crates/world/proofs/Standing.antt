-- What holds of a world that is neither spent nor ended.
use Rattle.std.proofs.Common.{◌≡◌, ℕ, Bool, true, false, Option, Some, None}
use Rattle.tcs_terms.specs.Setups.{Deployment}
use Rattle.world.specs.Casts.{Cast}
use Rattle.world.specs.Soundness.{IsSound, IsSoundUnless}
use Rattle.world.specs.Turns.{LedgerState}

pub standing : (spent : Bool) (full : Option ℕ) (setup : Deployment) (cast : Cast) (ledger : LedgerState) → IsSoundUnless spent full setup cast ledger
    → spent ≡ false → full ≡ None → IsSound None setup cast ledger
standing true full setup cast ledger h s f = absurd cc
standing false None setup cast ledger h s f = h
standing false (Some sum) setup cast ledger h s f = absurd cc
