-- What a send of a known fate leaves.
use Rattle.std.proofs.Common.{◌≡◌, ℕ, ◌==◌, [], ◌++◌, ap, ◌∙◌}
use Rattle.std.specs.Prelude.{if◌then◌else◌}
use Rattle.tcs_link.specs.declared.mail.Fate.{Fate}
use Rattle.tcs_link.specs.declared.telling.Arrival.{Arrival}
use Rattle.tcs_link.specs.Network.{Mail, Network, waiting, carried, IsUnchanged}

pub carried_on : (old new : Mail) (to : ℕ) (fate known : Fate) (frame : Arrival) → fate ≡ known → ((n : ℕ) → waiting new n ≡ waiting old n ++ (if n == to then carried fate frame else []))
    → (n : ℕ) → waiting new n ≡ waiting old n ++ (if n == to then carried known frame else [])
carried_on old new to fate known frame is came n = came n ∙ ap (λ (f : Fate). waiting old n ++ (if n == to then carried f frame else [])) is

pub all_kept : (old new : Network) → new.fates ≡ old.fates → ((n : ℕ) → waiting new.mail n ≡ waiting old.mail n) → new.plan ≡ old.plan → new.failed_sends ≡ old.failed_sends → new.told ≡ old.told
    → IsUnchanged old new
all_kept old new fates mail plan failed_sends told = record { fates = fates; mail = mail; plan = plan; failed_sends = failed_sends; told = told }
