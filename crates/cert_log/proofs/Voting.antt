-- Only a preparation without payload is voted lost.
use Rattle.std.proofs.Common.{◌≡◌, false, List, Option, Some, None, refl, sym}
use Rattle.std.specs.Prelude.{find}
use Rattle.tcs_terms.specs.declared.logs.Row.{Row}
use Rattle.tcs_terms.specs.Payloads.{Accesses}
use Rattle.tcs_terms.specs.Preparations.{KeepsPayload, is_lost}
use Rattle.tcs_laws.specs.Certification.{Tests}
use Rattle.tcs_laws.specs.Votes.{vote_by, vote_on, clashes}
use Rattle.protocol.specs.Log.{vote_on_part}

never_lost : (found : Option Row) → is_lost (vote_by found) ≡ false
never_lost None = refl
never_lost (Some row) = refl

pub vote_keeps : (tests : Tests) (rows : List Row) (part : Option Accesses) → KeepsPayload part (vote_on_part tests rows part)
unfolding vote_on
vote_keeps tests rows None = refl
vote_keeps tests rows (Some new) = sym (never_lost (find (λ row. clashes tests row new) rows))
