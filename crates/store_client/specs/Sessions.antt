-- A session, and why it refuses a call.
use Rattle.std.specs.Prelude.{ℕ, Bool, true, false, not, ◌==◌, nat_le, nat_lt, if◌then◌else◌, List, length, Option, Some, None}
use Rattle.tcs_terms.specs.declared.limits.TheConstants.{MAX_READS}
use Rattle.tcs_terms.specs.declared.votes.Decision.{Decision}
use Rattle.store_client.specs.declared.parts.Part.{Part}
use Rattle.store_client.specs.declared.session.SessionState.{SessionState}
use Rattle.store_client.specs.declared.session.SessionState.TheVariants.{Active, Waiting, Ended}
use Rattle.store_client.specs.declared.faults.SessionFault.{SessionFault}
use Rattle.store_client.specs.declared.faults.SessionFault.TheVariants.{NotActive, NotWaiting, Twice, TooMany, Unread, Empty, VersionSpent}
use Rattle.store_client.specs.Parts.{has, greatest}

-- how far it is, what it was given, and the outcome
pub record SessionRecord : Type 0 where
  pub state : SessionState
  pub parts : List Part
  pub outcome : Option Decision

abbrev pub is_active : SessionState → Bool
is_active Active = true
is_active Waiting = false
is_active Ended = false

abbrev pub is_waiting : SessionState → Bool
is_waiting Active = false
is_waiting Waiting = true
is_waiting Ended = false

-- why a value is refused, the first reason
abbrev pub value_fault : SessionRecord → List ℕ → Option SessionFault
value_fault s name =
    if not (is_active s.state) then Some NotActive
    else if has s.parts name then Some Twice
    else if nat_le MAX_READS (length s.parts) then Some TooMany
    else None

-- why a put is refused
abbrev pub put_fault : SessionRecord → List ℕ → Option SessionFault
put_fault s name =
    if not (is_active s.state) then Some NotActive
    else if not (has s.parts name) then Some Unread
    else None

-- why there is no payload
abbrev pub commit_fault : SessionRecord → Option SessionFault
commit_fault s =
    if not (is_active s.state) then Some NotActive
    else if length s.parts == 0 then Some Empty
    else if nat_lt 18446744073709551614 (greatest s.parts) then Some VersionSpent
    else None

-- why an outcome is refused
abbrev pub outcome_fault : SessionRecord → Option SessionFault
outcome_fault s = if not (is_waiting s.state) then Some NotWaiting else None
