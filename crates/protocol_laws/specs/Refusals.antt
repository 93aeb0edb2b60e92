-- What is refused changes nothing.
use Rattle.std.specs.Prelude.{◌≡◌, ℕ, Bool, true, false, List, [], ◌∷◌, ◌++◌}
use Rattle.tcs_terms.specs.declared.inputs.Result1.{Result1}
use Rattle.tcs_terms.specs.declared.inputs.Result1.TheVariants.{Node, Gone, Unsent}
use Rattle.tcs_terms.specs.declared.messages.Message.TheVariants.{Refused}
use Rattle.tcs_terms.specs.declared.messages.Outgoing.{Outgoing}
use Rattle.tcs_terms.specs.declared.messages.Why.{Why}
use Rattle.protocol.specs.Outcomes.{Out}
use Rattle.protocol.specs.World.{World, Sent, Happening}

-- a rule keeps what was there, notes nothing, and sends these notices alone
pub record ChangesNothing {A : Type 0} (before : A) (notices : List Outgoing) (out : Out A) : Type 0 where
  pub kept : out.kept ≡ before
  pub sent : out.sends ≡ notices
  pub noted : out.notes ≡ []

-- nothing, or one notice
pub data IsNotice : List Sent → Type 0 where
  Silent : IsNotice []
  Notice : (from to kind mark : ℕ) (why : Why) → IsNotice (record { from = from; to = to; message = Refused kind why mark } ∷ [])

-- whether an event reached nobody: the node has stopped, or no message of that number was sent
abbrev pub reached_nobody : Result1 → Bool
reached_nobody (Node answer) = false
reached_nobody Gone = true
reached_nobody Unsent = true

-- A world is as it was but for one notice at most, and wholly as it was where the event reached nobody.
pub record LeavesWorld (w : World) (h : Happening) : Type 0 where
  pub noted : h.notes ≡ []
  pub sent : IsNotice h.sent
  pub after : h.after ≡ record w { messages = w.messages ++ h.sent }
  pub nobody : reached_nobody h.result ≡ true → h.after ≡ w
