-- What a link tells of its calls.
use Rattle.std.specs.Prelude.{ℕ, ◌≤◌, List, [], ◌∷◌, ◌++◌, take, Option, Some, None}
use Rattle.tcs_link.specs.declared.linking.Polled.{Polled}
use Rattle.tcs_link.specs.declared.linking.Polled.TheVariants.{Nothing, Frame}
use Rattle.tcs_link.specs.declared.telling.Sent.{Sent}
use Rattle.tcs_link.specs.declared.telling.Arrival.{Arrival}
use Rattle.tcs_link.specs.declared.telling.Poll.{Poll}

-- the names that were attached, and the port
pub record Attached : Type 0 where
  pub names : List ℕ
  pub port : ℕ

-- what was attached last, the frames handed to `send`, and the polls that were answered, each in order
pub record Told : Type 0 where
  pub attached : Option Attached
  pub sent : List Sent
  pub polls : List Poll

abbrev pub after_attach : Told → List ℕ → ℕ → Told
after_attach told names port = record told { attached = Some (record { names = names; port = port }) }

abbrev pub after_send : Told → Sent → Told
after_send told frame = record told { sent = told.sent ++ frame ∷ [] }

abbrev pub after_poll : Told → ℕ → Option Arrival → Told
after_poll told node arrived = record told { polls = told.polls ++ record { node = node; arrived = arrived } ∷ [] }

-- what a poll found, given the buffer as the poll left it
abbrev pub arrival_of : Polled → List ℕ → Option Arrival
arrival_of Nothing buffer = None
arrival_of (Frame from len) buffer = Some (record { from = from; bytes = take len buffer })

-- what a poll found is within a buffer of this length
abbrev pub IsWithin : ℕ → Polled → Type 0
IsWithin most Nothing = Unit {0}
IsWithin most (Frame from len) = len ≤ most
