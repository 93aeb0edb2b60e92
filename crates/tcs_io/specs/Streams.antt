-- A buffered reader and a buffered writer of std's, as their callers see them.
use Rattle.std.specs.Prelude.{ℕ, List, Option}

-- the bytes that std's reader has left, where std tells them (as of one over memory), and how often reading has failed
pub record Input : Type 0 where
  pub remaining : Option (List ℕ)
  pub faults : ℕ

-- the bytes that the buffer still keeps; those that std's writer holds together with them, where std tells them (as of
-- one over memory); and how often writing has failed
pub record Output : Type 0 where
  pub waiting : List ℕ
  pub contents : Option (List ℕ)
  pub faults : ℕ
