-- A log that is shut, with the epochs of its node.
use Rattle.std.specs.Prelude.{ℕ, ◌+◌, ◌<◌, ◌≤◌, max, List}
use Rattle.tcs_terms.specs.declared.limits.TheConstants.{MAX_EPOCH}
use Rattle.tcs_terms.specs.declared.logs.Row.{Row}

-- the last epoch in which the node was initialised, 0 if never; the greatest one that it promised; its rows
pub record FencedState : Type 0 where
  pub state : ℕ
  pub promised : ℕ
  pub rows : List Row

-- the promise is above the state epoch, or both are 0
pub record IsPromise (state promised : ℕ) : Type 0 where
  pub at_least : state ≤ promised
  pub above : 0 < promised → state < promised
  pub fits : promised ≤ MAX_EPOCH

-- the least epoch that may still be promised
abbrev pub least_after : ℕ → ℕ → ℕ
least_after state promised = max promised (state + 1)
