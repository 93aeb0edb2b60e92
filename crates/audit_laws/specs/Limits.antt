-- The limits on what an audit reads.
use Rattle.std.specs.Prelude.{ℕ, ◌≤◌, List, length, All}
use Rattle.audit_core.specs.declared.limits.TheConstants.{MAX_LINE, MAX_TRACE}
use Rattle.audit_core.specs.Texts.{lines_of}

-- each line has at most as many bytes as a line may have, and all bytes are at most as many as those of a trace may be
pub record IsWithinLimits (bytes : List ℕ) : Type 0 where
  pub short_lines : All (λ line. length line ≤ MAX_LINE) (lines_of bytes).whole
  pub short : length bytes ≤ MAX_TRACE
