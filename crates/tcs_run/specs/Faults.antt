-- What a run of the program says of the faults that its source and its sink count.
use Rattle.std.specs.Prelude.{ℕ}
use Rattle.tcs_io.specs.Faults.{Rose}

-- neither the source nor the sink counted a fault
abbrev pub Quiet : (read read' wrote wrote' : ℕ) → Type 0
Quiet read read' wrote wrote' = (Rose read read' → ⊥) × (Rose wrote wrote' → ⊥)
