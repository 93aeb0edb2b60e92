-- What is kept so far of each object.
use Rattle.std.proofs.Common.{◌≡◌, List, ℕ, fold, take}
use Rattle.version_store.specs.Keeping.{kept_at, after_write}
use Rattle.version_store.proofs.writes.take_writes.Given as goal

abbrev pub invariant-loop-part : goal.invariant-loop-part
invariant-loop-part l = (name : List ℕ) → kept_at l.writes name
    ≡ fold (after_write name l.slot l.version) (kept_at l.initial.writes name) (take l.part-index l.parts)
