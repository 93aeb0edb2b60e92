use Rattle.std.proofs.Common.{◌≡◌, ◌∷◌, ◌++◌, filter, take}
use Rattle.std.specs.Prelude.{nat_lt}
use Rattle.prober.proofs.proposals.joined.Given as goal

abbrev pub invariant-above : goal.invariant-above
invariant-above l = l.list.items ≡ filter (λ m. nat_lt m l.node) l.nodes ++ l.node ∷ filter (λ m. nat_lt l.node m) (take l.other-index l.nodes)
