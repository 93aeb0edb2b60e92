use Rattle.std.proofs.Common.{◌≡◌, ℕ, List, length, Option, Some, None, refl, sym}
use Rattle.std.specs.Prelude.{slice_get}
use Rattle.std.specs.List.{ItemBy}
use Rattle.std.specs.Option.{option_map}
use Rattle.std.proofs.lemmas.Option.{slice_get_past, slice_get_read}
use Rattle.world.proofs.peers.node_at.Goals as goal

-- what is lent is what stands in the place
lent : {R X : Type 0} (xs : List X) (i : ℕ) (r : Option R) (now : R → X) → ItemBy now xs i i r → option_map now r ≡ slice_get xs i
lent xs i None now h = sym (slice_get_past xs i h.3)
lent xs i (Some x) now h = sym (slice_get_read xs (length xs) i (now x) refl h.3.0 h.1)

pub returns : goal.returns
returns g c = lent c.args.nodes.now c.args.place c.get.result (λ x. x.now) c.get.ensures.lookup
