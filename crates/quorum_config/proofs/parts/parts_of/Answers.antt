use Rattle.std.proofs.Common.{ℕ, List, Some, ◌∙◌, ap}
use Rattle.quorum_config.proofs.NumberLists.{one_part}
use Rattle.quorum_config.proofs.parts.parts_of.Goals as goal

pub returns-in-None : goal.returns-in-None
returns-in-None c = ap (λ (ns : List ℕ). Some (c.args.line.now, ns)) c.clear.ensures.items ∙ one_part c.args.line.now c.in-None.ensures.words
