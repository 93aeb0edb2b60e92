-- An empty map keeps nothing.
use Rattle.std.proofs.Common.{sym, ap, ◌∙◌}
use Rattle.std.specs.Map.{lookup}
use Rattle.version_store.proofs.BestWrites.{best_of_none}
use Rattle.version_store.proofs.store.VersionStore.new.Goals as goal

pub returns : goal.returns
returns c = record { keeps = λ name. ap (lookup _) c.new.ensures.empty ∙ sym (best_of_none name) }
