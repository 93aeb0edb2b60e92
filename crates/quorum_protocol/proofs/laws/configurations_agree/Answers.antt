use Rattle.quorum_protocol.specs.World.{run, history}
use Rattle.quorum_protocol.proofs.Invariant.{Invariant}
use Rattle.quorum_protocol.proofs.Carried.{chosen_agree}
use Rattle.quorum_protocol.proofs.Events.{run_has}
use Rattle.quorum_protocol.proofs.laws.configurations_agree.Goals as goal

pub returns : goal.returns
returns c n es a b s t shard epoch =
    let i : Invariant (run n es) es (history n es) = run_has n es in
    chosen_agree (run n es) es (history n es) i a.config b.config (i.chosen a s) (i.chosen b t) shard epoch
