-- Each step goes on from the one before.
use Rattle.conflict_index.proofs.lookups.lowest_in_way.Goals as goal

pub returns-clause-lowest : goal.returns-clause-lowest
returns-clause-lowest g c = cc
