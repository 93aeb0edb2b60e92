-- The vote of a shard's leader on a payload, over the rows of its log.
use Rattle.std.specs.Prelude.{Bool, false, not, Option, Some, None, List, find}
use Rattle.tcs_terms.specs.declared.logs.Row.{Row}
use Rattle.tcs_terms.specs.declared.logs.Mark.{Mark}
use Rattle.tcs_terms.specs.declared.logs.Mark.TheVariants.{Undecided, Committed, Aborted}
use Rattle.tcs_terms.specs.declared.votes.Vote.{Vote}
use Rattle.tcs_terms.specs.declared.votes.Vote.TheVariants.{Commit, Clash, Lost}
use Rattle.tcs_terms.specs.Payloads.{Accesses}
use Rattle.tcs_laws.specs.Certification.{Tests}

-- Whether an older payload stands in the way of a newer one. A committed one does where the committed test fails, an
-- undecided one that may still commit where the prepared test fails, and no other does.
abbrev pub refuses : Tests → Mark → Vote → Accesses → Accesses → Bool
refuses tests Committed vote old new = not (tests.committed_ok old new)
refuses tests Undecided Commit old new = not (tests.prepared_ok old new)
refuses tests Undecided (Clash txn) old new = false
refuses tests Undecided Lost old new = false
refuses tests Aborted vote old new = false

-- the same, where there may be no older payload
abbrev pub refuses_by : Tests → Mark → Vote → Option Accesses → Accesses → Bool
refuses_by tests mark vote None new = false
refuses_by tests mark vote (Some old) new = refuses tests mark vote old new

-- whether a row of a log clashes with a payload: a row without payload clashes with nothing
abbrev pub clashes : Tests → Row → Accesses → Bool
clashes tests row new = refuses_by tests row.mark row.entry.vote row.entry.payload new

-- the vote, given the row of lowest slot that clashes
abbrev pub vote_by : Option Row → Vote
vote_by None = Commit
vote_by (Some row) = Clash row.entry.txn

-- The vote on a payload over rows whose slots ascend: it names the transaction of the first row that clashes.
unfoldable pub vote_on : Tests → List Row → Accesses → Vote
vote_on tests rows new = vote_by (find (λ row. clashes tests row new) rows)
