-- There is no payload exactly where the vote is that the preparation was lost.
use Rattle.std.proofs.Common.{subst, sym}
use Rattle.tcs_terms.specs.Preparations.{KeepsPayload}
use Rattle.cert_log.proofs.Voting.{vote_keeps}
use Rattle.cert_log.proofs.log.CertLog.new_entry.Goals as goal

pub invariant_of-result : goal.invariant_of-result
invariant_of-result g c = subst (λ vote. KeepsPayload c.args.part vote) (sym c.in_ok-vote.ensures.vote) (vote_keeps _ _ c.args.part)
