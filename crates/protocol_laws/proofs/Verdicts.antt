-- What a decision says of the votes behind it.
use Rattle.std.proofs.Common.{◌≡◌, ℕ, true, List, find, Option, Some, None, is_some, ◌∙◌, ap, refl}
use Rattle.tcs_terms.specs.declared.ids.TxId.{TxId}
use Rattle.tcs_terms.specs.declared.votes.Cause.{Cause}
use Rattle.tcs_terms.specs.declared.votes.Cause.TheVariants as causes
use Rattle.tcs_terms.specs.declared.votes.Decision.TheVariants as decisions
use Rattle.tcs_terms.specs.declared.votes.Vote.{Vote}
use Rattle.tcs_terms.specs.declared.votes.Vote.TheVariants as votes
use Rattle.protocol.specs.Cases.{cause_by, cause_of, decision_at, decision_by, decision_of}
use Rattle.protocol.specs.Invariant.Time.{StandsIn}
use Rattle.protocol.specs.Records.{Part}
use Rattle.protocol.proofs.Lists.{find-StandsIn}
use Rattle.protocol_laws.proofs.Standing.{find-none, is-none}

-- a vote that is no cause is to commit
pub no_cause : (v : Vote) → cause_by v ≡ None → v ≡ votes.Commit
no_cause votes.Commit h = refl
no_cause (votes.Clash txn) h = absurd (cc h)
no_cause votes.Lost h = absurd (cc h)

pub clash_cause : (v : Vote) (txn : TxId) → cause_by v ≡ Some (causes.Clash txn) → v ≡ votes.Clash txn
clash_cause votes.Commit txn h = absurd (cc h)
clash_cause (votes.Clash other) txn h = cc h
clash_cause votes.Lost txn h = absurd (cc h)

pub lost_cause : (v : Vote) → cause_by v ≡ Some causes.Lost → v ≡ votes.Lost
lost_cause votes.Commit h = absurd (cc h)
lost_cause (votes.Clash txn) h = absurd (cc h)
lost_cause votes.Lost h = refl

-- where the decision is to commit, no part has a cause not to
pub commit-each : (parts : List Part) (p : Part) → decision_of parts ≡ decisions.Commit → StandsIn p parts → cause_of p.entry ≡ None
unfolding decision_of
commit-each parts p h s = go (find (λ q. is_some (cause_of q.entry)) parts) refl h
  where
    none : (q : Part) (o : Option Cause) → cause_of q.entry ≡ o → is_some o ≡ true → decision_at q.shard o ≡ decisions.Commit → cause_of p.entry ≡ None
    none q None e f d = absurd (cc f)
    none q (Some c) e f d = absurd (cc d)

    go : (o : Option Part) → find (λ q. is_some (cause_of q.entry)) parts ≡ o → decision_by o ≡ decisions.Commit → cause_of p.entry ≡ None
    go None e d = is-none (cause_of p.entry) (find-none (λ q. is_some (cause_of q.entry)) parts p e s)
    go (Some q) e d = none q (cause_of q.entry) refl (find-StandsIn (λ q. is_some (cause_of q.entry)) parts q e).1 d

-- where it is to abort, the named shard has a part with that cause
pub record IsAbortedBy (parts : List Part) (shard : ℕ) (cause : Cause) : Type 0 where
  pub part : Part
  pub there : StandsIn part parts
  pub of_shard : part.shard ≡ shard
  pub has : cause_of part.entry ≡ Some cause

pub abort-part : (parts : List Part) (shard : ℕ) (cause : Cause) → decision_of parts ≡ decisions.Abort shard cause → IsAbortedBy parts shard cause
unfolding decision_of
abort-part parts shard cause h = go (find (λ q. is_some (cause_of q.entry)) parts) refl h
  where
    some : (q : Part) (o : Option Cause) → StandsIn q parts → cause_of q.entry ≡ o → decision_at q.shard o ≡ decisions.Abort shard cause → IsAbortedBy parts shard cause
    some q None s e d = absurd (cc d)
    some q (Some c) s e d = record { part = q; there = s; of_shard = cc d; has = e ∙ ap (λ x. Some x) (cc d) }

    go : (o : Option Part) → find (λ q. is_some (cause_of q.entry)) parts ≡ o → decision_by o ≡ decisions.Abort shard cause → IsAbortedBy parts shard cause
    go None e d = absurd (cc d)
    go (Some q) e d = some q (cause_of q.entry) (find-StandsIn (λ q. is_some (cause_of q.entry)) parts q e).0 refl d
