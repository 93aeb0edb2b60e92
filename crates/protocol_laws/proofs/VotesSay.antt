-- What a vote says of the rows before it.
use Rattle.std.proofs.Common.{◌≡◌, Bool, true, false, not, List, find, Option, Some, None, ap, refl}
use Rattle.tcs_terms.specs.declared.ids.TxId.{TxId}
use Rattle.tcs_terms.specs.declared.logs.Mark.{Mark}
use Rattle.tcs_terms.specs.declared.logs.Mark.TheVariants.{Undecided, Committed, Aborted}
use Rattle.tcs_terms.specs.declared.logs.Row.{Row}
use Rattle.tcs_terms.specs.declared.votes.Vote.{Vote}
use Rattle.tcs_terms.specs.declared.votes.Vote.TheVariants as votes
use Rattle.tcs_terms.specs.Payloads.{Accesses, IsPayload}
use Rattle.tcs_laws.specs.Certification.{Tests}
use Rattle.tcs_laws.specs.Laws.{IsLawful}
use Rattle.tcs_laws.specs.Votes.{refuses, clashes, vote_by, vote_on}
use Rattle.protocol.specs.Invariant.Time.{StandsIn}
use Rattle.protocol.specs.Log.{vote_on_part}
use Rattle.protocol.proofs.Lists.{find-StandsIn}
use Rattle.protocol_laws.proofs.Standing.{find-none}

-- where the vote is to commit, no row clashes
pub commit-passes : (tests : Tests) (rows : List Row) (new : Accesses) (r : Row) → vote_on_part tests rows (Some new) ≡ votes.Commit → StandsIn r rows → clashes tests r new ≡ false
unfolding vote_on
commit-passes tests rows new r h s = go (find (λ row. clashes tests row new) rows) refl h
  where
    go : (o : Option Row) → find (λ row. clashes tests row new) rows ≡ o → vote_by o ≡ votes.Commit → clashes tests r new ≡ false
    go None e v = find-none (λ row. clashes tests row new) rows r e s
    go (Some q) e v = absurd (cc v)

-- a row that clashes, of that transaction
pub record ClashesWith (tests : Tests) (rows : List Row) (new : Accesses) (txn : TxId) : Type 0 where
  pub row : Row
  pub there : StandsIn row rows
  pub clashes : clashes tests row new ≡ true
  pub of_txn : row.entry.txn ≡ txn

-- where the vote is a clash, a row of that transaction clashes
pub clash-row : (tests : Tests) (rows : List Row) (new : Accesses) (txn : TxId) → vote_on_part tests rows (Some new) ≡ votes.Clash txn → ClashesWith tests rows new txn
unfolding vote_on
clash-row tests rows new txn h = go (find (λ row. clashes tests row new) rows) refl h
  where
    go : (o : Option Row) → find (λ row. clashes tests row new) rows ≡ o → vote_by o ≡ votes.Clash txn → ClashesWith tests rows new txn
    go None e v = absurd (cc v)
    go (Some q) e v = let f : StandsIn q rows × (clashes tests q new ≡ true) = find-StandsIn (λ row. clashes tests row new) rows q e in record { row = q; there = f.0; clashes = f.1; of_txn = cc v }

-- an older payload that refuses a newer one fails the prepared test against it, whatever the mark
pub refused-unprepared : (tests : Tests) (mark : Mark) (vote : Vote) (old new : Accesses) → IsLawful tests → IsPayload old → IsPayload new → refuses tests mark vote old new ≡ true → tests.prepared_ok old new ≡ false
refused-unprepared tests Committed v old new l p q h = go (tests.prepared_ok old new) refl
  where
    go : (b : Bool) → tests.prepared_ok old new ≡ b → b ≡ false
    go false e = refl
    go true e = absurd (let k : tests.committed_ok old new ≡ true = l.prepared_commits old new p q e in cc (h, ap not k))
refused-unprepared tests Undecided votes.Commit old new l p q h = go (tests.prepared_ok old new) h
  where
    go : (b : Bool) → not b ≡ true → b ≡ false
    go false e = refl
    go true e = absurd (cc e)
refused-unprepared tests Undecided (votes.Clash txn) old new l p q h = absurd (cc h)
refused-unprepared tests Undecided votes.Lost old new l p q h = absurd (cc h)
refused-unprepared tests Aborted v old new l p q h = absurd (cc h)
