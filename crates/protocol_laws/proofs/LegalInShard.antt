-- In a shard, whoever committed before passes against a transaction that is decided to commit now for the first time.
use Rattle.std.proofs.Common.{◌≡◌, ℕ, ◌<◌, Bool, true, false, List, Some, sym, ◌∙◌, ap, subst, refl, arith, nat_lt, ltb-true, ltb-false}
use Rattle.tcs_terms.specs.declared.ids.TxId.{TxId}
use Rattle.tcs_terms.specs.declared.inputs.Note.{Note}
use Rattle.tcs_terms.specs.declared.inputs.Note.TheVariants.{Decide}
use Rattle.tcs_terms.specs.declared.logs.Mark.{Mark}
use Rattle.tcs_terms.specs.declared.logs.Mark.TheVariants.{Undecided, Committed, Aborted}
use Rattle.tcs_terms.specs.declared.votes.Decision.{Decision}
use Rattle.tcs_terms.specs.declared.votes.Decision.TheVariants.{Commit, Abort}
use Rattle.tcs_terms.specs.declared.votes.Vote.TheVariants as votes
use Rattle.tcs_terms.specs.Payloads.{Accesses, IsPayload}
use Rattle.tcs_terms.specs.Places.{Membership}
use Rattle.tcs_terms.specs.Preparations.{Preparation}
use Rattle.tcs_terms.specs.Setups.{Deployment}
use Rattle.tcs_laws.specs.Certification.{Tests}
use Rattle.tcs_laws.specs.Laws.{IsLawful}
use Rattle.tcs_laws.specs.Votes.{refuses, refuses_by, clashes}
use Rattle.protocol.specs.Invariant.Decisions.{IsAcceptedIn}
use Rattle.protocol.specs.Invariant.Entries.{Appended, MarkStands}
use Rattle.protocol.specs.Invariant.Logs.{Listed}
use Rattle.protocol.specs.Invariant.Time.{Moment, StandsIn, WasNoted}
use Rattle.protocol.specs.Log.{vote_on_part}
use Rattle.protocol_laws.proofs.AcceptedSays.{before-past}
use Rattle.protocol_laws.proofs.Agreement.{agreement}
use Rattle.protocol_laws.proofs.DecidesNow.{DecidesNow, earlier-noted, now-noted}
use Rattle.protocol_laws.proofs.Fronts.{IsFront, front-StandsIn}
use Rattle.protocol_laws.proofs.OneEntry.{AreInOneList, common_list}
use Rattle.protocol_laws.proofs.Standing.{IsMapped, map-StandsIn}
use Rattle.protocol_laws.proofs.VotesSay.{commit-passes}
use Rattle.tcs_terms.proofs.BoolLaws.{not_true}

-- an entry that stands in the rows to which another one was appended, whose vote was to commit: its mark then, with the
-- decision behind it, and what the vote said of it
record StoodBelow (tests : Tests) (earlier : List Note) (low : Preparation) (high : Accesses) : Type 0 where
  mark : Mark
  stands : MarkStands earlier low.txn mark
  passes : refuses_by tests mark low.vote low.payload high ≡ false

mark_stands-front : (history earlier : List Note) (txn : TxId) (mark : Mark) → IsFront history earlier → MarkStands history txn mark → MarkStands earlier txn mark
mark_stands-front history earlier txn Undecided f s = tt
mark_stands-front history earlier txn Committed f s = front-StandsIn history earlier (Decide txn Commit) f s
mark_stands-front history earlier txn Aborted f s = (s.0, s.1, front-StandsIn history earlier (Decide txn (Abort s.0 s.1)) f s.2)

stood_below : (tests : Tests) (setup : Deployment) (t : Moment) (earlier : List Note) (txn : TxId) (decision : Decision) (c : Membership) (low high : Preparation) (new : Accesses)
    → DecidesNow tests setup t earlier txn decision → Listed t c low → Listed t c high → low.slot < high.slot → high.payload ≡ Some new → high.vote ≡ votes.Commit → StoodBelow tests earlier low new
stood_below tests setup t earlier txn decision c low high new d l h below payload vote =
    let a : Appended tests t c high = d.holds.entries.appended c high h in
    let m : IsMapped (λ r. r.entry) a.node.rows low = map-StandsIn (λ r. r.entry) a.node.rows low (a.above low l below) in
    let front : IsFront a.before.history earlier = d.fronts a.before (before-past t.now a.after a.before t.before a.later a.earlier a.moments) in
    let voted : vote_on_part tests a.node.rows (Some new) ≡ votes.Commit = ap (λ p. vote_on_part tests a.node.rows p) (sym payload) ∙ sym a.vote ∙ vote in
    let passes : clashes tests m.from new ≡ false = commit-passes tests a.node.rows new m.from voted m.there in
    subst (λ x. StoodBelow tests earlier x new) (sym m.is)
    (record { mark = m.from.mark; stands = mark_stands-front a.before.history earlier m.from.entry.txn m.from.mark front (a.marks m.from m.there); passes = passes })

-- an entry that is accepted with the vote to commit, and its payload
pub record IsVotedToCommit (t : Moment) (txn : TxId) (shard : ℕ) (entry : Preparation) (payload : Accesses) : Type 0 where
  pub accepted : IsAcceptedIn t txn shard entry
  pub vote : entry.vote ≡ votes.Commit
  pub has : entry.payload ≡ Some payload

-- the earlier one stood below: it had passed, since its abort was not decided
below_passes : (tests : Tests) (setup : Deployment) (t : Moment) (earlier : List Note) (txn other : TxId) (decision : Decision) (x : Preparation) (old new : Accesses) → IsLawful tests → IsPayload old → IsPayload new
    → DecidesNow tests setup t earlier txn decision → StandsIn (Decide other Commit) earlier → x.txn ≡ other → x.vote ≡ votes.Commit → x.payload ≡ Some old → StoodBelow tests earlier x new
    → tests.committed_ok old new ≡ true
below_passes tests setup t earlier txn other decision x old new lawful p q d committed is vote has s =
    go s.mark s.stands (subst (λ v. refuses_by tests s.mark v (Some old) new ≡ false) vote (subst (λ p. refuses_by tests s.mark x.vote p new ≡ false) has s.passes))
  where
    go : (mark : Mark) → MarkStands earlier x.txn mark → refuses tests mark votes.Commit old new ≡ false → tests.committed_ok old new ≡ true
    go Undecided m k = lawful.prepared_commits old new p q (not_true (tests.prepared_ok old new) k)
    go Committed m k = not_true (tests.committed_ok old new) k
    go Aborted m k =
        let aborted : WasNoted t (Decide other (Abort m.0 m.1)) = earlier-noted tests setup t earlier txn decision (Decide other (Abort m.0 m.1)) d (subst (λ y. StandsIn (Decide y (Abort m.0 m.1)) earlier) is m.2) in
        let same : Commit ≡ Abort m.0 m.1 = agreement tests setup t other Commit (Abort m.0 m.1) d.holds (earlier-noted tests setup t earlier txn decision (Decide other Commit) d committed) aborted in
        absurd (cc same)

-- the one that is decided now stood below: it was undecided then, and passed the prepared test, which turns round
above_passes : (tests : Tests) (setup : Deployment) (t : Moment) (earlier : List Note) (txn : TxId) (x : Preparation) (old new : Accesses) → IsLawful tests → IsPayload old → IsPayload new
    → DecidesNow tests setup t earlier txn Commit → (StandsIn (Decide txn Commit) earlier → ⊥) → x.txn ≡ txn → x.vote ≡ votes.Commit → x.payload ≡ Some new → StoodBelow tests earlier x old
    → tests.committed_ok old new ≡ true
above_passes tests setup t earlier txn x old new lawful p q d first is vote has s =
    go s.mark s.stands (subst (λ v. refuses_by tests s.mark v (Some new) old ≡ false) vote (subst (λ p. refuses_by tests s.mark x.vote p old ≡ false) has s.passes))
  where
    go : (mark : Mark) → MarkStands earlier x.txn mark → refuses tests mark votes.Commit new old ≡ false → tests.committed_ok old new ≡ true
    go Undecided m k = lawful.prepared_commits_turned new old q p (not_true (tests.prepared_ok new old) k)
    go Committed m k = absurd (first (subst (λ y. StandsIn (Decide y Commit) earlier) is m))
    go Aborted m k =
        let aborted : WasNoted t (Decide txn (Abort m.0 m.1)) = earlier-noted tests setup t earlier txn Commit (Decide txn (Abort m.0 m.1)) d (subst (λ y. StandsIn (Decide y (Abort m.0 m.1)) earlier) is m.2) in
        let same : Commit ≡ Abort m.0 m.1 = agreement tests setup t txn Commit (Abort m.0 m.1) d.holds (now-noted tests setup t earlier txn Commit d) aborted in
        absurd (cc same)

pub legal_in_shard : (tests : Tests) (setup : Deployment) (t : Moment) (earlier : List Note) (txn other : TxId) (shard : ℕ) (x y : Preparation) (old new : Accesses) → IsLawful tests → IsPayload old → IsPayload new
    → DecidesNow tests setup t earlier txn Commit → (StandsIn (Decide txn Commit) earlier → ⊥) → StandsIn (Decide other Commit) earlier → IsVotedToCommit t other shard x old → IsVotedToCommit t txn shard y new
    → tests.committed_ok old new ≡ true
legal_in_shard tests setup t earlier txn other shard x y old new lawful is_old is_new d first committed a b =
    go (common_list tests setup t a.accepted.config b.accepted.config x y d.holds a.accepted.accepted b.accepted.accepted (a.accepted.of_shard ∙ sym b.accepted.of_shard))
  where
    go : AreInOneList t a.accepted.config.shard x y → tests.committed_ok old new ≡ true
    go l = cases (nat_lt x.slot y.slot) (nat_lt y.slot x.slot) refl refl
      where
        cases : (p q : Bool) → nat_lt x.slot y.slot ≡ p → nat_lt y.slot x.slot ≡ q → tests.committed_ok old new ≡ true
        cases true q e f = below_passes tests setup t earlier txn other Commit x old new lawful is_old is_new d committed a.accepted.of_txn a.vote a.has
            (stood_below tests setup t earlier txn Commit l.config x y new d l.first l.second (ltb-true x.slot y.slot e) b.has b.vote)
        cases false true e f = above_passes tests setup t earlier txn y old new lawful is_old is_new d first b.accepted.of_txn b.vote b.has
            (stood_below tests setup t earlier txn Commit l.config y x old d l.second l.first (ltb-true y.slot x.slot f) a.has a.vote)
        cases false false e f =
            let slots : x.slot ≡ y.slot = omega (arith, ltb-false x.slot y.slot e, ltb-false y.slot x.slot f) in
            let same : x ≡ y = d.holds.entries.slots l.config x y l.first l.second slots in
            let txns : other ≡ txn = sym a.accepted.of_txn ∙ ap (λ z. z.txn) same ∙ b.accepted.of_txn in
            absurd (first (subst (λ z. StandsIn (Decide z Commit) earlier) txns committed))
