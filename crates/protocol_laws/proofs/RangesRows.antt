-- The rows of a node's log stay such as may be sent, and so do those that it gathers.
use Rattle.std.proofs.Common.{◌≡◌, ℕ, Bool, true, false, cond, ◌&&◌, nat_le, IsTrue, List, [], ◌∷◌, ◌++◌, find, Option, Some, None, inl, inr, sym, subst, refl}
use Rattle.std.specs.Prelude.{All, IfSome}
use Rattle.tcs_terms.specs.declared.ids.TxId.{TxId}
use Rattle.tcs_terms.specs.declared.limits.TheConstants.{MAX_PIECES}
use Rattle.tcs_terms.specs.declared.logs.Row.{Row}
use Rattle.tcs_terms.specs.Logs.{AreRows}
use Rattle.tcs_terms.specs.Messages.{is_txn, is_slot, IsVote, IsEntry, AreSentRows}
use Rattle.tcs_terms.specs.Payloads.{Accesses, IsPayload}
use Rattle.tcs_terms.specs.Places.{Membership, IsMembership, IsShardSet}
use Rattle.tcs_terms.specs.Preparations.{Preparation}
use Rattle.tcs_laws.specs.Certification.{Tests}
use Rattle.tcs_laws.specs.Votes.{clashes, vote_by, vote_on}
use Rattle.protocol.specs.Log.{row_of, is_full, new_entry, undecided, vote_on_part, is_taken, accepted, marked, mark_of}
use Rattle.protocol.specs.Pieces.{rows_of, is_kept, with_piece, with_one_more, begun, is_gathering_of, gathering_for, gathered_from, takes_piece}
use Rattle.protocol.specs.Records.{Piece, Gathering}
use Rattle.protocol.specs.Invariant.Time.{StandsIn}
use Rattle.protocol.proofs.Lists.{StandsIn-append, all-StandsIn, find-StandsIn}
use Rattle.protocol_laws.specs.Ranges.{IsGatheringInRange}
use Rattle.protocol_laws.proofs.AllOf.{all-at, all-of, some-at, some-of}
use Rattle.protocol_laws.proofs.EntriesKept.{entries_of-marked}
use Rattle.protocol_laws.proofs.LogRows.{accepted_came}
use Rattle.protocol_laws.proofs.PromisesNode.{gathered_from-is}
use Rattle.protocol_laws.proofs.PromisesOrder.{slot_fits}
use Rattle.protocol_laws.proofs.PromisesPieces.{gathered-rows}
use Rattle.protocol_laws.proofs.PromisesRows.{appended-rows, accepted-rows, same_entries-rows}
use Rattle.protocol_laws.proofs.Standing.{StandsIn-left, StandsIn-right, IsPiece, flat_map-StandsIn}
use Rattle.protocol_laws.proofs.TransactionsRows.{marked_came, PieceCame, piece_came}
use Rattle.protocol_laws.proofs.TransactionsRows.PieceCame.{IsNewPiece, IsOldPiece}
use Rattle.protocol_laws.proofs.TransactionsRowsKept.{keeps_payload}

abbrev pub HasEntry : Row → Type 0
HasEntry r = IsEntry r.entry

-- a vote names the transaction of a row, whatever the tests
vote-in_range : (tests : Tests) (rows : List Row) (part : Option Accesses) → All HasEntry rows → IsVote (vote_on_part tests rows part)
unfolding vote_on
vote-in_range tests rows None k = tt
vote-in_range tests rows (Some p) k = go (find (λ row. clashes tests row p) rows) refl
  where
    go : (o : Option Row) → find (λ row. clashes tests row p) rows ≡ o → IsVote (vote_by o)
    go None e = tt
    go (Some row) e = (all-at HasEntry rows k row (find-StandsIn (λ row. clashes tests row p) rows row e).0).txn

-- ---- a leader's entry

slot-of_row : (rows : List Row) (entry : Preparation) → AreRows (rows ++ undecided entry ∷ []) → IsTrue (is_slot entry.slot)
slot-of_row rows entry a = all-StandsIn (λ r. slot_fits r.entry) (rows ++ undecided entry ∷ []) (undecided entry) a.slots (StandsIn-right rows (undecided entry ∷ []) (undecided entry) (inl refl))

pub appended-in_range : (tests : Tests) (rows : List Row) (txn : TxId) (shards : List ℕ) (part : Option Accesses) (entry : Preparation) → entry ≡ new_entry tests rows txn shards part → row_of rows txn ≡ None → is_full rows ≡ false
    → IsTrue (is_txn txn) → IsShardSet shards → IfSome part IsPayload → AreSentRows rows → AreSentRows (rows ++ undecided entry ∷ []) × IsEntry entry
appended-in_range tests rows txn shards part made e none room t s p k = subst (λ (x : Preparation). AreSentRows (rows ++ undecided x ∷ []) × IsEntry x) (sym e) (
    let entry : Preparation = new_entry tests rows txn shards part in
    let are : AreRows (rows ++ undecided entry ∷ []) = appended-rows rows entry k.in_order none room refl in
    let is : IsEntry entry = record { slot = slot-of_row rows entry are; txn = t; shards = s; payload = p; vote = vote-in_range tests rows part k.entries; keeps = keeps_payload tests rows part } in (
      record {
        in_order = are;
        entries = all-of HasEntry (rows ++ undecided entry ∷ []) (λ r m. (elim (StandsIn-append rows (undecided entry ∷ []) r m) [
          | inl old ↦ all-at HasEntry rows k.entries r old
          | inr (inl e) ↦ subst HasEntry (sym e) is
          | inr (inr e) ↦ absurd e
        ]));
      },
      is,
    ))

-- an entry that a follower accepts
pub accepted-in_range : (rows : List Row) (entry : Preparation) → is_taken rows entry ≡ false → IsEntry entry → AreSentRows rows → AreSentRows (accepted rows entry)
accepted-in_range rows entry free is k = record {
  in_order = accepted-rows rows entry k.in_order free is.slot;
  entries = all-of HasEntry (accepted rows entry) (λ r m. (elim (accepted_came rows entry r m) [ inl old ↦ all-at HasEntry rows k.entries r old | inr e ↦ subst HasEntry (sym e) is ]));
}

-- a row that is marked
pub marked-in_range : (rows : List Row) (slot : ℕ) (commit : Bool) → AreSentRows rows → AreSentRows (marked rows slot (mark_of commit))
marked-in_range rows slot commit k = record {
  in_order = same_entries-rows rows _ (sym (entries_of-marked rows slot (mark_of commit))) k.in_order;
  entries = all-of HasEntry (marked rows slot (mark_of commit)) (λ r m. (elim (marked_came rows slot commit r m) [
    | inl old ↦ all-at HasEntry rows k.entries r old
    | inr i ↦ subst HasEntry (sym i.is) (all-at HasEntry rows k.entries i.old i.among)
  ]));
}

-- ---- pieces

piece-row : (kept : List Piece) (p : Piece) (r : Row) → StandsIn p kept → StandsIn r p.rows → StandsIn r (rows_of kept)
piece-row [] p r s m = absurd s
piece-row (q ∷ qs) p r (inl e) m = StandsIn-left q.rows (rows_of qs) r (subst (λ (x : Piece). StandsIn r x.rows) e m)
piece-row (q ∷ qs) p r (inr s) m = StandsIn-right q.rows (rows_of qs) r (piece-row qs p r s m)

pub gathered-sent : (g : Option Gathering) (config : Membership) (pieces : ℕ) (piece : Piece) → takes_piece g config pieces piece ≡ true → AreSentRows piece.rows → IfSome g IsGatheringInRange
    → AreSentRows (rows_of (with_one_more (gathering_for g config pieces) piece).kept)
gathered-sent g config pieces piece takes new k = record {
  in_order = gathered-rows g config pieces piece takes new.in_order (λ old e. (some-at IsGatheringInRange g old k e).rows.in_order);
  entries = all-of HasEntry (rows_of more.kept) each;
}
  where
    more : Gathering
    more = with_one_more (gathering_for g config pieces) piece

    at : (p : Piece) (r : Row) → StandsIn r p.rows → PieceCame g config piece p → HasEntry r
    at p r m (IsNewPiece e) = all-at HasEntry piece.rows new.entries r (subst (λ (x : Piece). StandsIn r x.rows) e m)
    at p r m (IsOldPiece old e s shard epoch) = all-at HasEntry (rows_of old.kept) (some-at IsGatheringInRange g old k e).rows.entries r (piece-row old.kept p r s m)

    each : (r : Row) → StandsIn r (rows_of more.kept) → HasEntry r
    each r s = let i : IsPiece (λ (p : Piece). p.rows) more.kept r = flat_map-StandsIn (λ (p : Piece). p.rows) more.kept r s in at i.source r i.within (piece_came g config pieces piece i.source i.among)

-- of what configuration something is gathered, and in how many pieces
record IsAbout (g : Gathering) : Type 0 where
  config : IsMembership g.config
  pieces : IsTrue (nat_le 1 g.pieces && nat_le g.pieces MAX_PIECES)

about-more : (g : Gathering) (piece : Piece) → IsAbout g → IsAbout (with_one_more g piece)
about-more g piece k = go (is_kept g.kept piece.number)
  where
    go : (b : Bool) → IsAbout (cond b g (record { config = g.config; pieces = g.pieces; kept = with_piece g.kept piece }))
    go true = k
    go false = record { config = k.config; pieces = k.pieces }

about-begun : (g : Option Gathering) (config : Membership) (pieces : ℕ) → IsMembership config → IsTrue (nat_le 1 pieces && nat_le pieces MAX_PIECES) → IfSome g IsGatheringInRange → IsAbout (gathering_for g config pieces)
about-begun None config pieces c p k = record { config = c; pieces = p }
about-begun (Some g) config pieces c p k = go (is_gathering_of g config)
  where
    go : (b : Bool) → IsAbout (cond b g (begun config pieces))
    go true = record { config = k.config; pieces = k.pieces }
    go false = record { config = c; pieces = p }

pub gathered-in_range : (g : Option Gathering) (config : Membership) (pieces : ℕ) (piece : Piece) → takes_piece g config pieces piece ≡ true → IsMembership config → IsTrue (nat_le 1 pieces && nat_le pieces MAX_PIECES)
    → AreSentRows piece.rows → IfSome g IsGatheringInRange → IsGatheringInRange (with_one_more (gathering_for g config pieces) piece)
gathered-in_range g config pieces piece takes c p new k =
    let about : IsAbout (with_one_more (gathering_for g config pieces) piece) = about-more (gathering_for g config pieces) piece (about-begun g config pieces c p k) in
    record { config = about.config; pieces = about.pieces; rows = gathered-sent g config pieces piece takes new k }

-- what stays gathered once an epoch is promised
pub gathered_from-in_range : (epoch : ℕ) (g : Option Gathering) → IfSome g IsGatheringInRange → IfSome (gathered_from epoch g) IsGatheringInRange
gathered_from-in_range epoch g k = some-of IsGatheringInRange (gathered_from epoch g) (λ kept e. some-at IsGatheringInRange g kept k (gathered_from-is epoch g kept e))
