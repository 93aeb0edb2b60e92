-- Each note of a run may stand in its trace.
use Rattle.std.proofs.Common.{◌≡◌, ℕ, ◌+◌, ◌<◌, ◌≤◌, ◌^◌, ◌&&◌, ◌==◌, Bool, true, false, cond, nat_le, List, [], ◌∷◌, ◌++◌, find, filter, map, length, Option, Some, None, is_some, inl, inr, sym, ap, subst, refl, arith}
use Rattle.std.specs.Prelude.{All}
use Rattle.std.specs.List.{list_any, range_with_len}
use Rattle.std.proofs.lemmas.Bool.Decides.{nat_tests}
use Rattle.std.proofs.lemmas.List.Elements.{All-nil}
use Rattle.tcs_terms.specs.declared.ids.TxId.{TxId}
use Rattle.tcs_terms.specs.declared.inputs.Note.{Note}
use Rattle.tcs_terms.specs.declared.inputs.Note.TheVariants as notes
use Rattle.tcs_terms.specs.declared.votes.Cause.{Cause}
use Rattle.tcs_terms.specs.declared.votes.Cause.TheVariants as causes
use Rattle.tcs_terms.specs.declared.votes.Decision.{Decision}
use Rattle.tcs_terms.specs.declared.votes.Decision.TheVariants as decisions
use Rattle.tcs_terms.specs.Messages.{IsCause as CauseInRange, IsDecision as DecisionInRange}
use Rattle.tcs_terms.specs.Objects.{IsValue}
use Rattle.tcs_terms.specs.Payloads.{Accesses, IsWritePart, IsPayload}
use Rattle.tcs_terms.specs.Setups.{Deployment}
use Rattle.tcs_terms.specs.Shards.{lies_in, shards_of}
use Rattle.trace_text.specs.Lines.{IsCause, IsDecision, IsNote}
use Rattle.tcs_laws.specs.Certification.{Tests}
use Rattle.protocol.specs.Cases.{cause_of, decision_at, decision_by, decision_of}
use Rattle.protocol.specs.Records.{Part}
use Rattle.protocol.specs.Invariant.{InvariantHolds}
use Rattle.protocol.specs.Invariant.Decisions.{IsDecidedBy}
use Rattle.protocol.specs.Invariant.Readings.{IsWrittenBefore}
use Rattle.protocol.specs.Invariant.Time.{Moment, StandsIn, WasNoted}
use Rattle.protocol.proofs.Lists.{find-StandsIn}
use Rattle.protocol_laws.specs.Ranges.{IsNoteInRange}
use Rattle.protocol_laws.proofs.AllOf.{all-at}
use Rattle.protocol_laws.proofs.HistoryKept.{payload-begun}
use Rattle.protocol_laws.proofs.Standing.{StandsIn-left, StandsIn-map, filter-StandsIn, range-StandsIn}
use Rattle.trace_laws.proofs.Asked.{IsFitting, AllFit}

-- ---- readings

-- what stands before an element, and after it
record Parted {X : Type 0} (xs : List X) (x : X) : Type 0 where
  before : List X
  after : List X
  is : xs ≡ before ++ (x ∷ after)

parted : {X : Type 0} (xs : List X) (x : X) → StandsIn x xs → Parted xs x
parted [] x s = absurd s
parted (y ∷ ys) x (inl e) = record { before = []; after = ys; is = ap (λ z. z ∷ ys) (sym e) }
parted (y ∷ ys) x (inr s) = let p : Parted ys x = parted ys x s in record { before = y ∷ p.before; after = p.after; is = ap (λ zs. y ∷ zs) p.is }

-- a version and a value that a trace may tell
record IsReading (seen : ℕ) (value : List ℕ) : Type 0 where
  version : seen < 2 ^ 64
  value_is : IsValue value

written-reading : (h earlier : List Note) (name : List ℕ) (seen : ℕ) (value : List ℕ) → ((n : Note) → StandsIn n earlier → StandsIn n h) → All IsNoteInRange h → IsWrittenBefore earlier name seen value → IsReading seen value
written-reading h earlier name seen value in_history k w =
    let b : (other : TxId) × StandsIn (notes.Begin other w.payload) earlier = payload-begun earlier w.txn w.payload w.begun in
    let is : IsPayload w.payload = (all-at IsNoteInRange h k (notes.Begin b.0 w.payload) (in_history (notes.Begin b.0 w.payload) b.1)).1 in
    let part : IsWritePart (record { name = name; value = value }) = all-at IsWritePart w.payload.writes is.write_parts (record { name = name; value = value }) w.writes in
    record { version = subst (λ v. v < 2 ^ 64) w.at_version is.version_fits; value_is = part.value }

nothing-read : (seen : ℕ) (value : List ℕ) → seen ≡ 0 → value ≡ [] → IsReading seen value
nothing-read seen value e f = record { version = omega (arith, e); value_is = subst IsValue (sym f) (record { short = omega arith; are_bytes = All-nil _ }) }

reading-shown : (tests : Tests) (setup : Deployment) (t : Moment) (name : List ℕ) (seen : ℕ) (value : List ℕ) → InvariantHolds tests setup t → All IsNoteInRange t.now.history → WasNoted t (notes.ReadValue name seen value) → IsReading seen value
reading-shown tests setup t name seen value holds k s = go (parted t.now.history (notes.ReadValue name seen value) s)
  where
    go : Parted t.now.history (notes.ReadValue name seen value) → IsReading seen value
    go p = elim (holds.readings.each p.before p.after name seen value p.is) [
      | inl e ↦ nothing-read seen value e.0 e.1
      | inr w ↦ written-reading t.now.history p.before name seen value (λ n there. subst (λ ns. StandsIn n ns) (sym p.is) (StandsIn-left p.before (notes.ReadValue name seen value ∷ p.after) n there)) k w
    ]

-- ---- decisions

-- an abort names the shard of a part
abort-part : (parts : List Part) (shard : ℕ) (cause : Cause) → decisions.Abort shard cause ≡ decision_of parts → StandsIn shard (map (λ p. p.shard) parts)
unfolding decision_of
abort-part parts shard cause e = go (find (λ p. is_some (cause_of p.entry)) parts) refl e
  where
    at : (p : Part) (o : Option Cause) → StandsIn p parts → decisions.Abort shard cause ≡ decision_at p.shard o → StandsIn shard (map (λ p. p.shard) parts)
    at p None s q = absurd (cc q)
    at p (Some c) s q = let same : p.shard ≡ shard = cc q in subst (λ n. StandsIn n (map (λ p. p.shard) parts)) same (StandsIn-map (λ (p : Part). p.shard) parts p s)

    go : (o : Option Part) → find (λ p. is_some (cause_of p.entry)) parts ≡ o → decisions.Abort shard cause ≡ decision_by o → StandsIn shard (map (λ p. p.shard) parts)
    go None f q = absurd (cc q)
    go (Some p) f q = at p (cause_of p.entry) (find-StandsIn (λ p. is_some (cause_of p.entry)) parts p f).0 q

-- a transaction's shards are those of the setup
shard-there : (n : ℕ) (p : Accesses) (shard : ℕ) → StandsIn shard (shards_of n p) → (nat_le 1 shard && nat_le shard n) ≡ true
shard-there n p shard s = go (length p.ranges == 0) s
  where
    all : StandsIn shard (range_with_len 1 n) → (nat_le 1 shard && nat_le shard n) ≡ true
    all k = let r = range-StandsIn 1 n shard k in within r.0 r.1
      where
        within : 1 ≤ shard → shard < 1 + n → (nat_le 1 shard && nat_le shard n) ≡ true
        within low high = grind (arith, nat_tests)

    go : (b : Bool) → StandsIn shard (cond b (filter (λ s. list_any (λ r. lies_in n s r.name) p.reads) (range_with_len 1 n)) (range_with_len 1 n)) → (nat_le 1 shard && nat_le shard n) ≡ true
    go true k = all (filter-StandsIn (λ s. list_any (λ r. lies_in n s r.name) p.reads) (range_with_len 1 n) shard k).0
    go false k = all k

cause-shown : (c : Cause) → CauseInRange c → IsCause c
cause-shown (causes.Clash txn) k = k
cause-shown causes.Lost k = tt

decision-shown : (n : ℕ) (t : Moment) (txn : TxId) (d : Decision) → IsDecidedBy n t txn d → DecisionInRange d → IsDecision n d
decision-shown n t txn decisions.Commit by k = tt
decision-shown n t txn (decisions.Abort shard cause) by k =
    (shard-there n by.payload shard (subst (λ ss. StandsIn shard ss) by.shards (abort-part by.parts shard cause by.gives)), cause-shown cause k.1)

-- ---- notes

pub note-shown : (tests : Tests) (setup : Deployment) (t : Moment) → InvariantHolds tests setup t → All IsNoteInRange t.now.history → AllFit setup.version t → (n : Note) → WasNoted t n → IsNote setup.version setup.shards n
note-shown tests setup t holds k fit n s = go n s (all-at IsNoteInRange t.now.history k n s) (fit n s)
  where
    go : (n : Note) → WasNoted t n → IsNoteInRange n → IsFitting setup.version n → IsNote setup.version setup.shards n
    go (notes.Begin txn payload) s r f = (r.0, r.1, f)
    go (notes.Take txn) s r f = r
    go (notes.ReadValue name seen value) s r f = let k : IsReading seen value = reading-shown tests setup t name seen value holds k s in (f, k.version, k.value_is)
    go (notes.Decide txn decision) s r f = (r.0, decision-shown setup.shards t txn decision (holds.decisions.decided txn decision s) r.1)
