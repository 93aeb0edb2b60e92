-- What a node reads of an object is what a committed row writes, and so what a committed transaction wrote.
use Rattle.std.proofs.Common.{◌≡◌, ℕ, Bool, true, false, cond, List, [], ◌∷◌, find, fold, length, Option, Some, None, nat_lt, ◌&&◌, ◌==◌, ◌⊎◌, inl, inr, sym, ◌∙◌, ap, ap₂, subst, refl}
use Rattle.std.specs.Cmp.Lexicographic.{same_text}
use Rattle.tcs_terms.specs.declared.ids.TxId.{TxId}
use Rattle.tcs_terms.specs.declared.inputs.Note.TheVariants as notes
use Rattle.tcs_terms.specs.declared.logs.Mark.{Mark}
use Rattle.tcs_terms.specs.declared.logs.Mark.TheVariants.{Undecided, Committed, Aborted}
use Rattle.tcs_terms.specs.declared.logs.Row.{Row}
use Rattle.tcs_terms.specs.declared.payloads.WritePart.{WritePart}
use Rattle.tcs_terms.specs.declared.votes.Decision.{Decision}
use Rattle.tcs_terms.specs.declared.votes.Decision.TheVariants as decisions
use Rattle.tcs_terms.specs.Payloads.{Accesses, same_name}
use Rattle.tcs_terms.specs.Setups.{Deployment}
use Rattle.tcs_terms.specs.Shards.{part_in, restricted, lies_in}
use Rattle.protocol.specs.Cases.{commits}
use Rattle.protocol.specs.Records.{NodeRecord}
use Rattle.protocol.specs.Versions.{Reading, nothing_read, newer_write, newer_row, read_of, value_or_empty}
use Rattle.protocol.specs.Invariant.Decisions.{IsBehind, DecisionsHold}
use Rattle.protocol.specs.Invariant.Readings.{IsWrittenBefore}
use Rattle.protocol.specs.Invariant.Time.{Moment, StandsIn, IsNode}
use Rattle.protocol.specs.Invariant.Transactions.{IsPart, EntryFits, TransactionsHold}
use Rattle.protocol.proofs.Lists.{find-StandsIn}
use Rattle.protocol_laws.proofs.Standing.{filter-StandsIn}

-- the reading that a committed row gives
pub record IsReadFrom (rows : List Row) (name : List ℕ) (reading : Reading) : Type 0 where
  pub row : Row
  pub among : StandsIn row rows
  pub committed : row.mark ≡ Committed
  pub part : Accesses
  pub has : row.entry.payload ≡ Some part
  pub write : WritePart
  pub writes : StandsIn write part.writes
  pub of_name : write.name ≡ name
  pub version : reading.version ≡ part.version
  pub value : reading.value ≡ Some write.value

-- nothing was read, or a committed row was
abbrev IsReading : List Row → List ℕ → Reading → Type 0
IsReading rows name reading = (reading ≡ nothing_read) ⊎ IsReadFrom rows name reading

-- one row more
row_read : (rows : List Row) (name : List ℕ) (best : Reading) (r : Row) → StandsIn r rows → IsReading rows name best → IsReading rows name (newer_row name best r.mark r.entry.payload)
row_read rows name best r s k = go r.mark r.entry.payload refl refl
  where
    write : (part : Accesses) → r.mark ≡ Committed → r.entry.payload ≡ Some part → (w : Option WritePart) → find (λ w. same_name w.name name) part.writes ≡ w → IsReading rows name (newer_write best part.version w)
    write part c p None e = k
    write part c p (Some w) e = newer (nat_lt best.version part.version)
      where
        newer : (b : Bool) → IsReading rows name (cond b (record { version = part.version; value = Some w.value }) best)
        newer true =
            let f : StandsIn w part.writes × (same_name w.name name ≡ true) = find-StandsIn (λ (x : WritePart). same_name x.name name) part.writes w e in
            inr (record { row = r; among = s; committed = c; part = part; has = p; write = w; writes = f.0; of_name = same_text w.name name (sym f.1); version = refl; value = refl })
        newer false = k

    go : (mark : Mark) (payload : Option Accesses) → r.mark ≡ mark → r.entry.payload ≡ payload → IsReading rows name (newer_row name best mark payload)
    go Undecided payload m p = k
    go Aborted payload m p = k
    go Committed None m p = k
    go Committed (Some part) m p = write part m p (find (λ w. same_name w.name name) part.writes) refl

rows_read : (all rows : List Row) (name : List ℕ) (best : Reading) → ((r : Row) → StandsIn r rows → StandsIn r all) → IsReading all name best → IsReading all name (fold (λ best r. newer_row name best r.mark r.entry.payload) best rows)
rows_read all [] name best f k = k
rows_read all (r ∷ rs) name best f k = rows_read all rs name (newer_row name best r.mark r.entry.payload) (λ x s. f x (inr s)) (row_read all name best r (f r (inl refl)) k)

pub is_reading : (rows : List Row) (name : List ℕ) → (read_of rows name ≡ nothing_read) ⊎ IsReadFrom rows name (read_of rows name)
unfolding read_of
is_reading rows name = rows_read rows rows name nothing_read (λ r s. s) (inl refl)

-- a part of a payload writes what the payload writes, at its version
record IsPartOfWhole (whole part : Accesses) : Type 0 where
  version : part.version ≡ whole.version
  writes : (w : WritePart) → StandsIn w part.writes → StandsIn w whole.writes

restricted_part : (n shard : ℕ) (whole part : Accesses) → Some part ≡ restricted n shard whole → IsPartOfWhole whole part
restricted_part n shard whole part e = go ((length (part_in n shard whole).reads == 0) && (length whole.ranges == 0)) e
  where
    go : (b : Bool) → Some part ≡ cond b None (Some (part_in n shard whole)) → IsPartOfWhole whole part
    go true q = absurd (cc q)
    go false q =
        let same : part ≡ part_in n shard whole = cc q in record {
          version = ap (λ (p : Accesses). p.version) same;
          writes = λ w s. (filter-StandsIn (λ (x : WritePart). lies_in n shard x.name) whole.writes w (subst (λ (p : Accesses). StandsIn w p.writes) same s)).0;
        }

is_part_of_whole : (t : Moment) (n shard : ℕ) (txn : TxId) (whole part : Accesses) → IsPart t n shard txn whole (Some part) → IsPartOfWhole whole part
is_part_of_whole t n shard txn whole part (inl e) = restricted_part n shard whole part e
is_part_of_whole t n shard txn whole part (inr p) = absurd (let e : Some part ≡ None = p.0 in cc e)

commits_is : (decision : Decision) → commits decision ≡ true → decision ≡ decisions.Commit
commits_is decisions.Commit e = refl
commits_is (decisions.Abort shard cause) e = absurd (cc e)

-- a reading from a committed row is of a transaction that was decided to commit
pub read_was_written : (setup : Deployment) (t : Moment) (node : NodeRecord) (name : List ℕ) (reading : Reading) → TransactionsHold setup t → DecisionsHold setup t → IsNode t node → IsReadFrom node.rows name reading
    → IsWrittenBefore t.now.history name reading.version (value_or_empty reading.value)
read_was_written setup t node name reading x d n i =
    let f : EntryFits setup.shards t node.shard i.row.entry = x.rows node i.row n i.among in
    let b : IsBehind t node.shard node.state i.row.entry.slot i.row.entry.txn true = d.rows node i.row n i.among true i.committed in
    let w : IsPartOfWhole f.payload i.part = is_part_of_whole t setup.shards node.shard i.row.entry.txn f.payload i.part (subst (λ o. IsPart t setup.shards node.shard i.row.entry.txn f.payload o) i.has f.part) in
    let value : i.write.value ≡ value_or_empty reading.value = ap value_or_empty (sym i.value) in
    let write : i.write ≡ record { name = name; value = value_or_empty reading.value } = ap₂ (λ a b. record { name = a; value = b }) i.of_name value in
    record {
      txn = i.row.entry.txn;
      payload = f.payload;
      decided = subst (λ y. StandsIn (notes.Decide i.row.entry.txn y) t.now.history) (commits_is b.decision b.sense) b.noted;
      begun = f.begun.first;
      at_version = sym w.version ∙ sym i.version;
      writes = subst (λ y. StandsIn y f.payload.writes) write (w.writes i.write i.writes);
    }
