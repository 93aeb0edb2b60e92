-- It does not matter in which order the transactions before a row are kept.
use Rattle.std.proofs.Common.{◌≡◌, ℕ, zero, suc, Bool, not, ◌||◌, ltb, ◌+◌, ◌-◌, ◌<◌, List, [], ◌∷◌, ◌++◌, Ok, Err, refl, sym, ap, ◌∙◌}
use Rattle.std.specs.List.{list_any}
use Rattle.tcs_terms.specs.declared.ids.TxId.{TxId}
use Rattle.tcs_terms.specs.declared.logs.Row.{Row}
use Rattle.tcs_terms.specs.Logs.{same_txn, SameTxns}
use Rattle.wire_frame.specs.declared.faults.FrameReason.TheVariants.{Order}
use Rattle.wire_frame.specs.Reading.{Reads, ◌>>=◌, tested, each_at}
use Rattle.wire_frame.specs.Parts.{slot_at, txn_at, shards_at, vote_at, mark_at, row_at, with_row}
use Rattle.wire_frame.proofs.Loop.{with_front, goes_on}

-- with a row before the others
abbrev with_first : Row → Reads (List Row) → Reads (List Row)
with_first r read = read >>= λ others. Ok (r ∷ others.0, others.1)

-- reading a row, by the test of its transaction
row_by : ℕ → (TxId → Bool) → List ℕ → Reads Row
row_by last test bytes = do
  slot ← tested Order (ltb last) slot_at bytes
  txn ← tested Order test txn_at slot.1
  shards ← shards_at txn.1
  vote ← vote_at shards.1
  mark ← mark_at vote.1
  Ok (record { entry = record { slot = slot.0; txn = txn.0; shards = shards.0; payload = vote.0.0; vote = vote.0.1 }; mark = mark.0 }, mark.1)

row_is : (last : ℕ) (txns : List TxId) (bytes : List ℕ) → row_at (last, txns) bytes ≡ row_by last (λ t. not (list_any (same_txn t) txns)) bytes
unfolding row_at row_by
row_is last txns bytes = refl

row_same : (last : ℕ) (a b : List TxId) (bytes : List ℕ) → SameTxns a b → row_at (last, a) bytes ≡ row_at (last, b) bytes
row_same last a b bytes same =
    let tests : (λ (t : TxId). not (list_any (same_txn t) a)) ≡ (λ (t : TxId). not (list_any (same_txn t) b)) = λ i t. not (same t i) in
    row_is last a bytes ∙ ap (λ (test : TxId → Bool). row_by last test bytes) tests ∙ sym (row_is last b bytes)

with_same : (r : Row) (a b : List TxId) → SameTxns a b → SameTxns (r.entry.txn ∷ a) (r.entry.txn ∷ b)
with_same r a b same t = ap (λ (x : Bool). same_txn t r.entry.txn || x) (same t)

-- what is read first does not change by what is kept of it
chosen_same : (n last : ℕ) (a b : List TxId) → ((r : Row) (bytes : List ℕ) → each_at row_at with_row n (with_row (last, a) r) bytes ≡ each_at row_at with_row n (with_row (last, b) r) bytes)
    → (read : Reads Row) → (read >>= λ first. with_first first.0 (each_at row_at with_row n (with_row (last, a) first.0) first.1)) ≡ (read >>= λ first. with_first first.0 (each_at row_at with_row n (with_row (last, b) first.0) first.1))
chosen_same n last a b same (Ok x) = ap (with_first x.0) (same x.0 x.1)
chosen_same n last a b same (Err f) = refl

pub each_same : (n last : ℕ) (a b : List TxId) (bytes : List ℕ) → SameTxns a b → each_at row_at with_row n (last, a) bytes ≡ each_at row_at with_row n (last, b) bytes
unfolding each_at
each_same zero last a b bytes same = refl
each_same (suc n) last a b bytes same =
    ap (λ (r : Reads Row). r >>= λ first. with_first first.0 (each_at row_at with_row n (with_row (last, a) first.0) first.1)) (row_same last a b bytes same)
    ∙ chosen_same n last a b (λ r after. each_same n r.entry.slot (r.entry.txn ∷ a) (r.entry.txn ∷ b) after (with_same r a b same)) (row_at (last, b) bytes)

-- a row was read, and reading goes on
pub row_goes_on : (front : List Row) (count i last : ℕ) (keys after_keys : List TxId) (bytes : List ℕ) (r : Row) (after : List ℕ) (total : Reads (List Row)) → i < count → row_at (last, keys) bytes ≡ Ok (r, after)
    → SameTxns after_keys (r.entry.txn ∷ keys) → with_front front (each_at row_at with_row (count - i) (last, keys) bytes) ≡ total
    → with_front (front ++ r ∷ []) (each_at row_at with_row (count - (i + 1)) (r.entry.slot, after_keys) after) ≡ total
row_goes_on front count i last keys after_keys bytes r after total lt h same so_far =
    ap (with_front (front ++ r ∷ [])) (each_same (count - (i + 1)) r.entry.slot after_keys (r.entry.txn ∷ keys) after same)
    ∙ goes_on row_at with_row front count i (last, keys) bytes r after total lt h so_far
