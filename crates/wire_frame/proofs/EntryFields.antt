-- Entries and rows are read as they are spelled.
use Rattle.std.proofs.Common.{◌≡◌, ℕ, zero, suc, ◌^◌, ◌<◌, ◌≤◌, Bool, not, ◌&&◌, ◌||◌, ltb, leb, eqb, List, [], ◌∷◌, ◌++◌, length, map, Option, Some, None, Ok, refl, sym, ap, subst, ◌∙◌, append_assoc, arith}
use Rattle.std.specs.Prelude.{IsTrue, IfSome}
use Rattle.std.specs.List.{flat_map, list_all, list_any, AllByRecursion}
use Rattle.std.specs.Int.{w16}
use Rattle.std.proofs.lemmas.Bool.{and_parts, and_from, le-leb, leb-true, or_parts, or_from, not-true, not_from_false}
use Rattle.std.proofs.lemmas.Bool.Decides.{nat_tests}
use Rattle.std.proofs.lemmas.List.Elements.{All-from_recursion, recursion_from_All}
use Rattle.tcs_terms.specs.declared.ids.TxId.{TxId}
use Rattle.tcs_terms.specs.declared.votes.Vote.{Vote}
use Rattle.tcs_terms.specs.declared.votes.Vote.TheVariants.{Commit, Clash, Lost}
use Rattle.tcs_terms.specs.declared.logs.Mark.{Mark}
use Rattle.tcs_terms.specs.declared.logs.Mark.TheVariants.{Undecided, Committed, Aborted}
use Rattle.tcs_terms.specs.declared.logs.Row.{Row}
use Rattle.tcs_terms.specs.Order.{ascends}
use Rattle.tcs_terms.specs.Payloads.{Accesses, IsPayload}
use Rattle.tcs_terms.specs.Preparations.{Preparation, KeepsPayload}
use Rattle.tcs_terms.specs.Logs.{same_txn, txns_differ}
use Rattle.tcs_terms.specs.Messages.{is_slot, is_txn, IsVote, IsEntry, AreSentRows}
use Rattle.tcs_terms.proofs.RowLaws.{are_new, new_beside, new_with, all_new}
use Rattle.wire_frame.specs.declared.faults.FrameReason.TheVariants.{Range, Order}
use Rattle.wire_frame.specs.Spelling.{two, counted, spell_txn, spell_payload, spell_voted, spell_entry, spell_mark, spell_row, spell_rows}
use Rattle.wire_frame.specs.Reading.{number_at, tested}
use Rattle.wire_frame.specs.Parts.{slot_at, txn_at, vote_at, entry_at, mark_at, Before, row_at, with_row, rows_at}
use Rattle.wire_frame.proofs.Counts.{all_slots}
use Rattle.wire_frame.proofs.Fields.{IsBytes, regroup4, regroup5, after_first, Takes, Takes-then, IsField, nothing_yet, on, all_read, goes, tested_field, Chain, each_field}
use Rattle.wire_frame.proofs.NumberFields.{two_field, slot_field, txn_field}
use Rattle.wire_frame.proofs.SetFields.{shards_field, without_zero, with_zero}
use Rattle.wire_frame.proofs.PayloadFields.{payload_field}

-- ---- votes

abbrev Voted : Type 0
Voted = Option Accesses × Vote

abbrev spelled : Voted → List ℕ
spelled v = spell_voted v.0 v.1

pub record VotedGood (v : Option Accesses × Vote) : Type 0 where
  pub payload : IfSome v.0 IsPayload
  pub vote : IsVote v.1
  pub keeps : KeepsPayload v.0 v.1

vote_takes : (bytes : List ℕ) (x : Voted × List ℕ) → IsBytes bytes → vote_at bytes ≡ Ok x → Takes bytes (spelled x.0) x.1 × VotedGood x.0
unfolding vote_at
vote_takes [] x fits e = absurd cc
vote_takes (zero ∷ bytes) x fits e =
    on payload_field _ x (0 ∷ bytes) (0 ∷ []) bytes (after_first 0 bytes fits) e (λ p rest so_far is e.
    all_read spelled VotedGood (0 ∷ bytes) (Some p, Commit) rest x e so_far (record { payload = is; vote = tt; keeps = refl }))
vote_takes (suc zero ∷ bytes) x fits e =
    on txn_field _ x (1 ∷ bytes) (1 ∷ []) bytes (after_first 1 bytes fits) e (λ t mid so_far is_txn e.
    on payload_field _ x (1 ∷ bytes) _ mid so_far e (λ p rest so_far is e.
    all_read spelled VotedGood (1 ∷ bytes) (Some p, Clash t) rest x e so_far (record { payload = is; vote = is_txn; keeps = refl })))
vote_takes (suc (suc zero) ∷ bytes) x fits e =
    all_read spelled VotedGood (2 ∷ bytes) (None, Lost) bytes x e (after_first 2 bytes fits) (record { payload = tt; vote = tt; keeps = refl })
vote_takes (suc (suc (suc b)) ∷ bytes) x fits e = absurd cc

vote_again : (payload : Option Accesses) (vote : Vote) (rest : List ℕ) → VotedGood (payload, vote) → vote_at (spell_voted payload vote ++ rest) ≡ Ok ((payload, vote), rest)
unfolding vote_at
vote_again (Some p) Commit rest is = goes payload_field _ p rest is.payload
vote_again (Some p) (Clash t) rest is =
    ap (λ (w : List ℕ). vote_at (1 ∷ w)) (append_assoc (spell_txn t) (spell_payload p) rest)
    ∙ goes txn_field _ t (spell_payload p ++ rest) is.vote
    ∙ goes payload_field _ p rest is.payload
vote_again (Some p) Lost rest is = let h = is.keeps in absurd cc
vote_again None Commit rest is = let h = is.keeps in absurd cc
vote_again None (Clash t) rest is = let h = is.keeps in absurd cc
vote_again None Lost rest is = refl

vote_field : IsField spelled VotedGood vote_at
vote_field = record { takes = vote_takes; again = λ v rest is. vote_again v.0 v.1 rest is }

-- ---- entries

entry_takes : (bytes : List ℕ) (x : Preparation × List ℕ) → IsBytes bytes → entry_at bytes ≡ Ok x → Takes bytes (spell_entry x.0) x.1 × IsEntry x.0
unfolding entry_at spell_entry
entry_takes bytes x fits e =
    on slot_field _ x bytes [] bytes (nothing_yet bytes fits) e (λ slot mid so_far is_slot e.
    on txn_field _ x bytes _ mid so_far e (λ txn mid so_far is_txn e.
    on shards_field _ x bytes _ mid so_far e (λ shards mid so_far are_shards e.
    on vote_field _ x bytes _ mid so_far e (λ voted rest so_far is e.
    all_read spell_entry IsEntry bytes _ rest x e so_far (record { slot = is_slot; txn = is_txn; shards = are_shards; payload = is.payload; vote = is.vote; keeps = is.keeps })))))

entry_again : (p : Preparation) (rest : List ℕ) → IsEntry p → entry_at (spell_entry p ++ rest) ≡ Ok (p, rest)
unfolding entry_at spell_entry
entry_again p rest is =
    let voted : List ℕ = spell_voted p.payload p.vote ++ rest in
    let regrouped : spell_entry p ++ rest ≡ two p.slot ++ (spell_txn p.txn ++ (counted p.shards ++ voted)) = regroup4 (two p.slot) (spell_txn p.txn) (counted p.shards) (spell_voted p.payload p.vote) rest in
    ap entry_at regrouped
    ∙ goes slot_field _ p.slot (spell_txn p.txn ++ (counted p.shards ++ voted)) is.slot
    ∙ goes txn_field _ p.txn (counted p.shards ++ voted) is.txn
    ∙ goes shards_field _ p.shards voted is.shards
    ∙ goes vote_field _ (p.payload, p.vote) rest (record { payload = is.payload; vote = is.vote; keeps = is.keeps })

pub entry_field : IsField spell_entry IsEntry entry_at
entry_field = record { takes = entry_takes; again = entry_again }

-- ---- rows

abbrev marked : Mark → List ℕ
marked m = spell_mark m ∷ []

mark_takes : (bytes : List ℕ) (x : Mark × List ℕ) → IsBytes bytes → mark_at bytes ≡ Ok x → Takes bytes (marked x.0) x.1 × Unit {0}
unfolding mark_at
mark_takes [] x fits e = absurd cc
mark_takes (zero ∷ bytes) x fits e = all_read marked (λ m. Unit {0}) (0 ∷ bytes) Undecided bytes x e (after_first 0 bytes fits) tt
mark_takes (suc zero ∷ bytes) x fits e = all_read marked (λ m. Unit {0}) (1 ∷ bytes) Committed bytes x e (after_first 1 bytes fits) tt
mark_takes (suc (suc zero) ∷ bytes) x fits e = all_read marked (λ m. Unit {0}) (2 ∷ bytes) Aborted bytes x e (after_first 2 bytes fits) tt
mark_takes (suc (suc (suc b)) ∷ bytes) x fits e = absurd cc

mark_again : (m : Mark) (rest : List ℕ) → Unit {0} → mark_at (marked m ++ rest) ≡ Ok (m, rest)
unfolding mark_at
mark_again Undecided rest is = refl
mark_again Committed rest is = refl
mark_again Aborted rest is = refl

mark_field : IsField marked (λ m. Unit {0}) mark_at
mark_field = record { takes = mark_takes; again = mark_again }

record RowGood (before : Before) (r : Row) : Type 0 where
  entry : IsEntry r.entry
  above : IsTrue (ltb before.0 r.entry.slot)
  new : IsTrue (not (list_any (same_txn r.entry.txn) before.1))

above_field : (last : ℕ) → IsField two (λ slot. IsTrue (is_slot slot) × IsTrue (ltb last slot)) (tested Order (ltb last) slot_at)
above_field last = tested_field Order (ltb last) slot_field

new_field : (txns : List TxId) → IsField spell_txn (λ t. IsTrue (is_txn t) × IsTrue (not (list_any (same_txn t) txns))) (tested Order (λ t. not (list_any (same_txn t) txns)) txn_at)
new_field txns = tested_field Order (λ t. not (list_any (same_txn t) txns)) txn_field

row_takes : (before : Before) (bytes : List ℕ) (x : Row × List ℕ) → IsBytes bytes → row_at before bytes ≡ Ok x → Takes bytes (spell_row x.0) x.1 × RowGood before x.0
unfolding row_at spell_entry
row_takes before bytes x fits e =
    on (above_field before.0) _ x bytes [] bytes (nothing_yet bytes fits) e (λ slot mid so_far is_slot e.
    on (new_field before.1) _ x bytes _ mid so_far e (λ txn mid so_far is_txn e.
    on shards_field _ x bytes _ mid so_far e (λ shards mid so_far are_shards e.
    on vote_field _ x bytes _ mid so_far e (λ voted mid so_far is e.
    on mark_field _ x bytes _ mid so_far e (λ mark rest so_far is_mark e.
    all_read spell_row (RowGood before) bytes _ rest x e so_far (record {
      entry = record { slot = is_slot.0; txn = is_txn.0; shards = are_shards; payload = is.payload; vote = is.vote; keeps = is.keeps };
      above = is_slot.1;
      new = is_txn.1;
    }))))))

row_again : (before : Before) (r : Row) (rest : List ℕ) → RowGood before r → row_at before (spell_row r ++ rest) ≡ Ok (r, rest)
unfolding row_at spell_entry
row_again before r rest is =
    let after_vote : List ℕ = marked r.mark ++ rest in
    let after_shards : List ℕ = spell_voted r.entry.payload r.entry.vote ++ after_vote in
    let after_txn : List ℕ = counted r.entry.shards ++ after_shards in
    let regrouped : spell_row r ++ rest ≡ two r.entry.slot ++ (spell_txn r.entry.txn ++ after_txn)
    = regroup5 (two r.entry.slot) (spell_txn r.entry.txn) (counted r.entry.shards) (spell_voted r.entry.payload r.entry.vote) (marked r.mark) rest in
    ap (row_at before) regrouped
    ∙ goes (above_field before.0) _ r.entry.slot (spell_txn r.entry.txn ++ after_txn) (is.entry.slot, is.above)
    ∙ goes (new_field before.1) _ r.entry.txn after_txn (is.entry.txn, is.new)
    ∙ goes shards_field _ r.entry.shards after_shards is.entry.shards
    ∙ goes vote_field _ (r.entry.payload, r.entry.vote) after_vote (record { payload = is.entry.payload; vote = is.entry.vote; keeps = is.entry.keeps })
    ∙ goes mark_field _ r.mark rest tt

row_field : (before : Before) → IsField spell_row (RowGood before) (row_at before)
row_field before = record { takes = row_takes before; again = row_again before }

abbrev slots_of : List Row → List ℕ
slots_of rows = map (λ r. r.entry.slot) rows

abbrev txns_of : List Row → List TxId
txns_of rows = map (λ r. r.entry.txn) rows

-- rows whose slots ascend above a last one, and whose transactions differ and are new
record RowsFrom (before : Before) (rows : List Row) : Type 0 where
  entries : AllByRecursion (λ r. IsEntry r.entry) rows
  ascend : IsTrue (ascends (before.0 ∷ slots_of rows))
  new : IsTrue (are_new before.1 (txns_of rows))
  differ : IsTrue (txns_differ (txns_of rows))

rows_from : (before : Before) (rows : List Row) → Chain RowGood with_row before rows → RowsFrom before rows
rows_from before [] chain = record { entries = tt; ascend = refl; new = refl; differ = refl }
rows_from before (r ∷ rows) chain =
    let more = rows_from (with_row before r) rows chain.1 in
    let beside = new_beside r.entry.txn before.1 (txns_of rows) more.new in
    record {
      entries = (chain.0.entry, more.entries);
      ascend = and_from (ltb before.0 r.entry.slot) (ascends (r.entry.slot ∷ slots_of rows)) chain.0.above more.ascend;
      new = and_from (not (list_any (same_txn r.entry.txn) before.1)) (are_new before.1 (txns_of rows)) chain.0.new beside.1;
      differ = and_from (not (list_any (same_txn r.entry.txn) (txns_of rows))) (txns_differ (txns_of rows)) beside.0 more.differ;
    }

rows_chain : (before : Before) (rows : List Row) → RowsFrom before rows → Chain RowGood with_row before rows
rows_chain before [] is = tt
rows_chain before (r ∷ rows) is =
    let up = and_parts (ltb before.0 r.entry.slot) (ascends (r.entry.slot ∷ slots_of rows)) is.ascend in
    let new = and_parts (not (list_any (same_txn r.entry.txn) before.1)) (are_new before.1 (txns_of rows)) is.new in
    let differ = and_parts (not (list_any (same_txn r.entry.txn) (txns_of rows))) (txns_differ (txns_of rows)) is.differ in (
      record { entry = is.entries.0; above = up.0; new = new.0 },
      rows_chain (with_row before r) rows (record { entries = is.entries.1; ascend = up.1; new = new_with r.entry.txn before.1 (txns_of rows) differ.0 new.1; differ = differ.1 }),
    )

slots_in_range : (rows : List Row) → AllByRecursion (λ r. IsEntry r.entry) rows → IsTrue (list_all (λ r. leb 1 r.entry.slot && leb r.entry.slot 4096) rows)
slots_in_range [] entries = refl
slots_in_range (r ∷ rows) entries = and_from (leb 1 r.entry.slot && leb r.entry.slot 4096) (list_all (λ r. leb 1 r.entry.slot && leb r.entry.slot 4096) rows) entries.0.slot (slots_in_range rows entries.1)

rows_are : (rows : List Row) → RowsFrom (0, []) rows → AreSentRows rows
rows_are rows is = record {
  in_order = record { slots_ascend = without_zero (slots_of rows) is.ascend; slots = slots_in_range rows is.entries; txns_differ = is.differ };
  entries = All-from_recursion (λ r. IsEntry r.entry) rows is.entries;
}

are_rows : (rows : List Row) → AreSentRows rows → RowsFrom (0, []) rows
are_rows rows is = record {
  entries = recursion_from_All (λ r. IsEntry r.entry) rows is.entries;
  ascend = with_zero 4096 (slots_of rows) (all_slots rows is.in_order.slots) is.in_order.slots_ascend;
  new = all_new (txns_of rows);
  differ = is.in_order.txns_differ;
}

module _ (most : ℕ) (fits_two : most < 2 ^ 16) where
  count_field : IsField two (λ n. (n < 2 ^ 16) × IsTrue (leb n most)) (tested Range (λ n. leb n most) (number_at w16))
  count_field = tested_field Range (λ n. leb n most) two_field

  rows_takes : (bytes : List ℕ) (x : List Row × List ℕ) → IsBytes bytes → rows_at most bytes ≡ Ok x → Takes bytes (spell_rows x.0) x.1 × (AreSentRows x.0 × (length x.0 ≤ most))
  unfolding rows_at spell_rows
  rows_takes bytes x fits e =
      on count_field _ x bytes [] bytes (nothing_yet bytes fits) e (λ count mid so_far is_count e.
      let t = (each_field with_row row_field count (0, [])).takes mid x so_far.rest_fits e in (
        subst (λ (k : ℕ). Takes bytes (two k ++ flat_map spell_row x.0) x.1) (sym t.1.0) (Takes-then bytes (two count) mid (flat_map spell_row x.0) x.1 so_far t.0),
        (rows_are x.0 (rows_from (0, []) x.0 t.1.1), omega (arith, t.1.0, leb-true count most is_count.1)),
      ))

  rows_again : (rows : List Row) (rest : List ℕ) → AreSentRows rows × (length rows ≤ most) → rows_at most (spell_rows rows ++ rest) ≡ Ok (rows, rest)
  unfolding rows_at spell_rows
  rows_again rows rest is =
      ap (rows_at most) (append_assoc (two (length rows)) (flat_map spell_row rows) rest)
      ∙ goes count_field _ (length rows) (flat_map spell_row rows ++ rest) (omega (arith, is.1), le-leb (length rows) most is.1)
      ∙ (each_field with_row row_field (length rows) (0, [])).again rows rest (refl, rows_chain (0, []) rows (are_rows rows is.0))

  pub rows_field : IsField spell_rows (λ rows. AreSentRows rows × (length rows ≤ most)) (rows_at most)
  rows_field = record { takes = rows_takes; again = rows_again }
