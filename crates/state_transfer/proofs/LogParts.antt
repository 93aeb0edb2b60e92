-- The rows of a log, and parts of them.
use Rattle.std.proofs.Common.{◌≡◌, ℕ, ◌+◌, ◌*◌, ◌-◌, ◌≤◌, Bool, true, ◌&&◌, ltb, leb, List, [], ◌∷◌, ◌++◌, length, take, drop, sym, ◌∙◌, arith}
use Rattle.std.specs.List.{list_all}
use Rattle.std.proofs.lemmas.Bool.{ltb-true, leb-true}
use Rattle.std.proofs.lemmas.List.{take-append-drop}
use Rattle.std.proofs.lemmas.List.Folds.{list_all-append}
use Rattle.tcs_terms.specs.declared.limits.TheConstants.{MAX_SLOT, MAX_PIECE_ROWS}
use Rattle.tcs_terms.specs.declared.logs.Row.{Row}
use Rattle.tcs_terms.specs.Order.{ascends}
use Rattle.tcs_terms.specs.Logs.{AreRows, txns_differ}
use Rattle.tcs_terms.proofs.BoolLaws.{both, left_of, right_of}
use Rattle.protocol.specs.Pieces.{piece_of}
use Rattle.state_transfer.proofs.Chains.{Chain, cut}
use Rattle.state_transfer.proofs.Wholeness.{slots_of, txns_of, Precedes, chain_of_whole, whole_of_chain}

-- whether a row's slot is one of a log
abbrev pub has_slot : Row → Bool
has_slot r = leb 1 r.entry.slot && leb r.entry.slot MAX_SLOT

few_above : (n : ℕ) (rows : List Row) → n ≤ MAX_SLOT → ascends (n ∷ slots_of rows) ≡ true → list_all has_slot rows ≡ true → length rows + n ≤ MAX_SLOT
few_above n [] low up fit = omega arith
few_above n (r ∷ rows) low up fit =
    let within = leb-true r.entry.slot MAX_SLOT (right_of (leb 1 r.entry.slot) (leb r.entry.slot MAX_SLOT) (left_of (has_slot r) (list_all has_slot rows) fit)) in
    let rest = few_above r.entry.slot rows within (right_of (ltb n r.entry.slot) (ascends (r.entry.slot ∷ slots_of rows)) up) (right_of (has_slot r) (list_all has_slot rows) fit) in
    omega (arith, ltb-true n r.entry.slot (left_of (ltb n r.entry.slot) (ascends (r.entry.slot ∷ slots_of rows)) up))

-- a log has no more rows than slots
pub rows_are_few : (rows : List Row) → AreRows rows → length rows ≤ MAX_SLOT
rows_are_few [] are = omega arith
rows_are_few (r ∷ rows) are =
    let slot = left_of (has_slot r) (list_all has_slot rows) are.slots in
    let low = leb-true 1 r.entry.slot (left_of (leb 1 r.entry.slot) (leb r.entry.slot MAX_SLOT) slot) in
    let high = leb-true r.entry.slot MAX_SLOT (right_of (leb 1 r.entry.slot) (leb r.entry.slot MAX_SLOT) slot) in
    omega (arith, few_above r.entry.slot rows high are.slots_ascend (right_of (has_slot r) (list_all has_slot rows) are.slots))

pub chain_of_rows : (rows : List Row) → AreRows rows → Chain Precedes rows
chain_of_rows rows are = chain_of_whole rows (both (ascends (slots_of rows)) (txns_differ (txns_of rows)) are.slots_ascend are.txns_differ)

pub rows_of_chain : (rows : List Row) → Chain Precedes rows → list_all has_slot rows ≡ true → AreRows rows
rows_of_chain rows chain fit =
    let whole = whole_of_chain rows chain in
    record { slots_ascend = left_of (ascends (slots_of rows)) (txns_differ (txns_of rows)) whole; slots = fit; txns_differ = right_of (ascends (slots_of rows)) (txns_differ (txns_of rows)) whole }

rows_in_parts : (xs ys : List Row) → AreRows (xs ++ ys) → AreRows xs × AreRows ys
rows_in_parts xs ys are =
    let c = cut Precedes xs ys (chain_of_rows (xs ++ ys) are) in
    let fit : (list_all has_slot xs && list_all has_slot ys) ≡ true = sym (list_all-append has_slot xs ys) ∙ are.slots in (
      rows_of_chain xs c.first (left_of (list_all has_slot xs) (list_all has_slot ys) fit),
      rows_of_chain ys c.second (right_of (list_all has_slot xs) (list_all has_slot ys) fit),
    )

-- a piece of a log's rows may be sent
pub piece_of_rows : (rows : List Row) (number : ℕ) → AreRows rows → AreRows (piece_of rows number)
piece_of_rows rows number are =
    let before = MAX_PIECE_ROWS * (number - 1) in
    let rest : AreRows (drop before rows) = (rows_in_parts (take before rows) (drop before rows) (rw (take-append-drop before rows) are)).1 in
    (rows_in_parts (take MAX_PIECE_ROWS (drop before rows)) (drop MAX_PIECE_ROWS (drop before rows)) (rw (take-append-drop MAX_PIECE_ROWS (drop before rows)) rest)).0
