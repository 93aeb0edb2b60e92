-- The payloads of committed rows, with a row more.
use Rattle.std.proofs.Common.{◌≡◌, ℕ, ◌+◌, ◌<◌, ◌≤◌, List, [], ◌∷◌, ◌++◌, length, take, get_or, sym, ap, ◌∙◌, subst, arith}
use Rattle.std.specs.Prelude.{Option, Some, None}
use Rattle.std.specs.List.{cons_option}
use Rattle.std.specs.Option.{option_map, unwrap_or}
use Rattle.std.proofs.lemmas.List.{take_more, append-nil}
use Rattle.std.proofs.lemmas.List.Elements.{filter_map-append}
use Rattle.tcs_terms.specs.declared.logs.Row.{Row}
use Rattle.tcs_terms.specs.Payloads.{Accesses}
use Rattle.counters.specs.declared.limits.TheConstants.{MAX_AMOUNT}
use Rattle.counters.specs.Amounts.{amount, committed_in, payload_marked, total_of}
use Rattle.counters.specs.Sums.{Sums, AreSums}
use Rattle.counters.proofs.Adding.{total_more, added_few}

-- the payload of a row, where it is committed
abbrev pub payload_at : Row → Option Accesses
payload_at r = payload_marked r.mark r.entry.payload

pub committed_more : (rows : List Row) (i : ℕ) (r : Row) → i < length rows → r ≡ get_or rows i r
    → committed_in (take (i + 1) rows) ≡ committed_in (take i rows) ++ cons_option (payload_at r) []
committed_more rows i r within is =
    ap committed_in (take_more rows i r within ∙ ap (λ (x : Row). take i rows ++ x ∷ []) (sym is))
    ∙ filter_map-append payload_at (take i rows) (r ∷ [])

-- there are no more of them than rows
few_with : (o : Option Accesses) (ps : List Accesses) → length (cons_option o ps) ≤ length ps + 1
few_with None ps = omega arith
few_with (Some p) ps = omega arith

pub committed_few : (rows : List Row) → length (committed_in rows) ≤ length rows
committed_few [] = omega arith
committed_few (r ∷ rs) =
    let rest = committed_few rs in
    let one = few_with (payload_at r) (committed_in rs) in
    omega arith

-- the total with a row more
pub total_with : (ps : List Accesses) (o : Option Accesses) (name : List ℕ)
    → total_of (ps ++ cons_option o []) name ≡ total_of ps name + unwrap_or (option_map (λ p. amount p name) o) 0
total_with ps None name = let same : total_of (ps ++ []) name ≡ total_of ps name = ap (λ (xs : List Accesses). total_of xs name) (append-nil ps) in omega arith
total_with ps (Some p) name = total_more ps p name

pub row_few : (o : Option Accesses) (name : List ℕ) → unwrap_or (option_map (λ p. amount p name) o) 0 ≤ MAX_AMOUNT
row_few None name = omega arith
row_few (Some p) name = added_few p.writes name

-- sums stay where nothing is added
pub sums_still : (sums : Sums) (ps : List Accesses) → AreSums sums ps → AreSums sums (ps ++ [])
sums_still sums ps are = subst (λ (xs : List Accesses). AreSums sums xs) (sym (append-nil ps)) are
