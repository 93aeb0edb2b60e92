-- The history of a run that puts objects back: its order, and the payloads of the order.
use Rattle.std.proofs.Common.{◌≡◌, ℕ, zero, suc, ◌+◌, ◌<◌, Bool, not, cond, List, [], ◌∷◌, length, map, filter, filter_map, Option, Some, None, ap, refl, ◌∙◌, arith, eq-eqb}
use Rattle.std.proofs.lemmas.Bool.{ne_eqb}
use Rattle.std.specs.List.{range_with_len, cons_option}
use Rattle.tcs_terms.specs.declared.ids.TxId.{TxId}
use Rattle.tcs_terms.specs.declared.inputs.Note.{Note}
use Rattle.tcs_terms.specs.declared.votes.Decision.TheVariants as decisions
use Rattle.tcs_terms.specs.Logs.{same_txn}
use Rattle.tcs_terms.specs.Payloads.{Accesses}
use Rattle.protocol.specs.History.{commit_in, first_of_each, first_some, order_of, payload_in, payloads_of}
use Rattle.protocol.specs.Worked.Words.{txn, begin, decide}
use Rattle.backup_machine.specs.declared.objects.Kept.{Kept}
use Rattle.restore_laws.specs.Restored.{first_txns}
use Rattle.restore_laws.specs.Schedules.{payload_of}

-- what is noted of these objects, `before` others having been put back
abbrev pub notes_from : ℕ → List Kept → List Note
notes_from before [] = []
notes_from before (k ∷ ks) =
    begin (txn 1 (before + 1)) (payload_of k) ∷ decide (txn 1 (before + 1)) decisions.Commit ∷ notes_from (before + 1) ks

committed : (before : ℕ) (ks : List Kept) → filter_map commit_in (notes_from before ks) ≡ map (txn 1) (range_with_len (before + 1) (length ks))
committed before [] = refl
committed before (k ∷ ks) = ap (λ (ts : List TxId). txn 1 (before + 1) ∷ ts) (committed (before + 1) ks)

-- a transaction is none of the later ones
later_differ : (a b count : ℕ) → a < b → filter (λ u. not (same_txn (txn 1 a) u)) (map (txn 1) (range_with_len b count)) ≡ map (txn 1) (range_with_len b count)
later_differ a b zero less = refl
later_differ a b (suc count) less =
    ap (λ (e : Bool). cond (not e) (txn 1 b ∷ filter (λ u. not (same_txn (txn 1 a) u)) (map (txn 1) (range_with_len (b + 1) count))) (filter (λ u. not (same_txn (txn 1 a) u)) (map (txn 1) (range_with_len (b + 1) count)))) (ne_eqb a b (λ e. omega (arith, e, less)))
    ∙ ap (λ (ts : List TxId). txn 1 b ∷ ts) (later_differ a (b + 1) count (omega (arith, less)))

each_first : (a count : ℕ) → first_of_each (map (txn 1) (range_with_len a count)) ≡ map (txn 1) (range_with_len a count)
each_first a zero = refl
each_first a (suc count) =
    ap (λ (ts : List TxId). txn 1 a ∷ filter (λ u. not (same_txn (txn 1 a) u)) ts) (each_first (a + 1) count)
    ∙ ap (λ (ts : List TxId). txn 1 a ∷ ts) (later_differ a (a + 1) count (omega arith))

pub order_is : (ks : List Kept) → order_of (notes_from 0 ks) ≡ first_txns (length ks)
order_is ks = ap first_of_each (committed 0 ks) ∙ each_first 1 (length ks)

-- the payload of a later transaction is not told by the notes of an earlier one
payload_later : (a m : ℕ) (p : Accesses) (ns : List Note) → a < m → payload_in (begin (txn 1 a) p ∷ decide (txn 1 a) decisions.Commit ∷ ns) (txn 1 m) ≡ payload_in ns (txn 1 m)
payload_later a m p ns less = ap (λ (e : Bool). first_some (cond e (Some p) None) (payload_in ns (txn 1 m))) (ne_eqb a m (λ e. omega (arith, e, less)))

payloads_later : (a b count : ℕ) (p : Accesses) (ns : List Note) → a < b
    → payloads_of (begin (txn 1 a) p ∷ decide (txn 1 a) decisions.Commit ∷ ns) (map (txn 1) (range_with_len b count)) ≡ payloads_of ns (map (txn 1) (range_with_len b count))
payloads_later a b zero p ns less = refl
payloads_later a b (suc count) p ns less =
    ap (λ (o : Option Accesses). cons_option o (payloads_of (begin (txn 1 a) p ∷ decide (txn 1 a) decisions.Commit ∷ ns) (map (txn 1) (range_with_len (b + 1) count)))) (payload_later a b p ns less)
    ∙ ap (λ (ps : List Accesses). cons_option (payload_in ns (txn 1 b)) ps) (payloads_later a (b + 1) count p ns (omega (arith, less)))

payload_first : (a : ℕ) (p : Accesses) (ns : List Note) → payload_in (begin (txn 1 a) p ∷ ns) (txn 1 a) ≡ Some p
payload_first a p ns = ap (λ (e : Bool). first_some (cond e (Some p) None) (payload_in ns (txn 1 a))) (eq-eqb a a refl)

pub payloads_are : (before : ℕ) (ks : List Kept) → payloads_of (notes_from before ks) (map (txn 1) (range_with_len (before + 1) (length ks))) ≡ map payload_of ks
payloads_are before [] = refl
payloads_are before (k ∷ ks) =
    let ns : List Note = notes_from (before + 1) ks in
    ap (λ (o : Option Accesses). cons_option o (payloads_of (notes_from before (k ∷ ks)) (map (txn 1) (range_with_len (before + 1 + 1) (length ks))))) (payload_first (before + 1) (payload_of k) (decide (txn 1 (before + 1)) decisions.Commit ∷ ns))
    ∙ ap (λ (ps : List Accesses). payload_of k ∷ ps) (payloads_later (before + 1) (before + 1 + 1) (length ks) (payload_of k) ns (omega arith) ∙ payloads_are (before + 1) ks)
