-- Pieces of a list of rows: all of them together, in order of their numbers, are the list.
use Rattle.std.proofs.Common.{◌≡◌, ℕ, ◌+◌, ◌-◌, ◌*◌, ◌/◌, ◌<◌, ◌≤◌, max, true, ◌&&◌, ◌==◌, nat_lt, List, [], ◌∷◌, ◌++◌, map, filter, take, drop, length, inl, inr, sym, ◌∙◌, ap, refl, arith, ltb-true, lt-ltb, eqb-true, nat_eq, ◌⊎◌}
use Rattle.std.specs.Prelude.{IsTrue}
use Rattle.std.proofs.Math.Seq.{take-add}
use Rattle.std.proofs.lemmas.List.{take_all, drop-drop}
use Rattle.std.specs.Cmp.Lexicographic.{pointwise, same_text}
use Rattle.tcs_terms.specs.declared.limits.TheConstants.{MAX_PIECE_ROWS}
use Rattle.tcs_terms.specs.declared.logs.Row.{Row}
use Rattle.tcs_terms.specs.Order.{ascends}
use Rattle.tcs_terms.specs.Places.{Membership}
use Rattle.tcs_terms.proofs.BoolLaws.{both, left_of, right_of}
use Rattle.tcs_terms.proofs.OrderLaws.{kept_ascends, numbers_skip}
use Rattle.protocol.specs.Pieces.{piece_count, piece_of, with_piece, rows_of}
use Rattle.protocol.specs.Records.{Piece}
use Rattle.protocol.specs.Views.{same_config}
use Rattle.protocol.specs.Invariant.Time.{StandsIn}
use Rattle.protocol.proofs.Lists.{StandsIn-append}
use Rattle.protocol_laws.proofs.Ascending.{tail-ascends, tail-above}
use Rattle.protocol_laws.proofs.Standing.{filter-StandsIn, take-StandsIn, drop-StandsIn}

abbrev numbers : List Piece → List ℕ
numbers kept = map (λ (p : Piece). p.number) kept

-- the first number is at most as far below a bound on all as there are numbers
head_below : (p : Piece) (ps : List Piece) (bound : ℕ) → ascends (numbers (p ∷ ps)) ≡ true → ((q : Piece) → StandsIn q (p ∷ ps) → q.number < bound) → p.number + length ps < bound
head_below p [] bound up below = let k = below p (inl refl) in omega (arith, k)
head_below p (q ∷ qs) bound up below =
    let first : p.number < q.number = ltb-true p.number q.number (left_of (nat_lt p.number q.number) (ascends (numbers (q ∷ qs))) up) in
    let k : q.number + length qs < bound = head_below q qs bound (right_of (nat_lt p.number q.number) (ascends (numbers (q ∷ qs))) up) (λ r s. below r (inr s)) in
    omega (arith, first, k)

times : (a b : ℕ) → a * (b + 1) ≡ a * b + a
times a b = omega arith

-- pieces of a size, numbered in order from a number on, are what stands there in the list
joined : (size : ℕ) (all : List Row) (kept : List Piece) (from : ℕ) → 1 ≤ from → ascends (numbers kept) ≡ true → ((p : Piece) → StandsIn p kept → (from ≤ p.number) × (p.number < from + length kept) × (p.rows ≡ take size (drop (size * (p.number - 1)) all)))
    → rows_of kept ≡ take (size * length kept) (drop (size * (from - 1)) all)
joined size all [] from one up each = let z : size * 0 ≡ 0 = omega arith in rw z refl
joined size all (p ∷ ps) from one up each =
    let mine = each p (inl refl) in
    let most : p.number + length ps < from + length (p ∷ ps) = head_below p ps (from + length (p ∷ ps)) up (λ q s. (each q s).1) in
    let least : from ≤ p.number = mine.0 in
    let is : p.number ≡ from = omega (arith, most, least) in
    let rest : rows_of ps ≡ take (size * length ps) (drop (size * (from + 1 - 1)) all) = joined size all ps (from + 1) (omega arith) (tail-ascends (λ (p : Piece). p.number) p ps up)
    (λ q s. let h = each q (inr s) in let a : p.number < q.number = tail-above (λ (p : Piece). p.number) p ps q up s in (omega (arith, a, is), omega (arith, h.1), h.2)) in
    let there : drop (size * (from + 1 - 1)) all ≡ drop size (drop (size * (from - 1)) all)
    = ap (λ k. drop k all) (let e : from + 1 - 1 ≡ from - 1 + 1 = omega (arith, one) in ap (λ k. size * k) e ∙ times size (from - 1)) ∙ sym (drop-drop size (size * (from - 1)) all) in
    let head : p.rows ≡ take size (drop (size * (from - 1)) all) = mine.2 ∙ ap (λ n. take size (drop (size * (n - 1)) all)) is in
    rw (head, rest, there) (sym (ap (λ n. take n (drop (size * (from - 1)) all)) (omega arith) ∙ take-add size (size * length ps) (drop (size * (from - 1)) all)))

-- a list has no more rows than its pieces hold
pieces_hold : (n : ℕ) → n ≤ 24 * max 1 ((n + 23) / 24)
pieces_hold n = omega arith

-- all pieces of a list, ascending, are the list
pub pieces-all : (all : List Row) (kept : List Piece) → length kept ≡ piece_count all → IsTrue (ascends (numbers kept))
    → ((p : Piece) → StandsIn p kept → (1 ≤ p.number) × (p.number ≤ piece_count all) × (p.rows ≡ piece_of all p.number)) → rows_of kept ≡ all
pieces-all all kept e up each =
    joined MAX_PIECE_ROWS all kept 1 (omega arith) up (λ p s. let h = each p s in (h.0, omega (arith, h.1, e), h.2))
    ∙ take_all (MAX_PIECE_ROWS * length kept) all (let k : length all ≤ 24 * max 1 ((length all + 23) / 24) = pieces_hold (length all) in omega (arith, k, e))

ascends_cons : (p : Piece) (ps : List Piece) → ascends (numbers ps) ≡ true → ((q : Piece) → StandsIn q ps → p.number < q.number) → ascends (numbers (p ∷ ps)) ≡ true
ascends_cons p [] up above = refl
ascends_cons p (q ∷ qs) up above = both (nat_lt p.number q.number) (ascends (numbers (q ∷ qs))) (lt-ltb p.number q.number (above q (inl refl))) up

ascends_join : (ps : List Piece) (p : Piece) (qs : List Piece) → ascends (numbers ps) ≡ true → ((q : Piece) → StandsIn q ps → q.number < p.number) → ascends (numbers (p ∷ qs)) ≡ true → ascends (numbers (ps ++ p ∷ qs)) ≡ true
ascends_join [] p qs up below more = more
ascends_join (r ∷ []) p qs up below more = both (nat_lt r.number p.number) (ascends (numbers (p ∷ qs))) (lt-ltb r.number p.number (below r (inl refl))) more
ascends_join (r ∷ s ∷ rs) p qs up below more =
    both (nat_lt r.number s.number) (ascends (numbers (s ∷ rs ++ p ∷ qs))) (left_of (nat_lt r.number s.number) (ascends (numbers (s ∷ rs))) up)
    (ascends_join (s ∷ rs) p qs (right_of (nat_lt r.number s.number) (ascends (numbers (s ∷ rs))) up) (λ q k. below q (inr k)) more)

-- pieces ascend with one more in its place
pub with_piece-ascends : (kept : List Piece) (piece : Piece) → IsTrue (ascends (numbers kept)) → IsTrue (ascends (numbers (with_piece kept piece)))
with_piece-ascends kept piece up =
    ascends_join (filter (λ (p : Piece). nat_lt p.number piece.number) kept) piece (filter (λ (p : Piece). nat_lt piece.number p.number) kept)
    (kept_ascends nat_lt numbers_skip (λ (p : Piece). p.number) (λ p. nat_lt p.number piece.number) kept up)
    (λ q s. ltb-true q.number piece.number (filter-StandsIn (λ (p : Piece). nat_lt p.number piece.number) kept q s).1)
    (ascends_cons piece (filter (λ (p : Piece). nat_lt piece.number p.number) kept) (kept_ascends nat_lt numbers_skip (λ (p : Piece). p.number) (λ p. nat_lt piece.number p.number) kept up)
    (λ q s. ltb-true piece.number q.number (filter-StandsIn (λ (p : Piece). nat_lt piece.number p.number) kept q s).1))

-- what stands among pieces with one more in its place
pub with_piece-StandsIn : (kept : List Piece) (piece p : Piece) → StandsIn p (with_piece kept piece) → StandsIn p kept ⊎ (p ≡ piece)
with_piece-StandsIn kept piece p s = elim (StandsIn-append (filter (λ (p : Piece). nat_lt p.number piece.number) kept) (piece ∷ filter (λ (p : Piece). nat_lt piece.number p.number) kept) p s) [
  | inl k ↦ inl (filter-StandsIn (λ (p : Piece). nat_lt p.number piece.number) kept p k).0
  | inr (inl e) ↦ inr e
  | inr (inr k) ↦ inl (filter-StandsIn (λ (p : Piece). nat_lt piece.number p.number) kept p k).0
]

-- configurations that pass the test are one
pub same_config-is : (a b : Membership) → same_config a b ≡ true → a ≡ b
same_config-is a b h =
    let by : (a.by == b.by) ≡ true = right_of ((a.shard == b.shard) && (a.epoch == b.epoch) && pointwise nat_eq a.members b.members && (a.leader == b.leader)) (a.by == b.by) h in
    let h3 = left_of ((a.shard == b.shard) && (a.epoch == b.epoch) && pointwise nat_eq a.members b.members && (a.leader == b.leader)) (a.by == b.by) h in
    let leader : (a.leader == b.leader) ≡ true = right_of ((a.shard == b.shard) && (a.epoch == b.epoch) && pointwise nat_eq a.members b.members) (a.leader == b.leader) h3 in
    let h2 = left_of ((a.shard == b.shard) && (a.epoch == b.epoch) && pointwise nat_eq a.members b.members) (a.leader == b.leader) h3 in
    let members : pointwise nat_eq a.members b.members ≡ true = right_of ((a.shard == b.shard) && (a.epoch == b.epoch)) (pointwise nat_eq a.members b.members) h2 in
    let h1 = left_of ((a.shard == b.shard) && (a.epoch == b.epoch)) (pointwise nat_eq a.members b.members) h2 in
    record_is a b (eqb-true a.shard b.shard (left_of (a.shard == b.shard) (a.epoch == b.epoch) h1)) (eqb-true a.epoch b.epoch (right_of (a.shard == b.shard) (a.epoch == b.epoch) h1)) (same_text a.members b.members (sym members)) (eqb-true a.leader b.leader leader) (eqb-true a.by b.by by)
  where
    record_is : (a b : Membership) → a.shard ≡ b.shard → a.epoch ≡ b.epoch → a.members ≡ b.members → a.leader ≡ b.leader → a.by ≡ b.by → a ≡ b
    record_is a b p q r s t = λ i. record { shard = p i; epoch = q i; members = r i; leader = s i; by = t i }

-- a row of a piece is one of the rows
pub piece_row : (rows : List Row) (number : ℕ) (r : Row) → StandsIn r (piece_of rows number) → StandsIn r rows
piece_row rows number r s = drop-StandsIn (MAX_PIECE_ROWS * (number - 1)) rows r (take-StandsIn MAX_PIECE_ROWS (drop (MAX_PIECE_ROWS * (number - 1)) rows) r s)
