-- A list of bytes falls into a first line and what comes after it in one way only.
use Rattle.std.proofs.Common.{◌≡◌, ℕ, true, false, nat_eq, List, [], ◌∷◌, ◌++◌, refl}
use Rattle.std.proofs.lemmas.Bool.{or_parts, or_right, eq-eqb}
use Rattle.schedule_text.specs.Lines.{has_feed, line_feed}

-- a line feed shows, wherever it stands
pub feed_shows : (line rest : List ℕ) → has_feed (line ++ line_feed ∷ rest) ≡ true
feed_shows [] rest = refl
feed_shows (byte ∷ line) rest = or_right (nat_eq byte 10) (has_feed (line ++ line_feed ∷ rest)) (feed_shows line rest)

not_a_feed : (byte : ℕ) (line : List ℕ) → has_feed (byte ∷ line) ≡ false → byte ≡ line_feed → ⊥
not_a_feed byte line none same =
    let here : nat_eq byte 10 ≡ false = (or_parts (nat_eq byte 10) (has_feed line) none).0 in
    let there : nat_eq byte 10 ≡ true = eq-eqb byte 10 same in
    cc

pub one_first_line : (line other rest more : List ℕ) → has_feed line ≡ false → has_feed other ≡ false
    → line ++ line_feed ∷ rest ≡ other ++ line_feed ∷ more → (line ≡ other) × (rest ≡ more)
one_first_line [] [] rest more none nor same = (refl, cc)
one_first_line [] (byte ∷ other) rest more none nor same = absurd (not_a_feed byte other nor (cc))
one_first_line (byte ∷ line) [] rest more none nor same = absurd (not_a_feed byte line none (cc))
one_first_line (byte ∷ line) (first ∷ other) rest more none nor same =
    let head : byte ≡ first = cc in
    let tail : line ++ line_feed ∷ rest ≡ other ++ line_feed ∷ more = cc in
    let later = one_first_line line other rest more (or_parts (nat_eq byte 10) (has_feed line) none).1
    (or_parts (nat_eq first 10) (has_feed other) nor).1 tail in
    (let lines : line ≡ other = later.0 in cc, later.1)
