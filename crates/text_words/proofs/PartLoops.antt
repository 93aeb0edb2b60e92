-- Reading parts one after the other, as a loop does.
use Rattle.std.proofs.Common.{◌≡◌, ℕ, zero, suc, ◌-◌, ◌≤◌, true, false, List, [], ◌∷◌, ◌++◌, length, get_or, Result, Ok, Err, refl, sym, ap, ◌∙◌, append_assoc, arith}
use Rattle.std.proofs.lemmas.List.{append-nil}
use Rattle.text_words.specs.declared.words.Reason.TheVariants as reasons
use Rattle.text_words.specs.declared.words.Stop.{Stop}
use Rattle.text_words.specs.declared.words.Stop.TheVariants as stops
use Rattle.text_words.specs.Words.{begins, after}
use Rattle.text_words.specs.PayloadWords.{Misfit, misfit, ◌>>=◌, parts_at, last_of, Fails}

-- the last of the parts that are there is the one at the last place
pub last_is : {X : Type 0} (name : X → List ℕ) (xs : List X) (x : X) → 1 ≤ length xs → x ≡ get_or xs (length xs - 1) x → name x ≡ last_of name xs
last_is name [] x some e = absurd (omega arith)
last_is name (y ∷ []) x some e = ap name e
last_is name (y ∷ z ∷ zs) x some e =
    let k : length (y ∷ z ∷ zs) - 1 ≡ suc (length (z ∷ zs) - 1) = omega arith in
    last_is name (z ∷ zs) x (omega arith) (rw k at e)

pub last_of_push : {X : Type 0} (name : X → List ℕ) (xs : List X) (x : X) → last_of name (xs ++ x ∷ []) ≡ name x
last_of_push name [] x = refl
last_of_push name (y ∷ []) x = refl
last_of_push name (y ∷ z ∷ zs) x = last_of_push name (z ∷ zs) x

-- what was read before, and what is still read
abbrev pub with_front : {X : Type 0} → List X → Result (List X × List (List ℕ)) Misfit → Result (List X × List (List ℕ)) Misfit
with_front front read = read >>= λ x. Ok (front ++ x.0, x.1)

regroup : {X : Type 0} (front : List X) (p : X) (read : Result (List X × List (List ℕ)) Misfit) → with_front front (read >>= λ x. Ok (p ∷ x.0, x.1)) ≡ with_front (front ++ p ∷ []) read
regroup {X = X} front p (Ok x) = ap (λ (ps : List X). Ok (ps, x.1)) (simp append_assoc)
regroup front p (Err f) = refl

pub goes_on : {X : Type 0} (word : List ℕ) (name : X → List ℕ) (one : List ℕ → List (List ℕ) → Result (X × List (List ℕ)) Misfit) (front : List X) (room more : ℕ) (words : List (List ℕ)) (p : X) (rest : List (List ℕ)) (total : Result (List X × List (List ℕ)) Misfit)
    → room ≡ suc more → begins word words ≡ true → one (last_of name front) (after words) ≡ Ok (p, rest)
    → with_front front (parts_at word name one room (last_of name front) words) ≡ total
    → with_front (front ++ p ∷ []) (parts_at word name one more (last_of name (front ++ p ∷ [])) rest) ≡ total
unfolding parts_at
goes_on word name one front room more words p rest total k next read so_far =
    let step : with_front front (parts_at word name one room (last_of name front) words) ≡ with_front (front ++ p ∷ []) (parts_at word name one more (name p) rest) =
    rw (k, next, read) (regroup front p (parts_at word name one more (name p) rest)) in
    rw (last_of_push name front p) (sym step ∙ so_far)

pub stops_there : {X : Type 0} (word : List ℕ) (name : X → List ℕ) (one : List ℕ → List (List ℕ) → Result (X × List (List ℕ)) Misfit) (e : Stop) (front : List X) (room more : ℕ) (words : List (List ℕ)) (total : Result (List X × List (List ℕ)) Misfit)
    → room ≡ suc more → begins word words ≡ true → Fails e (one (last_of name front) (after words))
    → with_front front (parts_at word name one room (last_of name front) words) ≡ total → Fails e total
unfolding parts_at
stops_there word name one stops.OutOfMemory front room more words total k next fails so_far = tt
stops_there word name one (stops.Misfit left reason) front room more words total k next fails so_far =
    let step : with_front front (parts_at word name one room (last_of name front) words) ≡ Err (record { left = left; reason = reason }) = rw (k, next, fails) refl in
    sym so_far ∙ step

pub is_full : {X : Type 0} (word : List ℕ) (name : X → List ℕ) (one : List ℕ → List (List ℕ) → Result (X × List (List ℕ)) Misfit) (front : List X) (room : ℕ) (words : List (List ℕ)) (total : Result (List X × List (List ℕ)) Misfit)
    → room ≡ 0 → begins word words ≡ true
    → with_front front (parts_at word name one room (last_of name front) words) ≡ total → total ≡ misfit reasons.Many (length words)
unfolding parts_at
is_full word name one front room words total k next so_far =
    let step : with_front front (parts_at word name one room (last_of name front) words) ≡ misfit reasons.Many (length words) = rw (k, next) refl in
    sym so_far ∙ step

pub is_done : {X : Type 0} (word : List ℕ) (name : X → List ℕ) (one : List ℕ → List (List ℕ) → Result (X × List (List ℕ)) Misfit) (front : List X) (room : ℕ) (words : List (List ℕ)) (total : Result (List X × List (List ℕ)) Misfit)
    → begins word words ≡ false
    → with_front front (parts_at word name one room (last_of name front) words) ≡ total → total ≡ Ok (front, words)
unfolding parts_at
is_done {X = X} word name one front zero words total next so_far =
    let step : with_front front (parts_at word name one zero (last_of name front) words) ≡ Ok (front, words) = rw next (ap (λ (ps : List X). Ok (ps, words)) (append-nil front)) in
    sym so_far ∙ step
is_done {X = X} word name one front (suc room) words total next so_far =
    let step : with_front front (parts_at word name one (suc room) (last_of name front) words) ≡ Ok (front, words) = rw next (ap (λ (ps : List X). Ok (ps, words)) (append-nil front)) in
    sym so_far ∙ step
