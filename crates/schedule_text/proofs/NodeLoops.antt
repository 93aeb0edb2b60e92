-- Reading nodes one after the other, as a loop does.
use Rattle.std.proofs.Common.{◌≡◌, ℕ, zero, suc, Bool, false, true, cond, subst, List, [], ◌∷◌, ◌++◌, length, Result, Ok, Err, refl, sym, ap, ◌∙◌, append_assoc, arith}
use Rattle.std.specs.Prelude.{◌==◌}
use Rattle.std.proofs.lemmas.Bool.{eqb-true}
use Rattle.std.proofs.lemmas.List.{append-nil}
use Rattle.text_words.specs.declared.words.Reason.{Reason}
use Rattle.text_words.specs.declared.words.Reason.TheVariants as reasons
use Rattle.schedule_text.specs.declared.faults.LineFault.{LineFault}
use Rattle.schedule_text.specs.declared.faults.LineFault.TheVariants as faults
use Rattle.schedule_text.specs.Words.{next_node_at, nodes_at, no_room, Fails, Gives}
use Rattle.text_words.specs.PayloadWords.{◌>>=◌}

-- what was read before, and what is still read
abbrev pub with_front : List ℕ → Result (List ℕ) Reason → Result (List ℕ) Reason
with_front front read = read >>= λ ns. Ok (front ++ ns)

regroup : (front : List ℕ) (n : ℕ) (read : Result (List ℕ) Reason) → with_front front (read >>= λ ns. Ok (n ∷ ns)) ≡ with_front (front ++ n ∷ []) read
regroup front n (Ok ns) = ap Ok (simp append_assoc)
regroup front n (Err r) = refl

pub goes_on : (all : List ℕ) (shard : ℕ) (front : List ℕ) (room more last : ℕ) (words : List (List ℕ)) (n : ℕ) (rest : List (List ℕ)) (total : Result (List ℕ) Reason)
    → room ≡ suc more → (length words == 0) ≡ false → next_node_at all shard last words ≡ Ok (n, rest)
    → with_front front (nodes_at all shard room last words) ≡ total
    → with_front (front ++ n ∷ []) (nodes_at all shard more n rest) ≡ total
unfolding nodes_at
goes_on all shard front room more last words n rest total k some read so_far =
    let step : with_front front (nodes_at all shard room last words) ≡ with_front (front ++ n ∷ []) (nodes_at all shard more n rest) =
    rw (k, some, read) (regroup front n (nodes_at all shard more n rest)) in
    sym step ∙ so_far

pub stops_there : (all : List ℕ) (shard : ℕ) (fault : LineFault) (front : List ℕ) (room more last : ℕ) (words : List (List ℕ)) (total : Result (List ℕ) Reason)
    → room ≡ suc more → (length words == 0) ≡ false → Fails fault (next_node_at all shard last words)
    → with_front front (nodes_at all shard room last words) ≡ total → Fails fault total
unfolding nodes_at
stops_there all shard faults.OutOfMemory front room more last words total k some fails so_far = tt
stops_there all shard (faults.Bad reason) front room more last words total k some fails so_far =
    let step : with_front front (nodes_at all shard room last words) ≡ Err reason = rw (k, some, fails) refl in
    sym so_far ∙ step

pub no_more : (all : List ℕ) (shard : ℕ) (front : List ℕ) (room last : ℕ) (words : List (List ℕ)) (total : Result (List ℕ) Reason)
    → (length words == 0) ≡ true → with_front front (nodes_at all shard room last words) ≡ total → total ≡ Ok front
unfolding nodes_at
no_more all shard front zero last [] total none so_far = sym so_far ∙ ap Ok (append-nil front)
no_more all shard front zero last (w ∷ ws) total none so_far = let e = eqb-true (length (w ∷ ws)) 0 none in absurd (omega arith)
no_more all shard front (suc room) last words total none so_far =
    let step : with_front front (nodes_at all shard (suc room) last words) ≡ Ok front = rw none (ap Ok (append-nil front)) in
    sym so_far ∙ step

fails_alike : (front : List ℕ) (b : Bool) → with_front front (cond b (Err reasons.Word) (Err reasons.Many)) ≡ cond b (Err reasons.Word) (Err reasons.Many)
fails_alike front true = refl
fails_alike front false = refl

full_is : (all : List ℕ) (shard : ℕ) (front : List ℕ) (room last : ℕ) (words : List (List ℕ)) (total : Result (List ℕ) Reason)
    → room ≡ 0 → (length words == 0) ≡ false → with_front front (nodes_at all shard room last words) ≡ total → no_room words ≡ total
unfolding nodes_at
full_is all shard front room last [] total k some so_far = absurd cc
full_is all shard front room last (w ∷ ws) total k some so_far =
    sym (fails_alike front (length w == 0)) ∙ rw k at so_far

pub is_full : {X : Type 0} (view : X → List ℕ) (r : Result X LineFault) (all : List ℕ) (shard : ℕ) (front : List ℕ) (room last : ℕ) (words : List (List ℕ)) (total : Result (List ℕ) Reason)
    → room ≡ 0 → (length words == 0) ≡ false → Gives view r (no_room words)
    → with_front front (nodes_at all shard room last words) ≡ total → Gives view r total
is_full view r all shard front room last words total k some gives so_far =
    subst (λ (t : Result (List ℕ) Reason). Gives view r t) (full_is all shard front room last words total k some so_far) gives
