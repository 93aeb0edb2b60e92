-- One number more.
use Rattle.std.proofs.Common.{◌≡◌, ◌+◌, ◌-◌, ◌≤◌, ◌∷◌, ◌++◌, [], ℕ, ap, sym, ◌∙◌, arith}
use Rattle.std.specs.List.{range_with_len}
use Rattle.std.proofs.lemmas.List.FromFn.{map-range_with_len_more}
use Rattle.std.proofs.lemmas.List.{map-id}
use Rattle.generator.specs.Courses.{numbers_behind}

pub numbers_more : (before number : ℕ) → before + 1 ≤ number
    → numbers_behind before (number + 1 - (before + 1)) ≡ numbers_behind before (number - (before + 1)) ++ number ∷ []
numbers_more before number from =
    let gone = number - (before + 1) in
    let e : number + 1 - (before + 1) ≡ gone + 1 = omega arith in
    let more = map-range_with_len_more (λ n. n) (before + 1) gone number (omega arith) in
    ap (range_with_len (before + 1)) e ∙ (sym (map-id (range_with_len (before + 1) (gone + 1))) ∙ (more ∙ ap (λ xs. xs ++ number ∷ []) (map-id (range_with_len (before + 1) gone))))
