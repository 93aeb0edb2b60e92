-- A name that is read is the word.
use Rattle.std.proofs.Common.{◌≡◌, ℕ, true, List, [], ◌∷◌, Ok, refl, arith}
use Rattle.tcs_terms.specs.Objects.{IsName}
use Rattle.tcs_terms.specs.Order.{name_before}
use Rattle.text_words.proofs.WordReadings.{name_again}
use Rattle.schedule_text.specs.Words.{name_at}

-- every name stands after the empty one
pub after_nothing : (name : List ℕ) → IsName name → name_before [] name ≡ true
after_nothing [] h = let some = h.some in absurd (omega arith)
after_nothing (b ∷ bs) h = refl

pub name_at_again : (name : List ℕ) (ws : List (List ℕ)) → IsName name → name_at (name ∷ ws) ≡ Ok (name, ws)
name_at_again name ws h = rw (name_again [] name ws h (after_nothing name h)) refl
