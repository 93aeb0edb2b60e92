-- Readings of which only the reason of a misfit is kept.
use Rattle.std.proofs.Common.{◌≡◌, Result, Ok, Err, ap}
use Rattle.text_words.specs.PayloadWords.{Misfit}
use Rattle.text_words.proofs.Steps.{ok_is}
use Rattle.schedule_text.specs.Words.{reasoned}

pub reasoned_ok : {A : Type 0} (r : Result A Misfit) (x : A) → reasoned r ≡ Ok x → r ≡ Ok x
reasoned_ok (Ok y) x e = ap Ok (ok_is y x e)
reasoned_ok (Err m) x e = absurd cc
