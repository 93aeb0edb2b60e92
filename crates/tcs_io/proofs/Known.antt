-- What std tells of the bytes of a reader and a writer, where nothing was read or written.
use Rattle.std.proofs.Common.{◌≡◌, ℕ, List, [], ◌++◌, take, refl, ◌∙◌}
use Rattle.std.specs.Prelude.{Option, None, Some}
use Rattle.std.specs.Io.KnownBytes.{prepend_known, append_known, Keeps, Appends}
use Rattle.std.proofs.lemmas.List.{append-nil}

-- bytes that grow by none are kept
pub nothing_appended : (old new : Option (List ℕ)) (piece : List ℕ) → Appends old new (take 0 piece) → Keeps old new
nothing_appended None new piece h = tt
nothing_appended (Some xs) None piece h = h
nothing_appended (Some xs) (Some ys) piece h = h ∙ append-nil xs

pub nothing_in_front : (known : Option (List ℕ)) → prepend_known [] known ≡ known
nothing_in_front None = refl
nothing_in_front (Some xs) = refl

pub nothing_behind : (known : Option (List ℕ)) → append_known known [] ≡ known
nothing_behind None = refl
nothing_behind (Some xs) = rw (append-nil xs) refl
