-- A mode and the word that names it.
use Rattle.std.proofs.Common.{◌≡◌, ◌∙◌, ap, sym, refl, [], Option, Some, codes}
use Rattle.std.specs.Prelude.{unwrap_or}
use Rattle.clap.specs.Matches.{first_value}
use Rattle.clap.specs.Walk.{Text}
use Rattle.clap.specs.declared.parser.matches.Found.{Found}
use Rattle.net_words.specs.Modes.{mode_in, mode_word}
use Rattle.net_words.specs.Readings.{NamesMode}
use Rattle.net_words.specs.declared.mode.Mode.{Mode}
use Rattle.net_words.specs.declared.mode.Mode.TheVariants.{Cluster, Node, Guard}

named_again : (mode : Mode) → mode_in (mode_word mode) ≡ Some mode
named_again Cluster = refl
named_again Node = refl
named_again Guard = refl

-- the word of one mode alone names it
pub names_it : (a b : Mode) (word : Text) → word ≡ mode_word a → mode_in word ≡ Some b → a ≡ b
names_it a b word is named =
    let both_named : Some a ≡ Some b = sym (named_again a) ∙ (ap mode_in (sym is) ∙ named) in
    ap (λ (o : Option Mode). unwrap_or o a) both_named

pub same_mode : (a b : Mode) → mode_word a ≡ mode_word b → a ≡ b
same_mode a b same = names_it a b (mode_word b) (sym same) (named_again b)

-- the mode that was read is the one that the matches name
pub holds_mode : (found : Found) (word : Text) (mode : Mode) → NamesMode found
    → Some word ≡ first_value found (codes "mode") → mode_in word ≡ Some mode
    → first_value found (codes "mode") ≡ Some (mode_word mode)
holds_mode found word mode names first named =
    let is : Some word ≡ Some (mode_word names.0) = first ∙ names.1 in
    names.1 ∙ ap (λ (m : Mode). Some (mode_word m)) (names_it names.0 mode word (ap (λ (o : Option Text). unwrap_or o []) is) named)
