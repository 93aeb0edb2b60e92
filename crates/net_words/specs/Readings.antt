-- What matches have to hold for a request to be read of them.
use Rattle.std.specs.Prelude.{◌≡◌, ◌⊎◌, ℕ, Some, None, codes, pos}
use Rattle.clap.specs.Words.{IsSignedIn, Text, first_value, one_text, without_minus}
use Rattle.clap.specs.declared.parser.matches.Found.{Found}
use Rattle.net_words.specs.Modes.{mode_word}
use Rattle.net_words.specs.declared.mode.Mode.{Mode}

-- the option was left out, or has a number from `least` to `most`
abbrev pub ReadsIn : Found → Text → ℕ → ℕ → Type 0
ReadsIn found name least most = (one_text found name ≡ None)
    ⊎ ((text : Text) × (one_text found name ≡ Some (without_minus text)) × IsSignedIn (pos least) (pos most) text)

-- the positional names a mode
abbrev pub NamesMode : Found → Type 0
NamesMode found = (mode : Mode) × (first_value found (codes "mode") ≡ Some (mode_word mode))

pub record IsReadable (found : Found) : Type 0 where
  pub mode : NamesMode found
  pub id : ReadsIn found (codes "id") 0 64
  pub port : ReadsIn found (codes "port") 1024 65000
  pub miss : ReadsIn found (codes "miss") 1 1000000
