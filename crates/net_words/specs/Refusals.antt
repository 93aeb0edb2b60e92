-- What errors of `clap` come to.
use Rattle.std.specs.Prelude.{◌≡◌, ⊤, Bool, true, false}
use Rattle.clap.specs.Words.{IsAmong, Kinds}
use Rattle.clap.specs.declared.error.kind.ErrorKind.{ErrorKind}
use Rattle.clap.specs.declared.error.kind.ErrorKind.TheVariants as kind
use Rattle.net_words.specs.declared.refusal.Refusal.{Refusal}
use Rattle.net_words.specs.declared.refusal.Refusal.TheVariants.{BadWords, Shown, OutOfMemory}

-- whether the error asks for a text
abbrev pub asks_for_text : ErrorKind → Bool
asks_for_text kind.DisplayHelp = true
asks_for_text kind.DisplayVersion = true
asks_for_text _ = false

-- one of the kinds of error asks for a text, or is a fault in the words
abbrev pub HasOne : Bool → Kinds → Type 0
HasOne asks kinds = (k : ErrorKind) × IsAmong k kinds × (asks_for_text k ≡ asks)

-- the refusal of words at which these kinds of error may come; want of memory may come at any
abbrev pub Refuses : Kinds → Refusal → Type 0
Refuses kinds BadWords = HasOne false kinds
Refuses kinds (Shown text) = HasOne true kinds
Refuses kinds OutOfMemory = ⊤

-- the same of one error
abbrev pub ComesTo : ErrorKind → Refusal → Type 0
ComesTo k BadWords = (asks_for_text k ≡ false) × (k ≡ kind.OutOfMemory → ⊥)
ComesTo k (Shown text) = asks_for_text k ≡ true
ComesTo k OutOfMemory = ⊤

abbrev pub IsShownOrNoMemory : Refusal → Type 0
IsShownOrNoMemory BadWords = ⊥
IsShownOrNoMemory (Shown text) = ⊤
IsShownOrNoMemory OutOfMemory = ⊤
