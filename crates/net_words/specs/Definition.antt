-- The one command of the program, as `clap` reads it.
use Rattle.std.specs.Prelude.{◌≡◌, ℕ, Some, List, [], ◌∷◌, codes, map, pos, true}
use Rattle.std.specs.Borrow.{Bor}
use Rattle.clap.specs.Words.{App, Rule, Text, new_app, new_rule, with_rule}
use Rattle.clap.specs.Simple.{on_top}
use Rattle.clap.specs.declared.builder.action.ArgAction.TheVariants.{Set}
use Rattle.clap.specs.declared.builder.value_parser.ValueParser.{ValueParser}
use Rattle.clap.specs.declared.builder.value_parser.ValueParser.TheVariants.{Names, Signed}

-- the words that name a mode
abbrev pub mode_words : List Text
mode_words = codes "cluster" ∷ codes "node" ∷ codes "guard" ∷ []

-- these words, wherever they stand in memory
pub record Lent (words : List Text) : Type 0 where
  pub list : Bor (List (Bor Text))
  pub are : map (λ word. word.now) list.now ≡ words

-- the positional that has to be there
abbrev pub positional : Text → ValueParser → Rule
positional name parser =
    record (new_rule name) { action = Some Set; parser = Some parser; required = true }

-- an option with this name, which may be left out
abbrev pub option : Text → ValueParser → Rule
option name parser = record (new_rule name) {
  long = Some name;
  action = Some Set;
  value_names = 1;
  parser = Some parser;
}

-- numbers from `least` to `most`
abbrev pub numbers : ℕ → ℕ → ValueParser
numbers least most = Signed (pos least) (pos most)

-- a command with a version, whose words are all those behind the program's own name
abbrev pub bare : App
bare = on_top (λ s. record s { no_binary_name = true; has_version = true }) (new_app (codes "tcs_net"))

-- the command with these parsers for a mode, an id, a port and a count of missed messages
abbrev pub with_parsers : ValueParser → ValueParser → ValueParser → ValueParser → App
with_parsers mode id port miss = with_rule (with_rule (with_rule (with_rule bare
    (positional (codes "mode") mode))
    (option (codes "id") id))
    (option (codes "port") port))
    (option (codes "miss") miss)

abbrev pub definition : Lent mode_words → App
definition modes =
    with_parsers (Names modes.list) (numbers 0 64) (numbers 1024 65000) (numbers 1 1000000)

-- ---- the same of what is built

abbrev pub IsModeRule : Rule → Type 0
IsModeRule rule =
    (modes : Lent mode_words) × (rule ≡ positional (codes "mode") (Names modes.list))

abbrev pub HasDefinition : App → Type 0
HasDefinition app = (modes : Lent mode_words) × (app ≡ definition modes)
