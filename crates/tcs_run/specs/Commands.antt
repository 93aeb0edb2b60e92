-- The words by which commands are named.
use Rattle.std.specs.Prelude.{◌≡◌, ℕ, List, [], ◌∷◌, map, codes, string_bytes, String, Option, Some, None, if◌then◌else◌}
use Rattle.std.specs.declared.alloc.Global.{Global}
use Rattle.tcs_terms.specs.Payloads.{same_name}
use Rattle.tcs_run.specs.declared.command.Command.{Command}
use Rattle.tcs_run.specs.declared.command.Command.TheVariants.{Replay, Audit, Quorum, Totals, Restore, Generate, Soak}
use Rattle.tcs_run.specs.Generations.{Seeded, generation_in}

-- the command that a word names by itself
abbrev pub in_one : List ℕ → Option Command
in_one word =
    if same_name word (codes "replay") then Some Replay
    else if same_name word (codes "audit") then Some Audit
    else if same_name word (codes "quorum") then Some Quorum
    else if same_name word (codes "totals") then Some Totals
    else if same_name word (codes "restore") then Some Restore
    else None

-- the command that some numbers are given to
abbrev pub given_to : (Seeded → Command) → Option Seeded → Option Command
given_to command (Some numbers) = Some (command numbers)
given_to command None = None

-- the command that a word and the numbers behind it name
abbrev pub in_three : List ℕ → List ℕ → List ℕ → Option Command
in_three word seed count =
    if same_name word (codes "gen") then given_to Generate (generation_in seed count)
    else if same_name word (codes "soak") then given_to Soak (generation_in seed count)
    else None

-- the command that words name
abbrev pub command_in : List (List ℕ) → Option Command
command_in [] = None
command_in (word ∷ []) = in_one word
command_in (word ∷ more ∷ []) = None
command_in (word ∷ seed ∷ count ∷ []) = in_three word seed count
command_in (word ∷ seed ∷ count ∷ more ∷ rest) = None

-- these words name this command
abbrev pub Names : Command → List (String Global) → Type 0
Names command words = command_in (map string_bytes words) ≡ Some command
