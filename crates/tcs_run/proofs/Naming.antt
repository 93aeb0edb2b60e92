-- No words name two commands.
use Rattle.std.proofs.Common.{◌≡◌, List, String, Global, Option, Some, None, sym, ◌∙◌, map}
use Rattle.std.specs.Prelude.{string_bytes}
use Rattle.tcs_run.specs.declared.command.Command.{Command}
use Rattle.tcs_run.specs.Commands.{Names, command_in}

inside : (a b : Command) → ◌≡◌ {A = Option Command} (Some a) (Some b) → a ≡ b
inside a b same = cc

pub one_command : (a b : Command) (words : List (String Global)) → Names a words → Names b words → a ≡ b
one_command a b words is other = inside a b (sym is ∙ other)

pub no_command : (a : Command) (words : List (String Global)) → command_in (map string_bytes words) ≡ None → Names a words → ⊥
no_command a words none named = let same : ◌≡◌ {A = Option Command} None (Some a) = sym none ∙ named in cc
